-- Bytes and little-endian numbers in a list of bytes, over the number n of their bytes (2, 4 and 8 on the card).
use Rattle.std.specs.Prelude.{ℕ, zero, suc, ◌+◌, ◌*◌, ◌/◌, ◌%◌, ◌<◌, Bool, true, false, List, get_or, set}

-- a where the test holds, else b
abbrev pub pick : {A : Type 0} → Bool → A → A → A
pick true a b = a
pick false a b = b

-- the byte at k, 0 past the end
abbrev pub byte : List ℕ → ℕ → ℕ
byte xs k = get_or xs k 0

-- the number that the n bytes at `at` say, low byte first
unfoldable pub num : ℕ → List ℕ → ℕ → ℕ
num zero xs at = 0
num (suc n) xs at = byte xs at + 256 * num n xs (at + 1)

-- the list with the n low bytes of v at `at`, low byte first
unfoldable pub put_num : ℕ → List ℕ → ℕ → ℕ → List ℕ
put_num zero xs at v = xs
put_num (suc n) xs at v = put_num n (set xs at (v % 256)) (at + 1) (v / 256)

abbrev pub half : List ℕ → ℕ → ℕ
half xs at = num 2 xs at

abbrev pub word : List ℕ → ℕ → ℕ
word xs at = num 4 xs at

abbrev pub long : List ℕ → ℕ → ℕ
long xs at = num 8 xs at

abbrev pub put_half : List ℕ → ℕ → ℕ → List ℕ
put_half xs at v = put_num 2 xs at v

abbrev pub put_word : List ℕ → ℕ → ℕ → List ℕ
put_word xs at v = put_num 4 xs at v

abbrev pub put_long : List ℕ → ℕ → ℕ → List ℕ
put_long xs at v = put_num 8 xs at v

-- every element is a byte
pub record Bytes (xs : List ℕ) : Type 0 where
  pub below : (k : ℕ) → byte xs k < 256
