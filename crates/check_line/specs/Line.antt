-- The line that the program sfs_check prints of a check, as bytes (RULES): "The program prints the single line `status 0 blocks 16 free 12`"; "a refusal prints
-- its number and two zeros". DECISIONS: it ends with one newline.
use Rattle.std.specs.Prelude.{ℕ, zero, suc, ◌+◌, ◌-◌, ◌*◌, ◌/◌, ◌%◌, Bool, List, [], ◌∷◌, ◌++◌, leb, ltb, length}
use Rattle.words.specs.Words.{pick}
use Rattle.words.specs.Runs.{copied}
use Rattle.check_walk.specs.Opening.{blocks_of, unused_of, Opened}
use Rattle.refusals.specs.Refusals.{answer_no}

-- ---- the text

-- the ASCII code of a digit: "0" to "9"
abbrev pub digit : ℕ → ℕ
digit d = 48 + d

-- n in decimal, where k digits are enough: one digit if n is below 10, else the last digit behind those of n / 10
unfoldable pub digits : ℕ → ℕ → List ℕ
digits zero n = []
digits (suc k) n = pick (ltb n 10) (digit n ∷ []) (digits k (n / 10) ++ digit (n % 10) ∷ [])

-- n in decimal; n + 1 digits are enough for any n
unfoldable pub decimal : ℕ → List ℕ
decimal n = digits (suc n) n

-- the number that digits say behind those that say v, and the number that digits say: `decimal_value` (proofs/Decimal) reads n back
unfoldable pub value_from : ℕ → List ℕ → ℕ
value_from v [] = v
value_from v (d ∷ ds) = value_from (10 * v + (d - 48)) ds

abbrev pub value_of : List ℕ → ℕ
value_of ds = value_from 0 ds

-- "status "
abbrev pub status_text : List ℕ
status_text = 115 ∷ 116 ∷ 97 ∷ 116 ∷ 117 ∷ 115 ∷ 32 ∷ []

-- " blocks "
abbrev pub blocks_text : List ℕ
blocks_text = 32 ∷ 98 ∷ 108 ∷ 111 ∷ 99 ∷ 107 ∷ 115 ∷ 32 ∷ []

-- " free "
abbrev pub free_text : List ℕ
free_text = 32 ∷ 102 ∷ 114 ∷ 101 ∷ 101 ∷ 32 ∷ []

abbrev pub newline : List ℕ
newline = 10 ∷ []

-- "status S blocks B free F" and a newline
unfoldable pub check_line : ℕ → ℕ → ℕ → List ℕ
check_line s b f = status_text ++ decimal s ++ blocks_text ++ decimal b ++ free_text ++ decimal f ++ newline

-- the line of an answer
abbrev pub line_of : Opened → List ℕ
line_of r = check_line (answer_no r) (blocks_of r) (unused_of r)

-- ---- the line in a lent buffer

-- out with the bytes xs from `at` on
abbrev pub put_at : List ℕ → ℕ → List ℕ → List ℕ
put_at out at xs = copied out at xs 0 (length xs)

-- the room that is asked for: of three numbers of 32 bits the line has at most 52 bytes
abbrev pub line_room : ℕ
line_room = 64

abbrev pub roomy : List ℕ → Bool
roomy out = leb line_room (length out)

-- how many bytes of the buffer are the line afterwards, and the buffer afterwards: with less room none, and as it was
abbrev pub line_length : Opened → List ℕ → ℕ
line_length r out = pick (roomy out) (length (line_of r)) 0

abbrev pub lined : Opened → List ℕ → List ℕ
lined r out = pick (roomy out) (put_at out 0 (line_of r)) out
