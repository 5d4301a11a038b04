-- The directory entry (RULES): "260 bytes: number (4), name (256, ended by a NUL; a call that stores a name makes all bytes after it zero)".
use Rattle.std.specs.Prelude.{ℕ, zero, suc, ◌≤◌, ◌<◌, ◌≡◌, List, [], ◌∷◌, ltb, eqb, length, drop, replicate}
use Rattle.words.specs.Words.{pick, byte, word, put_word}
use Rattle.words.specs.Runs.{copied}
use Rattle.card_layout.specs.Sizes.{entry_size}

-- what stands before the first NUL, and all where there is none
unfoldable pub upto_nul : List ℕ → List ℕ
upto_nul [] = []
upto_nul (zero ∷ xs) = []
upto_nul (suc x ∷ xs) = suc x ∷ upto_nul xs

-- "from a 260-byte entry the name comes back as a part of the entry's own bytes up to the NUL; no NUL or another length gives the empty part"
unfoldable pub name_in : List ℕ → List ℕ
name_in e = pick (eqb (length e) entry_size) (pick (ltb (length (upto_nul (drop 4 e))) 256) (upto_nul (drop 4 e)) []) []

abbrev pub number_in : List ℕ → ℕ
number_in e = word e 0

-- a name that can be stored: not "empty, longer than 255 bytes or holds a NUL"
pub record Name (x : List ℕ) : Type 0 where
  pub low : 1 ≤ length x
  pub high : length x ≤ 255
  pub no_nul : (k : ℕ) → k < length x → byte x k ≡ 0 → ⊥

-- the entry of inode n under a name: all zero after it
unfoldable pub entry_of : ℕ → List ℕ → List ℕ
entry_of n name = copied (put_word (replicate entry_size 0) 0 n) 4 name 0 (length name)
