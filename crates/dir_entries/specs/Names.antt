-- Names that a call is given.
use Rattle.std.specs.Prelude.{ℕ, Bool, true, false, List, [], ◌∷◌, eqb, ltb, length}
use Rattle.words.specs.Words.{pick}
use Rattle.dir_entries.specs.Entries.{eqs}

-- "." and ".." (46 is ".")
abbrev pub dot : List ℕ
dot = 46 ∷ []

abbrev pub dots : List ℕ
dots = 46 ∷ 46 ∷ []

abbrev pub is_dots : List ℕ → Bool
is_dots x = pick (eqs x dot) true (eqs x dots)

-- "a name to be stored is empty, longer than 255 bytes or holds a NUL"
unfoldable pub no_nul : List ℕ → Bool
no_nul [] = true
no_nul (y ∷ ys) = pick (eqb y 0) false (no_nul ys)

abbrev pub storable : List ℕ → Bool
storable x = pick (eqb (length x) 0) false (pick (ltb 255 (length x)) false (no_nul x))
