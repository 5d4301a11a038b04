-- What fills: the bytes of a list, or zeros where there is none.
use Rattle.std.specs.Prelude.{ℕ, Bool, true, false, Option, Some, None, List, []}
use Rattle.std.specs.Borrow.{Bor}

-- the zeros and the bytes of `filled`
abbrev pub zeros : Option (Bor (List ℕ)) → Bool
zeros (Some s) = false
zeros None = true

abbrev pub bytes : Option (Bor (List ℕ)) → List ℕ
bytes (Some s) = s.now
bytes None = []
