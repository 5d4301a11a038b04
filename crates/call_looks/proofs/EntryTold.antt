-- What is told of an entry is what its definition answers. Assumes nothing.
use mathlib.Core.Path.{◌≡◌, refl}
use mathlib.Core.List.{List}
use Rattle.call_said.specs.Said.{plain}
use Rattle.refusals.specs.declared.Refusal.{Refusal}
use Rattle.refusals.specs.Refusals.{giving}
use Rattle.std.specs.Prelude.{ℕ, Result, Ok, Err}

pub told_plain : (j : Result Unit Refusal) (e : List ℕ) → plain (giving j e) ≡ plain j
told_plain (Ok v) e = refl
told_plain (Err r) e = refl
