-- What C is told of an entry at an index: the number of the answer, and its bytes, or zeros where it is refused. Assumes nothing.
use mathlib.Core.Path.{◌≡◌, ◌∙◌, sym}
use mathlib.Core.List.{List}
use Rattle.std.specs.Prelude.{ℕ, Result}
use Rattle.std.specs.Result.{result_unwrap_or}
use Rattle.refusals.specs.declared.Refusal.{Refusal}
use Rattle.refusals.specs.Refusals.{answer_no}
use Rattle.refusals.proofs.Refused.{giving_no}
use Rattle.dir_look.specs.Look.{no_entry, bytes_of}
use Rattle.dir_look.proofs.LookLaws.{bytes_are}
use Rattle.call_said.specs.Said.{plain}
use Rattle.call_looks.specs.LookCalls.{Listed}
use Rattle.sfs.specs.DirCallsC.{ListedC}

module _ {img s s' e : List ℕ} {p k a : ℕ} where
  pub listed_c : (r : Result (List ℕ) Refusal) → Listed img s s' p k (plain r) (bytes_of r) → e ≡ result_unwrap_or r no_entry → a ≡ answer_no r
      → ListedC img s s' p k a e
  listed_c r l b n =
      record { answer = plain r; call = rw (b ∙ bytes_are r) l; status_is = n ∙ sym (giving_no r 0) }
