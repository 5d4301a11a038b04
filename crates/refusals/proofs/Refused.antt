-- Answers that are refused: their number is not 0, and what is left by them is what was. Assumes nothing.
use mathlib.Core.Path.{◌≡◌, refl, ap, ◌∙◌}
use native.Mathlib.Omega.{arith}
use Rattle.std.specs.Prelude.{ℕ, Result, Ok, Err}
use Rattle.refusals.specs.declared.Refusal.{Refusal}
use Rattle.refusals.specs.declared.Refusal.TheVariants.{
  ScratchShort,
  WrongFs,
  Damaged,
  NoInode,
  NotFile,
  NotDir,
  IsDir,
  BadName,
  EntryExist,
  EntryNotFound,
  DirNotEmpty,
  InvalidParam,
  TooManyLinks,
  NoDeviceSpace,
}
use Rattle.refusals.specs.Refusals.{refusal_no, answer_no, giving, if_done}

pub refusal_above : (e : Refusal) → refusal_no e ≡ 0 → ⊥
refusal_above ScratchShort z = omega (arith, z)
refusal_above WrongFs z = omega (arith, z)
refusal_above Damaged z = omega (arith, z)
refusal_above NoInode z = omega (arith, z)
refusal_above NotFile z = omega (arith, z)
refusal_above NotDir z = omega (arith, z)
refusal_above IsDir z = omega (arith, z)
refusal_above BadName z = omega (arith, z)
refusal_above EntryExist z = omega (arith, z)
refusal_above EntryNotFound z = omega (arith, z)
refusal_above DirNotEmpty z = omega (arith, z)
refusal_above InvalidParam z = omega (arith, z)
refusal_above TooManyLinks z = omega (arith, z)
refusal_above NoDeviceSpace z = omega (arith, z)

-- the answer is one of the refusals
abbrev pub Refused : {A : Type 0} → Result A Refusal → Type 0
Refused j = answer_no j ≡ 0 → ⊥

module _ {A B : Type 0} where
  pub if_refused : (j : Result A Refusal) (x r : B) → Refused j → if_done j x r ≡ r
  if_refused (Ok v) x r d = absurd (d refl)
  if_refused (Err e) x r d = refl

  pub if_done_lem : (j : Result A Refusal) (x r : B) → answer_no j ≡ 0 → if_done j x r ≡ x
  if_done_lem (Ok v) x r z = refl
  if_done_lem (Err e) x r z = absurd (refusal_above e z)

  -- an answer with another value has the same number, and is refused as the first is
  pub giving_no : (j : Result A Refusal) (v : B) → answer_no (giving j v) ≡ answer_no j
  giving_no (Ok x) v = refl
  giving_no (Err e) v = refl

-- an answer with another number than 0 is not done
pub not_done : {A : Type 0} (j : Result A Refusal) {v : Result A Refusal} → answer_no v ≡ 0 → Refused j → j ≡ v → ⊥
not_done j z d e = d (ap answer_no e ∙ z)

-- what is done with no value is done
pub done_is : (j : Result Unit Refusal) → answer_no j ≡ 0 → j ≡ Ok tt
done_is (Ok tt) z = refl
done_is (Err e) z = absurd (refusal_above e z)
