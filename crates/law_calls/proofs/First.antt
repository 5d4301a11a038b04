-- Tests in their order: one number at most is that of the first cause that holds; it is 0 where no cause holds, and, where no test has the number 0, only
-- there. Assumes nothing.
use mathlib.Core.Path.{◌≡◌, sym, ap, ◌∙◌}
use mathlib.Core.Bool.{Bool, true, false, false≢true}
use mathlib.Core.Logic.{◌≢◌, ◌⊎◌}
use Prim.Native.Nat.{ℕ}
use native.Mathlib.Decide.{ℕ_discrete}
use borrow.Author.Tests.{eq-eqb, ne_eqb}
use lib.Dec.{eqb}
use Rattle.words.specs.Words.{pick}
use Rattle.law_calls.specs.Tests.{Tests, fine, test, First}

-- every cause is refuted
abbrev pub NoCause : Tests → Type 0
NoCause fine = Unit
NoCause (test number cause rest) = (cause → ⊥) × NoCause rest

-- no test has the number 0, which is "done"
abbrev pub Numbered : Tests → Type 0
Numbered fine = Unit
Numbered (test number cause rest) = (number ≢ 0) × Numbered rest

pub first_one : (ts : Tests) {j k : ℕ} → First ts j → First ts k → j ≡ k
first_one fine a b = a ∙ sym b
first_one (test number cause rest) (◌⊎◌.inl a) (◌⊎◌.inl b) = a.1 ∙ sym b.1
first_one (test number cause rest) (◌⊎◌.inl a) (◌⊎◌.inr b) = absurd (b.0 a.0)
first_one (test number cause rest) (◌⊎◌.inr a) (◌⊎◌.inl b) = absurd (a.0 b.0)
first_one (test number cause rest) (◌⊎◌.inr a) (◌⊎◌.inr b) = first_one rest a.1 b.1

pub first_done : (ts : Tests) {k : ℕ} → NoCause ts → First ts k → k ≡ 0
first_done fine n f = f
first_done (test number cause rest) n (◌⊎◌.inl a) = absurd (n.0 a.0)
first_done (test number cause rest) n (◌⊎◌.inr a) = first_done rest n.1 a.1

pub done_first : (ts : Tests) {k : ℕ} → Numbered ts → First ts k → k ≡ 0 → NoCause ts
done_first fine n f e = tt
done_first (test number cause rest) n (◌⊎◌.inl a) e = absurd (n.0 (sym a.1 ∙ e))
done_first (test number cause rest) n (◌⊎◌.inr a) e = (a.0, done_first rest n.1 a.1 e)

pub done_exactly : (ts : Tests) {k : ℕ} → Numbered ts → First ts k → (k ≡ 0 → NoCause ts) × (NoCause ts → k ≡ 0)
done_exactly ts n f = (done_first ts n f, λ c. first_done ts c f)

-- by computing
abbrev numbers : Tests → Bool
numbers fine = true
numbers (test number cause rest) = pick (eqb number 0) false (numbers rest)

pub numbered : (ts : Tests) → numbers ts ≡ true → Numbered ts
numbered fine e = tt
numbered (test number cause rest) e = go (ℕ_discrete number 0) (numbered rest)
  where
    go : Dec (number ≡ 0) → (numbers rest ≡ true → Numbered rest) → (number ≢ 0) × Numbered rest
    go (yes q) h = absurd (false≢true (sym (ap (λ (t : Bool). pick t false (numbers rest)) (eq-eqb number 0 q)) ∙ e))
    go (no d) h = (d, h (sym (ap (λ (t : Bool). pick t false (numbers rest)) (ne_eqb number 0 d)) ∙ e))
