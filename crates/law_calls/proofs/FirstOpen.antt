-- The six tests before a call's own: what a call says is the number of the first cause that holds, where on a whole card its own tests are so. Assumes nothing.
use mathlib.Core.Path.{◌≡◌}
use mathlib.Core.Logic.{◌⊎◌}
use mathlib.Core.List.{List}
use Prim.Native.Nat.{ℕ, ◌*◌, ◌≤◌, ◌<◌}
use native.Mathlib.Omega.{arith}
use lib.ListN.{length}
use Rattle.std.proofs.lemmas.Grind.{common_steps}
use Rattle.card_layout.specs.Super.{blocks}
use Rattle.card_rules.specs.Whole.{Sized, Reached, Whole}
use Rattle.check_walk.specs.Opening.{Opening, Opened}
use Rattle.call_said.specs.Said.{of_opened, Said}
use Rattle.law_calls.specs.Tests.{Tests, test, First, opens}
use Rattle.refusals.specs.Refusals.{answer_no, if_done}

module _ (img s : List ℕ) (a b : ℕ) (rest : Tests) (k : ℕ) where
  -- the tests from scratch on, from the rules on, from the numbers on
  abbrev numbers_on : Tests
  numbers_on = test 4 (Reached img a → Reached img b → ⊥) rest

  abbrev rules_on : Tests
  rules_on = test 3 (Whole img → ⊥) numbers_on

  abbrev scratch_on : Tests
  scratch_on = test 1 (length s < 4 * blocks img) rules_on

  sized_first : Sized img → First scratch_on k → First (opens img s a b rest) k
  sized_first z f =
      ◌⊎◌.inr
      (λ l. omega (arith, z.few, z.long), ◌⊎◌.inr (λ d. d z.magic_right, ◌⊎◌.inr (λ n. n z, f)))

  rules_first : 4 * blocks img ≤ length s → Sized img → First rules_on k → First (opens img s a b rest) k
  rules_first l z f = sized_first z (◌⊎◌.inr (λ q. omega arith, f))

  numbers_first : 4 * blocks img ≤ length s → Whole img → First numbers_on k → First (opens img s a b rest) k
  numbers_first l w f = rules_first l w.sound.sized (◌⊎◌.inr (λ n. n w, f))

  -- none of the six holds
  pub whole_first : 4 * blocks img ≤ length s → Whole img → Reached img a → Reached img b → First rest k → First (opens img s a b rest) k
  whole_first l w x y f = numbers_first l w (◌⊎◌.inr (λ n. n x y, f))

-- f is what the call says of its own tests
module _ (img s : List ℕ) (a b : ℕ) (rest : Tests) (f : Said) where
  abbrev Says : Opened → Type 0
  Says o = First (opens img s a b rest) (answer_no (if_done o f (of_opened o)))

  pub first_open : {s' : List ℕ} {o : Opened} → Opening img s s' a b o → (Whole img → Reached img a → Reached img b → First rest (answer_no f)) → Says o
  first_open t₁ h = grind (arith, common_steps)

-- where that has the number k
pub first_said : {img s s' : List ℕ} {a b : ℕ} (rest : Tests) {o : Opened} → Opening img s s' a b o → (f : Said) {k : ℕ} → answer_no f ≡ k → {r : Said}
    → r ≡ if_done o f (of_opened o) → (Whole img → Reached img a → Reached img b → First rest k) → First (opens img s a b rest) (answer_no r)
first_said {img} {s} {s'} {a} {b} rest i f n e h = rw e (first_open img s a b rest f i (λ w x y. rw n (h w x y)))
