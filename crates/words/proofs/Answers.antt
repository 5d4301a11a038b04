-- A function that answers yes or no: what its caller has in each branch. Assumes nothing.
use mathlib.Core.Path.{◌≡◌, subst}
use mathlib.Core.Bool.{Bool, true, false, not}
use Prim.Native.Nat.{ℕ}
use native.Mathlib.Decide.{ℕ_discrete}
use lib.Dec.{eqb}
use borrow.Author.Tests.{not-true, not-false, eq-eqb, ne_eqb}
use Rattle.words.specs.Inner.{When}

module _ (t : Bool) (A B : Type 0) where
  pub when_true : t ≡ true → When t A B → A
  when_true e h = subst (λ (q : Bool). When q A B) e h

  pub when_false : t ≡ false → When t A B → B
  when_false e h = subst (λ (q : Bool). When q A B) e h

  pub when-not-true : not t ≡ true → When t A B → B
  when-not-true e h = subst (λ (q : Bool). When q A B) (not-true t e) h

  pub when_not_false : not t ≡ false → When t A B → A
  when_not_false e h = subst (λ (q : Bool). When q A B) (not-false t e) h

pub when-map : (t : Bool) (A B A' B' : Type 0) → (A → A') → (B → B') → When t A B → When t A' B'
when-map true A B A' B' f g h = f h
when-map false A B A' B' f g h = g h

-- an answer that is a test of two numbers
pub when-eqb : (a b : ℕ) (A B : Type 0) → (a ≡ b → A) → ((a ≡ b → ⊥) → B) → When (eqb a b) A B
when-eqb a b A B f g = go (ℕ_discrete a b)
  where
    go : Dec (a ≡ b) → When (eqb a b) A B
    go (yes e) = rw (eq-eqb a b e) (f e)
    go (no d) = rw (ne_eqb a b d) (g d)
