-- Laws of `pick` at the tests of growth and shrinking. Assumes nothing.
use mathlib.Core.Path.{◌≡◌, refl, ap, ◌∙◌}
use mathlib.Core.Bool.{Bool, true, false}
use Prim.Native.Nat.{ℕ, ◌≤◌, ◌<◌}
use borrow.Author.Tests.{lt-ltb, le-ltb}
use lib.Dec.{ltb}
use Rattle.words.specs.Words.{pick}

-- what holds of both holds of the one that is picked
pub pick-both : {A : Type 0} (P : A → Type 0) (t : Bool) (x y : A) → P x → P y → P (pick t x y)
pick-both P true x y p q = p
pick-both P false x y p q = q

pub pick_same : {A : Type 0} (t : Bool) (x : A) → pick t x x ≡ x
pick_same true x = refl
pick_same false x = refl

module _ {A : Type 0} (a b : ℕ) (x y : A) where
  pub pick_yes : a < b → pick (ltb a b) x y ≡ x
  pick_yes h = ap (λ (t : Bool). pick t x y) (lt-ltb a b h)

  pub pick_no : b ≤ a → pick (ltb a b) x y ≡ y
  pick_no h = ap (λ (t : Bool). pick t x y) (le-ltb a b h)

-- y where m is more than a and at most b, else x: what a file of b blocks has and one of a blocks has not
module _ {A : Type 0} (m a b : ℕ) (x y : A) where
  pub gap_past : m ≤ a → pick (ltb a m) (pick (ltb b m) x y) x ≡ x
  gap_past h = pick_no a m (pick (ltb b m) x y) x h

  pub gap_short : b < m → pick (ltb a m) (pick (ltb b m) x y) x ≡ x
  gap_short h = ap (λ (z : A). pick (ltb a m) z x) (pick_yes b m x y h) ∙ pick_same (ltb a m) x

  pub gap_over : a < m → m ≤ b → pick (ltb a m) (pick (ltb b m) x y) x ≡ y
  gap_over h k = pick_yes a m (pick (ltb b m) x y) x h ∙ pick_no b m x y k

  -- the same by one test: y where t
  pub gap_by : (t : Bool) → t ≡ pick (ltb a m) (pick (ltb b m) false true) false → pick t y x ≡ pick (ltb a m) (pick (ltb b m) x y) x
  gap_by t e = ap (λ (s : Bool). pick s y x) e ∙ tests (ltb a m) (ltb b m)
    where
      tests : (s s' : Bool) → pick (pick s (pick s' false true) false) y x ≡ pick s (pick s' x y) x
      tests true true = refl
      tests true false = refl
      tests false s' = refl

-- two arguments that are equal
pub both : {A : Type 0} (F : ℕ → ℕ → A) (i i' e e' : ℕ) → i ≡ i' → e ≡ e' → F i e ≡ F i' e'
both F i i' e e' p q = ap (λ (x : ℕ). F x e) p ∙ ap (F i') q
