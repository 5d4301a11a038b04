-- Tests and what they tell: of two numbers, of two tests, of a byte's range. Assumes nothing.
use Prim.Native.Nat.{ℕ, ◌≤◌, ◌<◌}
use mathlib.Core.Path.{◌≡◌, refl}
use mathlib.Core.Bool.{Bool, true, false, ◌&&◌}
use borrow.Author.Tests.{ltb-true, ltb-false, leb-true, leb-false}
use native.Mathlib.Omega.{arith}
use lib.Dec.{ltb, leb}
use Rattle.utf8.specs.Inner.{within}

-- `Tells` as a type of its own, from which antt reads its arguments
pub data Told (A : Type 0) : Bool → Type 0 where
  holds : A → Told A true
  fails : (A → ⊥) → Told A false

pub ltb_told : (a b : ℕ) → Told (a < b) (ltb a b)
ltb_told a b = go (ltb a b) refl
  where
    go : (t : Bool) → ltb a b ≡ t → Told (a < b) t
    go true e = holds (ltb-true a b e)
    go false e = fails (λ h. omega (arith, ltb-false a b e))

leb_told : (a b : ℕ) → Told (a ≤ b) (leb a b)
leb_told a b = go (leb a b) refl
  where
    go : (t : Bool) → leb a b ≡ t → Told (a ≤ b) t
    go true e = holds (leb-true a b e)
    go false e = fails (λ h. omega (arith, leb-false a b e))

pub and_told : {A B : Type 0} {p q : Bool} → Told A p → Told B q → Told (A × B) (p && q)
and_told (holds a) (holds b) = holds (a, b)
and_told (holds a) (fails b) = fails (λ h. b h.1)
and_told (fails a) b = fails (λ h. a h.0)

pub within_told : (lo hi b : ℕ) → Told ((lo ≤ b) × (b ≤ hi)) (within lo hi b)
within_told lo hi b = and_told (leb_told lo b) (leb_told b hi)
