-- What a search over the slots tells: `all` and `find` over the numbers below n. Assumes nothing.
use Prim.Native.Nat.{ℕ, zero, suc, ◌+◌, ◌<◌, ◌≤◌}
use mathlib.Core.Path.{◌≡◌, refl, sym, subst, ◌∙◌}
use native.Mathlib.Nat.{zero-add}
use mathlib.Core.Bool.{Bool, true, false}
use mathlib.Core.List.{List}
use native.Mathlib.Omega.{arith}
use native.Mathlib.Decide.{ℕ_discrete}
use lib.ListN.{length}
use lib.Dec.{ltb}
use borrow.Author.Tests.{lt-ltb, le-ltb}
use Rattle.words.specs.Words.{pick}
use Rattle.std.specs.List.{range_with_len, HoldsAt, AllWithin}
use Rattle.std.specs.Option.{MatchOption}
use Rattle.std.specs.Prelude.{Option, Some, None}
use Rattle.std.specs.Bool.{MatchBool}
use Rattle.std.proofs.lemmas.List.FromFn.{length-range_with_len, get_or-range_with_len}
use Rattle.words.specs.Inner.{Tells}
use Rattle.cache_order.specs.Order.{first, Found}

-- what `all` answers over the numbers below n, whose test tells whether P
abbrev Asked : (P : ℕ → Type 0) (xs : List ℕ) → Bool → Type 0
Asked P xs r = MatchBool r (AllWithin P xs 0 (length xs)) ((k : ℕ) × (k < length xs) × HoldsAt (λ x. P x → ⊥) xs k)

pub tells_each : (n : ℕ) (P : ℕ → Type 0) (r : Bool) → Asked P (range_with_len 0 n) r → Tells r ((i : ℕ) → i < n → P i)
tells_each n P true h = λ i l. let k = length-range_with_len 0 n in
    subst P (get_or-range_with_len 0 n i 0 l ∙ zero-add i) (h i 0 (omega arith) (omega arith))
tells_each n P false h = λ a. let k = length-range_with_len 0 n in
    let l : h.0 < n = omega arith in
    h.2 0 (subst P (sym (get_or-range_with_len 0 n h.0 0 l ∙ zero-add h.0)) (a h.0 l))

-- a search from i on through the n numbers finds the first that passes, or none
first_none : (p : ℕ → Bool) (i n : ℕ) → ((k : ℕ) → i ≤ k → k < i + n → p k ≡ false) → first p i n ≡ i + n
unfolding first
first_none p i zero h = omega arith
first_none p i (suc n) h = rw (h i (omega arith) (omega arith)) (first_none p (i + 1) n (λ k a b. h k (omega arith) (omega arith))
    ∙ omega arith)

first_is : (p : ℕ → Bool) (i n j : ℕ) → i ≤ j → j < i + n → p j ≡ true
    → ((k : ℕ) → i ≤ k → k < j → p k ≡ false) → first p i n ≡ j
unfolding first
first_is p i zero j a b e h = absurd (omega arith)
first_is p i (suc n) j a b e h =
    elim (ℕ_discrete i j) [
      | yes x ↦ rw (x, e) refl
      | no m ↦ rw (h i (omega arith) (omega arith)) (first_is p (i + 1) n j (omega arith) (omega arith) e (λ k c d. h k (omega arith) d))
    ]

pub found_first : (p : ℕ → Bool) (n : ℕ) (r : Option ℕ)
    → MatchOption r ((k : ℕ) → 0 ≤ k → k < n → p k ≡ false)
    (λ i. (0 ≤ i) × (i < n) × (p i ≡ true) × ((k : ℕ) → 0 ≤ k → k < i → p k ≡ false))
    → Found (first p 0 n) n r
found_first p n None h = first_none p 0 n (λ k a b. h k (omega arith) (omega arith)) ∙ omega arith
found_first p n (Some i) h = let e = first_is p 0 n i (omega arith) (omega arith) h.2 h.3 in (omega arith, h.1)

-- the slot that a search found, or what is made where it found none
pub found_or : (i n x y : ℕ) (P : Type 0) (r : Option ℕ) → Found i n r → MatchOption r P (λ k. x ≡ k) → (P → x ≡ y)
    → x ≡ pick (ltb i n) i y
found_or i n x y P None f h g = rw (le-ltb i n (omega arith)) (g h)
found_or i n x y P (Some k) f h g = let l : i < n = omega arith in rw (lt-ltb i n l) (h ∙ f.0)
