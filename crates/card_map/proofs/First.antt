-- The laws of `first_from`, the first number at which a function is 1: where it is, that it is the least, and what it goes by. Assumes nothing.
use Rattle.std.proofs.Common.{◌≡◌, ℕ, zero, suc, ◌+◌, ◌<◌, ◌≤◌, Bool, sym, refl, ap, ◌∙◌, add-zero, zero-add, arith, eq-eqb, ne_eqb}
use native.Mathlib.Decide.{ℕ_discrete}
use Rattle.words.specs.Words.{pick}
use Rattle.card_map.specs.Free.{first_from}

module _ (f : ℕ → ℕ) where
  pub first_here : (i n : ℕ) → f i ≡ 1 → first_from f i (suc n) ≡ i
  unfolding first_from
  first_here i n e = ap (λ (t : Bool). pick t i (first_from f (suc i) n)) (eq-eqb (f i) 1 e)

  pub first_next : (i n : ℕ) → (f i ≡ 1 → ⊥) → first_from f i (suc n) ≡ first_from f (suc i) n
  unfolding first_from
  first_next i n e = ap (λ (t : Bool). pick t i (first_from f (suc i) n)) (ne_eqb (f i) 1 e)

  pub first_end : (i : ℕ) → first_from f i 0 ≡ i
  unfolding first_from
  first_end i = refl

  pub first_is : (i n r : ℕ) → i ≤ r → r < i + n → f r ≡ 1 → ((k : ℕ) → i ≤ k → k < r → f k ≡ 1 → ⊥) → first_from f i n ≡ r
  first_is i zero r l h e b = omega arith
  first_is i (suc n) r l h e b = go (ℕ_discrete i r) (λ m. first_is (suc i) n r (omega arith) (omega arith) e (λ k lk. b k (omega arith)))
    where
      go : Dec (i ≡ r) → ((i ≡ r → ⊥) → first_from f (suc i) n ≡ r) → first_from f i (suc n) ≡ r
      go (yes p) ih = first_here i n (ap f p ∙ e) ∙ p
      go (no m) ih = first_next i n (b i (omega arith) (omega arith)) ∙ ih m

  -- none of the first d is it: the search goes on past them
  pub first_on : (i d n : ℕ) → ((k : ℕ) → i ≤ k → k < i + d → f k ≡ 1 → ⊥) → first_from f i (d + n) ≡ first_from f (i + d) n
  first_on i zero n b = rw (zero-add n, add-zero i)
  first_on i (suc d) n b =
      let e : suc d + n ≡ suc (d + n) = omega arith in
      let e' : suc i + d ≡ i + suc d = omega arith in
      ap (first_from f i) e
      ∙ first_next i (d + n) (b i (omega arith) (omega arith))
      ∙ first_on (suc i) d n (λ k l h. b k (omega arith) (omega arith))
      ∙ ap (λ (q : ℕ). first_from f q n) e'

  pub first_none : (i n : ℕ) → ((k : ℕ) → i ≤ k → k < i + n → f k ≡ 1 → ⊥) → first_from f i n ≡ i + n
  first_none i zero b = first_end i ∙ sym (add-zero i)
  first_none i (suc n) b =
      first_next i n (b i (omega arith) (omega arith)) ∙ first_none (suc i) n (λ k l h. b k (omega arith) (omega arith)) ∙ omega arith

  pub first_hit : (i n : ℕ) → first_from f i n < i + n → f (first_from f i n) ≡ 1
  first_hit i zero h = absurd (omega (arith, first_end i))
  first_hit i (suc n) h = go (ℕ_discrete (f i) 1) (λ l. first_hit (suc i) n l)
    where
      go : Dec (f i ≡ 1) → (first_from f (suc i) n < suc i + n → f (first_from f (suc i) n) ≡ 1) → f (first_from f i (suc n)) ≡ 1
      go (yes p) ih = ap f (first_here i n p) ∙ p
      go (no m) ih = let q = first_next i n m in ap f q ∙ ih (omega arith)

  pub first_least : (i n k : ℕ) → i ≤ k → k < i + n → f k ≡ 1 → first_from f i n ≤ k
  first_least i zero k l h e = omega arith
  first_least i (suc n) k l h e = go (ℕ_discrete (f i) 1) (λ l'. first_least (suc i) n k l' (omega arith) e)
    where
      go : Dec (f i ≡ 1) → (suc i ≤ k → first_from f (suc i) n ≤ k) → first_from f i (suc n) ≤ k
      go (yes p) ih = rw (first_here i n p) l
      go (no m) ih = rw (first_next i n m) (ih (go' (ℕ_discrete i k)))
        where
          go' : Dec (i ≡ k) → suc i ≤ k
          go' (yes p) = absurd (m (ap f p ∙ e))
          go' (no d) = omega arith

  pub first_range : (i n : ℕ) → (i ≤ first_from f i n) × (first_from f i n ≤ i + n)
  first_range i zero = (omega (arith, first_end i), omega (arith, first_end i))
  first_range i (suc n) = go (ℕ_discrete (f i) 1) (first_range (suc i) n)
    where
      go : Dec (f i ≡ 1) → (suc i ≤ first_from f (suc i) n) × (first_from f (suc i) n ≤ suc i + n)
          → (i ≤ first_from f i (suc n)) × (first_from f i (suc n) ≤ i + suc n)
      go (yes p) ih = let q = first_here i n p in (omega arith, omega arith)
      go (no m) ih = let q = first_next i n m in (omega arith, omega arith)

-- only the values in the range count
pub first_cong : (f g : ℕ → ℕ) (i n : ℕ) → ((k : ℕ) → i ≤ k → k < i + n → f k ≡ g k) → first_from f i n ≡ first_from g i n
first_cong f g i zero h = first_end f i ∙ sym (first_end g i)
first_cong f g i (suc n) h = go (ℕ_discrete (f i) 1) (first_cong f g (suc i) n (λ k l b. h k (omega arith) (omega arith)))
  where
    here : f i ≡ g i
    here = h i (omega arith) (omega arith)

    go : Dec (f i ≡ 1) → first_from f (suc i) n ≡ first_from g (suc i) n → first_from f i (suc n) ≡ first_from g i (suc n)
    go (yes p) ih = first_here f i n p ∙ sym (first_here g i n (sym here ∙ p))
    go (no m) ih = first_next f i n m ∙ ih ∙ sym (first_next g i n (λ p. m (here ∙ p)))
