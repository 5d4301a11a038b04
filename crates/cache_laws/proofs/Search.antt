-- The slot for a block: no other slot holds it. Assumes nothing.
use Prim.Native.Nat.{ℕ, zero, suc, ◌+◌, ◌≤◌, ◌<◌}
use mathlib.Core.Path.{◌≡◌, refl, sym, ap, ◌∙◌}
use mathlib.Core.Logic.{◌≢◌}
use mathlib.Core.Bool.{Bool, true, false}
use mathlib.Core.List.{List}
use native.Mathlib.Omega.{arith}
use native.Mathlib.Decide.{dec_lt, ℕ_discrete}
use borrow.Author.Tests.{lt-ltb, eq-eqb, ne_eqb, eqb-true}
use lib.Dec.{eqb}
use Rattle.words.specs.Words.{pick}
use Rattle.cache_order.specs.Slots.{slots_in, status_at, block_at, Sound}
use Rattle.cache_order.specs.Order.{first, unused_at, holds, hit_of, slot_for}

-- a search that finds one finds it, and none that it passed
pub first_hit : (p : ℕ → Bool) (i n : ℕ) → first p i n < i + n → p (first p i n) ≡ true
unfolding first
first_hit p i zero l = absurd (omega arith)
first_hit p i (suc n) l = go (p i) refl (first_hit p (i + 1) n) l
  where
    go : (t : Bool) → p i ≡ t → (first p (i + 1) n < i + 1 + n → p (first p (i + 1) n) ≡ true) → pick t i (first p (i + 1) n) < i + suc n
        → p (pick t i (first p (i + 1) n)) ≡ true
    go true e ih h = e
    go false e ih h = ih (omega arith)

pub first_least : (p : ℕ → Bool) (i n k : ℕ) → i ≤ k → k < i + n → p k ≡ true → first p i n ≤ k
unfolding first
first_least p i zero k l h e = absurd (omega arith)
first_least p i (suc n) k l h e = go (p i) refl (λ m. first_least p (i + 1) n k m (omega arith) e)
  where
    go : (t : Bool) → p i ≡ t → (i + 1 ≤ k → first p (i + 1) n ≤ k) → pick t i (first p (i + 1) n) ≤ k
    go true q ih = l
    go false q ih = ih (at (ℕ_discrete i k))
      where
        at : Dec (i ≡ k) → i + 1 ≤ k
        at (yes z) = let c : true ≡ false = sym e ∙ ap p (sym z) ∙ q in let o : ◌≡◌ {A = ℕ} 0 1 = cc in absurd (omega arith)
        at (no z) = omega arith

-- what it is for a slot to hold a block
pub holds_yes : (w : List ℕ) (b i : ℕ) → status_at w i ≢ 0 → block_at w i ≡ b → holds w b i ≡ true
unfolding holds unused_at
holds_yes w b i u e = rw (ne_eqb (status_at w i) 0 u) (eq-eqb _ _ e)

pub record Held (w : List ℕ) (b i : ℕ) : Type 0 where
  pub used : status_at w i ≢ 0
  pub block : block_at w i ≡ b

pub holds_true : (w : List ℕ) (b i : ℕ) → holds w b i ≡ true → Held w b i
unfolding holds unused_at
holds_true w b i h = go (ℕ_discrete (status_at w i) 0)
  where
    go : Dec (status_at w i ≡ 0) → Held w b i
    go (yes e) = let c : false ≡ true = rw (eq-eqb (status_at w i) 0 e) at h in let o : ◌≡◌ {A = ℕ} 0 1 = cc in absurd (omega arith)
    go (no m) = let c : eqb (block_at w i) b ≡ true = rw (ne_eqb (status_at w i) 0 m) at h in record { used = m; block = eqb-true _ _ c }

pub holds_false : (w : List ℕ) (b i : ℕ) → holds w b i ≡ false → status_at w i ≢ 0 → block_at w i ≢ b
holds_false w b i h u e = let c = holds_yes w b i u e in let o : ◌≡◌ {A = ℕ} 0 1 = cc in omega arith

-- two slots of a sound list that hold one block are one
pub one_block : {w d v : List ℕ} → Sound w d v → (i j : ℕ) → i < slots_in w → j < slots_in w → status_at w i ≢ 0 → status_at w j ≢ 0
    → block_at w i ≡ block_at w j → i ≡ j
one_block {w} s i j a b u t e = go (dec_lt i j) (dec_lt j i)
  where
    go : Dec (i < j) → Dec (j < i) → i ≡ j
    go (yes l) m = absurd (((s.apart.each j b).before i l).blocks u t e)
    go (no k) (yes l) = absurd (((s.apart.each i a).before j l).blocks t u (sym e))
    go (no k) (no l) = omega arith

-- no slot but the one that a call uses holds its block
pub only : {w d v : List ℕ} → Sound w d v → (b j : ℕ) → j < slots_in w → j ≢ slot_for w b → status_at w j ≢ 0 → block_at w j ≢ b
unfolding slot_for hit_of
only {w} s b j l m u e = go (dec_lt (first (holds w b) 0 (slots_in w)) (slots_in w))
  where
    go : Dec (first (holds w b) 0 (slots_in w) < slots_in w) → ⊥
    go (yes a) =
        let h = holds_true w b (hit_of w b) (first_hit (holds w b) 0 (slots_in w) (omega arith)) in
        let k : slot_for w b ≡ hit_of w b = rw (lt-ltb (hit_of w b) (slots_in w) a) in
        m (one_block s j (hit_of w b) l a u h.used (e ∙ sym h.block) ∙ sym k)
    go (no a) =
        let h = first_least (holds w b) 0 (slots_in w) j (omega arith) (omega arith) (holds_yes w b j u e) in omega arith
