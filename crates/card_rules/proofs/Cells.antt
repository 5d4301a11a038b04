-- The blocks of an inode as a table of five rows: its own block, indirect, double indirect, second level, data. What is said of the five
-- kinds of places is so said once, of row r and index i. Assumes nothing.
use mathlib.Core.Path.{◌≡◌, refl, sym, ap, ◌∙◌, subst}
use mathlib.Core.Bool.{Bool, true, false}
use mathlib.Core.List.{List}
use Prim.Native.Nat.{ℕ, zero, suc, ◌+◌, ◌≤◌, ◌<◌}
use native.Mathlib.Omega.{arith}
use native.Mathlib.Decide.{dec_lt, ℕ_discrete}
use lib.Dec.{ltb}
use Rattle.words.specs.Words.{pick}
use Rattle.words.specs.Sums.{δ, sum_to}
use Rattle.words.proofs.Sums.{δ_same, δ_pos, sum_to_zero, sum_to_suc, sum_to_term, sum_to_apart, sum_to_pos}
use Rattle.card_layout.specs.Inode.{count, indirect, double}
use Rattle.card_layout.specs.Slots.{seconds, owned}
use Rattle.card_rules.specs.View.{second, data_at, owns}
use Rattle.card_rules.specs.Places.{Place, at_inode, at_indirect, at_double, at_second, at_data, held, InUse}
use Rattle.card_rules.proofs.Views.{none_below, some_from, owned_parts, owns_parts}

-- ---- the table

-- block i of row r
abbrev pub cell : List ℕ → ℕ → ℕ → ℕ → ℕ
cell img n zero i = n
cell img n (suc zero) i = indirect img n
cell img n (suc (suc zero)) i = double img n
cell img n (suc (suc (suc zero))) i = second img n i
cell img n (suc (suc (suc (suc r)))) i = data_at img n i

-- how many of row r are in use
abbrev pub cells : List ℕ → ℕ → ℕ → ℕ
cells img n zero = 1
cells img n (suc zero) = pick (ltb (count img n) 12) 0 1
cells img n (suc (suc zero)) = pick (ltb (count img n) 1036) 0 1
cells img n (suc (suc (suc zero))) = seconds (count img n)
cells img n (suc (suc (suc (suc r)))) = count img n

-- how often b stands in row r
abbrev pub row : List ℕ → ℕ → ℕ → ℕ → ℕ
row img n b r = sum_to (λ i. δ (cell img n r i) b) (cells img n r)

-- a row of one cell, or of none
row_one : (f : ℕ → ℕ) (t : Bool) → sum_to f (pick t 0 1) ≡ pick t 0 (f 0)
row_one f true = sum_to_zero f
row_one f false = omega (arith, sum_to_suc f 0, sum_to_zero f)

pub owns_rows : (img : List ℕ) (n b : ℕ) → owns img n b ≡ sum_to (row img n b) 5
owns_rows img n b =
    let f : ℕ → ℕ = row img n b in
    omega (
      arith,
      owns_parts img n b,
      sum_to_zero f,
      sum_to_suc f 0,
      sum_to_suc f 1,
      sum_to_suc f 2,
      sum_to_suc f 3,
      sum_to_suc f 4,
      row_one (λ i. δ n b) false,
      row_one (λ i. δ (indirect img n) b) (ltb (count img n) 12),
      row_one (λ i. δ (double img n) b) (ltb (count img n) 1036),
    )

-- the table has as many cells as the paper says
pub cells_total : (img : List ℕ) (n : ℕ) → sum_to (cells img n) 5 ≡ 1 + owned (count img n)
cells_total img n =
    let f : ℕ → ℕ = cells img n in
    omega (
      arith,
      owned_parts (count img n),
      sum_to_zero f,
      sum_to_suc f 0,
      sum_to_suc f 1,
      sum_to_suc f 2,
      sum_to_suc f 3,
      sum_to_suc f 4,
    )

module _ (img : List ℕ) (n : ℕ) where
  -- two cells add up
  pub two_cells : (b r i k j : ℕ) → r < 5 → k < 5 → i < cells img n r → j < cells img n k → (r ≡ k → i ≡ j → ⊥)
      → δ (cell img n r i) b + δ (cell img n k j) b ≤ owns img n b
  two_cells b r i k j lr lk li lj d = go (ℕ_discrete r k)
    where
      go : Dec (r ≡ k) → δ (cell img n r i) b + δ (cell img n k j) b ≤ owns img n b
      go (yes e) =
          let m : j < cells img n r = subst (λ (x : ℕ). j < cells img n x) (sym e) lj in
          omega (
            arith,
            owns_rows img n b,
            ap (λ (x : ℕ). δ (cell img n x j) b) e,
            sum_to_apart (λ x. δ (cell img n r x) b) (cells img n r) i j (d e) li m,
            sum_to_term (row img n b) 5 r lr,
          )
      go (no e) =
          omega (
            arith,
            owns_rows img n b,
            sum_to_term (λ x. δ (cell img n r x) b) (cells img n r) i li,
            sum_to_term (λ x. δ (cell img n k x) b) (cells img n k) j lj,
            sum_to_apart (row img n b) 5 r k e lr lk,
          )

  pub cell-owned : (r i : ℕ) → r < 5 → i < cells img n r → 0 < owns img n (cell img n r i)
  cell-owned r i lr li =
      let b : ℕ = cell img n r i in
      omega (
        arith,
        owns_rows img n b,
        δ_same b b refl,
        sum_to_term (λ x. δ (cell img n r x) b) (cells img n r) i li,
        sum_to_term (row img n b) 5 r lr,
      )

-- ---- places are cells

abbrev pub rank : Place → ℕ
rank at_inode = 0
rank at_indirect = 1
rank at_double = 2
rank (at_second j) = 3
rank (at_data i) = 4

abbrev pub index : Place → ℕ
index at_inode = 0
index at_indirect = 0
index at_double = 0
index (at_second j) = j
index (at_data i) = i

abbrev pub place : ℕ → ℕ → Place
place zero i = at_inode
place (suc zero) i = at_indirect
place (suc (suc zero)) i = at_double
place (suc (suc (suc zero))) i = at_second i
place (suc (suc (suc (suc r)))) i = at_data i

pub place_back : (p : Place) → place (rank p) (index p) ≡ p
place_back at_inode = refl
place_back at_indirect = refl
place_back at_double = refl
place_back (at_second j) = refl
place_back (at_data i) = refl

-- two places are the same where their rows and indices are
place_same : (p q : Place) → rank p ≡ rank q → index p ≡ index q → p ≡ q
place_same p q e f = cc (place_back p, place_back q)

pub place_eq : (p q : Place) → Dec (p ≡ q)
place_eq p q = go (ℕ_discrete (rank p) (rank q)) (ℕ_discrete (index p) (index q))
  where
    go : Dec (rank p ≡ rank q) → Dec (index p ≡ index q) → Dec (p ≡ q)
    go (yes e) (yes f) = yes (place_same p q e f)
    go (no d) f = no (λ x. d (ap rank x))
    go (yes e) (no d) = no (λ x. d (ap index x))

pub rank_low : (p : Place) → rank p < 5
rank_low at_inode = omega arith
rank_low at_indirect = omega arith
rank_low at_double = omega arith
rank_low (at_second j) = omega arith
rank_low (at_data i) = omega arith

module _ (img : List ℕ) (n : ℕ) where
  pub held-cell : (p : Place) → held img n p ≡ cell img n (rank p) (index p)
  held-cell at_inode = refl
  held-cell at_indirect = refl
  held-cell at_double = refl
  held-cell (at_second j) = refl
  held-cell (at_data i) = refl

  pub in_cells : (p : Place) → InUse img n p → index p < cells img n (rank p)
  in_cells at_inode u = omega arith
  in_cells at_indirect u = omega (arith, some_from (count img n) 12 1 u)
  in_cells at_double u = omega (arith, some_from (count img n) 1036 1 u)
  in_cells (at_second j) u = u
  in_cells (at_data i) u = u

  -- a block that n uses is at one of its places
  pub owned-held : (b : ℕ) → 0 < owns img n b → (p : Place) × InUse img n p × (held img n p ≡ b)
  owned-held b h =
      let r = sum_to_pos (row img n b) 5 (omega (arith, owns_rows img n b)) in
      let i = sum_to_pos (λ x. δ (cell img n r.0 x) b) (cells img n r.0) r.2 in
      (place r.0 i.0, used r.0 i.0 i.1, at_cell r.0 i.0 ∙ δ_pos (cell img n r.0 i.0) b i.2)
    where
      at_cell : (r i : ℕ) → held img n (place r i) ≡ cell img n r i
      at_cell zero i = refl
      at_cell (suc zero) i = refl
      at_cell (suc (suc zero)) i = refl
      at_cell (suc (suc (suc zero))) i = refl
      at_cell (suc (suc (suc (suc r)))) i = refl

      from : (m i : ℕ) → i < pick (ltb (count img n) m) 0 1 → m ≤ count img n
      from m i l = go (dec_lt (count img n) m)
        where
          go : Dec (count img n < m) → m ≤ count img n
          go (yes q) = absurd (omega (arith, none_below (count img n) m 1 q))
          go (no q) = omega arith

      used : (r i : ℕ) → i < cells img n r → InUse img n (place r i)
      used zero i l = tt
      used (suc zero) i l = from 12 i l
      used (suc (suc zero)) i l = from 1036 i l
      used (suc (suc (suc zero))) i l = l
      used (suc (suc (suc (suc r)))) i l = l

  -- the block at a place in use is one that n uses; two places add up
  pub held-owned : (p : Place) → InUse img n p → 0 < owns img n (held img n p)
  held-owned p u = rw (held-cell p) (cell-owned img n (rank p) (index p) (rank_low p) (in_cells p u))

  pub two_places : (p q : Place) (b : ℕ) → (p ≡ q → ⊥) → InUse img n p → InUse img n q → δ (held img n p) b + δ (held img n q) b ≤ owns img n b
  two_places p q b d u v =
      rw (held-cell p, held-cell q)
      (two_cells img n b (rank p) (index p) (rank q) (index q) (rank_low p) (rank_low q) (in_cells p u) (in_cells q v)
      (λ e f. d (place_same p q e f)))
