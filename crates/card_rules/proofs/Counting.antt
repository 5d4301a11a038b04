-- The blocks of a card, counted: "Set bits and owned blocks are counted separately, and their sum is the block count". Assumes nothing.
use mathlib.Core.Path.{◌≡◌, refl, sym, ◌∙◌}
use mathlib.Core.List.{List}
use Prim.Native.Nat.{ℕ, ◌+◌, ◌<◌}
use native.Mathlib.Omega.{arith}
use Rattle.words.specs.Sums.{δ, sum_to, sum_on, cnt}
use Rattle.words.proofs.Sums.{sum_to_cong, sum_to_add, sum_to_each, sum_to_ones, sum_to_swap, sum_to-δ, sum_on_cong, sum_on_swap}
use Rattle.card_layout.specs.Super.{blocks, unused, maps}
use Rattle.card_layout.specs.Inode.{count}
use Rattle.card_layout.specs.Slots.{owned}
use Rattle.card_map.specs.Bits.{map_bit, free_bits}
use Rattle.card_rules.specs.View.{owns, uses}
use Rattle.card_rules.specs.Whole.{Sound}
use Rattle.card_rules.proofs.Views.{owned_least, uses_parts}
use Rattle.card_rules.proofs.Cells.{cell, cells, row, owns_rows, cells_total, cell-owned}
use Rattle.card_rules.proofs.Owners.{map_below, used_below, owns_le}

-- m numbers below n are m of the first n, each counted as often as it stands there
pub sum_to_numbers : (g : ℕ → ℕ) (m n : ℕ) → ((i : ℕ) → i < m → g i < n) → sum_to (λ b. sum_to (λ i. δ (g i) b) m) n ≡ m
sum_to_numbers g m n h =
    sum_to_swap (λ b i. δ (g i) b) n m ∙ sum_to_each (λ i. sum_to (δ (g i)) n) m (λ i l. sum_to-δ (g i) n (h i l))

module _ (img : List ℕ) (l : List ℕ) (s : Sound img l) where
  -- one inode: its own block and N(blocks)
  pub owns_total : (n : ℕ) → 0 < cnt n l → sum_to (owns img n) (blocks img) ≡ 1 + owned (count img n)
  owns_total n h =
      sum_to_cong (owns img n) (λ b. sum_to (row img n b) 5) (blocks img) (λ b q. owns_rows img n b)
      ∙ sum_to_swap (row img n) (blocks img) 5
      ∙ sum_to_cong (λ r. sum_to (λ b. row img n b r) (blocks img)) (cells img n) 5
      (λ r q. sum_to_numbers (cell img n r) (cells img n r) (blocks img)
      (λ i k. used_below img l s n (cell img n r i) h (cell-owned img n r i q k)))
      ∙ cells_total img n

  -- so a file never has as many blocks as the card
  pub owned_below : (n : ℕ) → 0 < cnt n l → owned (count img n) < blocks img
  owned_below n h = omega (arith, owns_total n h, sum_to_ones (owns img n) (blocks img) (λ b. owns_le img l s n b h))

  pub count_below : (n : ℕ) → 0 < cnt n l → count img n < blocks img
  count_below n h = omega (arith, owned_below n h, owned_least (count img n))

  -- each block is set in the map or in use
  pub counted : free_bits img (blocks img) + sum_to (uses img l) (blocks img) ≡ blocks img
  counted =
      sym (sum_to_add (map_bit img) (uses img l) (λ b. 1) (blocks img) (λ b q. omega (arith, s.once b q)))
      ∙ sum_to_each (λ b. 1) (blocks img) (λ b q. refl)

  -- superblock, map, and each inode
  pub uses_total : sum_to (uses img l) (blocks img) ≡ 1 + maps img + sum_on (λ n. 1 + owned (count img n)) l
  uses_total =
      omega (
        arith,
        sum_to_add (λ b. δ 0 b + sum_to (λ i. δ (2 + i) b) (maps img)) (λ b. sum_on (λ n. owns img n b) l) (uses img l) (blocks img)
            (λ b q. uses_parts img l b),
        sum_to_add (δ 0) (λ b. sum_to (λ i. δ (2 + i) b) (maps img)) (λ b. δ 0 b + sum_to (λ i. δ (2 + i) b) (maps img)) (blocks img)
            (λ b q. refl),
        sum_to-δ 0 (blocks img) (omega (arith, s.sized.few)),
        sum_to_numbers (λ i. 2 + i) (maps img) (blocks img) (map_below img s.sized),
        sum_on_swap (owns img) l (blocks img),
        sum_on_cong (λ n. sum_to (owns img n) (blocks img)) (λ n. 1 + owned (count img n)) l owns_total,
      )

  pub set_and_owned : unused img + (1 + maps img + sum_on (λ n. 1 + owned (count img n)) l) ≡ blocks img
  set_and_owned = omega (arith, s.free, counted, uses_total)
