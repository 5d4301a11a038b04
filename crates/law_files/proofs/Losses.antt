-- How often each block is among those that a shrinking inode gives up, step by step: all that it uses with its old block count but what it uses
-- with the new one. Assumes nothing.
use mathlib.Core.Path.{◌≡◌}
use mathlib.Core.List.{List}
use Prim.Native.Nat.{ℕ, suc, ◌+◌, ◌*◌, ◌≤◌, ◌<◌, min, max}
use native.Mathlib.Omega.{arith}
use lib.Dec.{ltb}
use Rattle.std.proofs.lemmas.Grind.{common_steps}
use Rattle.words.specs.Words.{pick}
use Rattle.words.specs.Sums.{δ, sum_to}
use Rattle.card_layout.specs.Inode.{count, indirect, double, with_indirect, with_double}
use Rattle.card_layout.specs.Slots.{seconds}
use Rattle.card_layout.specs.declared.inode.DiskINode.{DiskINode}
use Rattle.card_rules.specs.View.{second, data_at, owns}
use Rattle.card_rules.proofs.Views.{seconds_mono, owns_parts}
use Rattle.file_blocks.specs.Ranges.{within, part_from, part_to, parts_from, parts_to}
use Rattle.file_blocks.specs.Taking.{less_indirect, less_double}
use Rattle.file_blocks.proofs.Picks.{pick-both, gap_past}
use Rattle.law_files.proofs.Freed.{span, span_sum}

-- ---- numbers

-- how far the data of the second level has been freed, from b up to a, before second-level block q
abbrev pub up_to : ℕ → ℕ → ℕ → ℕ
up_to a b q = max (max b 1036) (min (max a 1036) (1036 + 1024 * q))

module _ (a b : ℕ) (less : b ≤ a) where
  pub parts_some : parts_from b ≤ parts_to a
  parts_some = omega arith

  pub up_to_last : up_to a b (parts_to a) ≡ max a 1036
  up_to_last = omega arith

  pub up_to-low : (q : ℕ) → max b 1036 ≤ up_to a b q
  up_to-low q = omega arith

  module _ (q : ℕ) (from : parts_from b ≤ q) (low : 1036 + 1024 * q < a) where
    pub part_some : part_from b q ≤ part_to a q
    part_some = omega arith

    pub up_to_here : up_to a b q ≡ part_from b q
    up_to_here = omega arith

    pub up_to_next : up_to a b (suc q) ≡ part_to a q
    up_to_next = omega arith

-- ---- the places of an inode

module _ (img : List ℕ) (n x : ℕ) where
  -- whether file block i, second-level block j is x
  abbrev pub is_data : ℕ → ℕ
  is_data i = δ (data_at img n i) x

  abbrev pub is_second : ℕ → ℕ
  is_second j = δ (second img n j) x

  -- how often n uses x with b blocks
  abbrev pub used_by : ℕ → ℕ
  used_by b =
      δ n x + pick (ltb b 12) 0 (δ (indirect img n) x) + pick (ltb b 1036) 0 (δ (double img n) x)
      + sum_to is_second (seconds b)
      + sum_to is_data b

  -- and how often it is among those that each step frees
  module _ (b : ℕ) where
    abbrev pub lost_direct : ℕ
    lost_direct = span is_data (min b 12) (min (count img n) 12)

    abbrev pub lost_single : ℕ
    lost_single = span is_data (within 12 1036 b) (within 12 1036 (count img n))

    abbrev pub lost_twofold : ℕ
    lost_twofold = span is_data (max b 1036) (max (count img n) 1036)

    abbrev pub lost_indirect : ℕ
    lost_indirect = pick (ltb b 12) (pick (ltb (count img n) 12) 0 (δ (indirect img n) x)) 0

    abbrev pub lost_level : ℕ
    lost_level = span is_second (seconds b) (seconds (count img n))

    abbrev pub lost_double : ℕ
    lost_double = pick (ltb b 1036) (pick (ltb (count img n) 1036) 0 (δ (double img n) x)) 0

    abbrev pub lost : ℕ
    lost = lost_direct + lost_single + lost_twofold + lost_indirect + lost_level + lost_double

    pub owns_lost : b ≤ count img n → owns img n x ≡ lost + used_by b
    owns_lost h = grind (arith, common_steps, owns_parts, span_sum, seconds_mono)

-- ---- the record's pointers

-- a pointer of a file of a blocks, once it has b blocks: y where it still needs it, else 0
abbrev pub left : ℕ → ℕ → ℕ → ℕ → ℕ
left m b a y = pick (ltb b m) (pick (ltb a m) y 0) y

pub left_needed : (m b a y : ℕ) → m ≤ b → left m b a y ≡ y
left_needed m b a y q = gap_past m b a y 0 q

pub left_none : (m b a y : ℕ) → (a < m → y ≡ 0) → b < m → left m b a y ≡ 0
left_none m b a y e q = grind (arith, common_steps)

pub left-low : (m b a y c : ℕ) → y < c → left m b a y < c
left-low m b a y c q =
    pick-both (λ v. v < c) (ltb b m) (pick (ltb a m) y 0) y (pick-both (λ v. v < c) (ltb a m) y 0 q (omega arith)) q

module _ (b a : ℕ) (d : DiskINode) where
  pub less_indirect_is : less_indirect b a d ≡ with_indirect d (left 12 b a d.head.indirect.0)
  unfolding less_indirect
  less_indirect_is = grind (arith, common_steps)

  pub less_double_is : less_double b a d ≡ with_double d (left 1036 b a d.head.db_indirect.0)
  unfolding less_double
  less_double_is = grind (arith, common_steps)

pub less_both : (b a : ℕ) (d : DiskINode) → less_double b a (less_indirect b a d)
    ≡ with_double (with_indirect d (left 12 b a d.head.indirect.0)) (left 1036 b a d.head.db_indirect.0)
less_both b a d = grind (arith, common_steps, less_indirect_is, less_double_is)
