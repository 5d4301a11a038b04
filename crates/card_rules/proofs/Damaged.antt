-- The four damaged cards of Samples.antt are not whole. Assumes nothing.
use mathlib.Core.Path.{◌≡◌, refl, ap, ◌∙◌}
use Prim.Native.Nat.{ℕ}
use native.Mathlib.Omega.{arith}
use lib.Dec.{lit<}
use Rattle.words.specs.Words.{num}
use Rattle.words.specs.Sums.{sum_to}
use Rattle.words.proofs.Sums.{δ_same, sum_on_two}
use Rattle.card_layout.specs.Super.{blocks, unused, maps}
use Rattle.card_layout.specs.Inode.{kind, count, direct}
use Rattle.card_layout.specs.Entry.{upto_nul}
use Rattle.card_layout.specs.Slots.{slot_of}
use Rattle.card_map.specs.Bits.{map_bit, free_bits}
use Rattle.card_rules.specs.View.{data_at, file_byte, file_bytes, entry, name, kids, kid, owns}
use Rattle.card_rules.specs.Whole.{root, down, Tree, Whole}
use Rattle.card_rules.proofs.Samples.{doubly, leaked, loop, stale}
use Rattle.card_rules.proofs.Small.{owns_one, uses_small, unowned}
use Rattle.card_rules.proofs.Bare.{Bare, one, bare_tree, bare_owns}

-- ---- a block owned twice: both inodes are reached, and both own block 3

doubly_is : (blocks doubly ≡ 16) × (maps doubly ≡ 1) × (count doubly 1 ≡ 1) × (direct doubly 1 0 ≡ 3) × (count doubly 4 ≡ 1) × (direct doubly 4 0 ≡ 3)
unfolding doubly num
doubly_is = (refl, refl, refl, refl, refl, refl)

doubly-kids : (kids doubly 1 ≡ 1) × (kid doubly 1 0 ≡ 4)
unfolding doubly num kids entry file_bytes file_byte data_at slot_of
doubly-kids = (refl, refl)

pub doubly_not : Whole doubly → ⊥
doubly_not w =
    let a = w.tree.all 1 root in
    let b = w.tree.all 4 (down 4 0 root (omega (arith, doubly-kids.0)) doubly-kids.1) in
    omega (
      arith,
      w.sound.once 3 (omega (arith, doubly_is.0)),
      uses_small doubly w.inodes 3 doubly_is.1,
      sum_on_two (λ n. owns doubly n 3) w.inodes 1 4 (λ e. omega arith) (omega arith) (omega arith),
      owns_one doubly 1 3 doubly_is.2,
      δ_same (direct doubly 1 0) 3 doubly_is.3,
      owns_one doubly 4 3 doubly_is.4,
      δ_same (direct doubly 4 0) 3 doubly_is.5,
    )

-- ---- a block that is neither free nor owned: only the root is reached, and it owns blocks 1 and 3 alone.
-- The rules on the tree all hold: what fails is the count of block 5, or 4.

leaked_is : (blocks leaked ≡ 16) × (maps leaked ≡ 1) × (map_bit leaked 5 ≡ 0)
unfolding leaked num map_bit
leaked_is = (refl, refl, refl)

leaked_bare : Bare leaked
unfolding leaked num entry name upto_nul file_bytes file_byte data_at slot_of
leaked_bare =
    record {
      bytes = refl;
      dir = refl;
      linked = refl;
      counted = refl;
      slot = refl;
      no_indirect = refl;
      no_double = refl;
      self = refl;
      parent = refl;
      dot = refl;
      dots = refl;
    }

pub leaked_tree : Tree leaked one
leaked_tree = bare_tree leaked leaked_bare

pub leaked_not : Whole leaked → ⊥
leaked_not =
    unowned leaked 5 (omega (arith, leaked_is.1)) (omega (arith, leaked_is.0)) leaked_is.2 (bare_owns leaked leaked_bare 5 (lit< tt))

loop_is : (blocks loop ≡ 16) × (maps loop ≡ 1) × (map_bit loop 4 ≡ 0)
unfolding loop num map_bit
loop_is = (refl, refl, refl)

loop_bare : Bare loop
unfolding loop num entry name upto_nul file_bytes file_byte data_at slot_of
loop_bare =
    record {
      bytes = refl;
      dir = refl;
      linked = refl;
      counted = refl;
      slot = refl;
      no_indirect = refl;
      no_double = refl;
      self = refl;
      parent = refl;
      dot = refl;
      dots = refl;
    }

pub loop_tree : Tree loop one
loop_tree = bare_tree loop loop_bare

pub loop_not : Whole loop → ⊥
loop_not =
    unowned loop 4 (omega (arith, loop_is.1)) (omega (arith, loop_is.0)) loop_is.2 (bare_owns loop loop_bare 4 (lit< tt))

-- ---- a directory whose ".." is not its parent

stale_is : (kids stale 1 ≡ 1) × (kid stale 1 0 ≡ 4) × (kind stale 4 ≡ 2) × (entry stale 4 1 ≡ 4)
unfolding stale num kids entry file_bytes file_byte data_at slot_of
stale_is = (refl, refl, refl, refl)

pub stale_not : Whole stale → ⊥
stale_not w =
    let up = w.tree.up 1 0 root (omega (arith, stale_is.0)) (ap (kind stale) stale_is.1 ∙ stale_is.2) in
    omega (arith, stale_is.3, up, ap (λ (n : ℕ). entry stale n 1) stale_is.1)

-- ---- on all four the unused count is the number of set bits: it is not this that is wrong

pub counts_right : (free_bits doubly 16 ≡ unused doubly) × (free_bits leaked 16 ≡ unused leaked) × (free_bits loop 16 ≡ unused loop) × (free_bits stale 16 ≡ unused stale)
unfolding doubly leaked loop stale num sum_to map_bit
counts_right = (refl, refl, refl, refl)
