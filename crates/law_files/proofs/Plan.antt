-- Which block each place of a grown file gets: those that it had stay, new ones get the lowest free blocks in RULES' order, "the indirect block, the double
-- one, its second level in rising order, then data in rising order". Assumes nothing.
use mathlib.Core.Path.{◌≡◌}
use mathlib.Core.Logic.{◌≢◌}
use mathlib.Core.List.{List}
use Prim.Native.Nat.{ℕ, ◌+◌, ◌-◌, ◌*◌, ◌≤◌, ◌<◌}
use lib.Dec.{ltb}
use lib.ListN.{length}
use Rattle.words.specs.Words.{pick, byte, Bytes}
use Rattle.words.specs.Inner.{Apart}
use Rattle.card_layout.specs.Sizes.{most, blocks_for}
use Rattle.card_layout.specs.Super.{blocks, unused, maps}
use Rattle.card_layout.specs.Inode.{size, kind, links, count, indirect, double}
use Rattle.card_layout.specs.Slots.{seconds, owned}
use Rattle.card_map.specs.Bits.{map_bit}
use Rattle.card_rules.specs.View.{second, data_at}
use Rattle.card_rules.specs.Places.{Place, at_inode, at_indirect, at_double, at_second, at_data, held, InUse}
use Rattle.card_rules.proofs.Cells.{rank}
use Rattle.card_rules.specs.Same.{SameBlock}
use Rattle.file_grow.proofs.Taken.{nth_free}
use Rattle.file_grow.proofs.Runs.{Clear}

-- the places that a file of c blocks uses
abbrev pub Had : ℕ → Place → Type 0
Had c at_inode = Unit
Had c at_indirect = 12 ≤ c
Had c at_double = 1036 ≤ c
Had c (at_second j) = j < seconds c
Had c (at_data i) = i < c

pub had_in_use : (img : List ℕ) (n : ℕ) (p : Place) → Had (count img n) p → InUse img n p
had_in_use img n at_inode h = h
had_in_use img n at_indirect h = h
had_in_use img n at_double h = h
had_in_use img n (at_second j) h = h
had_in_use img n (at_data i) h = h

pub in_use_had : (img : List ℕ) (n : ℕ) (p : Place) → InUse img n p → Had (count img n) p
in_use_had img n at_inode h = h
in_use_had img n at_indirect h = h
in_use_had img n at_double h = h
in_use_had img n (at_second j) h = h
in_use_had img n (at_data i) h = h

-- the indirect block, and the double one, that a file of b blocks has and one of a blocks has not: how many
abbrev pub new_one : ℕ → ℕ → ℕ
new_one a b = pick (ltb a 12) (pick (ltb b 12) 0 1) 0

abbrev pub new_two : ℕ → ℕ → ℕ
new_two a b = pick (ltb a 1036) (pick (ltb b 1036) 0 1) 0

-- the turn at which a new place of it gets its block
abbrev pub turn_of : ℕ → ℕ → Place → ℕ
turn_of a b at_inode = 0
turn_of a b at_indirect = 0
turn_of a b at_double = new_one a b
turn_of a b (at_second j) = new_one a b + new_two a b + (j - seconds a)
turn_of a b (at_data i) = new_one a b + new_two a b + (seconds b - seconds a) + (i - a)

-- the block of each place once inode n of card img has grown to b blocks
abbrev pub planned : List ℕ → ℕ → ℕ → Place → ℕ
planned img n b at_inode = n
planned img n b at_indirect = pick (ltb (count img n) 12) (nth_free (blocks img) img (turn_of (count img n) b at_indirect)) (indirect img n)
planned img n b at_double = pick (ltb (count img n) 1036) (nth_free (blocks img) img (turn_of (count img n) b at_double)) (double img n)
planned img n b (at_second j) =
    pick (ltb j (seconds (count img n))) (second img n j) (nth_free (blocks img) img (turn_of (count img n) b (at_second j)))
planned img n b (at_data i) = pick (ltb i (count img n)) (data_at img n i) (nth_free (blocks img) img (turn_of (count img n) b (at_data i)))

-- how many blocks it takes
abbrev pub more : List ℕ → ℕ → ℕ → ℕ
more img n b = owned b - owned (count img n)

-- what holds of the plan on a sound card (PlanLaws): every block of it is a block of the card, none is the superblock's or the map's, no two places share one
pub record Planning (img : List ℕ) (n b : ℕ) : Type 0 where
  pub few : b < 32768
  -- a place that was in use keeps its block; a new one gets a free block, of those that are taken
  pub old : (p : Place) → InUse img n p → planned img n b p ≡ held img n p
  pub new : (p : Place) → Had b p → (InUse img n p → ⊥) → planned img n b p ≡ nth_free (blocks img) img (turn_of (count img n) b p)
  pub turn_low : (p : Place) → Had b p → (InUse img n p → ⊥) → turn_of (count img n) b p < more img n b
  pub free : (p : Place) → Had b p → (InUse img n p → ⊥) → map_bit img (planned img n b p) ≡ 1
  pub below : (p : Place) → Had b p → planned img n b p < blocks img
  pub clear : (p : Place) → Had b p → Clear (4096 * planned img n b p) 4096
  pub apart : (p q : Place) → Had b p → Had b q → (p ≡ q → ⊥) → planned img n b p ≢ planned img n b q

-- mid is img with inode n grown to len bytes by this plan, before any byte of its data is zeroed
pub record Grown (img mid : List ℕ) (n len : ℕ) : Type 0 where
  pub len_same : length mid ≡ length img
  pub bytes : Bytes mid
  pub super_same : (k : ℕ) → k < 48 → Apart k 1 8 4 → byte mid k ≡ byte img k
  -- the lowest free blocks are taken, and the unused count says so
  pub gone : (j : ℕ) → j < more img n (blocks_for len) → map_bit mid (nth_free (blocks img) img j) ≡ 0
  pub others : (x : ℕ) → x < most → ((j : ℕ) → j < more img n (blocks_for len) → x ≢ nth_free (blocks img) img j) → map_bit mid x ≡ map_bit img x
  pub left : unused mid + more img n (blocks_for len) ≡ unused img
  -- the record
  pub size_is : size mid n ≡ len
  pub kind_is : kind mid n ≡ kind img n
  pub links_is : links mid n ≡ links img n
  pub count_is : count mid n ≡ blocks_for len
  -- and the slots
  pub placed : (p : Place) → Had (blocks_for len) p → held mid n p ≡ planned img n (blocks_for len) p
  pub one_not : blocks_for len < 12 → indirect mid n ≡ 0
  pub two_not : blocks_for len < 1036 → double mid n ≡ 0
  -- no other block changed
  pub kept : (x : ℕ) → x < blocks img → x ≢ 0 → ((i : ℕ) → i < maps img → x ≢ 2 + i)
      → ((p : Place) → Had (blocks_for len) p → rank p < 4 → x ≢ planned img n (blocks_for len) p) → SameBlock img mid x
