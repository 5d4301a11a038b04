-- The places of an inode that hold a block's number: what "two slots never share a block" speaks of.
use Rattle.std.specs.Prelude.{ℕ, ◌≤◌, ◌<◌, List}
use Rattle.card_layout.specs.Inode.{count, indirect, double}
use Rattle.card_layout.specs.Slots.{seconds}
use Rattle.card_rules.specs.View.{second, data_at}

pub data Place : Type 0 where
  at_inode : Place
  at_indirect : Place
  at_double : Place
  at_second : ℕ → Place
  at_data : ℕ → Place

-- the block at a place of inode n
abbrev pub held : List ℕ → ℕ → Place → ℕ
held img n at_inode = n
held img n at_indirect = indirect img n
held img n at_double = double img n
held img n (at_second j) = second img n j
held img n (at_data i) = data_at img n i

-- whether a place is in use, by the inode's block count
abbrev pub InUse : List ℕ → ℕ → Place → Type 0
InUse img n at_inode = Unit
InUse img n at_indirect = 12 ≤ count img n
InUse img n at_double = 1036 ≤ count img n
InUse img n (at_second j) = j < seconds (count img n)
InUse img n (at_data i) = i < count img n
