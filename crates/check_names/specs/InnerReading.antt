-- Inner: what can be read of an inode: the blocks that it points to are on the card.
use Rattle.std.specs.Prelude.{ℕ, ◌+◌, ◌*◌, ◌≤◌, ◌<◌, ◌≡◌, List, length}
use Rattle.card_layout.specs.Sizes.{block_size, entry_size}
use Rattle.card_layout.specs.Inode.{count, indirect, double}
use Rattle.card_layout.specs.Slots.{seconds}
use Rattle.card_rules.specs.View.{second, data_at}

pub record Readable (img : List ℕ) (n : ℕ) : Type 0 where
  pub here : block_size * n + block_size ≤ length img
  pub small : count img n ≤ 1048576
  pub indirect_in : 12 ≤ count img n → block_size * indirect img n + block_size ≤ length img
  pub double_in : 1036 ≤ count img n → block_size * double img n + block_size ≤ length img
  pub second_in : (j : ℕ) → j < seconds (count img n) → block_size * second img n j + block_size ≤ length img
  pub data_in : (i : ℕ) → i < count img n → block_size * data_at img n i + block_size ≤ length img

-- entry k of n stands in its blocks, and they can be read
abbrev pub EntryIn : List ℕ → ℕ → ℕ → Type 0
EntryIn img n k = Readable img n × (entry_size * k + entry_size ≤ block_size * count img n)

-- and file block i is known to be block b
abbrev pub EntryNear : List ℕ → ℕ → ℕ → ℕ → ℕ → Type 0
EntryNear img n k i b = Readable img n × (entry_size * k + entry_size ≤ block_size * count img n) × (b ≡ data_at img n i)
