-- What stays of a file whose name or links a call may change: all but its links.
use Rattle.std.specs.Prelude.{ℕ, ◌*◌, ◌<◌, ◌≡◌, List}
use Rattle.card_layout.specs.Sizes.{block_size}
use Rattle.card_layout.specs.Inode.{size, kind, count}
use Rattle.card_rules.specs.View.{file_byte}
use Rattle.card_rules.specs.Places.{Place, held, InUse}

-- file m has the kind, length, blocks and bytes that it had
pub record SameData (img out : List ℕ) (m : ℕ) : Type 0 where
  pub kind_is : kind out m ≡ kind img m
  pub size_is : size out m ≡ size img m
  pub count_is : count out m ≡ count img m
  pub places : (q : Place) → InUse img m q → held out m q ≡ held img m q
  -- every byte of its blocks, below its length and behind it
  pub kept : (o : ℕ) → o < block_size * count img m → file_byte out m o ≡ file_byte img m o
