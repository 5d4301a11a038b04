-- What is as it was at the start of a day (RULES, demand 3): "map, free count, directories and block lists".
use Rattle.std.specs.Prelude.{ℕ, ◌+◌, ◌*◌, ◌<◌, ◌≡◌, List}
use Rattle.words.specs.Words.{byte}
use Rattle.card_layout.specs.Sizes.{block_size}
use Rattle.card_layout.specs.Super.{unused, maps}
use Rattle.card_layout.specs.Inode.{kind, count}
use Rattle.card_rules.specs.Places.{Place, held, InUse}
use Rattle.card_rules.specs.Same.{SameFile}
use Rattle.card_rules.specs.Whole.{Reached}

pub record Returned (start out : List ℕ) : Type 0 where
  -- every byte of the map, which starts in block 2
  pub map : (k : ℕ) → k < block_size * maps start → byte out (block_size * 2 + k) ≡ byte start (block_size * 2 + k)
  pub free : unused out ≡ unused start
  -- a directory's record, with its kind and links, its blocks and their bytes
  pub directories : (n : ℕ) → Reached start n → kind start n ≡ 2 → SameFile start out n
  -- how many blocks an inode has, and which
  pub counts : (n : ℕ) → Reached start n → count out n ≡ count start n
  pub places : (n : ℕ) (p : Place) → Reached start n → InUse start n p → held out n p ≡ held start n p
