-- What a change of one inode's length leaves of a sound card, in the views of the card: the one statement that growth, shrinking and a length within the
-- same blocks meet. `img` is the card before, `out` the card after. Assumes nothing.
use mathlib.Core.Path.{◌≡◌}
use mathlib.Core.List.{List}
use Prim.Native.Nat.{ℕ, ◌<◌}
use Rattle.words.specs.Words.{Bytes}
use Rattle.card_layout.specs.Inode.{size, kind, links, count}
use Rattle.card_rules.specs.View.{data_at}
use Rattle.card_rules.specs.Places.{Place, held, InUse}
use Rattle.card_rules.specs.Same.{SameBlock}
use Rattle.card_rules.proofs.Isolation.{Within, Balanced}

pub record Changed (img out : List ℕ) (n len : ℕ) : Type 0 where
  -- nothing changed but in n's blocks, free blocks, the map and the superblock
  pub within : Within img out n
  -- what n took was free, and what it gave up is free
  pub balanced : Balanced img out n
  pub bytes : Bytes out
  pub size_is : size out n ≡ len
  pub kind_is : kind out n ≡ kind img n
  pub links_is : links out n ≡ links img n
  -- the places that it had and has hold the same blocks, and its data there is the same
  pub places : (p : Place) → InUse img n p → InUse out n p → held out n p ≡ held img n p
  pub data_same : (i : ℕ) → i < count img n → i < count out n → SameBlock img out (data_at img n i)
