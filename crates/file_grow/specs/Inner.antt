-- Inner: what the steps of growth ask and answer.
use Rattle.std.specs.Prelude.{ℕ, ◌≡◌, ◌-◌, ◌≤◌, List}
use Rattle.file_blocks.specs.Inner.{Sizes}
use Rattle.file_blocks.specs.Taking.{Cursor, Growing, grow_run}
use Rattle.file_grow.specs.declared.Took.{Took}
use Rattle.file_grow.specs.declared.Grower.{Grower}

abbrev pub growing_at : List ℕ → Took → Growing
growing_at img t = record { cur = record { img = img; from = t.from.0 }; inode = t.inode }

-- the card and the answer are those of a growth
pub record Grew (g : Growing) (img : List ℕ) (r : Took) : Type 0 where
  pub img_is : img ≡ g.cur.img
  pub from_is : r.from.0 ≡ g.cur.from
  pub inode_is : r.inode ≡ g.inode

-- ---- a grower, as a cursor and as a growth

abbrev pub cursor : Grower → Cursor
cursor g = record { img = g.image.now; from = g.from.0 }

abbrev pub growing : Grower → Growing
growing g = record { cur = cursor g; inode = g.inode }

abbrev pub with_cursor : Grower → Cursor → Grower
with_cursor g c = record g { image = record g.image { now = c.img }; from = record { 0 = c.from } }

abbrev pub with_growing : Grower → Growing → Grower
with_growing g x = record (with_cursor g x.cur) { inode = x.inode }

-- its card is as long as its blocks ask, and the next search goes on below the last of them
abbrev pub Fit : Grower → Type 0
Fit g = Sizes g.image.now g.nb × (g.from.0 ≤ g.nb)

-- that has gone over slots i up to e, which stand from byte `at` on
abbrev pub over : ℕ → ℕ → ℕ → Grower → Grower
over at i e g = with_cursor g (grow_run g.nb at (e - i) (cursor g))
