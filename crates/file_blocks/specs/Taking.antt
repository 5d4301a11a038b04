-- Growth and shrinking (RULES, "Taking blocks"): "Growth takes the indirect block, the double one, its second level in rising order, then data in
-- rising order". Each taken block is the lowest free one; the search goes on where the last one ended (card_map: lowest_on, lowest_next).
use Rattle.std.specs.Prelude.{ℕ, ◌+◌, ◌-◌, ◌*◌, min, List, ltb}
use Rattle.words.specs.Words.{pick, word, put_word}
use Rattle.words.specs.Runs.{turns}
use Rattle.card_layout.specs.Sizes.{block_size}
use Rattle.card_layout.specs.Inode.{with_direct, with_indirect, with_double}
use Rattle.card_layout.specs.Slots.{seconds}
use Rattle.card_layout.specs.declared.inode.DiskINode.{DiskINode}
use Rattle.card_map.specs.Free.{lowest, taken, freed}
use Rattle.file_blocks.specs.Ranges.{in_record, in_indirect, in_second, below_double}

-- ---- growth

-- the card, and the block from which the next search goes on
pub record Cursor : Type 0 where
  pub img : List ℕ
  pub from : ℕ

-- and the record that is to be written
pub record Growing : Type 0 where
  pub cur : Cursor
  pub inode : DiskINode

-- the next block that is taken, and 0 where there is none
unfoldable pub next_free : ℕ → List ℕ → ℕ → ℕ
next_free nb img from = pick (ltb (lowest img from nb) nb) (lowest img from nb) 0

abbrev pub next_of : ℕ → Cursor → ℕ
next_of nb c = next_free nb c.img c.from

-- that block taken
abbrev pub took_next : ℕ → Cursor → Cursor
took_next nb c = record { img = taken c.img c.from nb; from = next_of nb c + 1 }

-- it goes into the word at `at`, into a direct slot, into a pointer of the record
abbrev pub into_word : ℕ → ℕ → Cursor → Cursor
into_word nb at c = record { img = put_word (taken c.img c.from nb) at (next_of nb c); from = next_of nb c + 1 }

abbrev pub into_direct : ℕ → ℕ → Growing → Growing
into_direct nb i g = record { cur = took_next nb g.cur; inode = with_direct g.inode i (next_of nb g.cur) }

abbrev pub into_indirect : ℕ → Growing → Growing
into_indirect nb g = record { cur = took_next nb g.cur; inode = with_indirect g.inode (next_of nb g.cur) }

abbrev pub into_double : ℕ → Growing → Growing
into_double nb g = record { cur = took_next nb g.cur; inode = with_double g.inode (next_of nb g.cur) }

abbrev pub moved : Growing → Cursor → Growing
moved g c = record { cur = c; inode = g.inode }

-- k blocks into the words from `at` on
unfoldable pub grow_run : ℕ → ℕ → ℕ → Cursor → Cursor
grow_run nb at k c = turns (λ j x. into_word nb (at + 4 * j) x) 0 k c

-- the pointer blocks that a file of b blocks has and one of a blocks has not
unfoldable pub grow_indirect : ℕ → ℕ → ℕ → Growing → Growing
grow_indirect nb a b g = pick (ltb a 12) (pick (ltb b 12) g (into_indirect nb g)) g

unfoldable pub grow_double : ℕ → ℕ → ℕ → Growing → Growing
grow_double nb a b g = pick (ltb a 1036) (pick (ltb b 1036) g (into_double nb g)) g

unfoldable pub grow_level : ℕ → ℕ → ℕ → Growing → Growing
grow_level nb a b g =
    pick (ltb g.inode.head.db_indirect.0 nb)
    (moved g (grow_run nb (block_size * g.inode.head.db_indirect.0 + 4 * seconds a) (seconds b - seconds a) g.cur))
    g

-- the data blocks from a up to b, by the three ranges
unfoldable pub grow_direct : ℕ → ℕ → ℕ → Growing → Growing
grow_direct nb a b g = turns (λ i x. into_direct nb i x) (min a 12) (min b 12 - min a 12) g

unfoldable pub grow_single : ℕ → ℕ → ℕ → Growing → Growing
grow_single nb a b g = in_indirect (λ at i e x. moved x (grow_run nb at (e - i) x.cur)) nb g.inode.head.indirect.0 a b g

unfoldable pub grow_part : ℕ → ℕ → ℕ → ℕ → ℕ → Cursor → Cursor
grow_part nb s a b q c = in_second (λ at i e x. grow_run nb at (e - i) x) nb s q a b c

unfoldable pub grow_twofold : ℕ → ℕ → ℕ → Growing → Growing
grow_twofold nb a b g =
    pick (ltb g.inode.head.db_indirect.0 nb)
    (moved g (below_double (λ x. x.img) (λ s q x. grow_part nb s a b q x) g.inode.head.db_indirect.0 a b g.cur))
    g

-- all of it, in RULES' order
unfoldable pub grown : ℕ → ℕ → ℕ → Growing → Growing
grown nb a b g =
    grow_twofold nb a b (grow_single nb a b (grow_direct nb a b (grow_level nb a b (grow_double nb a b (grow_indirect nb a b g)))))

-- ---- shrinking

-- block b freed, if it is one
abbrev pub freed_in : ℕ → ℕ → List ℕ → List ℕ
freed_in nb b img = pick (ltb b nb) (freed img b) img

-- the k blocks whose numbers stand from byte `at` on freed
unfoldable pub free_run : ℕ → ℕ → ℕ → List ℕ → List ℕ
free_run nb at k img = turns (λ j x. freed_in nb (word x (at + 4 * j)) x) 0 k img

-- the data blocks from b up to a freed, by the three ranges: d is the record, n its inode
unfoldable pub free_direct : ℕ → ℕ → ℕ → ℕ → List ℕ → List ℕ
free_direct nb n b a img = in_record (λ at i e x. free_run nb at (e - i) x) n b a img

unfoldable pub free_single : ℕ → DiskINode → ℕ → ℕ → List ℕ → List ℕ
free_single nb d b a img = in_indirect (λ at i e x. free_run nb at (e - i) x) nb d.head.indirect.0 b a img

unfoldable pub free_part : ℕ → ℕ → ℕ → ℕ → ℕ → List ℕ → List ℕ
free_part nb s b a q img = in_second (λ at i e x. free_run nb at (e - i) x) nb s q b a img

unfoldable pub free_twofold : ℕ → DiskINode → ℕ → ℕ → List ℕ → List ℕ
free_twofold nb d b a img =
    pick (ltb d.head.db_indirect.0 nb)
    (below_double (λ x. x) (λ s q x. free_part nb s b a q x) d.head.db_indirect.0 b a img)
    img

-- the pointer blocks that a file of a blocks has and one of b blocks has not
unfoldable pub free_indirect : ℕ → DiskINode → ℕ → ℕ → List ℕ → List ℕ
free_indirect nb d b a img = pick (ltb b 12) (pick (ltb a 12) img (freed_in nb d.head.indirect.0 img)) img

unfoldable pub free_level : ℕ → DiskINode → ℕ → ℕ → List ℕ → List ℕ
free_level nb d b a img =
    pick (ltb d.head.db_indirect.0 nb) (free_run nb (block_size * d.head.db_indirect.0 + 4 * seconds b) (seconds a - seconds b) img) img

unfoldable pub free_double : ℕ → DiskINode → ℕ → ℕ → List ℕ → List ℕ
free_double nb d b a img = pick (ltb b 1036) (pick (ltb a 1036) img (freed_in nb d.head.db_indirect.0 img)) img

unfoldable pub shrunk : ℕ → ℕ → DiskINode → ℕ → ℕ → List ℕ → List ℕ
shrunk nb n d b a img =
    free_double nb d b a (free_level nb d b a (free_indirect nb d b a (free_twofold nb d b a (free_single nb d b a (free_direct nb n b a img)))))

-- "indirect and double indirect .. become 0 when their block is freed"
unfoldable pub less_indirect : ℕ → ℕ → DiskINode → DiskINode
less_indirect b a d = pick (ltb b 12) (pick (ltb a 12) d (with_indirect d 0)) d

unfoldable pub less_double : ℕ → ℕ → DiskINode → DiskINode
less_double b a d = pick (ltb b 1036) (pick (ltb a 1036) d (with_double d 0)) d
