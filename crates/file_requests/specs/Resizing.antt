-- The act of a length change (RULES, "Resize"), of an inode of any kind: d is the record of inode n as the card has it, nb the card's block count.
use Rattle.std.specs.Prelude.{ℕ, min, true, List, [], ltb}
use Rattle.words.specs.Words.{pick}
use Rattle.card_layout.specs.Sizes.{blocks_for}
use Rattle.card_layout.specs.Inode.{with_size, with_blocks, encoded}
use Rattle.card_layout.specs.declared.inode.DiskINode.{DiskINode}
use Rattle.file_blocks.specs.Bytes.{filled}
use Rattle.file_blocks.specs.Taking.{Growing, grown, shrunk, less_indirect, less_double}

-- the record with a length, and the blocks that it then has
abbrev pub of_length : DiskINode → ℕ → DiskINode
of_length d len = with_blocks (with_size d len) (blocks_for len)

-- the blocks of a longer file taken, from the lowest on
abbrev pub growth : ℕ → DiskINode → ℕ → List ℕ → Growing
growth nb d len img = grown nb d.head.blocks (blocks_for len) (record { cur = record { img = img; from = 0 }; inode = d })

-- and the record written
unfoldable pub lengthened : ℕ → ℕ → DiskINode → ℕ → List ℕ → List ℕ
lengthened nb n d len img = encoded (growth nb d len img).cur.img n (of_length (growth nb d len img).inode len)

-- the bytes off to end of file n zero
abbrev pub cleaned : ℕ → ℕ → ℕ → ℕ → List ℕ → List ℕ
cleaned nb n off end img = filled true [] nb n off end img

-- the most blocks that a length has, and those of a record that says more
abbrev pub most_blocks : ℕ
most_blocks = 1048576

abbrev pub file_blocks : DiskINode → ℕ
file_blocks d = min d.head.blocks most_blocks

-- "Shrinking frees and zeroes nothing; unused slots stay stale, except indirect and double indirect, which become 0 when their block is freed."
unfoldable pub shorter : ℕ → ℕ → DiskINode → ℕ → List ℕ → List ℕ
shorter nb n d len img =
    encoded
    (shrunk nb n d (blocks_for len) (file_blocks d) img)
    n
    (of_length (less_double (blocks_for len) (file_blocks d) (less_indirect (blocks_for len) (file_blocks d) d)) len)

-- the record with a length, and the blocks that it takes: more, fewer, or those that it has
unfoldable pub fitted : ℕ → ℕ → DiskINode → ℕ → List ℕ → List ℕ
fitted nb n d len img =
    pick (ltb d.head.blocks (blocks_for len)) (lengthened nb n d len img)
    (pick (ltb (blocks_for len) d.head.blocks) (shorter nb n d len img) (encoded img n (with_size d len)))

-- the bytes from the old size, which d has, up to z zero, where z is above it
abbrev pub new_zero : ℕ → ℕ → DiskINode → ℕ → List ℕ → List ℕ
new_zero nb n d z img = pick (ltb d.head.size z) (cleaned nb n d.head.size z img) img

-- "every byte from the old size to the new reads zero after any growth"
unfoldable pub resized : ℕ → ℕ → DiskINode → ℕ → List ℕ → List ℕ
resized nb n d len img = new_zero nb n d len (fitted nb n d len img)
