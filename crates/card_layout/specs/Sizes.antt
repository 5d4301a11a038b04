-- The sizes of a card (RULES, "The card"). What a later request changes, it changes here.
use Rattle.std.specs.Prelude.{ℕ, ◌+◌, ◌/◌}

-- "A block has 4,096 bytes"
abbrev pub block_size : ℕ
block_size = 4096

-- the bits of a block of the map
abbrev pub map_bits : ℕ
map_bits = 32768

-- "Entry, 260 bytes"
abbrev pub entry_size : ℕ
entry_size = 260

-- the most links that a record can count
abbrev pub full_links : ℕ
full_links = 65535

-- "It has 16 to 32,768 blocks"
abbrev pub fewest : ℕ
fewest = 16

abbrev pub most : ℕ
most = 32768

-- F, the number of map blocks: one bit a block, so blocks / 32,768 rounded up
unfoldable pub maps_for : ℕ → ℕ
maps_for blocks = (blocks + 32767) / map_bits

-- the block after the superblock, the root inode and the map
unfoldable pub first_after_map : ℕ → ℕ
first_after_map blocks = 2 + maps_for blocks

-- "blocks = size / 4,096 rounded up"
abbrev pub blocks_for : ℕ → ℕ
blocks_for size = (size + 4095) / block_size
