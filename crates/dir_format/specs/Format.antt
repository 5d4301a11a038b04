-- Format (RULES): "to a byte size rounds blocks up, answers 12 outside 16 to 32,768 blocks or if the slice is short, writes 48 superblock bytes (text
-- "simple file system"), the map, the root record, and two entries in block 3; all else stays".
use Rattle.std.specs.Prelude.{ℕ, ◌+◌, ◌-◌, ◌*◌, List, ◌∷◌, ltb, length, replicate, Result, Err}
use Rattle.words.specs.Words.{pick}
use Rattle.words.specs.Runs.{copied, zeroed, turns}
use Rattle.card_layout.specs.Sizes.{fewest, most, maps_for, first_after_map, blocks_for, block_size, entry_size}
use Rattle.card_layout.specs.Super.{right_magic, super_put}
use Rattle.card_layout.specs.Inode.{encoded, new_inode, with_size, with_links, with_blocks, with_direct}
use Rattle.card_layout.specs.Entry.{entry_of}
use Rattle.card_layout.specs.declared.superblock.SuperBlock.{SuperBlock}
use Rattle.card_layout.specs.declared.inode.FileType.TheVariants.{Dir}
use Rattle.card_layout.specs.declared.inode.DiskINode.{DiskINode}
use Rattle.card_map.specs.Bits.{set_bit}
use Rattle.dir_entries.specs.Names.{dot, dots}
use Rattle.refusals.specs.Refusals.{if_done, done}
use Rattle.refusals.specs.declared.Refusal.TheVariants.{InvalidParam}
use Rattle.refusals.specs.declared.Refusal.{Refusal}

-- for a slice of len bytes
unfoldable pub format_answer : ℕ → ℕ → Result Unit Refusal
format_answer len space =
    pick (ltb (blocks_for space) fewest) (Err InvalidParam)
    (pick (ltb most (blocks_for space)) (Err InvalidParam)
    (pick (ltb len (block_size * blocks_for space)) (Err InvalidParam) done))

-- "simple file system", and zeros up to 32 bytes
abbrev pub info_text : List ℕ
info_text =
    115 ∷ 105 ∷ 109 ∷ 112 ∷ 108 ∷ 101 ∷ 32 ∷ 102 ∷ 105 ∷ 108 ∷ 101 ∷ 32 ∷ 115 ∷ 121 ∷ 115 ∷ 116 ∷ 101 ∷ 109 ∷ replicate 14 0

-- the block of the root's two entries: the first after the map
abbrev pub root_block : ℕ → ℕ
root_block nb = first_after_map nb

-- every block after that one is unused
abbrev pub fresh_super : ℕ → SuperBlock
fresh_super nb =
    record { magic = right_magic; blocks = nb; unused_blocks = nb - (root_block nb + 1); info = info_text; freemap_blocks = maps_for nb }

-- the map: clear, then a bit for each of them
unfoldable pub fresh_map : ℕ → List ℕ → List ℕ
fresh_map nb img = turns (λ b x. set_bit x b) (root_block nb + 1) (nb - (root_block nb + 1)) (zeroed img 8192 (block_size * maps_for nb))

abbrev pub root_record : ℕ → DiskINode
root_record nb = with_direct (with_blocks (with_size (with_links (new_inode Dir) 2) 520) 1) 0 (root_block nb)

-- its two entries
abbrev pub dots_put : ℕ → List ℕ → List ℕ
dots_put nb img =
    copied (copied img (block_size * root_block nb) (entry_of 1 dot) 0 entry_size)
    (block_size * root_block nb + entry_size) (entry_of 1 dots) 0 entry_size

unfoldable pub formatted : ℕ → List ℕ → List ℕ
formatted nb img = dots_put nb (encoded (fresh_map nb (super_put img (fresh_super nb))) 1 (root_record nb))

unfoldable pub format_card : List ℕ → ℕ → List ℕ
format_card img space = if_done (format_answer (length img) space) (formatted (blocks_for space) img) img
