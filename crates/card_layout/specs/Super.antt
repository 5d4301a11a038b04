-- The superblock (RULES): "block 0, 48 bytes: magic at 0, blocks at 4, unused blocks at 8, 32 bytes of text at 12, F at 44".
use Rattle.std.specs.Prelude.{ℕ, List}
use Rattle.words.specs.Words.{word, put_word}
use Rattle.words.specs.Runs.{copied}
use Rattle.card_layout.specs.declared.superblock.SuperBlock.{SuperBlock}

abbrev pub right_magic : ℕ
right_magic = 0x2f8dbe2b

abbrev pub magic : List ℕ → ℕ
magic img = word img 0

abbrev pub blocks : List ℕ → ℕ
blocks img = word img 4

abbrev pub unused : List ℕ → ℕ
unused img = word img 8

-- F as the card has it
abbrev pub maps : List ℕ → ℕ
maps img = word img 44

-- the card with another unused count
abbrev pub put_unused : List ℕ → ℕ → List ℕ
put_unused img v = put_word img 8 v

-- the card with this superblock
unfoldable pub super_put : List ℕ → SuperBlock → List ℕ
super_put img s =
    put_word
    (copied (put_word (put_word (put_word img 0 s.magic) 4 s.blocks) 8 s.unused_blocks) 12 s.info 0 32)
    44
    s.freemap_blocks
