-- Inner: what decoding the superblock hands back; no part of what a call promises.
use Rattle.std.specs.Prelude.{ℕ, List, take, drop}
use Rattle.card_layout.specs.declared.superblock.SuperBlock.{SuperBlock}
use Rattle.card_layout.specs.Super.{blocks, magic, maps, unused}

abbrev pub super_at : List ℕ → SuperBlock
super_at img =
    record { magic = magic img; blocks = blocks img; unused_blocks = unused img; info = take 32 (drop 12 img); freemap_blocks = maps img }
