-- The inode record (RULES): "the first 80 bytes of its own block: size (4 bytes) at 0, kind (2) at 4, links (2) at 6, blocks (4) at 8, twelve
-- direct slots at 12, indirect at 60, double indirect at 64, padding 68 to 71, device number (8) at 72". "An inode's number is its block."
use Rattle.std.specs.Prelude.{
  ℕ,
  zero,
  suc,
  ◌+◌,
  ◌*◌,
  ◌≤◌,
  ◌<◌,
  ◌^◌,
  ◌≡◌,
  List,
  [],
  ◌∷◌,
  Option,
  Some,
  None,
  Result,
  Ok,
  Err,
  eqb,
  length,
  get_or,
  set,
  replicate,
}
use Rattle.words.specs.Words.{pick, half, word, long, put_half, put_word, put_long}
use Rattle.card_layout.specs.Sizes.{blocks_for, block_size}
use Rattle.card_layout.specs.declared.BlockId.{BlockId}
use Rattle.card_layout.specs.declared.inode.FileType.{FileType}
use Rattle.card_layout.specs.declared.inode.FileType.TheVariants.{File, Dir, SymLink}
use Rattle.card_layout.specs.declared.inode.Head.{Head}
use Rattle.card_layout.specs.declared.inode.DiskINode.{DiskINode}
use Rattle.refusals.specs.declared.Refusal.{Refusal}
use Rattle.refusals.specs.declared.Refusal.TheVariants.{InvalidParam}

-- ---- the record's fields on any bytes

abbrev pub size : List ℕ → ℕ → ℕ
size img n = word img (block_size * n)

abbrev pub kind : List ℕ → ℕ → ℕ
kind img n = half img (block_size * n + 4)

abbrev pub links : List ℕ → ℕ → ℕ
links img n = half img (block_size * n + 6)

abbrev pub count : List ℕ → ℕ → ℕ
count img n = word img (block_size * n + 8)

abbrev pub direct : List ℕ → ℕ → ℕ → ℕ
direct img n i = word img (block_size * n + 12 + 4 * i)

abbrev pub indirect : List ℕ → ℕ → ℕ
indirect img n = word img (block_size * n + 60)

abbrev pub double : List ℕ → ℕ → ℕ
double img n = word img (block_size * n + 64)

abbrev pub padding : List ℕ → ℕ → ℕ
padding img n = word img (block_size * n + 68)

abbrev pub device : List ℕ → ℕ → ℕ
device img n = long img (block_size * n + 72)

-- ---- kinds: "1, 3 and 2 on the card are File, SymLink and Dir"

abbrev pub kind_no : FileType → ℕ
kind_no File = 1
kind_no Dir = 2
kind_no SymLink = 3

-- the kind of a number, 12 where it is none: "known kind" is 1, 2 or 3
abbrev pub kind_of : ℕ → Result FileType Refusal
kind_of k = pick (eqb k 1) (Ok File) (pick (eqb k 2) (Ok Dir) (pick (eqb k 3) (Ok SymLink) (Err InvalidParam)))

-- the kinds on a card are numbered 1 to this
abbrev pub last_kind : ℕ
last_kind = 3

-- ---- rule 4, on the numbers of a record

-- a pointer p, of a file of c blocks, is "nonzero exactly from" lim blocks on
pub record Exact (lim c p : ℕ) : Type 0 where
  pub from : lim ≤ c → 0 < p
  pub to : c < lim → p ≡ 0

-- "blocks = size / 4,096 rounded up, indirect nonzero exactly from 12 blocks, double indirect exactly from 1,036"
pub record Shape (size count indirect double : ℕ) : Type 0 where
  pub counted : count ≡ blocks_for size
  pub single : Exact 12 count indirect
  pub twofold : Exact 1036 count double

-- ---- decoding

-- the block of a number
abbrev pub block_id : ℕ → BlockId
block_id b = record { 0 = b }

abbrev pub head_at : List ℕ → ℕ → FileType → Head
head_at img n k =
    record {
      size = size img n;
      type_ = k;
      nlinks = links img n;
      blocks = count img n;
      indirect = block_id (indirect img n);
      db_indirect = block_id (double img n);
      padding = padding img n;
      device_inode_id = device img n;
    }

-- the scalar head of record n, by the number of its kind
unfoldable pub head_by : ℕ → List ℕ → ℕ → Option Head
head_by k img n =
    pick (eqb k 1) (Some (head_at img n File))
    (pick (eqb k 2) (Some (head_at img n Dir))
    (pick (eqb k 3) (Some (head_at img n SymLink)) None))

abbrev pub decoded : List ℕ → ℕ → Option Head
decoded img n = head_by (kind img n) img n

-- the blocks of the n words from `at` on, and the numbers of a list of blocks put there
unfoldable pub words : ℕ → List ℕ → ℕ → List BlockId
words zero xs at = []
words (suc n) xs at = block_id (word xs at) ∷ words n xs (at + 4)

unfoldable pub put_words : List ℕ → ℕ → List BlockId → List ℕ
put_words xs at [] = xs
put_words xs at (b ∷ bs) = put_words (put_word xs at b.0) (at + 4) bs

-- the number of block i of a list, 0 past its end
abbrev pub number_at : List BlockId → ℕ → ℕ
number_at bs i = (get_or bs i (block_id 0)).0

abbrev pub directs : List ℕ → ℕ → List BlockId
directs img n = words 12 img (block_size * n + 12)

-- ---- encoding: all 80 bytes, in the order of the fields

unfoldable pub put_front : List ℕ → ℕ → Head → List ℕ
put_front img at h =
    put_word (put_half (put_half (put_word img at h.size) (at + 4) (kind_no h.type_)) (at + 6) h.nlinks) (at + 8) h.blocks

unfoldable pub put_back : List ℕ → ℕ → Head → List ℕ
put_back img at h =
    put_long
    (put_word (put_word (put_word img (at + 60) h.indirect.0) (at + 64) h.db_indirect.0) (at + 68) h.padding)
    (at + 72)
    h.device_inode_id

unfoldable pub encoded : List ℕ → ℕ → DiskINode → List ℕ
encoded img n d = put_back (put_words (put_front img (block_size * n) d.head) (block_size * n + 12) d.direct) (block_size * n) d.head

-- what holds of each record that code has: every field fits its bytes
pub record Fitting (d : DiskINode) : Type 0 where
  pub size : d.head.size < 2 ^ 32
  pub nlinks : d.head.nlinks < 2 ^ 16
  pub blocks : d.head.blocks < 2 ^ 32
  pub indirect : d.head.indirect.0 < 2 ^ 32
  pub double : d.head.db_indirect.0 < 2 ^ 32
  pub padding : d.head.padding < 2 ^ 32
  pub device : d.head.device_inode_id < 2 ^ 64
  pub twelve : length d.direct ≡ 12
  pub slots : (k : ℕ) → number_at d.direct k < 2 ^ 32

-- ---- a new record: "A new record has zero padding", "device number .. 100 for none"

abbrev pub no_device : ℕ
no_device = 100

abbrev pub new_head : FileType → Head
new_head k =
    record { size = 0; type_ = k; nlinks = 0; blocks = 0; indirect = block_id 0; db_indirect = block_id 0; padding = 0; device_inode_id = no_device }

abbrev pub new_inode : FileType → DiskINode
new_inode k = record { head = new_head k; direct = replicate 12 (block_id 0) }

-- ---- "Each edit takes an inode record and hands back the new one": one field new, the others, padding and device number among them, as they were

abbrev pub head_with : Head → ℕ → ℕ → ℕ → BlockId → BlockId → Head
head_with h size nlinks blocks indirect double =
    record {
      size = size;
      type_ = h.type_;
      nlinks = nlinks;
      blocks = blocks;
      indirect = indirect;
      db_indirect = double;
      padding = h.padding;
      device_inode_id = h.device_inode_id;
    }

abbrev pub with_head : DiskINode → Head → DiskINode
with_head d h = record { head = h; direct = d.direct }

abbrev pub with_size : DiskINode → ℕ → DiskINode
with_size d v = with_head d (head_with d.head v d.head.nlinks d.head.blocks d.head.indirect d.head.db_indirect)

abbrev pub with_links : DiskINode → ℕ → DiskINode
with_links d v = with_head d (head_with d.head d.head.size v d.head.blocks d.head.indirect d.head.db_indirect)

abbrev pub with_blocks : DiskINode → ℕ → DiskINode
with_blocks d v = with_head d (head_with d.head d.head.size d.head.nlinks v d.head.indirect d.head.db_indirect)

abbrev pub with_indirect : DiskINode → ℕ → DiskINode
with_indirect d v = with_head d (head_with d.head d.head.size d.head.nlinks d.head.blocks (block_id v) d.head.db_indirect)

abbrev pub with_double : DiskINode → ℕ → DiskINode
with_double d v = with_head d (head_with d.head d.head.size d.head.nlinks d.head.blocks d.head.indirect (block_id v))

abbrev pub with_direct : DiskINode → ℕ → ℕ → DiskINode
with_direct d i v = record { head = d.head; direct = set d.direct i (block_id v) }
