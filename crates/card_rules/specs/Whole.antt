-- When a card is whole: RULES, rules 1 to 7.
use Rattle.std.specs.Prelude.{ℕ, ◌+◌, ◌*◌, ◌%◌, ◌≤◌, ◌<◌, ◌≡◌, List, [], ◌∷◌, length}
use Rattle.words.specs.Sums.{δ, cnt}
use Rattle.card_layout.specs.Sizes.{fewest, most, maps_for, block_size, entry_size, map_bits}
use Rattle.card_layout.specs.Super.{right_magic, magic, blocks, unused, maps}
use Rattle.card_layout.specs.Inode.{last_kind, Shape, size, kind, links, count, indirect, double}
use Rattle.card_layout.specs.Entry.{Name}
use Rattle.card_map.specs.Bits.{map_bit, free_bits}
use Rattle.card_rules.specs.View.{entry, name, entries, kids, kid, subs, naming, uses}

-- rule 1: "The magic is right; blocks and F are as above; the slice is long enough."
pub record Sized (img : List ℕ) : Type 0 where
  pub magic_right : magic img ≡ right_magic
  pub few : fewest ≤ blocks img
  pub many : blocks img ≤ most
  pub mapped : maps img ≡ maps_for (blocks img)
  pub long : block_size * blocks img ≤ length img

-- rule 3: the root, in block 1, "and all that entries name, walking down from it and skipping "." and ".."
pub data Reached (img : List ℕ) : ℕ → Type 0 where
  root : Reached img 1
  down : {n : ℕ} (m j : ℕ) → Reached img n → j < kids img n → kid img n j ≡ m → Reached img m

-- rule 4: "a kind of the three", and the blocks and pointers that its size asks for
pub record Inode (img : List ℕ) (n : ℕ) : Type 0 where
  pub kind_low : 1 ≤ kind img n
  pub kind_high : kind img n ≤ last_kind
  pub shape : Shape (size img n) (count img n) (indirect img n) (double img n)

-- rule 6, the first two entries of directory n: "Entry 0 is "." with its own number, entry 1 ".."" (46 is ".")
pub record Dots (img : List ℕ) (n : ℕ) : Type 0 where
  pub self : entry img n 0 ≡ n
  pub dot : name img n 0 ≡ 46 ∷ []
  pub dots : name img n 1 ≡ 46 ∷ 46 ∷ []

-- rule 6, its names: "Names differ and have 1 to 255 bytes before the NUL"
pub record Names (img : List ℕ) (n : ℕ) : Type 0 where
  pub named : (k : ℕ) → k < entries img n → Name (name img n k)
  pub differ : (i k : ℕ) → i < k → k < entries img n → name img n i ≡ name img n k → ⊥

-- rule 6, one directory by itself: "size is a multiple of 260 and at least 520", and its entries
pub record Dir (img : List ℕ) (n : ℕ) : Type 0 where
  pub even : size img n % entry_size ≡ 0
  pub least : 520 ≤ size img n
  pub first : Dots img n
  pub names : Names img n

-- The rules on blocks, over a given listing of inodes, whatever the tree of directories says.
pub record Sound (img : List ℕ) (l : List ℕ) : Type 0 where
  -- rule 1
  pub sized : Sized img
  -- rule 2: "Map bits at or past the block count .. are clear" (those of blocks 0, 1 and the map: corollary `reserved`);
  -- "Unused equals the number of set bits"
  pub past : (b : ℕ) → blocks img ≤ b → b < map_bits * maps img → map_bit img b ≡ 0
  pub free : free_bits img (blocks img) ≡ unused img
  -- rule 4
  pub inode : (n : ℕ) → 0 < cnt n l → Inode img n
  -- rule 5: each block is in use "once only, or has its bit set, and never both"; "every number in use is below the block count"
  pub once : (b : ℕ) → b < blocks img → uses img l b + map_bit img b ≡ 1
  pub below : (b : ℕ) → blocks img ≤ b → uses img l b ≡ 0

-- The rules on the tree of directories, over the listing of its inodes.
pub record Tree (img : List ℕ) (l : List ℕ) : Type 0 where
  -- rule 3: the inodes are those that are reached, each listed once; the root "is a directory"
  pub all : (n : ℕ) → Reached img n → cnt n l ≡ 1
  pub only : (n : ℕ) → 0 < cnt n l → Reached img n
  pub root_dir : kind img 1 ≡ 2
  -- rule 6: each directory by itself; ".." has "its parent's (the root's is itself)"; "one entry at most names a given directory and none names the root"
  pub dir : (n : ℕ) → Reached img n → kind img n ≡ 2 → Dir img n
  pub root_up : entry img 1 1 ≡ 1
  pub up : (n j : ℕ) → Reached img n → j < kids img n → kind img (kid img n j) ≡ 2 → entry img (kid img n j) 1 ≡ n
  pub named : (n : ℕ) → Reached img n → kind img n ≡ 2 → δ 1 n + naming img l n ≡ 1
  -- rule 7: "A file's or symbolic link's links equal the entries naming it; a directory's are 2 plus its subdirectories."
  pub file_links : (n : ℕ) → Reached img n → (kind img n ≡ 2 → ⊥) → links img n ≡ naming img l n
  pub dir_links : (n : ℕ) → Reached img n → kind img n ≡ 2 → links img n ≡ 2 + subs img n

pub record Whole (img : List ℕ) : Type 0 where
  pub inodes : List ℕ
  pub sound : Sound img inodes
  pub tree : Tree img inodes
