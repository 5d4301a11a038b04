-- What read, write and resize of file n leave where they are done (RULES, "What calls do"), in RULES' words. img is the card before, out the card after.
use Rattle.std.specs.Prelude.{ℕ, ◌+◌, ◌-◌, ◌*◌, ◌/◌, ◌%◌, ◌≤◌, ◌<◌, min, max, ◌≡◌, ◌≢◌, ◌⊎◌, List, length}
use Rattle.words.specs.Words.{byte}
use Rattle.card_layout.specs.Sizes.{block_size, blocks_for}
use Rattle.card_layout.specs.Super.{blocks, unused}
use Rattle.card_layout.specs.Inode.{size, kind, links, count}
use Rattle.card_layout.specs.Slots.{owned}
use Rattle.card_map.specs.Bits.{map_bit}
use Rattle.card_rules.specs.View.{file_byte, data_at}
use Rattle.card_rules.specs.Places.{Place, held, InUse}
use Rattle.card_rules.specs.Same.{SameFile}
use Rattle.card_rules.specs.Whole.{Reached}

-- k bytes of n from off on are in the buffer
pub record ReadEffect (img : List ℕ) (n off : ℕ) (buf buf' : List ℕ) (k : ℕ) : Type 0 where
  -- "returns min(size, offset + length) - min(size, offset)"
  pub count_is : k ≡ min (size img n) (off + length buf) - min (size img n) off
  pub bytes : (i : ℕ) → i < k → byte buf' i ≡ file_byte img n (off + i)
  -- "the buffer past that stays"
  pub past : (i : ℕ) → k ≤ i → byte buf' i ≡ byte buf i
  pub length_is : length buf' ≡ length buf

-- "the lowest numbered free block is always taken": what n has and had not lies below every block that is free still
abbrev pub Lowest : List ℕ → List ℕ → ℕ → Type 0
Lowest img out n = (p : Place) → InUse out n p → (InUse img n p → ⊥) → (b : ℕ) → b < blocks img → map_bit out b ≡ 1 → held out n p < b

-- what every change of a file leaves: its kind and links, the blocks that it had and has, blocks that were free, the lowest, where it has more, N(new) - N(old)
-- of the unused ones, and all other inodes
pub record ChangeEffect (img out : List ℕ) (n : ℕ) : Type 0 where
  pub kind_is : kind out n ≡ kind img n
  pub links_is : links out n ≡ links img n
  pub places : (p : Place) → InUse img n p → InUse out n p → held out n p ≡ held img n p
  pub was_free : (p : Place) → InUse out n p → (InUse img n p → ⊥) → map_bit img (held out n p) ≡ 1
  pub lowest : Lowest img out n
  pub takes : unused out + owned (count out n) ≡ unused img + owned (count img n)
  pub others : (m : ℕ) → Reached img m → m ≢ n → SameFile img out m

-- byte o of n is the one that the card had at its place before
abbrev pub Stood : List ℕ → List ℕ → ℕ → ℕ → Type 0
Stood img out n o = file_byte out n o ≡ byte img (block_size * data_at out n (o / block_size) + o % block_size)

-- n has len bytes
pub record ResizeEffect (img out : List ℕ) (n len : ℕ) : Type 0 where
  pub size_is : size out n ≡ len
  pub count_is : count out n ≡ blocks_for len
  pub changed : ChangeEffect img out n
  pub kept : (o : ℕ) → o < size img n → o < len → file_byte out n o ≡ file_byte img n o
  -- "every byte from the old size to the new reads zero after any growth", "Bytes beyond the new size remain as they were", also in a block that is new
  pub zeros : (o : ℕ) → size img n ≤ o → o < len → file_byte out n o ≡ 0
  pub beyond : (o : ℕ) → len ≤ o → o < block_size * count out n → Stood img out n o

-- the bytes of src are in n from off on; it "first resizes if size is below offset + length, then returns the full length" k
pub record WriteEffect (img out : List ℕ) (n off : ℕ) (src : List ℕ) (k : ℕ) : Type 0 where
  pub returns : k ≡ length src
  pub size_is : size out n ≡ max (size img n) (off + length src)
  pub count_is : count out n ≡ blocks_for (size out n)
  pub changed : ChangeEffect img out n
  pub written : (i : ℕ) → i < length src → file_byte out n (off + i) ≡ byte src i
  pub kept : (o : ℕ) → o < size img n → (o < off) ⊎ (off + length src ≤ o) → file_byte out n o ≡ file_byte img n o
  -- "and so does the gap of a write past the end"
  pub gap : (o : ℕ) → size img n ≤ o → o < off → file_byte out n o ≡ 0
  pub beyond : (o : ℕ) → size out n ≤ o → o < block_size * count out n → Stood img out n o
