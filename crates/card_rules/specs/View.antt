-- The views of a card on any bytes (RULES, "The card"), above the fields of superblock and inode (card_layout) and the map (card_map).
use Rattle.std.specs.Prelude.{ℕ, zero, suc, ◌+◌, ◌-◌, ◌*◌, ◌/◌, ◌%◌, List, [], ◌∷◌, eqb, ltb}
use Rattle.words.specs.Words.{pick, byte, word}
use Rattle.words.specs.Sums.{δ, sum_to, sum_on}
use Rattle.card_layout.specs.Sizes.{block_size, entry_size}
use Rattle.card_layout.specs.Super.{maps}
use Rattle.card_layout.specs.Inode.{size, kind, count, direct, indirect, double}
use Rattle.card_layout.specs.Slots.{slot_of, seconds}
use Rattle.card_layout.specs.Entry.{upto_nul}
use Rattle.card_layout.specs.declared.slot.Slot.{Slot}
use Rattle.card_layout.specs.declared.slot.Slot.TheVariants.{Direct, Indirect, Double, Past}

-- ---- the blocks of a file

-- slot i of pointer block b
abbrev pub slot : List ℕ → ℕ → ℕ → ℕ
slot img b i = word img (block_size * b + 4 * i)

-- pointer block j of inode n's second level
abbrev pub second : List ℕ → ℕ → ℕ → ℕ
second img n j = slot img (double img n) j

-- the block that a slot of inode n holds
abbrev pub block_in : List ℕ → ℕ → Slot → ℕ
block_in img n (Direct i) = direct img n i
block_in img n (Indirect i) = slot img (indirect img n) i
block_in img n (Double j i) = slot img (second img n j) i
block_in img n Past = 0

-- block i of file n: "its slot chosen by where the file block number falls"
unfoldable pub data_at : List ℕ → ℕ → ℕ → ℕ
data_at img n i = block_in img n (slot_of i)

-- ---- the bytes of a file

unfoldable pub file_byte : List ℕ → ℕ → ℕ → ℕ
file_byte img n o = byte img (block_size * data_at img n (o / block_size) + o % block_size)

-- k bytes of file n from o on, across blocks as they come
unfoldable pub file_bytes : List ℕ → ℕ → ℕ → ℕ → List ℕ
file_bytes img n o zero = []
file_bytes img n o (suc k) = file_byte img n o ∷ file_bytes img n (o + 1) k

-- ---- directories: "Entry k stands at byte 260k of its directory and may cross into another block"

abbrev pub entries : List ℕ → ℕ → ℕ
entries img n = size img n / entry_size

-- the number and the name of entry k
unfoldable pub entry : List ℕ → ℕ → ℕ → ℕ
entry img n k = word (file_bytes img n (entry_size * k) 4) 0

unfoldable pub name : List ℕ → ℕ → ℕ → List ℕ
name img n k = upto_nul (file_bytes img n (entry_size * k + 4) 256)

-- a directory's children are its entries after "." and ".."; nothing else has any
unfoldable pub kids : List ℕ → ℕ → ℕ
kids img n = pick (eqb (kind img n) 2) (entries img n - 2) 0

abbrev pub kid : List ℕ → ℕ → ℕ → ℕ
kid img n j = entry img n (2 + j)

-- how many children of n are m, and how many are directories
abbrev pub times_named : List ℕ → ℕ → ℕ → ℕ
times_named img n m = sum_to (λ j. δ (kid img n j) m) (kids img n)

abbrev pub subs : List ℕ → ℕ → ℕ
subs img n = sum_to (λ j. δ (kind img (kid img n j)) 2) (kids img n)

-- how many children of the listed inodes are m
abbrev pub naming : List ℕ → List ℕ → ℕ → ℕ
naming img l m = sum_on (λ n. times_named img n m) l

-- ---- blocks in use, as counts

-- how often inode n uses block b: as its own, as a pointer block, as data
unfoldable pub owns : List ℕ → ℕ → ℕ → ℕ
owns img n b =
    δ n b + pick (ltb (count img n) 12) 0 (δ (indirect img n) b) + pick (ltb (count img n) 1036) 0 (δ (double img n) b)
    + sum_to (λ j. δ (second img n j) b) (seconds (count img n))
    + sum_to (λ i. δ (data_at img n i) b) (count img n)

-- how often block b is in use: as the superblock, as a block of the map, or by a listed inode
unfoldable pub uses : List ℕ → List ℕ → ℕ → ℕ
uses img l b = δ 0 b + sum_to (λ i. δ (2 + i) b) (maps img) + sum_on (λ n. owns img n b) l
