-- Inner: what the functions that change a file's blocks ask of a card: its size, and nothing of what it holds.
use Rattle.std.specs.Prelude.{ℕ, ◌+◌, ◌*◌, ◌≤◌, ◌<◌, Bool, true, false, List, length, ltb}
use Rattle.words.specs.Words.{pick}
use Rattle.card_layout.specs.Sizes.{fewest, most, block_size}
use Rattle.card_layout.specs.Inode.{indirect, double}
use Rattle.file_blocks.specs.Ranges.{part_from, part_to, parts_from, parts_to, in_record, in_indirect, in_second, below_double}
use Rattle.file_blocks.specs.Bytes.{after_of, first_of}

-- a card of nb blocks, as far as sizes go
pub record Sizes (img : List ℕ) (nb : ℕ) : Type 0 where
  pub few : fewest ≤ nb
  pub many : nb ≤ most
  pub long : block_size * nb ≤ length img

-- ---- reading or filling the bytes off to end of a file, on a card of nb blocks: R says that the other side of the copy has room for them

-- all of them, of inode n
abbrev pub RangeAsks : List ℕ → ℕ → ℕ → ℕ → ℕ → Type 0 → Type 0
RangeAsks img nb n off end R = (block_size * nb ≤ length img) × (n < nb) × (off ≤ end) × (end ≤ 4294967295) × R

-- those of file block j
abbrev pub PieceAsks : List ℕ → ℕ → ℕ → ℕ → ℕ → Type 0 → Type 0
PieceAsks img nb off end j R =
    (block_size * nb ≤ length img) × (j ≤ 1048576) × (off ≤ block_size * j + block_size) × (block_size * j ≤ end) × (off ≤ end) × R

-- those of file blocks i up to e
abbrev pub SpanAsks : List ℕ → ℕ → ℕ → ℕ → ℕ → ℕ → Type 0 → Type 0
SpanAsks img nb i e off end R =
    (block_size * nb ≤ length img) × (i < e → (off ≤ block_size * i + block_size) × (block_size * e ≤ end + 4095)) × (off ≤ end) × (end ≤ 4294967295) × R

-- the blocks that second-level block q lists, and the second-level blocks that it touches: from, up to
abbrev pub level_from : ℕ → ℕ → ℕ
level_from off q = part_from (first_of off) q

abbrev pub level_to : ℕ → ℕ → ℕ
level_to end q = part_to (after_of end) q

abbrev pub levels_from : ℕ → ℕ
levels_from off = parts_from (first_of off)

abbrev pub levels_to : ℕ → ℕ
levels_to end = parts_to (after_of end)

-- ---- walks: those of Ranges put together, and whether a pointer block comes with a change of length

-- the slots below the double indirect block d, where that is a block of the card
abbrev pub in_double : {A : Type 0} → (A → List ℕ) → (ℕ → ℕ → ℕ → A → A) → ℕ → ℕ → ℕ → ℕ → A → A
in_double card run nb d i e x = pick (ltb d nb) (below_double card (λ s q y. in_second run nb s q i e y) d i e x) x

-- the three ranges one after the other, of inode n, whose pointers are read on the card that belongs to the state
abbrev pub by_indirect : {A : Type 0} → (A → List ℕ) → (ℕ → ℕ → ℕ → A → A) → ℕ → ℕ → ℕ → ℕ → A → A
by_indirect card run nb n i e x = in_indirect run nb (indirect (card x) n) i e x

abbrev pub by_double : {A : Type 0} → (A → List ℕ) → (ℕ → ℕ → ℕ → A → A) → ℕ → ℕ → ℕ → ℕ → A → A
by_double card run nb n i e x = in_double card run nb (double (card x) n) i e x

abbrev pub in_file : {A : Type 0} → (A → List ℕ) → (ℕ → ℕ → ℕ → A → A) → ℕ → ℕ → ℕ → ℕ → A → A
in_file card run nb n i e x = by_double card run nb n i e (by_indirect card run nb n i e (in_record run n i e x))

-- whether a file of `more` blocks has the pointer block that comes with block m, and one of `fewer` blocks has not
abbrev pub comes_with : ℕ → ℕ → ℕ → Bool
comes_with m fewer more = pick (ltb fewer m) (pick (ltb more m) false true) false
