-- What opening a card answers, and the scratch that it leaves (RULES): "Every call on an image but format first tests: fewer than 4,096 bytes (3),
-- magic (2), block count, F or slice length (3), scratch (1), the other rules of a whole card (3), numbers (4). Scratch is 32-bit words: untouched if
-- refused up to the scratch test, otherwise its first 4 a block are zero afterwards."
use Rattle.std.specs.Prelude.{ℕ, ◌*◌, ◌≤◌, ◌<◌, ◌≡◌, List, length, Result, Ok, Err}
use Rattle.words.specs.Runs.{zeroed}
use Rattle.card_layout.specs.Sizes.{block_size}
use Rattle.card_layout.specs.Super.{right_magic, magic, blocks, unused}
use Rattle.card_rules.specs.Whole.{Sized, Reached, Whole}
use Rattle.check_walk.specs.declared.Counts.{Counts}
use Rattle.refusals.specs.declared.Refusal.{Refusal}
use Rattle.refusals.specs.declared.Refusal.TheVariants.{ScratchShort, WrongFs, Damaged, NoInode}

-- the answer to opening a card: its counts, or one of the refusals 1 to 4
abbrev pub Opened : Type 0
Opened = Result Counts Refusal

-- "A refusal's other results are 0"
abbrev pub blocks_of : Opened → ℕ
blocks_of (Ok c) = c.blocks
blocks_of (Err e) = 0

abbrev pub unused_of : Opened → ℕ
unused_of (Ok c) = c.unused
unused_of (Err e) = 0

abbrev pub counts_at : List ℕ → Counts
counts_at img = record { blocks = blocks img; unused = unused img }

-- the scratch after a card that passed the scratch test
abbrev pub cleared : List ℕ → List ℕ → List ℕ
cleared img s = zeroed s 0 (4 * blocks img)

-- r is the answer to image img, scratch s and inode numbers a and b, and s' the scratch afterwards
pub data Opening (img s s' : List ℕ) (a b : ℕ) (r : Opened) : Type 0 where
  whole : 4 * blocks img ≤ length s → Whole img → Reached img a → Reached img b → r ≡ Ok (counts_at img) → s' ≡ cleared img s → Opening img s s' a b r
  no_inode : 4 * blocks img ≤ length s → Whole img → (Reached img a → Reached img b → ⊥) → r ≡ (Err NoInode) → s' ≡ cleared img s → Opening img s s' a b r
  damaged : Sized img → 4 * blocks img ≤ length s → (Whole img → ⊥) → r ≡ (Err Damaged) → s' ≡ cleared img s → Opening img s s' a b r
  scratch_short : Sized img → length s < 4 * blocks img → r ≡ (Err ScratchShort) → s' ≡ s → Opening img s s' a b r
  wrong_fs : block_size ≤ length img → (magic img ≡ right_magic → ⊥) → r ≡ (Err WrongFs) → s' ≡ s → Opening img s s' a b r
  unsized : (block_size ≤ length img → magic img ≡ right_magic) → (Sized img → ⊥) → r ≡ (Err Damaged) → s' ≡ s → Opening img s s' a b r
