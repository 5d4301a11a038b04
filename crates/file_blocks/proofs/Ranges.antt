-- Arithmetics of pieces and runs: that a run's slots are on the card, where a piece begins and ends, and that bytes of different blocks differ.
-- Assumes nothing.
use Prim.Native.Nat.{ℕ, ◌+◌, ◌-◌, ◌*◌, ◌≤◌, ◌<◌, min, max}
use mathlib.Core.Path.{◌≡◌}
use mathlib.Core.Logic.{◌≢◌}
use Rattle.words.specs.Inner.{Apart}
use native.Mathlib.Omega.{arith}
use lib.ListN.{length}
use Rattle.file_blocks.specs.Bytes.{piece_lo, piece_hi}
use Rattle.file_blocks.specs.Inner.{SpanAsks}
use Rattle.file_blocks.specs.Ranges.{within}
use mathlib.Core.List.{List}

-- ---- a number brought into a range

pub within_low : (lo hi x : ℕ) → lo ≤ within lo hi x
within_low lo hi x = omega arith

pub within_high : (lo hi x : ℕ) → lo ≤ hi → within lo hi x ≤ hi
within_high lo hi x h = omega arith

-- ---- room: the slots c up to c + 1024 of pointer block b, from i up to e, are on the card

pub room : (b nb len c i e : ℕ) → b < nb → 4096 * nb ≤ len → c ≤ i → i ≤ c + 1024 → e ≤ c + 1024 → 4096 * b + 4 * (i - c) + 4 * (e - i) ≤ len
room b nb len c i e l h ci ic ec = omega arith

-- the slot of block j is the (j - i)-th of a run that begins at block i, and the (j - c)-th of a pointer block whose first is block c
pub shift : (a c i j : ℕ) → c ≤ i → i ≤ j → a + 4 * (i - c) + 4 * (j - i) ≡ a + 4 * (j - c)
shift a c i j ci ij = omega arith

pub indirect_room : (b nb len f g : ℕ) → b < nb → 4096 * nb ≤ len
    → 4096 * b + 4 * (within 12 1036 f - 12) + 4 * (within 12 1036 g - within 12 1036 f) ≤ len
indirect_room b nb len f g l h =
    room b nb len 12 (within 12 1036 f) (within 12 1036 g) l h (within_low 12 1036 f) (within_high 12 1036 f (omega arith))
    (within_high 12 1036 g (omega arith))

-- what fits into a list fits into one that is as long
pub same_room : (n : ℕ) (out x : List ℕ) → length out ≡ length x → n ≤ length x → n ≤ length out
same_room n out x e h = omega arith

-- ---- what reading or filling a span asks, it asks of a part of it

pub span_part : (img : List ℕ) (nb i e j k off end : ℕ) (R : Type 0) → SpanAsks img nb i e off end R → (j < k → (i ≤ j) × (k ≤ e))
    → SpanAsks img nb j k off end R
span_part img nb i e j k off end R s h = (s.0, inside, s.2, s.3, s.4)
  where
    inside : j < k → (off ≤ 4096 * j + 4096) × (4096 * k ≤ end + 4095)
    inside l =
        let p = h l in
        let q = s.1 (omega arith) in
        (omega arith, omega arith)

-- and of a card that is as long
pub span_long : (img out : List ℕ) (nb i e off end : ℕ) (R : Type 0) → length out ≡ length img → SpanAsks img nb i e off end R
    → SpanAsks out nb i e off end R
span_long img out nb i e off end R l s = (same_room _ _ _ l s.0, s.1, s.2, s.3, s.4)

-- ---- a piece: where its bytes begin and end, in the file

pub piece_start : (off j : ℕ) → 4096 * j + piece_lo off j ≡ max off (4096 * j)
piece_start off j = omega arith

pub piece_stop : (off end j : ℕ) → off ≤ end → off < 4096 * j + 4096 → 4096 * j < end
    → 4096 * j + piece_lo off j + (piece_hi end j - piece_lo off j) ≡ min end (4096 * j + 4096)
piece_stop off end j h a b = omega arith

-- ---- places on the card: bytes of different blocks differ

pub other_block : (b c lo k s : ℕ) → c ≢ b → lo + k ≤ 4096 → s < 4096 → Apart (4096 * c + s) 1 (4096 * b + lo) k
other_block b c lo k s d h l p q = omega arith

pub its_block : (b c s p : ℕ) → s < 4096 → 4096 * c ≤ p → p < 4096 * c + 4096 → p ≡ 4096 * b + s → b ≡ c
its_block b c s p l h t e = omega arith
