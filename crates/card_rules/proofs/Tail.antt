-- "bytes past its last block are never read": whether a card is whole hangs on its blocks alone. Assumes nothing.
use mathlib.Core.Path.{◌≡◌}
use mathlib.Core.List.{List}
use Prim.Native.Nat.{ℕ, ◌+◌, ◌*◌, ◌<◌}
use native.Mathlib.Omega.{arith}
use lib.ListN.{length}
use Rattle.words.specs.Words.{byte}
use Rattle.words.specs.Sums.{cnt}
use Rattle.card_layout.specs.Super.{blocks}
use Rattle.card_rules.specs.Places.{held}
use Rattle.card_rules.specs.Whole.{Whole}
use Rattle.card_rules.proofs.Owners.{map_below, held_below}
use Rattle.card_rules.specs.Same.{SameBlock, SameFile}
use Rattle.card_rules.proofs.Frames.{file_held}
use Rattle.card_rules.proofs.Kept.{super_block, map_blocks, whole_same}

module _ {img out : List ℕ} (w : Whole img) (len : length out ≡ length img)
    (same : (k : ℕ) → k < 4096 * blocks img → byte out k ≡ byte img k) where
  block_in : (b : ℕ) → b < blocks img → SameBlock img out b
  block_in b l = record { bytes = λ k h. same (4096 * b + k) (omega arith) }

  file_in : (n : ℕ) → 0 < cnt n w.inodes → SameFile img out n
  file_in n h = file_held img out n (λ p u. block_in (held img n p) (held_below img w.inodes w.sound n p h u))

  -- another card of the same length with the same blocks is whole too
  pub tail_free : Whole out
  tail_free =
      whole_same w len (super_block (block_in 0 (omega (arith, w.sound.sized.few))))
      (map_blocks (λ i l. block_in (2 + i) (map_below img w.sound.sized i l)))
      (λ n h. (file_in n h).slots)
      (λ n h _. file_in n h)
