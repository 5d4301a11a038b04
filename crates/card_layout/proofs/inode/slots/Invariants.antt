use Rattle.card_layout.specs.Inode.{block_id}
use Rattle.words.specs.Words.{word}
use lib.ListN.{length, get_or}
use mathlib.Core.Path.{◌≡◌}
use Prim.Native.Nat.{ℕ, ◌<◌, ◌+◌, ◌*◌}
use Rattle.card_layout.proofs.inode.slots.Given as goal

abbrev pub invariant-loop-i : goal.invariant-loop-i
invariant-loop-i l = (length l.d ≡ 12) × ((k : ℕ) → k < l.i → get_or l.d k (block_id 0) ≡ block_id (word l.image (l.at + 4 * k)))
