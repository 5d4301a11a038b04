use lib.ListN.{length, drop}
use Rattle.card_layout.specs.Inode.{put_words}
use mathlib.Core.Path.{◌≡◌}
use Prim.Native.Nat.{◌+◌, ◌*◌}
use Rattle.card_layout.proofs.inode.put_slots.Given as goal

abbrev pub invariant-loop-i : goal.invariant-loop-i
invariant-loop-i l = (length l.image ≡ length l.initial.image) × (put_words l.image (l.at + 4 * l.i) (drop l.i l.d) ≡ put_words l.initial.image l.at l.d)
