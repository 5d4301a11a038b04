-- `check_walk::judge::tally` meets its contract. The loop's invariant: the first i inodes of the queue have the right links. Assumes nothing.
use Prim.Native.Nat.{ℕ, ◌<◌}
use lib.ListN.{get_or}
use Rattle.check_walk.specs.Inner.{seen_at, Tally}
use Rattle.check_walk.proofs.judge.tally.Given as goal

abbrev pub invariant-loop-i : goal.invariant-loop-i
invariant-loop-i l = ((k : ℕ) → k < l.i → Tally l.image (get_or l.s k 0) (seen_at l.s l.nb (get_or l.s k 0)))
