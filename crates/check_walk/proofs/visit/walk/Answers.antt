-- `check_walk::visit::walk` meets its contract. The loop's invariant is `Progress`, and the scratch keeps its length.
-- The measure is nb - h: the queue is no longer
-- than the card. Assumes nothing.
use native.Mathlib.Omega.{arith}
use Rattle.check_walk.proofs.Queueing.{queue_le}
use Rattle.check_walk.proofs.visit.walk.Goals as goal

pub loop-h-smaller : goal.loop-h-smaller
loop-h-smaller c = omega (arith, queue_le _ _ _ _ c.loop-h.invariant.1.queue)
