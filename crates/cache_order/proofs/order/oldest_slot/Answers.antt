-- `cache_order::order::oldest_slot` meets its contract. The invariant: `best` is the oldest of the slots passed. Assumes nothing.
use mathlib.Core.Path.{refl}
use native.Mathlib.Numerals.{add-one}
use native.Mathlib.Omega.{arith}
use Rattle.cache_order.specs.Order.{oldest}
use Rattle.cache_order.proofs.Laws.{oldest_below}
use Rattle.cache_order.proofs.order.oldest_slot.Goals as goal

pub loop-j-init : goal.loop-j-init
unfolding oldest
loop-j-init c = refl

pub older-best-requires : goal.older-best-requires
older-best-requires c = let l = c.loop-j in (rw l.invariant (oldest_below c.args.slots.now l.j _ (omega arith) (omega arith)), omega arith)

pub loop-j-preserved : goal.loop-j-preserved
unfolding oldest
loop-j-preserved c = let l = c.loop-j in rw (add-one l.j, ← l.invariant) c.older-best.ensures
