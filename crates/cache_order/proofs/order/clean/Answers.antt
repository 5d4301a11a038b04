-- `cache_order::order::clean` meets its contract. The invariant: the statuses passed are changed, the others not. Assumes nothing.
use Prim.Native.Nat.{◌*◌}
use mathlib.Core.Path.{◌≡◌}
use native.Mathlib.Omega.{arith}
use Rattle.words.proofs.Runs.{puts_none}
use Rattle.cache_order.specs.Slots.{slots_in}
use Rattle.cache_order.specs.Order.{sync_slots, clean_status}
use Rattle.cache_order.proofs.Laws.{change_more}
use Rattle.cache_order.proofs.order.clean.Goals as goal

pub loop-i-init : goal.loop-i-init
loop-i-init c = puts_none _ _ _

pub loop-i-preserved : goal.loop-i-preserved
loop-i-preserved c = change_more _ _ (λ k. 3 * k) clean_status _ _ (λ k l z. omega arith) c.loop-i.invariant c.clean_status.ensures

pub returns : goal.returns
unfolding sync_slots
returns c = let e : c.loop-i.i ≡ slots_in c.args.slots.now = omega arith in rw (← e) c.loop-i.invariant
