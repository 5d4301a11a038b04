-- `cache_order::order::push` meets its contract. The invariant: the places passed are changed, the others not. Assumes nothing.
use Prim.Native.Nat.{◌+◌, ◌*◌}
use mathlib.Core.Path.{◌≡◌}
use native.Mathlib.Omega.{arith}
use Rattle.words.proofs.Runs.{puts_none}
use Rattle.cache_order.specs.Slots.{slots_in}
use Rattle.cache_order.specs.Order.{pushed, place_after}
use Rattle.cache_order.proofs.Laws.{change_more}
use Rattle.cache_order.proofs.order.push.Goals as goal

pub loop-j-init : goal.loop-j-init
loop-j-init c = puts_none _ _ _

pub loop-j-preserved : goal.loop-j-preserved
loop-j-preserved c = change_more _ _ (λ k. 3 * k + 2) (place_after c.args.old) _ _ (λ k l z. omega arith) c.loop-j.invariant c.place_after.ensures

pub returns : goal.returns
unfolding pushed
returns c = let e : c.loop-j.j ≡ slots_in c.args.slots.now = omega arith in rw (← e) c.loop-j.invariant
