-- `cache::start` meets its contract. The invariant: the slots passed are fresh. Assumes nothing.
use Prim.Native.Nat.{◌-◌}
use mathlib.Core.Path.{◌≡◌, ◌∙◌}
use native.Mathlib.Omega.{arith}
use Rattle.words.proofs.Runs.{turns_none, turns_more}
use Rattle.cache_order.specs.Slots.{slots_in}
use Rattle.cache_order.specs.Order.{fresh_slot, started}
use Rattle.cache.proofs.start.Goals as goal

pub loop-i-init : goal.loop-i-init
loop-i-init c = turns_none _ _ _

pub loop-i-preserved : goal.loop-i-preserved
loop-i-preserved c = c.fresh.ensures ∙ rw c.loop-i.invariant (turns_more fresh_slot 0 c.args.slots.now c.loop-i.i (omega arith))

pub returns : goal.returns
unfolding started
returns c = let e : c.loop-i.i - 0 ≡ slots_in c.args.slots.now = omega arith in rw (← e) c.loop-i.invariant
