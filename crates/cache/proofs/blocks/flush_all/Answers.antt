-- `cache::blocks::flush_all` meets its contract. The invariant: the dirty ones of the slots passed are written back. Assumes nothing.
use Prim.Native.Nat.{◌-◌}
use mathlib.Core.Path.{◌≡◌, ◌∙◌}
use native.Mathlib.Omega.{arith}
use Rattle.words.proofs.Runs.{turns_none, turns_more}
use Rattle.cache_order.specs.Slots.{slots_in}
use Rattle.cache.specs.Effects.{sync_device, flushed}
use Rattle.cache.proofs.blocks.flush_all.Goals as goal

pub loop-i-init : goal.loop-i-init
loop-i-init c = turns_none _ _ _

pub loop-i-preserved : goal.loop-i-preserved
loop-i-preserved c = let a = c.args in
    c.flush.ensures ∙ rw c.loop-i.invariant (turns_more (λ j x. flushed a.slots.now a.bytes.now x j) 0 a.device.now c.loop-i.i (omega arith))

pub returns : goal.returns
unfolding sync_device
returns c = let e : c.loop-i.i - 0 ≡ slots_in c.args.slots.now = omega arith in rw (← e) c.loop-i.invariant
