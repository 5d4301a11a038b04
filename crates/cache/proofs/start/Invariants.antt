use Prim.Native.Nat.{◌-◌}
use mathlib.Core.Path.{◌≡◌}
use Rattle.words.specs.Runs.{turns}
use Rattle.cache_order.specs.Order.{fresh_slot}
use Rattle.cache.proofs.start.Given as goal

abbrev pub invariant-loop-i : goal.invariant-loop-i
invariant-loop-i l = l.slots ≡ turns fresh_slot 0 (l.i - 0) l.initial.slots
