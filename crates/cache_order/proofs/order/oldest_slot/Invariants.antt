use mathlib.Core.Path.{◌≡◌}
use Rattle.cache_order.specs.Order.{oldest}
use Rattle.cache_order.proofs.order.oldest_slot.Given as goal

abbrev pub invariant-loop-j : goal.invariant-loop-j
invariant-loop-j l = l.best ≡ oldest l.slots l.j
