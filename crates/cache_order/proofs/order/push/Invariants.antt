use Prim.Native.Nat.{◌+◌, ◌*◌}
use mathlib.Core.Path.{◌≡◌}
use Rattle.words.specs.Runs.{puts}
use Rattle.cache_order.specs.Slots.{place_at}
use Rattle.cache_order.specs.Order.{place_after}
use Rattle.cache_order.proofs.order.push.Given as goal

abbrev pub invariant-loop-j : goal.invariant-loop-j
invariant-loop-j l = l.slots ≡ puts l.initial.slots (λ k. 3 * k + 2) (λ k. place_after l.old (place_at l.initial.slots k)) l.j
