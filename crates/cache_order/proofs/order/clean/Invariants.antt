use Prim.Native.Nat.{◌*◌}
use mathlib.Core.Path.{◌≡◌}
use Rattle.words.specs.Runs.{puts}
use Rattle.cache_order.specs.Slots.{status_at}
use Rattle.cache_order.specs.Order.{clean_status}
use Rattle.cache_order.proofs.order.clean.Given as goal

abbrev pub invariant-loop-i : goal.invariant-loop-i
invariant-loop-i l = l.slots ≡ puts l.initial.slots (λ k. 3 * k) (λ k. clean_status (status_at l.initial.slots k)) l.i
