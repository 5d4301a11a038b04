-- `cache_order::order::slot_for` meets its contract. Assumes nothing.
use Rattle.std.proofs.Common.{rules}
use Rattle.cache_order.specs.Order.{slot_for}
use Rattle.cache_order.proofs.Search.{found_or}
use Rattle.cache_order.proofs.order.slot_for.Goals as goal

pub returns : goal.returns
unfolding slot_for
returns c = found_or _ _ _ _ _ _ c.hit.ensures c.unwrap_or_else.ensures (λ h. search rules)
