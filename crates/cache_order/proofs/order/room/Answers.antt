-- `cache_order::order::room` meets its contract. Assumes nothing.
use Rattle.std.proofs.Common.{rules}
use Rattle.cache_order.specs.Order.{room_of}
use Rattle.cache_order.proofs.Search.{found_or}
use Rattle.cache_order.proofs.order.room.Goals as goal

pub returns : goal.returns
unfolding room_of
returns c = found_or _ _ _ _ _ _ c.spare.ensures c.unwrap_or_else.ensures (λ h. search rules)
