-- `cache_order::order::spare` meets its contract. Assumes nothing.
use Rattle.std.proofs.Common.{rules, ◌≡◌, true, false}
use Rattle.std.proofs.lemmas.Iterator.{first_from_Range}
use Rattle.cache_order.specs.Order.{unused_at, spare_of}
use Rattle.cache_order.proofs.Search.{found_first}
use Rattle.cache_order.proofs.order.spare.Goals as goal

pub returns : goal.returns
unfolding spare_of
returns c =
    let p = unused_at c.args.slots.now in
    found_first p _ _ (first_from_Range _ _ _ _ (λ i. p i ≡ true) (λ i. p i ≡ false) c.find.ensures.ran (λ x q k. search rules) (λ x q k. search rules))
