-- `cache_order::order::hit` meets its contract. Assumes nothing.
use Rattle.std.proofs.Common.{rules, ◌≡◌, true, false}
use Rattle.std.proofs.lemmas.Iterator.{first_from_Range}
use Rattle.cache_order.specs.Order.{holds, hit_of}
use Rattle.cache_order.proofs.Search.{found_first}
use Rattle.cache_order.proofs.order.hit.Goals as goal

pub returns : goal.returns
unfolding hit_of
returns c =
    let p = holds c.args.slots.now c.args.block in
    found_first p _ _ (first_from_Range _ _ _ _ (λ i. p i ≡ true) (λ i. p i ≡ false) c.find.ensures.ran (λ x q k. search rules) (λ x q k. search rules))
