-- `cache_slots::find` meets its contract. Assumes nothing.
use Rattle.std.proofs.Common.{rules, ◌≡◌, true, false}
use Rattle.std.proofs.lemmas.Iterator.{IsFirst-from_position, YieldsList-from_slice}
use Rattle.cache_slots.specs.Slots.{holds_of}
use Rattle.cache_slots.proofs.Laws.{find_found}
use Rattle.cache_slots.proofs.find.Goals as goal

pub returns : goal.returns
returns c =
    let b = c.args.block in
    find_found _ b _ (
    IsFirst-from_position _ _ _ (λ s. holds_of s b ≡ true) (λ s. holds_of s b ≡ false) c.position.ensures.ran (YieldsList-from_slice c.args.slots.now cc)
    (λ x q k. search rules) (λ x q k. search rules))
