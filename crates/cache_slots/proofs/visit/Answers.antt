-- `cache_slots::visit` meets its contract. The invariant: the slots passed are each what `later` makes of them. Assumes nothing.
use Rattle.std.proofs.Common.{ap, ◌∙◌, set, get_or, arith}
use Rattle.std.proofs.lemmas.List.{get_or_default}
use Rattle.std.proofs.lemmas.List.Edits.{map_over_more}
use Rattle.cache_slots.specs.declared.Slot.{Slot}
use Rattle.cache_slots.specs.Slots.{none, later_of}
use Rattle.cache_slots.proofs.visit.Goals as goal

pub loop-t-preserved : goal.loop-t-preserved
loop-t-preserved c =
    let l = c.loop-t in
    let f : Slot → Slot = λ s. later_of s (get_or c.args.slots.now c.args.i none).order in
    ap (λ (s : Slot). set l.slots l.t-index s) c.later.ensures
    ∙ map_over_more f _ _ _ _ (omega arith) l.invariant (get_or_default l.slots _ none _ (omega arith))
