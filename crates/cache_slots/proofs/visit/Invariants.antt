use Rattle.std.proofs.Common.{◌≡◌, ◌++◌, map, take, drop}
use Rattle.cache_slots.specs.Slots.{later_of}
use Rattle.cache_slots.specs.declared.Slot.{Slot}
use Rattle.cache_slots.proofs.visit.Given as goal

abbrev pub invariant-loop-t : goal.invariant-loop-t
invariant-loop-t l =
    let f : Slot → Slot = λ s. later_of s l.s.order in l.slots ≡ map f (take l.t-index l.initial.slots) ++ drop l.t-index l.initial.slots
