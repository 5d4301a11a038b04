use Rattle.std.proofs.Common.{◌≡◌}
use Rattle.cache_slots.specs.Plain.{spread_to}
use Rattle.cache_slots.proofs.from_words.Given as goal

abbrev pub invariant-loop-j : goal.invariant-loop-j
invariant-loop-j l = l.slots ≡ spread_to l.initial.slots l.a l.j
