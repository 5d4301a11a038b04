use Rattle.std.proofs.Common.{◌≡◌}
use Rattle.cache_slots.specs.Plain.{load_to}
use Rattle.cache_slots.proofs.to_words.Given as goal

abbrev pub invariant-loop-i : goal.invariant-loop-i
invariant-loop-i l = l.a ≡ load_to l.slots l.i
