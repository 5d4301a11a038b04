use mathlib.Core.Path.{◌≡◌}
use Rattle.card_map.specs.Bits.{free_bits}
use Rattle.check_walk.proofs.map.free_count.Given as goal

abbrev pub invariant-loop-b : goal.invariant-loop-b
invariant-loop-b l = (l.c ≡ free_bits l.image l.b)
