use mathlib.Core.Path.{◌≡◌}
use Prim.Native.Nat.{◌*◌}
use Rattle.card_map.specs.Bits.{free_bits}
use Rattle.check_walk.proofs.map.free_in_groups.Given as goal

abbrev pub invariant-loop-i : goal.invariant-loop-i
invariant-loop-i l = (l.c ≡ free_bits l.image (64 * l.i))
