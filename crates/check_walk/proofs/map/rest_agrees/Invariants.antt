use mathlib.Core.Path.{◌≡◌}
use Prim.Native.Nat.{ℕ, ◌+◌, ◌≤◌, ◌<◌}
use Rattle.card_map.specs.Bits.{map_bit}
use Rattle.check_walk.specs.Inner.{own_at}
use Rattle.check_walk.proofs.map.rest_agrees.Given as goal

abbrev pub invariant-loop-b : goal.invariant-loop-b
invariant-loop-b l = ((i : ℕ) → i < l.b → l.from ≤ i → own_at l.s l.nb i + map_bit l.image i ≡ 1)
