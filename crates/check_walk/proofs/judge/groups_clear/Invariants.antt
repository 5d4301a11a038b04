use mathlib.Core.Path.{◌≡◌}
use Prim.Native.Nat.{ℕ, ◌*◌, ◌≤◌, ◌<◌}
use Rattle.card_map.specs.Bits.{map_bit}
use Rattle.check_walk.proofs.judge.groups_clear.Given as goal

abbrev pub invariant-loop-j : goal.invariant-loop-j
invariant-loop-j l = ((b : ℕ) → 64 * l.i ≤ b → b < 64 * l.j → map_bit l.image b ≡ 0)
