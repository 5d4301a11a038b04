-- `check_walk::judge::bits_clear` meets its contract. The loop's invariant: the bits from nb up to b are clear. Assumes nothing.
use mathlib.Core.Path.{◌≡◌}
use Prim.Native.Nat.{ℕ, ◌≤◌, ◌<◌}
use Rattle.card_map.specs.Bits.{map_bit}
use Rattle.check_walk.proofs.judge.bits_clear.Given as goal

abbrev pub invariant-loop-b : goal.invariant-loop-b
invariant-loop-b l = ((i : ℕ) → i < l.b → l.nb ≤ i → map_bit l.image i ≡ 0)
