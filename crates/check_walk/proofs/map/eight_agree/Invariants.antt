-- `check_walk::map::eight_agree` meets its contract. The loop's invariant: the blocks before k are in use once or free. Assumes nothing.
use mathlib.Core.Path.{◌≡◌}
use Prim.Native.Nat.{ℕ, ◌+◌, ◌<◌}
use lib.ListN.{get_or}
use Rattle.card_map.proofs.Bits.{bit_of}
use Rattle.check_walk.proofs.map.eight_agree.Given as goal

abbrev pub invariant-loop-k : goal.invariant-loop-k
invariant-loop-k l = ((i : ℕ) → i < l.k → get_or l.s (l.at + i) 0 + bit_of l.x i ≡ 1)
