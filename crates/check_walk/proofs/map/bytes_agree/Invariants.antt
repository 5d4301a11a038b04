use mathlib.Core.Path.{◌≡◌}
use mathlib.Core.List.{List}
use Prim.Native.Nat.{ℕ, ◌+◌, ◌*◌, ◌<◌}
use Rattle.card_map.specs.Bits.{map_bit}
use Rattle.check_walk.specs.Inner.{own_at}
use Rattle.check_walk.proofs.map.bytes_agree.Given as goal

-- each block below n is in use once or free
abbrev Each : List ℕ → List ℕ → ℕ → ℕ → Type 0
Each img s nb n = (b : ℕ) → b < n → own_at s nb b + map_bit img b ≡ 1

abbrev pub invariant-loop-i : goal.invariant-loop-i
invariant-loop-i l = Each l.image l.s l.nb (8 * l.i)
