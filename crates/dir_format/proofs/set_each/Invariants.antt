use mathlib.Core.Path.{◌≡◌}
use Prim.Native.Nat.{◌-◌}
use Rattle.words.specs.Runs.{turns}
use Rattle.card_map.specs.Bits.{set_bit}
use Rattle.dir_format.proofs.set_each.Given as goal

abbrev pub invariant-loop-b : goal.invariant-loop-b
invariant-loop-b l = l.image ≡ turns (λ k x. set_bit x k) l.initial.b (l.b - l.initial.b) l.initial.image
