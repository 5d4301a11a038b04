use mathlib.Core.Path.{◌≡◌}
use Prim.Native.Nat.{◌≤◌, ◌-◌}
use Rattle.file_grow.specs.Inner.{Fit}
use Rattle.file_grow.proofs.Growers.{directs}
use Rattle.file_grow.proofs.Grower.grow_direct.Given as goal

-- a block is taken for each slot before slot i
abbrev pub invariant-loop-i : goal.invariant-loop-i
invariant-loop-i l = (l.i - l.initial.i ≤ l.i-end - l.initial.i) × Fit l.self × (l.self ≡ directs l.fn.self l.initial.i l.i)
