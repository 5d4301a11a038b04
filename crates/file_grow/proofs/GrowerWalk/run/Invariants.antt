use mathlib.Core.Path.{◌≡◌}
use Prim.Native.Nat.{◌≤◌, ◌-◌}
use lib.ListN.{length}
use Rattle.file_grow.specs.Inner.{Fit, over}
use Rattle.file_grow.proofs.GrowerWalk.run.Given as goal

-- a block is taken for each slot before slot j
abbrev pub invariant-loop-j : goal.invariant-loop-j
invariant-loop-j l = (l.j - l.i ≤ l.e - l.i) × (length l.self.image.now ≡ length l.fn.self.image.now) × Fit l.self × (l.self ≡ over l.at l.i l.j l.fn.self)
