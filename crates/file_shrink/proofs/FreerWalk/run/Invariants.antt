use mathlib.Core.Path.{◌≡◌}
use Prim.Native.Nat.{◌≤◌, ◌-◌}
use lib.ListN.{length}
use Rattle.file_shrink.specs.Inner.{Sized, over}
use Rattle.file_shrink.proofs.FreerWalk.run.Given as goal

-- the blocks whose numbers stand before slot j are freed
abbrev pub invariant-loop-j : goal.invariant-loop-j
invariant-loop-j l = (l.j - l.i ≤ l.e - l.i) × (length l.self.image.now ≡ length l.fn.self.image.now) × Sized l.self × (l.self ≡ over l.at l.i l.j l.fn.self)
