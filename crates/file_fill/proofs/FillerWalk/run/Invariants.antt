use mathlib.Core.Path.{◌≡◌}
use Prim.Native.Nat.{◌≤◌, ◌-◌}
use lib.ListN.{length}
use Rattle.file_fill.specs.Inner.{Span, over}
use Rattle.file_fill.proofs.FillerWalk.run.Given as goal

-- the pieces of the blocks up to j are filled
abbrev pub invariant-loop-j : goal.invariant-loop-j
invariant-loop-j l = (l.j - l.i ≤ l.e - l.i) × (length l.self.image.now ≡ length l.fn.self.image.now)
    × Span l.i l.e l.self × (l.self ≡ over l.at l.i l.j l.fn.self)
