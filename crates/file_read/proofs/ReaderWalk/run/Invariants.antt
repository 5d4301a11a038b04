use mathlib.Core.Path.{◌≡◌}
use Prim.Native.Nat.{◌≤◌, ◌-◌}
use Rattle.file_read.specs.Inner.{Span, over}
use Rattle.file_read.proofs.ReaderWalk.run.Given as goal

-- the pieces of the blocks up to j are read
abbrev pub invariant-loop-j : goal.invariant-loop-j
invariant-loop-j l = (l.j - l.i ≤ l.e - l.i) × Span l.i l.e l.self × (l.self ≡ over l.at l.i l.j l.fn.self)
