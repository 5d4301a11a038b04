use mathlib.Core.Path.{◌≡◌}
use Prim.Native.Nat.{◌-◌, ◌≤◌}
use Rattle.file_blocks.proofs.Passing.{levels}
use Rattle.file_blocks.proofs.slots.double.Given as goal

-- what is done is the turns of the second-level blocks up to q
abbrev pub invariant-loop-q : goal.invariant-loop-q
invariant-loop-q g l = (g.W.Walk.Ready l.i l.e l.w) × (g.W.Walk.nb l.w ≡ g.W.Walk.nb l.fn.w) × (l.q - l.initial.q ≤ l.q-end - l.initial.q)
    × (l.w ≡ levels g.W.Walk.card g.W.Walk.turn (g.W.Walk.nb l.fn.w) l.fn.d.0 l.i l.e l.fn.w l.initial.q (l.q - l.initial.q))
