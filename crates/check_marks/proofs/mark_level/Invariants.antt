use Rattle.check_marks.specs.Inner.{Marks, level_use}
use Rattle.check_marks.proofs.mark_level.Given as goal

abbrev pub invariant-loop-j : goal.invariant-loop-j
invariant-loop-j l = Marks l.initial.u l.u (level_use l.image l.fn.d.0 l.c l.j)
