use Rattle.check_marks.specs.Inner.{Marks, run_use}
use Rattle.check_marks.proofs.mark_run.Given as goal

abbrev pub invariant-loop-j : goal.invariant-loop-j
invariant-loop-j l = Marks l.initial.u l.u (run_use l.image l.at l.j)
