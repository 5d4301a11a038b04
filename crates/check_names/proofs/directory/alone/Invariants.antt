use Rattle.card_rules.specs.View.{name}
use Rattle.check_names.proofs.Chaining.{Passed}
use Rattle.check_names.proofs.directory.alone.Given as goal

abbrev pub invariant-loop-c : goal.invariant-loop-c
invariant-loop-c l = Passed l.image l.n.0 l.h l.lo l.k (name l.image l.n.0 l.j) l.c

abbrev pub decreases-loop-c : goal.decreases-loop-c
decreases-loop-c l = l.c
