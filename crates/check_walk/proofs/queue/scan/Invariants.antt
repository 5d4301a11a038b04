use mathlib.Core.Path.{◌≡◌}
use Rattle.card_rules.specs.View.{data_at}
use Rattle.check_walk.proofs.Queueing.{Noting}
use Rattle.check_walk.proofs.queue.scan.Given as goal

abbrev pub invariant-loop-j : goal.invariant-loop-j
invariant-loop-j l = Noting l.image l.initial.s l.s l.nb l.n.0 l.t l.end l.j × (l.p.block.0 ≡ data_at l.image l.n.0 l.p.index)
