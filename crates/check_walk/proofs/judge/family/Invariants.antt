use mathlib.Core.Path.{◌≡◌}
use Rattle.card_rules.specs.View.{data_at}
use Rattle.check_walk.proofs.Families.{First}
use Rattle.check_walk.proofs.judge.family.Given as goal

abbrev pub invariant-loop-j : goal.invariant-loop-j
invariant-loop-j l = First l.image l.n.0 l.j l.c × (l.p.block.0 ≡ data_at l.image l.n.0 l.p.index)
