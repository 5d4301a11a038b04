use mathlib.Core.Path.{◌≡◌}
use Rattle.card_rules.specs.View.{data_at}
use Rattle.dir_entries.proofs.Lookup.{Unmet}
use Rattle.dir_entries.proofs.finding.find_entry.Given as goal

abbrev pub invariant-loop-k : goal.invariant-loop-k
invariant-loop-k l = (l.b.0 ≡ data_at l.image l.n.0 l.c) × Unmet l.image l.n.0 l.x l.k
