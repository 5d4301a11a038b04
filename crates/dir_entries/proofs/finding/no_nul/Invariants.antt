use mathlib.Core.Path.{◌≡◌}
use lib.ListN.{drop}
use Rattle.dir_entries.specs.Names.{no_nul}
use Rattle.dir_entries.proofs.finding.no_nul.Given as goal

abbrev pub invariant-loop-b : goal.invariant-loop-b
invariant-loop-b l = no_nul l.fn.x ≡ no_nul (drop l.b-index l.fn.x)
