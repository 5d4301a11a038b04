use mathlib.Core.Path.{◌≡◌}
use lib.ListN.{drop}
use Rattle.check_names.proofs.Scanning.{left}
use Rattle.dir_entries.specs.Entries.{eqs}
use Rattle.dir_entries.proofs.finding.begins.Given as goal

abbrev pub invariant-loop-i : goal.invariant-loop-i
invariant-loop-i l = eqs (left l.e 0) l.x ≡ eqs (left l.e l.i) (drop l.i l.x)
