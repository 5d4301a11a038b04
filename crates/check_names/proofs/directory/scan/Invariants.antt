use mathlib.Core.Path.{◌≡◌}
use Prim.Native.Nat.{◌+◌}
use lib.ListN.{length}
use Rattle.check_names.specs.InnerNames.{hash, hash_on}
use Rattle.check_names.proofs.Scanning.{left}
use Rattle.check_names.proofs.directory.scan.Given as goal

abbrev pub invariant-loop-i : goal.invariant-loop-i
invariant-loop-i l = (length (left l.e 0) ≡ l.i + length (left l.e l.i)) × (hash (left l.e 0) ≡ hash_on (left l.e l.i) l.hash)
