-- `check_names::directory::names_ok` meets its contract. The invariant: the first lo names differ from all later ones. Assumes nothing.
use mathlib.Core.Path.{◌≡◌}
use Prim.Native.Nat.{◌≤◌}
use lib.ListN.{length}
use Rattle.check_names.proofs.Chaining.{Before}
use Rattle.check_names.proofs.directory.names_ok.Given as goal

abbrev pub invariant-loop-lo : goal.invariant-loop-lo
invariant-loop-lo l = (length l.w ≡ length l.initial.w) × (l.lo ≤ l.e) × Before l.image l.n.0 l.lo l.e
