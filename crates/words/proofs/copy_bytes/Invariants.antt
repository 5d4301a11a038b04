use mathlib.Core.Path.{◌≡◌}
use Prim.Native.Nat.{◌≤◌}
use lib.ListN.{length}
use Rattle.words.specs.Runs.{copied}
use Rattle.words.proofs.copy_bytes.Given as goal

abbrev pub invariant-loop-j : goal.invariant-loop-j
invariant-loop-j l = (l.j ≤ l.n) × (l.dst ≡ copied l.initial.dst l.at l.src l.from l.j) × (length l.dst ≡ length l.initial.dst)
