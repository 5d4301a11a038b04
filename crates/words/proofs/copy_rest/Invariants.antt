use mathlib.Core.Path.{◌≡◌}
use Prim.Native.Nat.{◌*◌}
use lib.ListN.{length}
use Rattle.words.specs.Runs.{copied}
use Rattle.words.proofs.copy_rest.Given as goal

abbrev pub invariant-loop-q : goal.invariant-loop-q
invariant-loop-q l = (l.dst ≡ copied l.initial.dst l.at l.src l.from (16 * l.q)) × (length l.dst ≡ length l.initial.dst)
