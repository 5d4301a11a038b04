use Rattle.words.proofs.Runs.{puts_none, puts_more}
use mathlib.Core.Path.{refl}
use Prim.Native.Nat.{zero-le}
use lib.ListN.{length-set}
use native.Mathlib.Omega.{arith}
use Rattle.words.specs.Runs.{copied}
use Rattle.words.proofs.copy_bytes.Goals as goal

pub loop-j-init : goal.loop-j-init
unfolding copied
loop-j-init c = (zero-le, puts_none _ _ _, refl)

pub loop-j-preserved : goal.loop-j-preserved
unfolding copied
loop-j-preserved c =
    let l = c.loop-j in
    (omega arith, rw l.invariant.1 (puts_more _ _ _ l.j), simp length-set l.invariant.2)
