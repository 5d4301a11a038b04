use Rattle.words.proofs.Runs.{puts_none, copied_add, length-copied}
use mathlib.Core.Path.{◌≡◌, refl}
use Prim.Native.Nat.{◌+◌, ◌*◌}
use native.Mathlib.Omega.{arith}
use Rattle.words.specs.Runs.{copied}
use Rattle.words.proofs.copy_rest.Goals as goal

pub loop-q-init : goal.loop-q-init
unfolding copied
loop-q-init c = (puts_none _ _ _, refl)

pub loop-q-preserved : goal.loop-q-preserved
loop-q-preserved c =
    let a = c.args in
    let l = c.loop-q in
    let e : 16 * l.q + 16 ≡ 16 * (l.q + 1) = omega arith in (
      rw (c.copy16.ensures, l.invariant.0, copied_add a.dst.now a.at a.src.now a.from (16 * l.q) 16, e) refl,
      rw (c.copy16.ensures, length-copied) l.invariant.1,
    )
