use Rattle.words.proofs.Runs.{puts_none, copied_add, length-copied}
use mathlib.Core.Path.{◌≡◌, refl}
use Prim.Native.Nat.{◌+◌, ◌*◌}
use native.Mathlib.Omega.{arith}
use Rattle.words.specs.Runs.{copied}
use Rattle.words.proofs.copy_steps.Goals as goal

pub loop-q-init : goal.loop-q-init
unfolding copied
loop-q-init c = (puts_none _ _ _, refl)

pub loop-q-preserved : goal.loop-q-preserved
loop-q-preserved c =
    let a = c.args in
    let l = c.loop-q in
    let more = copied_add a.dst.now a.at a.src.now a.from in
    let e : 128 * l.q + 64 + 64 ≡ 128 * (l.q + 1) = omega arith in (
      rw (c.copy64-in-loop-q.ensures, c.copy64.ensures, l.invariant.0, more (128 * l.q) 64, more (128 * l.q + 64) 64, e) refl,
      rw (c.copy64-in-loop-q.ensures, c.copy64.ensures, length-copied, length-copied) l.invariant.1,
    )
