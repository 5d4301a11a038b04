-- `check_marks::mark_indirect` meets its contract: it is one run, or none below 12 blocks. Assumes nothing.
use Prim.Native.Nat.{◌*◌, ◌-◌, ◌<◌, min}
use mathlib.Core.Path.{◌≡◌}
use native.Mathlib.Omega.{arith}
use borrow.Author.Tests.{lt-ltb}
use Rattle.check_marks.proofs.Marking.{marks_none, run_none}
use Rattle.check_marks.proofs.mark_indirect.Goals as goal

pub returns-then-c-lt12 : goal.returns-then-c-lt12
returns-then-c-lt12 c =
    let a = c.args in
    let e : min a.c 1036 - 12 ≡ 0 = omega arith in
    let l : a.c < 12 = omega arith in
    rw (lt-ltb a.c 12 l) (marks_none _ _ (λ b. run_none a.image.now (4096 * a.p.0) (min a.c 1036 - 12) b e))
