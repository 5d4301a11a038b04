-- `check_marks::mark_double` meets its contract: the run of the second level, each block of which is then on the card, and what these blocks name. Assumes
-- nothing.
use Prim.Native.Nat.{◌*◌, ◌<◌}
use native.Mathlib.Omega.{arith}
use Rattle.card_rules.proofs.Views.{seconds_some}
use Rattle.check_marks.proofs.Marking.{marks_none, run_in}
use Rattle.check_marks.proofs.Uses.{double_none}
use Rattle.check_marks.proofs.mark_double.Goals as goal

pub returns-then-c-lt1036 : goal.returns-then-c-lt1036
returns-then-c-lt1036 c =
    let a = c.args in
    let l : a.c < 1036 = omega arith in
    marks_none _ _ (λ b. double_none a.image.now a.d.0 a.c b l)

pub mark_run-requires : goal.mark_run-requires
mark_run-requires c =
    let a = c.args in
    omega (arith, c.seconds_of-k.ensures, seconds_some a.c (omega arith), c.requires.2 (omega arith))

pub mark_level-requires : goal.mark_level-requires
mark_level-requires c =
    let a = c.args in
    let m = c.if-mark_run.ensures in (
      record { few = omega (arith, m.long); card = omega (arith, m.long) },
      omega (arith, c.seconds_of-k.ensures, seconds_some a.c (omega arith)),
      λ l. omega (arith, m.long, c.requires.2 (omega arith)),
      λ j l. omega (arith, m.long, run_in a.image.now (4096 * a.d.0) c.seconds_of-k.result m j l),
    )
