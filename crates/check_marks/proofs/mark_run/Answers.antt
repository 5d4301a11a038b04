-- `check_marks::mark_run` meets its contract. The loop's invariant: the first `j` words are marked. Assumes nothing.
use Prim.Native.Nat.{◌+◌, ◌*◌}
use native.Mathlib.Omega.{arith}
use Rattle.words.specs.Words.{word}
use Rattle.words.proofs.Sums.{sum_to_zero}
use Rattle.check_marks.proofs.Marking.{marks_none, marks_more, clash, count-more, count_next}
use Rattle.check_marks.proofs.mark_run.Goals as goal

pub loop-j-init : goal.loop-j-init
loop-j-init c = marks_none _ _ (λ b. sum_to_zero _)

pub returns-then-not-mark : goal.returns-then-not-mark
returns-then-not-mark c =
    let a = c.args in
    let l = c.loop-j in
    clash _ _ _ l.invariant c.if-not-mark.ensures
    (λ x. count_next (λ j. word a.image.now (a.at + 4 * j)) l.j c.get.result c.get.ensures x a.c (omega arith))

pub loop-j-preserved : goal.loop-j-preserved
loop-j-preserved c =
    let a = c.args in
    let l = c.loop-j in
    marks_more _ _ _ l.invariant c.if-not-mark.ensures
    (λ x. count-more (λ j. word a.image.now (a.at + 4 * j)) l.j c.get.result c.get.ensures x)
