-- `check_marks::mark_record` meets its contract: its parts are marked one after the other, and a clash in one is carried over those before. Assumes nothing.
use Prim.Native.Nat.{ℕ, ◌+◌, ◌*◌, min}
use mathlib.Core.Path.{refl}
use mathlib.Core.List.{List}
use native.Mathlib.Omega.{arith}
use lib.Dec.{ltb}
use Rattle.words.specs.Words.{pick}
use Rattle.words.specs.Sums.{δ}
use Rattle.words.proofs.Answers.{when_true, when_false}
use Rattle.check_marks.specs.Inner.{run_use}
use Rattle.check_marks.proofs.Marking.{marks_one, clash_one, clash_le, Did, did_after, did_run}
use Rattle.check_marks.proofs.mark_record.Goals as goal
use Rattle.check_marks.proofs.mark_record.Goals.{then-mark, else-mark, then-mark_run, else-mark_run}

-- the parts of the record: the own block and the direct slots, and then the indirect block too
abbrev front : List ℕ → ℕ → ℕ → ℕ → ℕ
front img n c b = δ n b + run_use img (4096 * n + 12) (min c 12) b

abbrev middle : List ℕ → ℕ → ℕ → ℕ → ℕ
middle img n c b = front img n c b + run_use img (4096 * n + 60) (pick (ltb c 12) 0 1) b

pub returns-then-mark_run-2 : goal.returns-then-mark_run-2
returns-then-mark_run-2 c =
    let a = c.args in
    let p = c.if-mark in
    let q = c.if-mark_run in
    let j : Did p.value a.u.now p.u (front a.image.now a.n.0 a.c) =
    elim p.branch [
      | then-mark w ↦
          rw (w.value-is, w.u-is)
          (did_after _ _ _ _ _ _ _ (marks_one _ w.if-mark.ensures) (λ b. refl)
          (did_run a.image.now _ _ (4096 * a.n.0 + 12) _ _ _ w.min.ensures w.mark_run.ensures))
      | else-mark w ↦ rw (w.value-is, w.if-mark.false) (clash_one _ _ w.if-mark.ensures (λ b. omega arith))
    ] in
    let k : Did q.value a.u.now q.u (middle a.image.now a.n.0 a.c) =
    elim q.branch [
      | then-mark_run w ↦
          rw (w.value-is, w.u-is)
          (did_after _ _ _ _ _ _ _ (when_true p.value _ _ w.if-mark_run.true j) (λ b. refl)
          (did_run a.image.now _ _ (4096 * a.n.0 + 60) _ _ _ w.one_from.ensures w.mark_run-then-mark_run.ensures))
      | else-mark_run w ↦ rw (w.value-is, w.if-mark_run.false) (clash_le _ _ (when_false p.value _ _ w.if-mark_run.false j) (λ b. omega arith))
    ] in
    did_after _ _ _ _ _ _ _ (when_true q.value _ _ c.if-mark_run-2.true k) (λ b. refl)
    (did_run a.image.now _ _ (4096 * a.n.0 + 64) _ _ _ c.one_from-then-mark_run-2.ensures c.mark_run-then-mark_run-2.ensures)

pub returns-else-mark_run-2 : goal.returns-else-mark_run-2
returns-else-mark_run-2 c =
    let a = c.args in
    let p = c.if-mark in
    let q = c.if-mark_run in
    let j : Did p.value a.u.now p.u (front a.image.now a.n.0 a.c) =
    elim p.branch [
      | then-mark w ↦
          rw (w.value-is, w.u-is)
          (did_after _ _ _ _ _ _ _ (marks_one _ w.if-mark.ensures) (λ b. refl)
          (did_run a.image.now _ _ (4096 * a.n.0 + 12) _ _ _ w.min.ensures w.mark_run.ensures))
      | else-mark w ↦ rw (w.value-is, w.if-mark.false) (clash_one _ _ w.if-mark.ensures (λ b. omega arith))
    ] in
    let k : Did q.value a.u.now q.u (middle a.image.now a.n.0 a.c) =
    elim q.branch [
      | then-mark_run w ↦
          rw (w.value-is, w.u-is)
          (did_after _ _ _ _ _ _ _ (when_true p.value _ _ w.if-mark_run.true j) (λ b. refl)
          (did_run a.image.now _ _ (4096 * a.n.0 + 60) _ _ _ w.one_from.ensures w.mark_run-then-mark_run.ensures))
      | else-mark_run w ↦ rw (w.value-is, w.if-mark_run.false) (clash_le _ _ (when_false p.value _ _ w.if-mark_run.false j) (λ b. omega arith))
    ] in
    rw c.if-mark_run-2.false (clash_le _ _ (when_false q.value _ _ c.if-mark_run-2.false k) (λ b. omega arith))
