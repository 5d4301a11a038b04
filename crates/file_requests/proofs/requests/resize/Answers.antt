-- `file_requests::requests::resize` meets its contract. What is refused changes nothing; what is taken on is a length that fits. Assumes nothing.
use mathlib.Core.Path.{refl, sym}
use borrow.Author.Rules.{rules}
use Rattle.file_requests.proofs.Answers.{judged-within}
use Rattle.file_requests.proofs.Calls.{resize_good, resize_bad}
use Rattle.file_requests.proofs.requests.resize.Goals as goal
use Rattle.std.proofs.lemmas.Result.{err_from_is_err_and}
use Rattle.std.specs.Prelude.{Ok, Err}

pub returns-in_err-h : goal.returns-in_err-h
returns-in_err-h c =
    let a = c.args in
    let p = err_from_is_err_and c.from_residual.result c.from_residual.ensures.1 in
    rw (p.1, p.2) (resize_bad a.nb a.image.now a.n.0 a.len _ (sym c.in_err-h.ensures))

pub returns-in_err-judge : goal.returns-in_err-judge
returns-in_err-judge c =
    let u = c.unused_blocks-unused in
    let a = c.args in
    let r = c.from_residual-in_err-judge in
    let p = err_from_is_err_and r.result r.ensures.1 in
    rw (p.1, p.2)
    (resize_good a.nb a.image.now a.n.0 a.len c.in_ok-h.h (Err _) _ (sym c.in_ok-h.ensures) (rw (← u.ensures) c.in_err-judge.ensures) refl)

pub overflow_cast-len : goal.overflow_cast-len
overflow_cast-len c =
    let l = judged-within _ _ _ (sym c.in_ok-judge.ensures) in
    search rules

pub returns : goal.returns
returns c =
    let u = c.unused_blocks-unused in
    let a = c.args in
    resize_good a.nb a.image.now a.n.0 a.len c.in_ok-h.h (Ok tt) _ (sym c.in_ok-h.ensures) (rw (← u.ensures) c.in_ok-judge.ensures)
    (rw (← c.record_with-d.ensures) c.resize_to.ensures)
