-- `file_requests::requests::write` meets its contract. What is refused changes nothing; what is taken on ends at a length that fits. Assumes nothing.
use mathlib.Core.Path.{refl, sym}
use Prim.Native.Nat.{◌≤◌}
use borrow.Author.Rules.{rules}
use Rattle.file_requests.proofs.Answers.{write-within}
use Rattle.file_requests.proofs.Calls.{write_good, write_bad}
use Rattle.file_requests.proofs.requests.write.Goals as goal
use Rattle.std.proofs.lemmas.Result.{err_from_is_err_and}
use Rattle.std.specs.Prelude.{Ok, Err}

pub returns-in_err-h : goal.returns-in_err-h
returns-in_err-h c =
    let a = c.args in
    let p = err_from_is_err_and c.from_residual.result c.from_residual.ensures.1 in
    rw (p.1, p.2) (write_bad a.nb a.image.now a.n.0 a.off a.src.now _ (sym c.in_err-h.ensures))

pub returns-in_err-judge_write : goal.returns-in_err-judge_write
returns-in_err-judge_write c =
    let u = c.unused_blocks-unused in
    let a = c.args in
    let r = c.from_residual-in_err-judge_write in
    let p = err_from_is_err_and r.result r.ensures.1 in
    rw (p.1, p.2)
    (write_good a.nb a.image.now a.n.0 a.off a.src.now c.in_ok-h.h (Err _) _ (sym c.in_ok-h.ensures) (rw (← u.ensures) c.in_err-judge_write.ensures) refl)

pub put_bytes-requires : goal.put_bytes-requires
put_bytes-requires c =
    let fits : c.in_ok-h.h.size ≤ 4294967295 = search rules in
    let p = c.requires in
    (p.0, p.1, write-within _ _ _ fits (sym c.in_ok-judge_write.ensures))

pub overflow_cast-result : goal.overflow_cast-result
overflow_cast-result c =
    let fits : c.in_ok-h.h.size ≤ 4294967295 = search rules in
    let l = write-within _ _ _ fits (sym c.in_ok-judge_write.ensures) in
    search rules

pub returns : goal.returns
returns c =
    let u = c.unused_blocks-unused in
    let a = c.args in
    write_good a.nb a.image.now a.n.0 a.off a.src.now c.in_ok-h.h (Ok tt) _ (sym c.in_ok-h.ensures) (rw (← u.ensures) c.in_ok-judge_write.ensures)
    c.put_bytes.ensures
