-- `file_requests::requests::judge_write` meets its contract. What ends past every machine word is past every size and every length. Assumes nothing.
use mathlib.Core.Path.{◌≡◌, sym, ◌∙◌}
use Prim.Native.Nat.{◌+◌, ◌≤◌}
use native.Mathlib.Omega.{arith}
use Rattle.file_requests.proofs.Answers.{judged-long, write-past, write-inside}
use Rattle.file_requests.proofs.requests.judge_write.Goals as goal
use Rattle.std.proofs.lemmas.Result.{err_from_is_err_and}
use Rattle.refusals.specs.declared.Refusal.TheVariants.{InvalidParam}

pub returns-in_err-end : goal.returns-in_err-end
returns-in_err-end c =
    let a = c.args in
    let p = err_from_is_err_and c.from_residual.result c.from_residual.ensures.1 in
    let far : 18446744073709551616 ≤ a.off + a.k = grind arith in
    let named : c.in_err-end.field-0.0 ≡ InvalidParam = grind arith in
    rw (p.1, p.2, named) (sym (write-past a.unused a.h (a.off + a.k) (omega arith) ∙ judged-long a.unused a.h (a.off + a.k) (omega arith)))

pub returns-then-end-h : goal.returns-then-end-h
returns-then-end-h c =
    let a = c.args in
    let end : c.in_ok-end.end ≡ a.off + a.k = grind arith in
    sym (write-inside a.unused a.h (a.off + a.k) (omega arith))

pub returns : goal.returns
returns c =
    let a = c.args in
    let end : c.in_ok-end.end ≡ a.off + a.k = grind arith in
    rw (c.judge.ensures, end) (sym (write-past a.unused a.h (a.off + a.k) (omega arith)))
