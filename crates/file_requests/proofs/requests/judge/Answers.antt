-- `file_requests::requests::judge` meets its contract. Each way out is a case of `judged`; the old blocks stand on the other side of the test. Assumes nothing.
use mathlib.Core.Path.{sym}
use native.Mathlib.Omega.{arith}
use Rattle.file_requests.proofs.Answers.{owned_below, judged-long, judged-full, judged-fits}
use Rattle.file_requests.proofs.requests.judge.Goals as goal

pub returns-then-len-gt4294967295 : goal.returns-then-len-gt4294967295
returns-then-len-gt4294967295 c = let a = c.args in sym (judged-long a.unused a.h a.len (omega arith))

pub overflow_add-old : goal.overflow_add-old
overflow_add-old c =
    let a = c.args in
    omega (arith, c.blocks_owned-old.ensures, owned_below a.h.blocks)

pub returns-then-new-old : goal.returns-then-new-old
returns-then-new-old c =
    let a = c.args in
    sym (judged-full a.unused a.h a.len (omega arith) (rw (← c.blocks_for-b.ensures) (omega arith)))

pub returns : goal.returns
returns c =
    let a = c.args in
    sym (judged-fits a.unused a.h a.len (omega arith) (rw (← c.blocks_for-b.ensures) (omega arith)))
