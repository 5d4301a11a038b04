-- `words::copy` meets its contract. Assumes nothing.
use Rattle.words.proofs.Runs.{copied_add, copied_tail}
use mathlib.Core.Path.{◌≡◌, ap, ◌∙◌}
use Prim.Native.Nat.{◌+◌}
use native.Mathlib.Omega.{arith}
use Rattle.words.specs.Runs.{copied}
use Rattle.words.proofs.copy.Goals as goal

pub returns-then-k-j : goal.returns-then-k-j
returns-then-k-j c =
    let a = c.args in
    let k = c.copy_steps-k.result in
    let j = c.copy_rest-j.result in
    rw (c.copy16.ensures, c.copy_rest-j.ensures.2, c.copy_steps-k.ensures.1, copied_add a.dst.now a.at a.src.now a.from k j)
    (copied_tail a.dst.now a.at a.src.now a.from (k + j) a.n (omega (arith, c.if-n-lt16.false)) (omega (arith, c.copy_rest-j.ensures.1)) (omega (arith, c.if-k-j.true))
    (omega (arith, c.requires.1)))

pub returns-else-k-j : goal.returns-else-k-j
returns-else-k-j c =
    let a = c.args in
    let k = c.copy_steps-k.result in
    let j = c.copy_rest-j.result in
    let e : k + j ≡ a.n = omega (arith, c.if-k-j.false, c.copy_rest-j.ensures.0, c.copy_steps-k.ensures.0) in
    rw (c.copy_rest-j.ensures.2, c.copy_steps-k.ensures.1)
    (copied_add a.dst.now a.at a.src.now a.from k j ∙ ap (copied a.dst.now a.at a.src.now a.from) e)
