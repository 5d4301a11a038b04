-- `check_walk::map::rest_agrees` meets its contract. The loop's invariant: each block from `from` on below b is in use once or free. Assumes nothing.
use native.Mathlib.Omega.{arith}
use borrow.Author.Count.{below_more}
use Rattle.card_map.proofs.Map.{bit_below}
use Rattle.check_walk.proofs.map.rest_agrees.Goals as goal

pub overflow_sub-f : goal.overflow_sub-f
overflow_sub-f c =
    let a = c.args in
    omega (arith, c.bit-f.ensures, bit_below a.image.now c.loop-b.b)

pub loop-b-preserved : goal.loop-b-preserved
loop-b-preserved c =
    let a = c.args in
    let l = c.loop-b in
    let e = c.bit-f.ensures in
    below_more _ _ l.invariant (λ _. omega (arith, e, c.if-s-nb.false, bit_below a.image.now l.b))
