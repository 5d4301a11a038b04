-- `check_line::width` meets its contract. With each turn a digit goes over from the text of the rest to the count. Assumes nothing.
use native.Mathlib.Omega.{arith}
use Rattle.check_line.proofs.Decimal.{length_small, length_large, length_some, length_32}
use Rattle.check_line.proofs.width.Goals as goal

pub overflow_add-k : goal.overflow_add-k
overflow_add-k c = omega (arith, length_some c.loop-rest.rest, length_32 c.args.n (omega arith))

pub loop-rest-preserved : goal.loop-rest-preserved
loop-rest-preserved c = omega (arith, length_large c.loop-rest.rest (omega arith))

pub returns : goal.returns
returns c =
    let one = length_small c.loop-rest.rest (omega arith) in
    (omega arith, omega (arith, length_32 c.args.n (omega arith)))
