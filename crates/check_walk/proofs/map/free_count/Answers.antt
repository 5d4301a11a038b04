-- `check_walk::map::free_count` meets its contract. The loop's invariant: c is how many blocks below b are free. Assumes nothing.
use native.Mathlib.Omega.{arith}
use native.Mathlib.Numerals.{add-one}
use Rattle.words.proofs.Sums.{sum_to_suc}
use Rattle.card_map.specs.Bits.{map_bit}
use Rattle.card_map.proofs.Map.{bit_below}
use Rattle.check_walk.proofs.Counting.{free_most}
use Rattle.check_walk.proofs.map.free_count.Goals as goal

pub overflow_add-c : goal.overflow_add-c
overflow_add-c c =
    let a = c.args in
    let l = c.loop-b in
    omega (arith, l.invariant, free_most a.image.now l.b, c.bit.ensures, bit_below a.image.now l.b)

pub loop-b-preserved : goal.loop-b-preserved
loop-b-preserved c =
    let a = c.args in
    let l = c.loop-b in
    rw (add-one l.b) (omega (arith, l.invariant, c.bit.ensures, sum_to_suc (map_bit a.image.now) l.b))
