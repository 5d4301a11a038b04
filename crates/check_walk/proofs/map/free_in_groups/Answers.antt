-- `check_walk::map::free_in_groups` meets its contract. The loop's invariant: c is how many blocks of the groups passed are free. Assumes nothing.
use mathlib.Core.Path.{◌≡◌, sym, ap}
use Prim.Native.Nat.{ℕ, ◌+◌, ◌*◌}
use native.Mathlib.Omega.{arith}
use mathlib.Core.List.{List}
use lib.Count.{ones}
use Rattle.words.specs.Words.{num, Bytes}
use Rattle.words.proofs.Sums.{sum_to_zero}
use Rattle.card_map.specs.Bits.{free_bits}
use Rattle.check_walk.proofs.Counting.{group_free, free_most}
use Rattle.check_walk.proofs.map.free_in_groups.Goals as goal

-- c and the ones of a group are what is free with one more group
more : (img : List ℕ) (c i x : ℕ) → c ≡ free_bits img (64 * i) → x ≡ num 8 img (8192 + 8 * i) → Bytes img → c + ones x ≡ free_bits img (64 * (i + 1))
more img c i x e q small = omega (arith, e, ap ones q, group_free img i small)

pub loop-i-init : goal.loop-i-init
loop-i-init c = sym (sum_to_zero _)

pub overflow_add-c : goal.overflow_add-c
overflow_add-c c =
    let l = c.loop-i in
    let a = c.args in
    let small : Bytes a.image.now = record { below = λ k. omega (arith, c.type_inv.image k) } in
    let e = more a.image.now l.c l.i c.get.result l.invariant c.get.ensures small in
    omega (arith, e, free_most a.image.now (64 * (l.i + 1)))

pub loop-i-preserved : goal.loop-i-preserved
loop-i-preserved c =
    let l = c.loop-i in
    let a = c.args in
    let small : Bytes a.image.now = record { below = λ k. omega (arith, c.type_inv.image k) } in
    let e = more a.image.now l.c l.i c.get.result l.invariant c.get.ensures small in
    e
