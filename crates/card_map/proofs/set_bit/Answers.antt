-- `card_map::set_bit` meets its contract: what is put on has room in the byte (`on_room`), and `1 << k` is the power (`shl_one`). Assumes nothing.
use Rattle.std.proofs.Common.{◌+◌, ◌/◌, ◌%◌, get_or, arith}
use Rattle.card_map.specs.Bits.{map_bit, set_bit}
use Rattle.card_map.proofs.Bits.{shl_one, on_room}
use Rattle.card_map.proofs.set_bit.Goals as goal

pub overflow_add-image : goal.overflow_add-image
overflow_add-image c =
    let a = c.args in
    let b = a.b.0 in
    let x = get_or a.image.now (8192 + b / 8) 0 in
    let r = on_room x (b % 8) 8 (omega (arith, c.slice_known-1.given (8192 + b / 8))) (omega arith) in
    rw (shl_one (b % 8) (omega arith)) (record { fits = r })

pub returns : goal.returns
unfolding set_bit map_bit
returns c = rw (shl_one (c.args.b.0 % 8) (omega arith))
