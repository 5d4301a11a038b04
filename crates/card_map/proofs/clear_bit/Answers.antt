-- `card_map::clear_bit` meets its contract: `1 << k` is the power (`shl_one`). Assumes nothing.
use Rattle.std.proofs.Common.{◌%◌, arith}
use Rattle.card_map.specs.Bits.{map_bit, clear_bit}
use Rattle.card_map.proofs.Bits.{shl_one}
use Rattle.card_map.proofs.clear_bit.Goals as goal

pub returns : goal.returns
unfolding clear_bit map_bit
returns c = rw (shl_one (c.args.b.0 % 8) (omega arith))
