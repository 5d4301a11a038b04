-- `card_map::bit` meets its contract: the shift is the division of the definition. Assumes nothing.
use Rattle.card_map.specs.Bits.{map_bit}
use Rattle.std.proofs.Common.{rules}
use Rattle.card_map.proofs.bit.Goals as goal

pub returns : goal.returns
unfolding map_bit
returns c = search rules
