use Rattle.card_layout.specs.Super.{super_put}
use Rattle.card_layout.proofs.superblock.encode.Goals as goal

pub returns : goal.returns
unfolding super_put
returns c = cc
