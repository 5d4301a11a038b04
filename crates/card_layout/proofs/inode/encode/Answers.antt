use Rattle.card_layout.specs.Inode.{encoded}
use Rattle.card_layout.proofs.inode.encode.Goals as goal

pub returns : goal.returns
unfolding encoded
returns c = cc
