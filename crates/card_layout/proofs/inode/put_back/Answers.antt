use Rattle.card_layout.specs.Inode.{put_back}
use Rattle.card_layout.proofs.inode.put_back.Goals as goal

pub returns : goal.returns
unfolding put_back
returns c = cc
