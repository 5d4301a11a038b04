use Rattle.card_layout.specs.Inode.{put_front}
use Rattle.card_layout.proofs.inode.put_front.Goals as goal

pub returns : goal.returns
unfolding put_front
returns c = cc
