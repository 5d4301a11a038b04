-- `dir_create::judge_create` meets its contract. What it looks at of a whole card is there to be read. Assumes nothing.
use mathlib.Core.Path.{sym, subst}
use Rattle.file_blocks.specs.Inner.{Sizes}
use Rattle.dir_answers.proofs.Ready.{here_ready, sizes_whole}
use Rattle.dir_answers.proofs.Heads.{head_small, dir_good}
use Rattle.dir_create.proofs.judge_create.Goals as goal

pub dir_head-requires : goal.dir_head-requires
dir_head-requires c = here_ready c.args.image.now c.requires.0 c.args.p.0 c.requires.1

pub create_room-requires : goal.create_room-requires
create_room-requires c =
    let a = c.args in
    let p = c.requires in
    let g = dir_good a.image.now a.p.0 _ (sym c.in_ok-h.ensures) in
    (subst (Sizes a.image.now) (sym p.2) (sizes_whole a.image.now p.0), head_small a.image.now p.0 a.p.0 p.1 _ g.0)
