-- `dir_link::judge_link` meets its contract. What it looks at of a whole card is there to be read. Assumes nothing.
use mathlib.Core.Path.{sym}
use native.Mathlib.Omega.{arith}
use Rattle.dir_answers.proofs.Ready.{here_ready}
use Rattle.dir_answers.proofs.Heads.{head_small, dir_good}
use Rattle.dir_link.proofs.judge_link.Goals as goal

pub dir_head-requires : goal.dir_head-requires
dir_head-requires c = here_ready c.args.image.now c.requires.0 c.args.p.0 c.requires.1

pub decode-requires : goal.decode-requires
decode-requires c = here_ready c.args.image.now c.requires.0 c.args.c.0 c.requires.2

pub link_room-requires : goal.link_room-requires
link_room-requires c =
    let a = c.args in
    let p = c.requires in
    let g = dir_good a.image.now a.p.0 _ (sym c.in_ok-h.ensures) in
    (omega (arith, here_ready a.image.now p.0 a.p.0 p.1), head_small a.image.now p.0 a.p.0 p.1 _ g.0)
