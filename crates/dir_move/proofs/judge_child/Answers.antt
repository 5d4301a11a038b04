use Rattle.dir_answers.proofs.Ready.{here_ready}
use Rattle.dir_answers.proofs.Dirs.{entry_ready, named_reached}
use Rattle.dir_move.proofs.judge_child.Goals as goal

pub entry_number-c-requires : goal.entry_number-c-requires
entry_number-c-requires c =
    let p = c.requires in
    entry_ready c.args.image.now p.0.0 c.args.p.0 p.1 c.args.k p.2.1

pub decode-requires : goal.decode-requires
decode-requires c =
    let a = c.args in
    let p = c.requires in
    here_ready a.image.now p.0.0 _ (named_reached a.image.now p.0.0 a.p.0 p.1 a.k p.2.1 p.2.0 _ c.entry_number-c.ensures)
