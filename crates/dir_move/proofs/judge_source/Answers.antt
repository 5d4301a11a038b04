use mathlib.Core.Path.{sym}
use Rattle.dir_answers.proofs.Dirs.{dir_kind}
use Rattle.dir_answers.proofs.Tests.{place_is}
use Rattle.dir_move.proofs.judge_source.Goals as goal

pub judge_child-requires : goal.judge_child-requires
judge_child-requires c =
    let i = c.args.image.now in
    let p = c.args.p in
    let q = c.requires in
    let k = place_is i p.id.0 c.args.old.now c.in_ok-k.k (sym c.in_ok-k.ensures) in
    (q.0, q.1.1, (dir_kind i p.id.0 p.head q.1.2.0 q.1.2.1, k.1))
