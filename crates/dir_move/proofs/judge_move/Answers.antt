use mathlib.Core.Path.{sym}
use Rattle.dir_answers.proofs.Heads.{dir_good}
use Rattle.dir_move.proofs.judge_move.Goals as goal

pub judge_source-requires : goal.judge_source-requires
judge_source-requires c =
    let a = c.args in
    let i = a.image.now in
    let q = c.requires in
    let s = c.in_ok-dir_head in
    let t = c.in_ok-dir_head-2 in
    ((q.0, q.2, dir_good i a.t.0 _ (sym t.ensures)), (q.0, q.1, dir_good i a.p.0 _ (sym s.ensures)))
