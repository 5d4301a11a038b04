use mathlib.Core.Path.{sym, ◌∙◌}
use Rattle.dir_answers.proofs.Ready.{here_ready}
use Rattle.dir_answers.proofs.Dirs.{entry_ready, named_reached}
use Rattle.dir_move.proofs.MoveLaws.{move_ready}
use Rattle.dir_move.proofs.move_named.Goals as goal

pub entry_number-c-requires : goal.entry_number-c-requires
entry_number-c-requires c =
    let p = c.requires in
    entry_ready c.args.image.now p.0 c.args.p.0 p.1 c.args.k p.4.1

pub decode-requires-3 : goal.decode-requires-3
decode-requires-3 c =
    let a = c.args in
    let p = c.requires in
    here_ready a.image.now p.0 _ (named_reached a.image.now p.0 a.p.0 p.1 a.k p.4.1 p.4.0 _ c.entry_number-c.ensures)

pub move_at-requires : goal.move_at-requires
move_at-requires c =
    let a = c.args in
    let p = c.requires in
    let q = sym c.decode.ensures ∙ c.in-Some.is in
    let u = sym c.decode-2.ensures ∙ c.in-Some-decode.is in
    let e = sym c.decode-3.ensures ∙ c.in-Some-decode-2.is in
    move_ready a.nb a.image.now p.0 a.p.0 a.k a.t.0 a.new.now p.1 p.2 _ c.entry_number-c.ensures p.3 p.4 _ _ _ q u e
