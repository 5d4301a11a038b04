use mathlib.Core.Path.{sym}
use Rattle.dir_move.proofs.MoveLaws.{move_asks}
use Rattle.dir_move.proofs.move_.Goals as goal

pub move_named-requires : goal.move_named-requires
move_named-requires c =
    let a = c.args in
    let p = c.requires in
    (p.0, p.1, p.2, p.3, move_asks a.nb a.image.now a.p.0 a.old.now a.t.0 a.new.now _ (sym c.in_ok-k.ensures))
