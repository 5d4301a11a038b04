-- `check_walk::visit::visit` meets its contract: an inode of the queue that does not decode is on no whole card. Assumes nothing.
use native.Mathlib.Omega.{arith}
use mathlib.Core.Path.{refl, sym, ◌∙◌}
use lib.ListN.{get_or}
use Rattle.check_marks.proofs.Heads.{bad_no_inode}
use Rattle.check_walk.specs.Inner.{ill}
use Rattle.check_walk.proofs.Queueing.{queue_le}
use Rattle.check_walk.proofs.Visiting.{n_inside, wrong}
use Rattle.check_walk.proofs.visit.visit.Goals as goal

pub offset_bounds-s-h : goal.offset_bounds-s-h
offset_bounds-s-h c = omega (arith, queue_le _ _ _ _ c.requires.2.queue)

pub bounds-s-h : goal.bounds-s-h
bounds-s-h c = omega (arith, queue_le _ _ _ _ c.requires.2.queue)

pub decode-requires : goal.decode-requires
decode-requires c =
    let a = c.args in
    let p = c.requires in
    omega (arith, n_inside a.image.now a.s.now a.nb a.h a.t (get_or a.s.now a.h 0) p.2 p.0.words p.1 refl)

pub returns-in_err-d : goal.returns-in_err-d
returns-in_err-d c =
    let a = c.args in
    let p = c.requires in
    rw c.from_residual.ensures
    (λ enb w.
    wrong a.image.now a.s.now a.nb a.h a.t (get_or a.s.now a.h 0) p.2 p.0.words p.1 refl enb w
    (ill (bad_no_inode a.image.now (get_or a.s.now a.h 0) (sym c.decode.ensures ∙ c.in_err-d.was))))
