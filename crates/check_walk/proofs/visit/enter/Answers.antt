-- `check_walk::visit::enter` meets its contract: inode n met and its children noted is one step more of the walk,
-- and a whole card refuses neither. Assumes nothing.
use native.Mathlib.Omega.{arith}
use mathlib.Core.Path.{◌≡◌, ◌∙◌}
use Rattle.card_rules.specs.View.{kids}
use Rattle.check_walk.proofs.Visiting.{space_kept, head_kids_lem, kids_in, queue_met, t_le, n_inside, n_reached, wrong, entered}
use Rattle.check_walk.proofs.visit.enter.Goals as goal

pub meet-requires : goal.meet-requires
meet-requires c =
    let a = c.args in
    let p = c.requires in (
      p.0,
      n_inside a.image.now a.s.now a.nb a.h a.t a.n.0 p.4 p.0.words p.1 p.2,
      t_le a.image.now a.s.now a.nb a.h a.t a.n.0 p.4 p.0.words p.1 p.2,
      p.3,
    )

pub returns-then-not-meet : goal.returns-then-not-meet
returns-then-not-meet c =
    let a = c.args in
    let p = c.requires in
    λ enb w.
    wrong a.image.now a.s.now a.nb a.h a.t a.n.0 p.4 p.0.words p.1 p.2 enb w c.if-not-meet.ensures

pub scan-requires : goal.scan-requires
scan-requires c =
    let a = c.args in
    let p = c.requires in
    let m = c.if-not-meet.ensures in
    let e : c.kid_count-e.result ≡ kids a.image.now a.n.0 =
    c.kid_count-e.ensures.0 ∙ head_kids_lem a.image.now a.n.0 a.d p.3 in (
      space_kept p.0 m.long,
      e,
      c.kid_count-e.ensures.1,
      λ l. omega (arith, e, kids_in a.image.now a.n.0 m.good.inode (omega (arith, e))),
      m.good.read,
      n_reached a.image.now a.s.now a.nb a.h a.t a.n.0 p.4 p.0.words p.1 p.2,
      queue_met a.image.now a.s.now _ a.nb a.n.0 a.t p.4.queue m,
    )

pub returns : goal.returns
returns c =
    let a = c.args in
    let p = c.requires in
    let m = c.if-not-meet.ensures in
    entered a.image.now a.s.now a.nb a.h a.t a.n.0 p.4 p.0.words p.1 p.2 _ _ c.scan.result
    (record { below = λ k. (c.type_inv.image k).fits })
    m
    c.scan.ensures
