-- `check_walk::judge::links_ok` meets its contract: by the kind that was decoded; a record of no kind is no inode. Assumes nothing.
use mathlib.Core.Path.{◌∙◌, sym}
use Rattle.check_marks.proofs.Heads.{head_links_lem, bad_no_inode}
use Rattle.check_walk.proofs.Families.{other_links}
use Rattle.check_walk.proofs.HeadKinds.{dir_kind, other_kind}
use Rattle.check_walk.proofs.judge.links_ok.Goals as goal

pub dir_links-requires : goal.dir_links-requires
dir_links-requires c =
    let a = c.args in
    let g = sym c.decode.ensures ∙ c.in-Some.is in
    (g, dir_kind a.image.now a.n.0 _ g (sym c.eq.ensures ∙ c.if-eq.true), c.requires)

pub returns-in-Some-2 : goal.returns-in-Some-2
returns-in-Some-2 c =
    let a = c.args in
    let g = sym c.decode.ensures ∙ c.in-Some.is in
    other_links a.image.now a.n.0 a.v _ (other_kind a.image.now a.n.0 _ g (sym c.eq.ensures ∙ c.if-eq.false))
    (c.from.ensures ∙ head_links_lem a.image.now a.n.0 _ g)

pub returns-in-None : goal.returns-in-None
returns-in-None c =
    let a = c.args in
    λ k. bad_no_inode a.image.now a.n.0 (sym c.decode.ensures ∙ c.in-None.is) c.requires.self.inode
