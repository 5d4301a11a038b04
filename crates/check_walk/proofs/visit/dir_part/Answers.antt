-- `check_walk::visit::dir_part` meets its contract: a directory by rule 6, and anything else as it is. Assumes nothing.
use Prim.Native.Nat.{◌*◌}
use mathlib.Core.Path.{sym, ◌∙◌}
use native.Mathlib.Omega.{arith}
use borrow.Author.Tests.{not-true, not-false}
use borrow.Rule.Slice.PartMut.{mid_len}
use Rattle.words.proofs.Answers.{when-map}
use Rattle.check_marks.proofs.Heads.{head_size}
use Rattle.check_walk.proofs.HeadKinds.{dir_kind, other_kind}
use Rattle.check_walk.proofs.Visiting.{same_none, same_mid}
use Rattle.check_walk.proofs.visit.dir_part.Goals as goal

pub dir_ok-requires : goal.dir_ok-requires
dir_ok-requires c =
    let a = c.args in
    let p = c.requires in
    let k = mid_len a.t (2 * a.nb) a.s.now (omega arith) in
    (omega arith, head_size a.image.now a.n.0 a.h p.2, p.4, p.3)

pub returns-then-ne : goal.returns-then-ne
returns-then-ne c =
    let a = c.args in
    let o = other_kind a.image.now a.n.0 a.h c.requires.2 (not-true _ (sym c.ne.ensures ∙ c.if-ne.true)) in
    rw c.if-ne.true (same_none a.s.now a.nb a.t, λ k. absurd (o k))

pub returns-else-ne : goal.returns-else-ne
returns-else-ne c =
    let a = c.args in
    let d = c.dir_ok in
    let k = dir_kind a.image.now a.n.0 a.h c.requires.2 (not-false _ (sym c.ne.ensures ∙ c.if-ne.false)) in
    when-map d.result _ _ _ _ (λ x. (same_mid a.s.now d.new.w a.nb a.t (omega arith) (omega arith) d.ensures.0, λ q. x)) (λ f r. f (r k)) d.ensures.1
