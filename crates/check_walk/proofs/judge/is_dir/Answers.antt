-- `check_walk::judge::is_dir` meets its contract: by the kind that was decoded; a record of no kind is no directory's. Assumes nothing.
use mathlib.Core.Path.{◌≡◌, ◌∙◌, sym}
use mathlib.Core.Bool.{true, false}
use borrow.Author.Tests.{eq-eqb, ne_eqb}
use Rattle.check_marks.proofs.Heads.{bad_no_dir}
use Rattle.check_walk.proofs.HeadKinds.{dir_kind, other_kind}
use Rattle.check_walk.proofs.judge.is_dir.Goals as goal

pub returns-in-Some : goal.returns-in-Some
returns-in-Some c =
    let a = c.args in
    sym (eq-eqb _ 2 (dir_kind a.image.now a.n.0 _ (sym c.decode.ensures ∙ c.in-Some.is) (let t : c.eq.result ≡ true = cc in sym c.eq.ensures ∙ t)))

pub returns-in_default : goal.returns-in_default
returns-in_default c =
    let a = c.args in
    sym (ne_eqb _ 2 (other_kind a.image.now a.n.0 _ (sym c.decode.ensures ∙ c.in-Some.is) (let t : c.eq.result ≡ false = cc in sym c.eq.ensures ∙ t)))

pub returns-in_default-2 : goal.returns-in_default-2
returns-in_default-2 c =
    let a = c.args in
    sym (ne_eqb _ 2 (bad_no_dir a.image.now a.n.0 (sym c.decode.ensures ∙ c.in_default.is)))
