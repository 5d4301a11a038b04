-- `check_walk::judge::family` meets its contract. The loop's invariant: of the first j children c are directories, each with n as its parent (`First`),
-- and p knows its block. Assumes nothing.
use mathlib.Core.Path.{◌∙◌, sym, subst}
use Prim.Native.Nat.{ℕ, ◌+◌}
use native.Mathlib.Omega.{arith}
use borrow.Author.Tests.{eqb-true, eqb-false, not-false}
use Rattle.card_layout.specs.Inode.{kind}
use Rattle.check_names.proofs.Entries.{nowhere_block}
use Rattle.check_walk.proofs.Families.{First, first_none, first_dir, first_other, kid_inside}
use Rattle.check_walk.proofs.judge.family.Goals as goal
use Rattle.check_walk.proofs.judge.family.Goals.{then-is_dir+else-ne, else-is_dir}

pub loop-j-init : goal.loop-j-init
loop-j-init c = (first_none _ _, nowhere_block _ _ _ _ c.nowhere-p.ensures.0 c.nowhere-p.ensures.1)

pub entry_after-p-requires : goal.entry_after-p-requires
entry_after-p-requires c =
    let a = c.args in
    let g = c.requires.2.self in
    (g.read, kid_inside a.image.now a.n.0 c.loop-j.j g.inode (omega (arith, c.requires.0)), c.loop-j.invariant.1)

pub loop-j-preserved : goal.loop-j-preserved
loop-j-preserved c =
    let a = c.args in
    let l = c.loop-j in
    let x = c.entry_after-p in
    let e = x.ensures.1 in
    let m = x.result.number.0 in
    let k = c.is_dir.ensures in (
      elim c.if-is_dir.branch [
        | then-is_dir+else-ne w ↦ subst (λ (x : ℕ). First a.image.now a.n.0 (l.j + 1) x) (sym w.c-is)
            (first_dir _ _ _ _ _ l.invariant.0 e
            (eqb-true (kind a.image.now m) 2 (sym k ∙ w.if-is_dir.true))
            (sym w.entry_number-up.ensures ∙ eqb-true _ _ (not-false _ (sym w.ne.ensures ∙ w.if-ne.false))))
        | else-is_dir w ↦ subst (λ (x : ℕ). First a.image.now a.n.0 (l.j + 1) x) (sym w.c-is)
            (first_other _ _ _ _ _ l.invariant.0 e (eqb-false (kind a.image.now m) 2 (sym k ∙ w.if-is_dir.false)))
      ],
      x.ensures.0,
    )
