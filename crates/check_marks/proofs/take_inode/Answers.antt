-- `check_marks::take_inode` meets its contract: `owns_head` says what an inode uses in the parts in which it is marked. Assumes nothing.
use Prim.Native.Nat.{ℕ, ◌+◌, ◌≤◌}
use mathlib.Core.Path.{refl}
use mathlib.Core.List.{List}
use native.Mathlib.Omega.{arith}
use Rattle.card_layout.specs.declared.inode.Head.{Head}
use Rattle.words.proofs.Answers.{when_true, when_false}
use Rattle.check_marks.specs.Inner.{record_use, indirect_use}
use Rattle.check_marks.proofs.Marking.{marked_inside, clash_le, Did, did_after}
use Rattle.check_marks.proofs.Uses.{owns_head, record_indirect, record_double}
use Rattle.check_marks.proofs.take_inode.Goals as goal
use Rattle.check_marks.proofs.take_inode.Goals.{then-mark_record, else-mark_record}

-- what the record and the indirect block name
abbrev upper : List ℕ → ℕ → Head → ℕ → ℕ
upper img n h b = record_use img n h.blocks b + indirect_use img h.indirect.0 h.blocks b

pub mark_indirect-requires : goal.mark_indirect-requires
mark_indirect-requires c =
    let a = c.args in
    let m = c.if-mark_record.ensures in (
      record { few = omega (arith, m.long, c.requires.0.few); card = omega (arith, m.long, c.requires.0.card) },
      λ l.
          omega (
            arith,
            m.long,
            marked_inside (record_use a.image.now a.n.0 a.h.blocks) a.h.indirect.0 m
                (record_indirect a.image.now a.n.0 a.h.blocks a.h.indirect.0 c.requires.2.single l),
          ),
    )

pub mark_double-requires : goal.mark_double-requires
mark_double-requires c =
    let a = c.args in
    let small : a.h.blocks ≤ 1049612 = omega (arith, c.requires.3) in
    let p = c.if-mark_record in
    let j : Did p.value a.u.now p.u (upper a.image.now a.n.0 a.h) =
    elim p.branch [
      | then-mark_record w ↦ rw (w.value-is, w.u-is) (did_after _ _ _ _ _ _ _ w.if-mark_record.ensures (λ b. refl) w.mark_indirect.ensures)
      | else-mark_record w ↦ rw (w.value-is, w.if-mark_record.false) (clash_le _ _ w.if-mark_record.ensures (λ b. omega arith))
    ] in
    let m = when_true p.value _ _ c.if-mark_indirect.true j in (
      record { few = omega (arith, m.long, c.requires.0.few); card = omega (arith, m.long, c.requires.0.card) },
      c.requires.3,
      λ l.
          omega (
            arith,
            m.long,
            marked_inside (upper a.image.now a.n.0 a.h) a.h.db_indirect.0 m
                (omega (arith, record_double a.image.now a.n.0 a.h.blocks a.h.db_indirect.0 c.requires.2.twofold l)),
          ),
    )

pub returns-then-mark_indirect : goal.returns-then-mark_indirect
returns-then-mark_indirect c =
    let a = c.args in
    let small : a.h.blocks ≤ 1049612 = omega (arith, c.requires.3) in
    let p = c.if-mark_record in
    let j : Did p.value a.u.now p.u (upper a.image.now a.n.0 a.h) =
    elim p.branch [
      | then-mark_record w ↦ rw (w.value-is, w.u-is) (did_after _ _ _ _ _ _ _ w.if-mark_record.ensures (λ b. refl) w.mark_indirect.ensures)
      | else-mark_record w ↦ rw (w.value-is, w.if-mark_record.false) (clash_le _ _ w.if-mark_record.ensures (λ b. omega arith))
    ] in
    did_after _ _ _ _ _ _ _ (when_true p.value _ _ c.if-mark_indirect.true j)
    (λ b. owns_head a.image.now a.n.0 a.h c.requires.2 small b)
    c.mark_double.ensures

pub returns-else-mark_indirect : goal.returns-else-mark_indirect
returns-else-mark_indirect c =
    let a = c.args in
    let small : a.h.blocks ≤ 1049612 = omega (arith, c.requires.3) in
    let p = c.if-mark_record in
    let j : Did p.value a.u.now p.u (upper a.image.now a.n.0 a.h) =
    elim p.branch [
      | then-mark_record w ↦ rw (w.value-is, w.u-is) (did_after _ _ _ _ _ _ _ w.if-mark_record.ensures (λ b. refl) w.mark_indirect.ensures)
      | else-mark_record w ↦ rw (w.value-is, w.if-mark_record.false) (clash_le _ _ w.if-mark_record.ensures (λ b. omega arith))
    ] in
    rw c.if-mark_indirect.false
    (clash_le _ _ (when_false p.value _ _ c.if-mark_indirect.false j) (λ b. omega (arith, owns_head a.image.now a.n.0 a.h c.requires.2 small b)))
