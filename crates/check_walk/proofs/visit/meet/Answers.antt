-- `check_walk::visit::meet` meets its contract: what the three tests say together. Assumes nothing.
use mathlib.Core.Path.{◌≡◌}
use mathlib.Core.Bool.{Bool, true, false}
use mathlib.Core.List.{List}
use Prim.Native.Nat.{ℕ, ◌≤◌}
use Rattle.words.specs.Inner.{When}
use Rattle.words.proofs.Answers.{when_true, when_false}
use Rattle.card_layout.specs.Inode.{decoded}
use Rattle.card_layout.specs.declared.inode.Head.{Head}
use Rattle.check_marks.proofs.Heads.{head_of, inode_fits}
use Rattle.check_marks.specs.Inner.{HeadFits}
use Rattle.check_walk.specs.Inner.{Space, Same, DirRule, Met, Taken, Takes, Unmet, ill, taken, bad_dir}
use Rattle.check_walk.proofs.Visiting.{space_kept, inode_met, read_met, met_same}
use Rattle.check_walk.proofs.visit.meet.Goals as goal
use Rattle.check_walk.proofs.visit.meet.Goals.{then-head_ok, else-head_ok}
use Rattle.std.specs.Prelude.{Some}

module _ (img s : List ℕ) (nb n : ℕ) (h : Head) (g : decoded img n ≡ Some h) where
  abbrev Fit : Type 0
  Fit = HeadFits h × (h.blocks ≤ 1048576)

  -- the head and then the blocks
  both : (t r : Bool) (s₁ : List ℕ) → t ≡ true → When t Fit (HeadFits h → ⊥) → Takes r img s s₁ nb n → When r (Fit × Taken img s s₁ nb n) (Unmet img s nb n)
  both t true s₁ e f k = (when_true t _ _ e f, k)
  both t false s₁ e f k = taken k

  unfit : (t : Bool) (A : Type 0) → t ≡ false → When t Fit (HeadFits h → ⊥) → When t A (Unmet img s nb n)
  unfit false A e f = ill (λ i. f (inode_fits img n h g i))
  unfit true A e f = absurd (cc)

  -- and then the names
  named : (r : Bool) (s₁ s₂ : List ℕ) (t : ℕ) → Space img s nb → t ≤ nb → Fit × Taken img s s₁ nb n
      → When r (Same s₁ s₂ nb t × DirRule img n) (DirRule img n → ⊥) → When r (Met img s s₂ nb n t) (Unmet img s nb n)
  named true s₁ s₂ t z l b d = met_same img s s₁ nb n h g b.0 z b.1 s₂ t l d.0 d.1
  named false s₁ s₂ t z l b d = bad_dir d

pub take-requires : goal.take-requires
take-requires c =
    let a = c.args in
    let p = c.requires in
    let f = when_true c.head_ok.result _ _ c.if-head_ok.true c.head_ok.ensures in
    (p.0, p.1, head_of a.image.now a.n.0 a.h p.3, f.1)

pub dir_part-requires : goal.dir_part-requires
dir_part-requires c =
    let a = c.args in
    let p = c.requires in
    let j = c.if-head_ok in
    let b : When j.value (Fit a.image.now a.s.now a.nb a.n.0 a.h p.3 × Taken a.image.now a.s.now j.s a.nb a.n.0) (Unmet a.image.now a.s.now a.nb a.n.0) =
    elim j.branch [
      | then-head_ok w ↦ rw (w.value-is, w.s-is) (both a.image.now a.s.now a.nb a.n.0 a.h p.3 _ _ _ w.if-head_ok.true c.head_ok.ensures w.take.ensures)
      | else-head_ok w ↦ rw w.value-is (unfit a.image.now a.s.now a.nb a.n.0 a.h p.3 _ _ w.if-head_ok.false c.head_ok.ensures)
    ] in
    let m = when_true j.value _ _ c.if-take.true b in (
      space_kept p.0 m.1.long,
      p.2,
      p.3,
      inode_met a.image.now a.s.now _ a.nb a.n.0 a.h p.3 m.0 p.0 m.1,
      read_met a.image.now a.s.now _ a.nb a.n.0 a.h p.3 m.0 p.0 m.1,
    )

pub returns-then-take : goal.returns-then-take
returns-then-take c =
    let a = c.args in
    let p = c.requires in
    let j = c.if-head_ok in
    let b : When j.value (Fit a.image.now a.s.now a.nb a.n.0 a.h p.3 × Taken a.image.now a.s.now j.s a.nb a.n.0) (Unmet a.image.now a.s.now a.nb a.n.0) =
    elim j.branch [
      | then-head_ok w ↦ rw (w.value-is, w.s-is) (both a.image.now a.s.now a.nb a.n.0 a.h p.3 _ _ _ w.if-head_ok.true c.head_ok.ensures w.take.ensures)
      | else-head_ok w ↦ rw w.value-is (unfit a.image.now a.s.now a.nb a.n.0 a.h p.3 _ _ w.if-head_ok.false c.head_ok.ensures)
    ] in
    named a.image.now a.s.now a.nb a.n.0 a.h p.3 _ _ _ _ p.0 p.2 (when_true j.value _ _ c.if-take.true b) c.dir_part.ensures

pub returns-else-take : goal.returns-else-take
returns-else-take c =
    let a = c.args in
    let p = c.requires in
    let j = c.if-head_ok in
    let b : When j.value (Fit a.image.now a.s.now a.nb a.n.0 a.h p.3 × Taken a.image.now a.s.now j.s a.nb a.n.0) (Unmet a.image.now a.s.now a.nb a.n.0) =
    elim j.branch [
      | then-head_ok w ↦ rw (w.value-is, w.s-is) (both a.image.now a.s.now a.nb a.n.0 a.h p.3 _ _ _ w.if-head_ok.true c.head_ok.ensures w.take.ensures)
      | else-head_ok w ↦ rw w.value-is (unfit a.image.now a.s.now a.nb a.n.0 a.h p.3 _ _ w.if-head_ok.false c.head_ok.ensures)
    ] in
    rw c.if-take.false (when_false j.value _ _ c.if-take.false b)
