-- `check_walk::judge::rest` meets its contract: tests passed make the card whole (`judged_whole`), and a whole card passes each. Assumes nothing.
use mathlib.Core.Path.{◌≡◌, sym, ◌∙◌}
use native.Mathlib.Omega.{arith}
use borrow.Author.Tests.{eqb-true, eqb-false}
use Rattle.words.specs.Inner.{When}
use Rattle.words.proofs.Answers.{when_true, when_false, when-map}
use Rattle.card_layout.specs.Sizes.{maps_for}
use Rattle.card_rules.specs.View.{entry}
use Rattle.card_rules.specs.Whole.{Whole}
use Rattle.check_walk.specs.Inner.{Past, Bits}
use Rattle.check_walk.proofs.Queueing.{queue_le}
use Rattle.check_walk.proofs.Judging.{family_in, root_good, told, judged_whole, past_holds, bits_hold, tallies_hold}
use Rattle.check_walk.proofs.judge.rest.Goals as goal
use Rattle.check_walk.proofs.judge.rest.Goals.{then-eq, else-eq, then-past_ok, else-past_ok}

pub entry_number-requires : goal.entry_number-requires
entry_number-requires c =
    let p = c.requires in
    let g = root_good _ _ _ _ p.0 p.5 in
    (g.read, omega (arith, (g.dir p.4).least, g.inode.shape.counted))

pub past_ok-requires : goal.past_ok-requires
unfolding maps_for
past_ok-requires c =
    let p = c.requires in (omega (arith, p.3.mapped), omega (arith, p.3.mapped), omega (arith, p.3.mapped))

pub tally-requires : goal.tally-requires
tally-requires c =
    let p = c.requires in (p.0, queue_le _ _ _ _ p.5.queue, family_in _ _ _ _ p.0 p.5)

pub returns-then-bits : goal.returns-then-bits
returns-then-bits c =
    let r = c.args in
    let p = c.requires in
    let a = c.if-eq in
    let b = c.if-past_ok in
    let f : When a.value ((entry r.image.now 1 1 ≡ 1) × Past r.image.now r.nb r.f) (Whole r.image.now → ⊥) =
    elim a.branch [
      | then-eq w ↦
          rw w.value-is
          (when-map w.past_ok.result _ _ _ _ (λ x. (sym c.entry_number.ensures ∙ eqb-true _ 1 (sym c.eq.ensures ∙ w.if-eq.true), x))
          (λ h w. h (past_holds _ _ _ _ p.0 p.5 p.1 w _ p.2))
          w.past_ok.ensures)
      | else-eq w ↦ rw (w.value-is, w.if-eq.false) (λ h. eqb-false _ 1 (sym c.eq.ensures ∙ w.if-eq.false) (c.entry_number.ensures ∙ h.tree.root_up))
    ] in
    let g : When b.value (((entry r.image.now 1 1 ≡ 1) × Past r.image.now r.nb r.f) × Bits r.image.now r.s.now r.nb) (Whole r.image.now → ⊥) =
    elim b.branch [
      | then-past_ok w ↦
          rw w.value-is
          (when-map w.bits.result _ _ _ _ (λ x. (when_true a.value _ _ w.if-past_ok.true f, x)) (λ h w. h (bits_hold _ _ _ _ p.0 p.5 p.1 w)) w.bits.ensures)
      | else-past_ok w ↦ rw (w.value-is, w.if-past_ok.false) (when_false a.value _ _ w.if-past_ok.false f)
    ] in
    let m = when_true b.value _ _ c.if-bits.true g in
    when-map c.tally.result _ _ _ _ (λ x. (judged_whole _ _ _ _ p.0 p.5 p.1 p.3 p.4 m.0.0 _ p.2 m.0.1 m.1 x, told _ _ _ _ p.0 p.5))
    (λ h w. h (tallies_hold _ _ _ _ p.0 p.5 p.1 w))
    c.tally.ensures

pub returns-else-bits : goal.returns-else-bits
returns-else-bits c =
    let r = c.args in
    let p = c.requires in
    let a = c.if-eq in
    let b = c.if-past_ok in
    let f : When a.value ((entry r.image.now 1 1 ≡ 1) × Past r.image.now r.nb r.f) (Whole r.image.now → ⊥) =
    elim a.branch [
      | then-eq w ↦
          rw w.value-is
          (when-map w.past_ok.result _ _ _ _ (λ x. (sym c.entry_number.ensures ∙ eqb-true _ 1 (sym c.eq.ensures ∙ w.if-eq.true), x))
          (λ h w. h (past_holds _ _ _ _ p.0 p.5 p.1 w _ p.2))
          w.past_ok.ensures)
      | else-eq w ↦ rw (w.value-is, w.if-eq.false) (λ h. eqb-false _ 1 (sym c.eq.ensures ∙ w.if-eq.false) (c.entry_number.ensures ∙ h.tree.root_up))
    ] in
    let g : When b.value (((entry r.image.now 1 1 ≡ 1) × Past r.image.now r.nb r.f) × Bits r.image.now r.s.now r.nb) (Whole r.image.now → ⊥) =
    elim b.branch [
      | then-past_ok w ↦
          rw w.value-is
          (when-map w.bits.result _ _ _ _ (λ x. (when_true a.value _ _ w.if-past_ok.true f, x)) (λ h w. h (bits_hold _ _ _ _ p.0 p.5 p.1 w)) w.bits.ensures)
      | else-past_ok w ↦ rw (w.value-is, w.if-past_ok.false) (when_false a.value _ _ w.if-past_ok.false f)
    ] in
    rw c.if-bits.false (when_false b.value _ _ c.if-bits.false g)
