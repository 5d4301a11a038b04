-- `file_blocks::slots::double` meets its contract. Assumes nothing.
use mathlib.Core.Path.{refl, ap, ◌∙◌}
use Prim.Native.Nat.{◌+◌, ◌*◌}
use native.Mathlib.Omega.{arith}
use Rattle.words.specs.Words.{word}
use Rattle.words.proofs.Runs.{turns_none}
use Rattle.file_blocks.proofs.Passing.{levels_more, levels_all}
use Rattle.file_blocks.proofs.slots.double.Goals as goal

pub loop-q-init : goal.loop-q-init
loop-q-init g c = (c.requires.0, refl, omega arith, turns_none _ _ _)

pub loop-q-preserved : goal.loop-q-preserved
loop-q-preserved g c =
    let W = g.W.Walk in
    let l = c.loop-q in
    let a = c.args in (
      c.second.ensures.goes_on.0,
      c.second.ensures.goes_on.1 ∙ l.invariant.1,
      omega arith,
      levels_more W.card W.turn (W.nb a.w.now) a.d.0 a.i a.e a.w.now (W.nb l.w) c.get.result _ l.q l.w _
          c.second.ensures.walked l.invariant.1
          (c.get.ensures ∙ ap (λ x. word x (4096 * a.d.0 + 4 * l.q)) c.image.ensures) l.auto.q l.invariant.3,
    )

pub returns : goal.returns
returns g c =
    let W = g.W.Walk in
    let l = c.loop-q in
    let a = c.args in
    record {
      walked = levels_all W.card W.turn (W.nb a.w.now) a.d.0 a.i a.e a.w.now (omega arith) _ c.parts_to-q-end.result l.q l.w l.invariant.3
          c.parts_from-q.ensures c.parts_to-q-end.ensures (omega arith);
      goes_on = (l.invariant.0, l.invariant.1);
    }
