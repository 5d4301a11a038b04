-- A freer's `run` meets its contract: slot by slot. Assumes nothing.
use mathlib.Core.Path.{refl, ap, ◌∙◌}
use Prim.Native.Nat.{◌+◌, ◌-◌, ◌*◌}
use native.Mathlib.Omega.{arith}
use Rattle.words.specs.Words.{word}
use Rattle.file_shrink.proofs.Freers.{over_none, over_more, freed_long}
use Rattle.file_shrink.proofs.FreerWalk.run.Goals as goal

pub loop-j-init : goal.loop-j-init
loop-j-init c = (omega arith, refl, c.requires.0, over_none _ _ _)

pub loop-j-preserved : goal.loop-j-preserved
loop-j-preserved c =
    let l = c.loop-j in
    let a = c.args in (
      omega arith,
      freed_long l.self _ _ c.free.ensures.freed ∙ l.invariant.1,
      c.free.ensures.sized,
      over_more a.self.now a.at a.i l.j c.get.result l.self _ c.free.ensures.freed
          (c.get.ensures ∙ ap (λ x. word x (a.at + 4 * (l.j - a.i))) c.image.ensures)
          l.invariant.3
          l.auto.j,
    )
