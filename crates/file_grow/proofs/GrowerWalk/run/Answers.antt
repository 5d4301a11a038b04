-- A grower's `run` meets its contract: slot by slot. Assumes nothing.
use mathlib.Core.Path.{refl, ◌∙◌}
use native.Mathlib.Omega.{arith}
use Rattle.file_grow.proofs.Growers.{over_none, over_more, word_long}
use Rattle.file_grow.proofs.GrowerWalk.run.Goals as goal

pub loop-j-init : goal.loop-j-init
loop-j-init c = (omega arith, refl, c.requires.0, over_none _ _ _)

pub loop-j-preserved : goal.loop-j-preserved
loop-j-preserved c =
    let l = c.loop-j in
    let a = c.args in
    let w = c.into_word.ensures in (
      omega arith,
      word_long l.self _ _ w.took ∙ l.invariant.1,
      w.fit,
      over_more a.self.now a.at a.i l.j l.self _ w.took l.invariant.3 l.auto.j,
    )
