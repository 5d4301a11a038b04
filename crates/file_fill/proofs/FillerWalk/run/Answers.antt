-- A filler's `run` meets its contract: piece by piece. Assumes nothing.
use mathlib.Core.Path.{refl, ap, ◌∙◌}
use Prim.Native.Nat.{◌+◌, ◌-◌, ◌*◌}
use native.Mathlib.Omega.{arith}
use Rattle.words.specs.Words.{word}
use Rattle.file_fill.proofs.Fillers.{over_none, over_more, over_all, piece_in, span_piece, piece_long}
use Rattle.file_fill.proofs.FillerWalk.run.Goals as goal

pub loop-j-init : goal.loop-j-init
loop-j-init c = (omega arith, refl, c.requires.0, over_none _ _ _)

pub piece-requires : goal.piece-requires
piece-requires c = let l = c.loop-j in piece_in l.self _ _ l.j l.invariant.2 l.auto.j c.loop-j-test.true

pub loop-j-preserved : goal.loop-j-preserved
loop-j-preserved c =
    let l = c.loop-j in
    let a = c.args in (
      omega arith,
      piece_long l.self _ _ _ c.piece.ensures ∙ l.invariant.1,
      span_piece l.self _ _ _ _ _ c.piece.ensures l.invariant.2,
      over_more a.self.now a.at a.i l.j c.get.result l.self _ c.piece.ensures
          (c.get.ensures ∙ ap (λ x. word x (a.at + 4 * (l.j - a.i))) c.image.ensures)
          l.invariant.3 l.auto.j,
    )

pub returns : goal.returns
returns c =
    let l = c.loop-j in
    let a = c.args in
    over_all a.self.now a.at a.i l.j a.e l.self l.invariant.3 (omega arith)
