-- A reader's `run` meets its contract: piece by piece. Assumes nothing.
use native.Mathlib.Omega.{arith}
use Rattle.file_read.proofs.Readers.{over_none, over_more, over_all, piece_in, span_piece}
use Rattle.file_read.proofs.ReaderWalk.run.Goals as goal

pub loop-j-init : goal.loop-j-init
loop-j-init c = (omega arith, c.requires.0, over_none _ _ _)

pub piece-requires : goal.piece-requires
piece-requires c = let l = c.loop-j in piece_in l.self _ _ l.j l.invariant.1 l.auto.j c.loop-j-test.true

pub loop-j-preserved : goal.loop-j-preserved
loop-j-preserved c =
    let l = c.loop-j in
    let a = c.args in (
      omega arith,
      span_piece l.self _ _ _ _ _ c.piece.ensures l.invariant.1,
      over_more a.self.now a.at a.i l.j c.get.result l.self _ c.piece.ensures c.get.ensures l.invariant.2 l.auto.j,
    )

pub returns : goal.returns
returns c =
    let l = c.loop-j in
    let a = c.args in
    over_all a.self.now a.at a.i l.j a.e l.self l.invariant.2 (omega arith)
