-- A grower's `into_word` meets its contract. Assumes nothing.
use native.Mathlib.Omega.{arith}
use Rattle.file_blocks.proofs.Growth.{length-took_next}
use Rattle.file_grow.specs.Inner.{cursor}
use Rattle.file_grow.proofs.Grower.into_word.Goals as goal

pub put-requires : goal.put-requires
put-requires c = let g = c.args.self.now in rw c.take-b.ensures.took (omega (arith, c.requires.1, length-took_next g.nb (cursor g)))
