-- A grower's `take` meets its contract. Assumes nothing.
use native.Mathlib.Omega.{arith}
use borrow.Author.Rules.{rules}
use Rattle.file_blocks.proofs.Growth.{next_free_below, took_fits}
use Rattle.file_grow.specs.Inner.{cursor}
use Rattle.file_grow.proofs.Grower.take.Goals as goal

pub overflow_add-self : goal.overflow_add-self
overflow_add-self c =
    let g = c.args.self.now in
    let s = c.requires.0 in
    let l = next_free_below g.nb g.image.now g.from.0 (omega (arith, s.few)) in
    let b = s.many in
    search rules

pub returns-clause-fit : goal.returns-clause-fit
returns-clause-fit c = let g = c.args.self.now in rw (c.take_next-b.ensures.1, c.take_next-b.ensures.0) (took_fits g.nb (cursor g) c.requires.0)
