-- `dir_entries::finding::is_dots` meets its contract, by two comparisons of text. Assumes nothing.
use Rattle.dir_entries.proofs.Given.{dots_first, dots_second}
use Rattle.dir_entries.proofs.finding.is_dots.Goals as goal

pub returns-then-eq : goal.returns-then-eq
returns-then-eq c = dots_first c.args.x.now c.eq.result c.eq.ensures c.if-eq.true

pub returns-else-eq : goal.returns-else-eq
returns-else-eq c = dots_second c.args.x.now c.eq.result c.eq-else-eq.result c.eq.ensures c.if-eq.false c.eq-else-eq.ensures
