-- `dir_entries::finding::no_nul` meets its contract. The invariant: x holds no NUL where what is left of it from a place on holds none. Assumes nothing.
use mathlib.Core.Path.{sym, ◌∙◌}
use Rattle.dir_entries.proofs.Given.{none_here, none_next, none_end}
use Rattle.dir_entries.proofs.finding.no_nul.Goals as goal

pub returns-then-b-eq0 : goal.returns-then-b-eq0
returns-then-b-eq0 c = sym (c.loop-b.invariant ∙ none_here c.args.x.now c.loop-b.b-index c.loop-b-test.true c.if-b-eq0.true)

pub loop-b-preserved : goal.loop-b-preserved
loop-b-preserved c = c.loop-b.invariant ∙ none_next c.args.x.now c.loop-b.b-index c.loop-b-test.true c.if-b-eq0.false

pub returns : goal.returns
returns c = sym (c.loop-b.invariant ∙ none_end c.args.x.now c.loop-b.b-index c.loop-b-test.false)
