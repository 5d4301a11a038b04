-- `dir_entries::finding::same` meets its contract: a name that does not end where x does, or ends otherwise, is another (`eqs_open`, `eqs_tail`). Assumes nothing.
use mathlib.Core.Path.{sym, ◌∙◌}
use borrow.Author.Tests.{eqb-false, not-true}
use Rattle.dir_entries.proofs.Comparing.{eqs_open, eqs-long, eqs_tail}
use Rattle.dir_entries.proofs.finding.same.Goals as goal

pub returns-then-not-ends_at : goal.returns-then-not-ends_at
returns-then-not-ends_at c =
    let a = c.args in
    let f = c.ends_at in
    sym (eqs_open a.e.now a.x.now (eqb-false _ 0 (sym f.ensures ∙ not-true _ c.if-not-ends_at.true-raw)))

pub returns-then-e-x : goal.returns-then-e-x
returns-then-e-x c = let a = c.args in sym (eqs-long a.e.now a.x.now c.if-e-x.true)

pub returns-then-tail_differs : goal.returns-then-tail_differs
returns-then-tail_differs c =
    let a = c.args in
    let f = c.tail_differs in
    sym (eqs_tail a.e.now a.x.now (sym f.ensures ∙ c.if-tail_differs.true))
