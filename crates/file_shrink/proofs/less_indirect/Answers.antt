-- `file_shrink::less_indirect` meets its contract. Assumes nothing.
use mathlib.Core.Path.{◌∙◌}
use mathlib.Core.Bool.{true, false}
use Rattle.file_shrink.proofs.Freers.{less_indirect_by}
use Rattle.file_shrink.proofs.less_indirect.Goals as goal

pub returns-then-comes_with : goal.returns-then-comes_with
returns-then-comes_with c = let a = c.args in c.set_indirect.ensures ∙ less_indirect_by a.b a.a a.d true c.if-comes_with.ensures

pub returns-else-comes_with : goal.returns-else-comes_with
returns-else-comes_with c = let a = c.args in less_indirect_by a.b a.a a.d false c.if-comes_with.ensures
