-- A grower's `grow_indirect` meets its contract. Assumes nothing.
use mathlib.Core.Path.{◌∙◌}
use mathlib.Core.Bool.{true, false}
use Rattle.file_grow.proofs.Growers.{indirect_by, indirect_put}
use Rattle.file_grow.proofs.Grower.grow_indirect.Goals as goal

pub returns-then-comes_with-clause-grew : goal.returns-then-comes_with-clause-grew
returns-then-comes_with-clause-grew c =
    let a = c.args in
    let x = c.take-x in
    indirect_put a.self.now _ _ _ x.ensures.took x.ensures.number c.set_indirect-self.ensures ∙ indirect_by a.self.now a.a a.b true c.if-comes_with.ensures

pub returns-else-comes_with-clause-grew : goal.returns-else-comes_with-clause-grew
returns-else-comes_with-clause-grew c = let a = c.args in indirect_by a.self.now a.a a.b false c.if-comes_with.ensures
