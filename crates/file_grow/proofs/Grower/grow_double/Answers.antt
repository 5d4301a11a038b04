-- A grower's `grow_double` meets its contract. Assumes nothing.
use mathlib.Core.Path.{◌∙◌}
use mathlib.Core.Bool.{true, false}
use Rattle.file_grow.proofs.Growers.{double_by, double_put}
use Rattle.file_grow.proofs.Grower.grow_double.Goals as goal

pub returns-then-comes_with-clause-grew : goal.returns-then-comes_with-clause-grew
returns-then-comes_with-clause-grew c =
    let a = c.args in
    let x = c.take-x in
    double_put a.self.now _ _ _ x.ensures.took x.ensures.number c.set_db_indirect-self.ensures ∙ double_by a.self.now a.a a.b true c.if-comes_with.ensures

pub returns-else-comes_with-clause-grew : goal.returns-else-comes_with-clause-grew
returns-else-comes_with-clause-grew c = let a = c.args in double_by a.self.now a.a a.b false c.if-comes_with.ensures
