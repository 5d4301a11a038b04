use native.Mathlib.Omega.{arith}
use Rattle.dir_answers.proofs.Heads.{needs_small}
use Rattle.dir_create.proofs.create_takes.Goals as goal

pub overflow_add-result : goal.overflow_add-result
overflow_add-result c = omega (arith, needs_small c.args.h c.requires, c.entry_needs-k.ensures)

pub overflow_add-result-else-eq : goal.overflow_add-result-else-eq
overflow_add-result-else-eq c = omega (arith, needs_small c.args.h c.requires, c.entry_needs-k.ensures)
