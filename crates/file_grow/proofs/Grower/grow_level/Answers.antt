-- A grower's `grow_level` meets its contract. One run, whose slots are in the double indirect block (`seconds_up`, `seconds_most`). Assumes nothing.
use mathlib.Core.Path.{sym, ap, ◌∙◌}
use Prim.Native.Nat.{ℕ, ◌+◌, ◌-◌, ◌*◌}
use native.Mathlib.Omega.{arith}
use borrow.Author.Rules.{rules}
use Rattle.file_blocks.proofs.Growth.{seconds_up, seconds_most, run_fits, grow_level_in, grow_level_out}
use Rattle.file_blocks.proofs.Picks.{both}
use Rattle.file_blocks.specs.Taking.{grow_run}
use Rattle.file_grow.specs.Inner.{cursor, growing, with_cursor, with_growing}
use Rattle.file_grow.proofs.Grower.grow_level.Goals as goal

pub returns-then-p-self-clause-grew : goal.returns-then-p-self-clause-grew
returns-then-p-self-clause-grew c =
    let a = c.args in
    let g = a.self.now in
    ap (with_growing g) (sym (grow_level_out g.nb a.a a.b (growing g) (omega arith)))

pub overflow_mul-q : goal.overflow_mul-q
overflow_mul-q c =
    let m = seconds_most c.args.a (omega arith) in
    search rules

pub overflow_add-p : goal.overflow_add-p
overflow_add-p c =
    let m = seconds_most c.args.a (omega arith) in
    search rules

pub run-requires : goal.run-requires
run-requires c =
    let a = c.args in
    let s = c.requires.0 in
    (s, omega (arith, s.0.long, seconds_most a.b c.requires.2, seconds_most a.a (omega arith), seconds_up a.a a.b c.requires.1))

pub returns-clause-grew : goal.returns-clause-grew
returns-clause-grew c =
    let a = c.args in
    let g = a.self.now in
    let p = g.inode.head.db_indirect.0 in
    c.run.ensures
    ∙ ap (with_cursor g) (both (λ (x : ℕ). λ (y : ℕ). grow_run g.nb (4096 * p + 4 * x) (y - x) (cursor g)) _ _ _ _
    c.seconds_of-q.ensures c.seconds_of-e.ensures)
    ∙ ap (with_growing g) (sym (grow_level_in g.nb a.a a.b (growing g) (omega arith)))

pub returns-clause-fit : goal.returns-clause-fit
returns-clause-fit c =
    let g = c.args.self.now in
    let s = c.requires.0 in
    rw c.run.ensures (run_fits g.nb _ _ (cursor g) s.0 s.1)
