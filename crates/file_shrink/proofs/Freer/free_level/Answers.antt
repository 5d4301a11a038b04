-- A freer's `free_level` meets its contract. One run, whose slots are in the double indirect block (`seconds_up`, `seconds_most`). Assumes nothing.
use mathlib.Core.Path.{sym, ap, ◌∙◌}
use Prim.Native.Nat.{ℕ, ◌+◌, ◌-◌, ◌*◌}
use native.Mathlib.Omega.{arith}
use borrow.Author.Rules.{rules}
use Rattle.file_blocks.proofs.Growth.{seconds_up, seconds_most}
use Rattle.file_blocks.proofs.Picks.{both}
use Rattle.file_blocks.specs.Taking.{free_run}
use Rattle.file_shrink.specs.Inner.{with_card}
use Rattle.file_shrink.proofs.Freers.{over_sized}
use Rattle.file_shrink.proofs.Freeing.{free_level_in, free_level_out}
use Rattle.file_shrink.proofs.Freer.free_level.Goals as goal

pub returns-then-p-self : goal.returns-then-p-self
returns-then-p-self c =
    let a = c.args in
    let f = a.self.now in
    record { freed = ap (with_card f) (sym (free_level_out f.nb a.d a.b a.a f.image.now (omega arith))); sized = c.requires.0 }

pub overflow_mul-q : goal.overflow_mul-q
overflow_mul-q c =
    let a = c.args in
    let m = seconds_most a.b (omega arith) in
    search rules

pub overflow_add-p : goal.overflow_add-p
overflow_add-p c =
    let a = c.args in
    let m = seconds_most a.b (omega arith) in
    search rules

pub run-requires : goal.run-requires
run-requires c =
    let a = c.args in
    let s = c.requires.0 in
    (s, omega (arith, s.long, seconds_most a.a c.requires.2, seconds_most a.b (omega arith), seconds_up a.b a.a c.requires.1))

pub returns : goal.returns
returns c =
    let a = c.args in
    let f = a.self.now in
    let p = a.d.head.db_indirect.0 in
    let freed = c.run.ensures
    ∙ ap (with_card f)
    (both (λ (x : ℕ). λ (y : ℕ). free_run f.nb (4096 * p + 4 * x) (y - x) f.image.now) _ _ _ _ c.seconds_of-q.ensures c.seconds_of-e.ensures
    ∙ sym (free_level_in f.nb a.d a.b a.a f.image.now (omega arith))) in
    record { freed = freed; sized = over_sized f _ _ _ _ c.run.ensures c.requires.0 }
