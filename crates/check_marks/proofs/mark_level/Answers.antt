-- `check_marks::mark_level` meets its contract. The loop's invariant: what the first `j` blocks of the second level name is marked. Assumes nothing.
use Prim.Native.Nat.{ℕ, ◌+◌, ◌*◌}
use mathlib.Core.Path.{◌≡◌, ap, ◌∙◌}
use mathlib.Core.List.{List}
use native.Mathlib.Omega.{arith}
use Rattle.words.specs.Words.{word}
use Rattle.words.proofs.Sums.{sum_to_zero}
use Rattle.check_marks.specs.Inner.{run_use, slots_at}
use Rattle.check_marks.proofs.Marking.{marks_none, marks_join, clash_after, sum_more, sum_next}
use Rattle.check_marks.proofs.mark_level.Goals as goal

-- what block i of the second level names, where the list of its blocks begins at byte `at`
abbrev block_use : List ℕ → ℕ → ℕ → ℕ → ℕ → ℕ
block_use img at c b i = run_use img (4096 * word img (at + 4 * i)) (slots_at c i) b

-- as the code has it: block q, s slots
block-use : (img : List ℕ) (at c i q s b : ℕ) → q ≡ word img (at + 4 * i) → s ≡ slots_at c i → run_use img (4096 * q) s b ≡ block_use img at c b i
block-use img at c i q s b e f = ap (λ (x : ℕ). run_use img (4096 * x) s b) e ∙ ap (λ (x : ℕ). run_use img (4096 * word img (at + 4 * i)) x b) f

pub loop-j-init : goal.loop-j-init
loop-j-init c = marks_none _ _ (λ b. sum_to_zero _)

pub returns-then-not-mark_run : goal.returns-then-not-mark_run
returns-then-not-mark_run c =
    let a = c.args in
    let l = c.loop-j in
    let at : ℕ = 4096 * a.d.0 in
    clash_after _ _ _ l.invariant c.if-not-mark_run.ensures
    (λ x.
    sum_next (block_use a.image.now at a.c x) l.j
    (run_use a.image.now (4096 * c.get.result) c.slots_at.result x)
    a.k
    (block-use a.image.now at a.c l.j c.get.result c.slots_at.result x c.get.ensures c.slots_at.ensures)
    (omega arith))

pub loop-j-preserved : goal.loop-j-preserved
loop-j-preserved c =
    let a = c.args in
    let l = c.loop-j in
    let at : ℕ = 4096 * a.d.0 in
    marks_join _ _ _ l.invariant c.if-not-mark_run.ensures
    (λ x.
    sum_more (block_use a.image.now at a.c x) l.j
    (run_use a.image.now (4096 * c.get.result) c.slots_at.result x)
    (block-use a.image.now at a.c l.j c.get.result c.slots_at.result x c.get.ensures c.slots_at.ensures))
