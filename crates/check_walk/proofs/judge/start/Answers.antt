-- `check_walk::judge::start` meets its contract: the marks of the blocks of the map are a fill (`filled`). Assumes nothing.
use mathlib.Core.Path.{ap, ◌≡◌, ◌∙◌}
use mathlib.Core.List.{List}
use Prim.Native.Nat.{ℕ, ◌+◌, ◌-◌, ◌*◌, ◌≤◌}
use lib.ListN.{length, set, length-set}
use native.Mathlib.Omega.{arith}
use Rattle.words.proofs.Parts.{length_mid}
use Rattle.check_walk.specs.Inner.{started}
use Rattle.check_walk.proofs.Starting.{filled}
use Rattle.check_walk.proofs.judge.start.Goals as goal

pub returns : goal.returns
unfolding started
returns c =
    let a = c.args in
    let d : List ℕ = set a.s.now (3 * a.nb) 1 in
    let l : 3 * a.nb + 2 + a.f ≤ length d = simp length-set (omega arith) in
    let k : 3 * a.nb + 2 + a.f - (3 * a.nb + 2) ≡ a.f = omega arith in
    let e = filled d a.nb a.f _ l (length_mid (3 * a.nb + 2) (3 * a.nb + 2 + a.f - (3 * a.nb + 2)) d (omega arith) ∙ k) in
    rw c.fill.ensures.after (ap (λ (x : List ℕ). set (set x 0 1) (2 * a.nb + 1) 1) e)
