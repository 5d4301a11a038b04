-- `utf8::valid` meets its contract. The loop's invariant: what is left is text just where the whole is (`Same`). Assumes nothing.
use mathlib.Core.List.{List}
use lib.Seq.{take_all}
use Prim.Native.Nat.{ℕ, ◌+◌, ◌-◌}
use mathlib.Core.Path.{◌≡◌, sym, ap, ◌∙◌}
use native.Mathlib.Omega.{arith}
use lib.ListN.{length, take, drop, length-drop, drop_of_length-le}
use Rattle.utf8.specs.Inner.{taken}
use Rattle.utf8.proofs.Text.{utf8_nil, utf8_none, same_join, same_taken, same_passed}
use Rattle.utf8.proofs.valid.Goals as goal

-- the part that is lent is the rest of the list
got : (x : List ℕ) (i k : ℕ) → taken (take (length x - i) (drop i x)) ≡ k → taken (drop i x) ≡ k
got x i k e = ap taken (sym (take_all (length x - i) (drop i x) (omega (arith, length-drop i x)))) ∙ e

pub loop-i-init : goal.loop-i-init
loop-i-init c =
    let p = c.pass-i.ensures in (p.to, same_passed c.args.x.now 0 c.pass-i.result p)

pub returns-in_default : goal.returns-in_default
returns-in_default c =
    let x = c.args.x.now in
    let i = c.loop-i.i in
    λ u. utf8_none (drop i x) (got x i 0 c.in_default.ensures) (omega (arith, length-drop i x)) (c.loop-i.invariant.1.on u)

pub loop-i-preserved : goal.loop-i-preserved
loop-i-preserved c =
    let x = c.args.x.now in
    let i = c.loop-i.i in
    let k = c.in-Some.k in
    let t = c.in-Some.ensures in
    let p = c.pass-i-in-loop-i.ensures in
    let one = same_taken x i k (sym (got x i k t.0)) t.1 in
    (p.to, same_join c.loop-i.invariant.1 (same_join one (same_passed x (i + k) c.pass-i-in-loop-i.result p)))

pub returns : goal.returns
returns c =
    let l = c.loop-i in
    let x = c.args.x.now in
    l.invariant.1.back (rw (drop_of_length-le x {i = l.i} (omega arith)) utf8_nil)
