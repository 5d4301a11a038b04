use Rattle.card_layout.proofs.Names.{nul_here, nul_next, nul_end, upto_take}
use Rattle.card_layout.specs.Entry.{name_in, upto_nul}
use lib.ListN.{length, drop, take}
use borrow.Author.Tests.{eq-eqb, ne_eqb, lt-ltb}
use native.Mathlib.Omega.{arith}
use mathlib.Core.Path.{◌≡◌, ap, ◌∙◌}
use Prim.Native.Nat.{ℕ, ◌-◌}
use Rattle.card_layout.proofs.entry.name_of.Goals as goal

pub returns-then-e-ne-DIRENT_SIZE : goal.returns-then-e-ne-DIRENT_SIZE
unfolding name_in
returns-then-e-ne-DIRENT_SIZE c = let e = c.args.e.now in rw (ne_eqb (length e) 260 c.if-e-ne-DIRENT_SIZE.true)

pub returns-then-e-i-eq0 : goal.returns-then-e-i-eq0
unfolding name_in
returns-then-e-i-eq0 c = let e = c.args.e.now in
    let i = c.loop-i.i in
    let len : length e ≡ 260 = omega arith in
    let here = ap length (nul_here e i (omega arith) c.if-e-i-eq0.true) in
    let n : length (upto_nul (drop 4 e)) ≡ i - 4 = omega arith in
    let t : upto_nul (drop 4 e) ≡ take (i - 4) (drop 4 e) = upto_take (drop 4 e) ∙ ap (λ (k : ℕ). take k (drop 4 e)) n in
    rw (eq-eqb (length e) 260 len, n, lt-ltb (i - 4) 256 (omega arith), t)

pub loop-i-preserved : goal.loop-i-preserved
loop-i-preserved c = let e = c.args.e.now in
    let i = c.loop-i.i in
    let s = ap length (nul_next e i (omega arith) c.if-e-i-eq0.false) in
    omega arith

pub returns : goal.returns
unfolding name_in
returns c = let e = c.args.e.now in
    let i = c.loop-i.i in
    let len : length e ≡ 260 = omega arith in
    let none = ap length (nul_end e i (omega arith)) in
    let n : length (upto_nul (drop 4 e)) ≡ 256 = omega arith in
    rw (eq-eqb (length e) 260 len, n)
