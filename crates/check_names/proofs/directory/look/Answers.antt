-- `check_names::directory::look` meets its contract: a NUL in the name's first part ends it (`name_near`). Assumes nothing.
use native.Mathlib.Omega.{arith}
use mathlib.Core.Path.{◌≡◌, refl, sym, ap, ◌∙◌}
use mathlib.Core.List.{List}
use Prim.Native.Nat.{ℕ, ◌-◌, ◌+◌, ◌*◌, ◌/◌, ◌%◌}
use lib.ListN.{length}
use Rattle.words.proofs.Parts.{length_mid}
use Rattle.check_names.specs.InnerNames.{hash}
use Rattle.check_names.proofs.Entries.{name_near}
use Rattle.check_names.proofs.directory.look.Goals as goal

pub returns-in-Some : goal.returns-in-Some
returns-in-Some c =
    let k = c.args.k in
    let x = c.args.b.0 in
    let at = 4096 * x + 260 * k % 4096 + 4 in
    let m = c.min.result in
    let pm = c.min.ensures in
    let l = c.requires.0.data_in (260 * k / 4096) (omega arith) in
    let q : at + m - at ≡ m = omega arith in
    let long = length_mid at (at + m - at) c.args.image.now (omega (arith, l)) in
    let s = c.in-Some.ensures in
    let e = name_near c.args.image.now c.args.n.0 k x at (at + m - at) c.requires.2 refl (omega arith) (omega arith) (omega (arith, l))
    (omega (arith, s.0, s.2, long)) in
    (s.0 ∙ ap length (sym e), s.1 ∙ ap (λ (x : List ℕ). hash x) (sym e), omega (arith, s.2, long))
