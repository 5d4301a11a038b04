use Prim.Native.Nat.{◌+◌, ◌-◌}
use mathlib.Core.Path.{◌≡◌}
use native.Mathlib.Omega.{arith}
use Rattle.words.proofs.Parts.{length_mid, put_mid-zeroed}
use Rattle.words.proofs.zero.Goals as goal

pub returns : goal.returns
returns c =
    let a = c.args in
    let k : a.at + a.n - a.at ≡ a.n = omega arith in
    rw c.fill.ensures.after (put_mid-zeroed a.dst.now a.at a.n c.requires _ (rw k (length_mid a.at a.n a.dst.now c.requires)))
