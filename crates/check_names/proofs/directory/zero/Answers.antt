-- `check_names::directory::zero` meets its contract: a fill of a part is a run of zeros. Assumes nothing.
use Prim.Native.Nat.{◌+◌, ◌-◌, ◌≤◌}
use lib.ListN.{length}
use mathlib.Core.Path.{◌≡◌}
use native.Mathlib.Omega.{arith}
use Rattle.words.proofs.Parts.{length_mid, put_mid-zeroed}
use Rattle.check_names.proofs.directory.zero.Goals as goal

pub returns : goal.returns
returns c =
    let a = c.args in
    let l : 0 + a.n ≤ length a.w.now = omega arith in
    let k : 0 + a.n - 0 ≡ a.n = omega arith in
    rw c.fill.ensures.after (rw k at (put_mid-zeroed a.w.now 0 a.n l _ (length_mid 0 a.n a.w.now l)))
