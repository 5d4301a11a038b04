use Prim.Native.Nat.{◌+◌, ◌-◌}
use native.Mathlib.Omega.{arith}
use Rattle.words.proofs.Parts.{length_mid}
use Rattle.dir_format.proofs.Filling.{bytes_filled}
use Rattle.dir_format.proofs.fill_bytes.Goals as goal

pub returns : goal.returns
returns c =
    let a = c.args in
    let p = c.requires in
    let m = length_mid (8192 + a.i) (8192 + a.e - (8192 + a.i)) a.image.now (omega arith) in
    rw c.fill.ensures.after (bytes_filled a.image.now a.i a.e _ p.0 p.1 p.2 m)
