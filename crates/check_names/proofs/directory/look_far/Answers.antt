-- `check_names::directory::look_far` meets its contract: the name is a part of the loaded entry (`name_cut`). Assumes nothing.
use native.Mathlib.Omega.{arith}
use lib.ListN.{length}
use mathlib.Core.Path.{◌≡◌, sym, ap, ◌∙◌}
use Prim.Native.Nat.{◌-◌}
use Rattle.words.proofs.Parts.{length_mid}
use Rattle.check_names.proofs.Entries.{name_cut, length_loaded}
use Rattle.check_names.proofs.Scanning.{scans_at}
use Rattle.check_names.proofs.directory.look_far.Goals as goal

pub returns : goal.returns
returns c =
    let a = c.args in
    let f = c.load_entry-e in
    let k : length f.result ≡ 260 = ap length f.ensures ∙ length_loaded a.image.now a.n.0 a.k in
    scans_at c.scan.result _ _ _ _
    (name_cut a.image.now a.n.0 a.k f.result (260 - 4) f.ensures (omega arith))
    (sym (length_mid 4 256 f.result (omega arith))) c.scan.ensures
