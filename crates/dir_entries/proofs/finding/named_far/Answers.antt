-- `dir_entries::finding::named_far` meets its contract: the name is a part of the loaded entry (`name_cut`). Assumes nothing.
use native.Mathlib.Omega.{arith}
use mathlib.Core.Path.{sym, ap, ◌∙◌}
use mathlib.Core.List.{List}
use Prim.Native.Nat.{ℕ, ◌-◌}
use Rattle.check_names.proofs.Entries.{name_cut}
use Rattle.dir_entries.specs.Entries.{eqs}
use Rattle.dir_entries.proofs.finding.named_far.Goals as goal

pub returns : goal.returns
returns c =
    let a = c.args in
    let f = c.load_entry-e in
    let e = name_cut a.image.now a.n.0 a.k f.result (260 - 4) f.ensures (omega arith) in
    c.same.ensures ∙ ap (λ (t : List ℕ). eqs t a.x.now) (sym e)
