-- `check_names::directory::is_named` meets its contract: the name of the loaded bytes, where x is a name's length. Assumes nothing.
use mathlib.Core.Path.{sym, ◌∙◌}
use Rattle.std.proofs.lemmas.Slice.Eq.{slice_eq-Decides}
use Rattle.std.proofs.lemmas.Bool.Decides.{Decides-eqb}
use Rattle.check_names.proofs.Scanning.{tells, name_is, is_name}
use Rattle.check_names.proofs.directory.is_named.Goals as goal

pub returns : goal.returns
returns c =
    let a = c.args in
    let d = slice_eq-Decides Decides-eqb _ _ _ c.eq.ensures in
    let f = c.load_entry-e.ensures in
    tells _ _ (λ e. name_is a.image.now a.n.0 a.k _ a.x.now f c.requires.1 (sym c.name_of.ensures ∙ d.0 e))
    (λ e. d.1 (c.name_of.ensures ∙ is_name a.image.now a.n.0 a.k _ a.x.now f c.requires.2 e))
