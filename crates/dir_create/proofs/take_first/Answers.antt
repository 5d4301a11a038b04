-- `dir_create::take_first` meets its contract: the search finds what it found before (`next_same`, `taken_same`). Assumes nothing.
use mathlib.Core.Path.{◌∙◌}
use Rattle.dir_create.proofs.CreateLaws.{next_same, taken_same}
use Rattle.dir_create.proofs.take_first.Goals as goal

pub returns : goal.returns
returns c =
    let a = c.args in
    let n = c.requires.1 in
    let t = c.take_next-b in
    (t.ensures.0 ∙ next_same a.nb a.image.now a.from.0 n, t.ensures.1 ∙ taken_same a.nb a.image.now a.from.0 n)
