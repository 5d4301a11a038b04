-- `dir_look::entry` meets its contract. Assumes nothing.
use mathlib.Core.Path.{ap, ◌∙◌}
use Rattle.dir_look.specs.Look.{bytes_of}
use Rattle.dir_look.proofs.LookLaws.{told_bytes}
use Rattle.dir_look.proofs.entry.Goals as goal

pub returns : goal.returns
returns c = c.told.ensures ∙ ap bytes_of c.entry_at.ensures ∙ told_bytes c.args.image.now c.args.p.0 c.args.k
