-- The run of bits up to the first whole byte, that of the whole bytes and that of the last byte are one run.
use mathlib.Core.Path.{ap, ◌∙◌}
use native.Mathlib.Omega.{arith}
use Rattle.dir_format.proofs.Filling.{bits_set, goes_on}
use Rattle.dir_format.proofs.set_bits.Goals as goal

pub returns : goal.returns
returns c =
    let a = c.args in
    c.set_each-3.ensures
    ∙ ap (bits_set _ a.nb) (c.fill_bytes.ensures ∙ ap (bits_set _ _) c.set_each-2.ensures)
    ∙ ap (bits_set _ a.nb) (goes_on a.from.0 _ _ a.image.now (omega arith) (omega arith))
    ∙ goes_on a.from.0 _ a.nb a.image.now (omega arith) (omega arith)
