-- `file_requests::resizing::fit` meets its contract. Each way out is a case of `fitted`. Assumes nothing.
use mathlib.Core.Path.{sym, ◌∙◌}
use native.Mathlib.Omega.{arith}
use Rattle.file_requests.proofs.Changes.{fitted_up, fitted_down, fitted_within}
use Rattle.file_requests.proofs.resizing.fit.Goals as goal

pub returns-then-a-b : goal.returns-then-a-b
returns-then-a-b c =
    let a = c.args in
    c.take_for.ensures ∙ sym (fitted_up a.nb a.n.0 a.d a.len a.image.now (omega arith))

pub returns-then-b-a : goal.returns-then-b-a
returns-then-b-a c =
    let a = c.args in
    c.shorten.ensures ∙ sym (fitted_down a.nb a.n.0 a.d a.len a.image.now (omega arith))

pub returns : goal.returns
returns c =
    let a = c.args in
    rw (c.encode.ensures, c.set_size.ensures)
    (sym (fitted_within a.nb a.n.0 a.d a.len a.image.now (omega arith)))
