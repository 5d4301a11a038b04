-- `file_requests::requests::reach` meets its contract. Each way out is a case of `reaching`. Assumes nothing.
use mathlib.Core.Path.{sym, ap, ◌∙◌}
use Rattle.file_requests.specs.Resizing.{new_zero}
use native.Mathlib.Omega.{arith}
use Rattle.file_requests.proofs.Changes.{reaching_in, reaching_past}
use Rattle.file_requests.proofs.requests.reach.Goals as goal

pub returns-then-end-h : goal.returns-then-end-h
returns-then-end-h c = let a = c.args in sym (reaching_in a.nb a.n.0 _ a.end a.image.now a.off (omega arith))

pub returns : goal.returns
returns c =
    let r = c.record_with-d in
    let a = c.args in
    let past = reaching_past a.nb a.n.0 r.result a.end a.image.now a.off (rw r.ensures (omega arith)) in
    rw (← r.ensures) (c.clean_new.ensures ∙ ap (new_zero a.nb a.n.0 r.result a.off) c.fit.ensures ∙ sym past)
