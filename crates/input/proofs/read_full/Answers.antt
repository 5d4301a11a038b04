use Rattle.std.proofs.Common.{◌++◌, ◌∙◌, ap, drop, rules, subst, sym, take}
use Rattle.std.proofs.Math.Seq.{take-add}
use Rattle.std.specs.Io.KnownBytes.{Consumes}
use Rattle.input.proofs.Consumed.{consumes_more}
use Rattle.input.proofs.read_full.Goals as goal

pub loop-done-preserved : goal.loop-done-preserved
loop-done-preserved g c =
    let read = c.in_ok-n.ensures in
    let before = c.loop-done.invariant in
    let got = take c.in_ok-n.n (drop c.loop-done.done c.read_at.new.into) in
    let seam = take-add c.loop-done.done c.in_ok-n.n c.read_at.new.into ∙ ap (λ l. l ++ got) read.front in
    (read.fits, search rules, subst (Consumes _ _) (sym seam) (consumes_more _ _ _ _ _ before.2 read.bytes))
