-- `dir_entries::finding::begins` meets its contract. The invariant: the names are the same where what is left of them from place i on is. Assumes nothing.
use native.Mathlib.Omega.{arith}
use mathlib.Core.Path.{sym, ◌∙◌}
use Rattle.dir_entries.proofs.Comparing.{place_nul, place_other, place_same, place_end}
use Rattle.dir_entries.proofs.finding.begins.Goals as goal

pub returns-then-e-i : goal.returns-then-e-i
returns-then-e-i c =
    let a = c.args in
    let l = c.loop-i in
    sym (l.invariant ∙ place_other a.e.now a.x.now l.i (omega arith) (omega arith) c.if-e-i.true)

pub returns-then-e-i-eq0 : goal.returns-then-e-i-eq0
returns-then-e-i-eq0 c =
    let a = c.args in
    let l = c.loop-i in
    sym (l.invariant ∙ place_nul a.e.now a.x.now l.i (omega arith) (omega arith) c.if-e-i-eq0.true)

pub loop-i-preserved : goal.loop-i-preserved
loop-i-preserved c =
    let a = c.args in
    let l = c.loop-i in
    l.invariant ∙ place_same a.e.now a.x.now l.i (omega arith) (omega arith) c.if-e-i.false c.if-e-i-eq0.false

pub returns : goal.returns
returns c =
    let a = c.args in
    let l = c.loop-i in
    sym (l.invariant ∙ place_end a.e.now a.x.now l.i (omega arith) c.requires.1)
