-- A grower's `grow_direct` meets its contract: slot by slot. Assumes nothing.
use native.Mathlib.Omega.{arith}
use Rattle.file_grow.proofs.Growers.{directs_none, directs_more, directs_all}
use Rattle.file_grow.proofs.Grower.grow_direct.Goals as goal

pub loop-i-init : goal.loop-i-init
loop-i-init c = (omega arith, c.requires, directs_none _ _)

pub loop-i-preserved : goal.loop-i-preserved
loop-i-preserved c =
    let l = c.loop-i in
    let d = c.into_direct.ensures in
    (omega arith, d.fit, directs_more c.args.self.now _ l.i l.self _ d.took l.invariant.2 l.auto.i)

pub returns-clause-grew : goal.returns-clause-grew
returns-clause-grew c =
    let l = c.loop-i in
    let a = c.args in
    directs_all a.self.now l.self a.a a.b _ c.min-i-end.result l.i l.invariant.2 c.min-i.ensures c.min-i-end.ensures (omega arith)
