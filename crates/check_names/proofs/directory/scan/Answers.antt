-- `check_names::directory::scan` meets its contract. The invariant: the name is i bytes and what is left of it from place i on, and its hash is that of
-- what is left, on top of `hash`. Assumes nothing.
use native.Mathlib.Omega.{arith}
use mathlib.Core.Path.{◌≡◌, ap, sym, ◌∙◌}
use Prim.Native.Nat.{◌+◌, ◌*◌, ◌%◌}
use lib.ListN.{length, get_or}
use Rattle.card_layout.proofs.Names.{nul_here, nul_next}
use Rattle.check_names.proofs.Scanning.{hash_none, hash_next}
use Rattle.check_names.proofs.directory.scan.Goals as goal

pub returns-then-x-eq0 : goal.returns-then-x-eq0
returns-then-x-eq0 c =
    let l = c.loop-i in
    let none = nul_here c.args.e.now l.i (omega arith) c.if-x-eq0.true in
    let z = ap length none in
    (omega arith, sym (l.invariant.1 ∙ hash_none _ l.hash none), omega arith)

pub loop-i-preserved : goal.loop-i-preserved
loop-i-preserved c =
    let e = c.args.e.now in
    let l = c.loop-i in
    let s = ap length (nul_next e l.i (omega arith) c.if-x-eq0.false) in
    let m : (l.hash * 2654435761 % 4294967296 + c.from.result) % 4294967296 ≡ (l.hash * 2654435761 + get_or e l.i 0) % 4294967296 = omega arith in
    (omega arith, rw m (l.invariant.1 ∙ hash_next e l.i l.hash (omega arith) c.if-x-eq0.false))
