-- `check_walk::cleared` meets its contract: the part lent to `judge` is all zero, and cleared again after (`zeros_twice`). Assumes nothing.
use mathlib.Core.Path.{◌∙◌}
use Prim.Native.Nat.{◌*◌}
use native.Mathlib.Omega.{arith}
use Rattle.check_walk.proofs.Clearing.{part_long, part_zero, zeros_twice}
use Rattle.check_walk.proofs.cleared.Goals as goal

pub judge-v-requires : goal.judge-v-requires
judge-v-requires c =
    let p = c.requires in
    let n = 4 * c.args.nb in (
      record { few = omega (arith, p.2.few); many = omega (arith, p.2.many); card = omega (arith, p.2.long); words = part_long _ _ n p.3 c.zero.ensures },
      p.0,
      p.1,
      p.2,
      part_zero _ _ n p.3 c.zero.ensures,
    )

pub returns : goal.returns
returns c =
    let n = 4 * c.args.nb in
    let e = c.zero.ensures in
    let l = part_long _ _ n c.requires.3 e in
    (c.zero-2.ensures ∙ zeros_twice _ _ n c.requires.3 e c.judge-v.new.s (c.judge-v.auto.s ∙ l), c.judge-v.ensures)
