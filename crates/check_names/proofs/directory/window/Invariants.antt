use mathlib.Core.Path.{◌≡◌}
use Prim.Native.Nat.{◌-◌, min}
use lib.ListN.{length}
use Rattle.card_rules.specs.View.{data_at}
use Rattle.check_names.specs.InnerNames.{Chains, Window}
use Rattle.check_names.proofs.directory.window.Given as goal

abbrev pub invariant-loop-j : goal.invariant-loop-j
invariant-loop-j l =
    (length l.w ≡ length l.initial.w) × Chains l.image l.n.0 l.w l.h l.lo (min (l.j - l.lo) l.m)
    × Window l.image l.n.0 l.lo l.m l.j × (l.p.block.0 ≡ data_at l.image l.n.0 l.p.index)
