use mathlib.Core.Path.{◌≡◌}
use Prim.Native.Nat.{◌-◌}
use Rattle.card_layout.specs.Inode.{kind}
use Rattle.card_rules.specs.Whole.{Reached}
use Rattle.dir_move.specs.Move.{climbs}
use Rattle.dir_move.proofs.climbs_to.Given as goal

-- x is a reached directory, and the climb from it in the steps that are left decides that from t
abbrev pub invariant-loop : goal.invariant-loop
invariant-loop l =
    Reached l.image l.x.0 × (kind l.image l.x.0 ≡ 2) × (climbs l.image l.c.0 l.x.0 (l.nb - l.counter) ≡ climbs l.image l.c.0 l.initial.x.0 l.nb)
