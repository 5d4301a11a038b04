use mathlib.Core.Path.{◌≡◌}
use Prim.Native.Nat.{◌-◌}
use lib.ListN.{length}
use Rattle.check_walk.specs.Inner.{Progress}
use Rattle.check_walk.proofs.visit.walk.Given as goal

abbrev pub invariant-loop-h : goal.invariant-loop-h
invariant-loop-h l = (length l.s ≡ length l.initial.s) × Progress l.image l.s l.nb l.h l.t

abbrev pub decreases-loop-h : goal.decreases-loop-h
decreases-loop-h l = l.nb - l.h
