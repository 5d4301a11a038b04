use Prim.Native.Nat.{◌-◌}
use mathlib.Core.Path.{◌≡◌}
use Rattle.words.specs.Runs.{turns}
use Rattle.cache.specs.Effects.{flushed}
use Rattle.cache.proofs.blocks.flush_all.Given as goal

abbrev pub invariant-loop-i : goal.invariant-loop-i
invariant-loop-i l = l.device ≡ turns (λ j x. flushed l.slots l.bytes x j) 0 (l.i - 0) l.initial.device
