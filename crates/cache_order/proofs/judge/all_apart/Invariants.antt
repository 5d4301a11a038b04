-- `cache_order::judge::all_apart` meets its contract. The invariant: the slots passed are each alone among those before, and are marked. Assumes nothing.
use Prim.Native.Nat.{ℕ, ◌<◌}
use mathlib.Core.Path.{◌≡◌}
use lib.ListN.{length}
use Rattle.cache_order.specs.Slots.{Alone, Marked}
use Rattle.cache_order.proofs.judge.all_apart.Given as goal

abbrev pub invariant-loop-j : goal.invariant-loop-j
invariant-loop-j l =
    (length l.places ≡ 256) × (length l.blocks ≡ 1024) × Marked l.places l.blocks l.slots l.j × ((k : ℕ) → k < l.j → Alone l.slots k)
