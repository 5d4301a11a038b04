use Rattle.card_layout.specs.Entry.{upto_nul}
use lib.ListN.{length, drop}
use mathlib.Core.Path.{◌≡◌}
use Prim.Native.Nat.{◌≤◌, ◌+◌}
use Rattle.card_layout.proofs.entry.name_of.Given as goal

abbrev pub invariant-loop-i : goal.invariant-loop-i
invariant-loop-i l = (4 ≤ l.i) × (l.i ≤ 260) × (4 + length (upto_nul (drop 4 l.e)) ≡ l.i + length (upto_nul (drop l.i l.e)))
