use mathlib.Core.Path.{◌≡◌}
use Prim.Native.Nat.{◌-◌, ◌≤◌, ◌<◌}
use lib.ListN.{length}
use Rattle.check_line.specs.Line.{decimal, put_at}
use Rattle.check_line.proofs.put_number.Given as goal

-- while there are places left, they are those of the digits of the rest
abbrev pub invariant-loop-i : goal.invariant-loop-i
invariant-loop-i l =
    (l.at < l.i → (length (decimal l.rest) ≡ l.i - l.at) × (put_at l.out l.at (decimal l.rest) ≡ put_at l.initial.out l.at (decimal l.n)))
    × (l.i ≤ l.at → l.out ≡ put_at l.initial.out l.at (decimal l.n))
