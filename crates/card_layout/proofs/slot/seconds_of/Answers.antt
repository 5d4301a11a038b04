use native.Mathlib.Omega.{arith}
use borrow.Author.Tests.{lt-ltb, le-ltb}
use Rattle.card_layout.specs.Slots.{seconds}
use Rattle.card_layout.proofs.slot.seconds_of.Goals as goal

pub returns-then-b-lt1036 : goal.returns-then-b-lt1036
unfolding seconds
returns-then-b-lt1036 c = let b = c.args.b in rw (lt-ltb b 1036 (omega arith))

pub returns : goal.returns
unfolding seconds
returns c = let b = c.args.b in rw (le-ltb b 1036 (omega arith))
