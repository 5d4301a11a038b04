use native.Mathlib.Omega.{arith}
use borrow.Author.Tests.{lt-ltb, le-ltb}
use Rattle.card_layout.specs.Slots.{owned}
use Rattle.card_layout.proofs.slot.blocks_owned.Goals as goal

pub returns-then-b-lt12 : goal.returns-then-b-lt12
unfolding owned
returns-then-b-lt12 c = let b = c.args.b in rw (lt-ltb b 12 (omega arith), lt-ltb b 1036 (omega arith)) (omega arith)

pub returns-then-b-lt1036 : goal.returns-then-b-lt1036
unfolding owned
returns-then-b-lt1036 c = let b = c.args.b in rw (le-ltb b 12 (omega arith), lt-ltb b 1036 (omega arith)) (omega arith)

pub returns : goal.returns
unfolding owned
returns c = let b = c.args.b in rw (le-ltb b 12 (omega arith), le-ltb b 1036 (omega arith)) (omega arith)
