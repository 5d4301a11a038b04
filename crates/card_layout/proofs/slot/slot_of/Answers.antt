use native.Mathlib.Omega.{arith}
use borrow.Author.Tests.{lt-ltb, le-ltb}
use Rattle.card_layout.specs.Slots.{slot_of}
use Rattle.card_layout.proofs.slot.slot_of.Goals as goal

pub returns-in-0-to-11 : goal.returns-in-0-to-11
unfolding slot_of
returns-in-0-to-11 c = let i = c.args.i in rw (lt-ltb i 12 (omega arith))

pub returns-in-12-to-1035 : goal.returns-in-12-to-1035
unfolding slot_of
returns-in-12-to-1035 c = let i = c.args.i in rw (le-ltb i 12 (omega arith), lt-ltb i 1036 (omega arith))

pub returns-in-1036-to-1049611 : goal.returns-in-1036-to-1049611
unfolding slot_of
returns-in-1036-to-1049611 c = let i = c.args.i in rw (le-ltb i 12 (omega arith), le-ltb i 1036 (omega arith), lt-ltb i 1049612 (omega arith))

pub returns-in_default : goal.returns-in_default
unfolding slot_of
returns-in_default c = let i = c.args.i in rw (le-ltb i 12 (omega arith), le-ltb i 1036 (omega arith), le-ltb i 1049612 (omega arith))
