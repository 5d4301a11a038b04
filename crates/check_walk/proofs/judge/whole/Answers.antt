-- `check_walk::judge::whole` meets its contract: what start leaves is what the walk asks (`begins`), what the walk leaves is what `rest` asks. Assumes nothing.
use native.Mathlib.Omega.{arith}
use Rattle.card_layout.specs.Sizes.{maps_for}
use Rattle.check_walk.proofs.Starting.{begins}
use Rattle.check_walk.proofs.judge.whole.Goals as goal

pub start-requires : goal.start-requires
unfolding maps_for
start-requires c = let p = c.requires in (p.0.few, p.0.many, p.0.words, omega (arith, p.3.mapped))

pub walk-requires : goal.walk-requires
unfolding maps_for
walk-requires c =
    let p = c.requires in
    begins _ _ _ _ _ p.0 p.2 (omega (arith, p.3.mapped)) p.4 c.start.ensures
