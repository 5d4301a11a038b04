-- `cache_slots::from_words` meets its contract. The invariant: the first j slots are what the words say. Assumes nothing.
use Rattle.std.proofs.Common.{◌≡◌, length, arith}
use Rattle.cache_slots.specs.Plain.{few}
use Rattle.cache_slots.proofs.PlainLaws.{few_min, spread_none, spread_more}
use Rattle.cache_slots.proofs.from_words.Goals as goal

pub loop-j-init : goal.loop-j-init
loop-j-init c = spread_none c.args.slots.now c.args.a

pub loop-j-preserved : goal.loop-j-preserved
loop-j-preserved c = let m = spread_more c.args.slots.now c.args.a c.loop-j.j in cc

pub returns : goal.returns
returns c = let m = few_min (length c.args.slots.now) in let k = c.min-j-end.ensures in
    let e : c.loop-j.j ≡ few (length c.args.slots.now) = omega arith in
    rw (← e) c.loop-j.invariant
