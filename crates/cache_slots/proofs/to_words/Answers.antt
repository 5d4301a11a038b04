-- `cache_slots::to_words` meets its contract. The invariant: the words of the first i slots are there. Assumes nothing.
use Rattle.std.proofs.Common.{◌≡◌, length, arith}
use Rattle.cache_slots.specs.Plain.{blank_of, few}
use Rattle.cache_slots.proofs.PlainLaws.{few_min, load_none, load_more}
use Rattle.cache_slots.proofs.to_words.Goals as goal

pub loop-i-init : goal.loop-i-init
unfolding blank_of
loop-i-init c = load_none c.args.slots.now

pub loop-i-preserved : goal.loop-i-preserved
loop-i-preserved c = let m = load_more c.args.slots.now c.loop-i.i in cc

pub returns : goal.returns
returns c = let m = few_min (length c.args.slots.now) in let k = c.min-i-end.ensures in
    let e : c.loop-i.i ≡ few (length c.args.slots.now) = omega arith in
    rw (← e) c.loop-i.invariant
