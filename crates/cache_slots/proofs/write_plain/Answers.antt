-- `cache_slots::write_plain` meets its contract. Assumes nothing.
use Rattle.std.proofs.Common.{rules}
use Rattle.cache_slots.proofs.PlainLaws.{part_call}
use Rattle.cache_slots.proofs.write_plain.Goals as goal

pub returns : goal.returns
returns c = part_call c.args.a.now _ c.in_ok-n.n _ _ _ (search rules) c.in_ok-n.ensures c.write.auto.slots c.write.ensures
