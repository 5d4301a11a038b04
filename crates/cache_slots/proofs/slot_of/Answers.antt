-- `cache_slots::slot_of` meets its contract. Assumes nothing.
use Rattle.std.proofs.Common.{refl, ◌∙◌}
use Rattle.cache_slots.specs.Plain.{slot_of}
use Rattle.cache_slots.proofs.PlainLaws.{status_read}
use Rattle.cache_slots.proofs.slot_of.Goals as goal

pub returns : goal.returns
unfolding slot_of
returns c = rw (c.unwrap_or.ensures ∙ status_read _ _ c.try_from.ensures) refl
