-- `cache::write` meets its contract, by what its parts leave (`write_made`). Assumes nothing.
use mathlib.Core.Path.{refl}
use Rattle.cache.specs.Calls.Call.{done, refused}
use Rattle.cache.proofs.Laws.{used_below, write_made}
use Rattle.cache.proofs.write.Goals as goal

pub returns-then-not-fit : goal.returns-then-not-fit
returns-then-not-fit c = refused c.if-not-fit.ensures (refl, refl, refl)

pub store-requires : goal.store-requires
store-requires c = let h = c.if-not-fit.ensures in (h, used_below _ _ _ _ _ _ h c.slot_for-i.ensures)

pub enter-requires : goal.enter-requires
enter-requires c = used_below _ _ _ _ _ _ c.if-not-fit.ensures c.slot_for-i.ensures

pub returns : goal.returns
returns c = done c.if-not-fit.ensures (write_made _ _ _ _ _ _ _ _ _ c.slot_for-i.ensures c.enter.ensures c.store.ensures)
