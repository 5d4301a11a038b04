-- `cache::read` meets its contract, by what its parts leave (`read_made`). Assumes nothing.
use mathlib.Core.Path.{refl}
use Rattle.cache.specs.Calls.Call.{done, refused}
use Rattle.cache.proofs.Laws.{used_below, read_made}
use Rattle.cache.proofs.read.Goals as goal

pub returns-then-not-fit : goal.returns-then-not-fit
returns-then-not-fit c = refused c.if-not-fit.ensures (refl, refl, refl, refl)

pub fetch-requires : goal.fetch-requires
fetch-requires c = let h = c.if-not-fit.ensures in (h, used_below _ _ _ _ _ _ h c.slot_for-i.ensures)

pub enter_read-requires : goal.enter_read-requires
enter_read-requires c = used_below _ _ _ _ _ _ c.if-not-fit.ensures c.slot_for-i.ensures

pub returns : goal.returns
returns c = done c.if-not-fit.ensures (read_made _ _ _ _ _ _ _ _ _ _ c.slot_for-i.ensures c.enter_read.ensures c.fetch.ensures)
