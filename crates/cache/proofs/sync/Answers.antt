-- `cache::sync` meets its contract. Assumes nothing.
use mathlib.Core.Path.{refl}
use Rattle.cache.specs.Calls.Call.{done, refused}
use Rattle.cache.proofs.sync.Goals as goal

pub returns-then-not-sound : goal.returns-then-not-sound
returns-then-not-sound c = refused c.if-not-sound.ensures (refl, refl)

pub returns : goal.returns
returns c = done c.if-not-sound.ensures (c.clean.ensures, c.flush_all.ensures)
