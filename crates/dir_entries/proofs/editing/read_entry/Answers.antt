-- `dir_entries::editing::read_entry` meets its contract. Assumes nothing.
use Rattle.dir_entries.specs.Entries.{entry_at}
use Rattle.dir_entries.proofs.editing.read_entry.Goals as goal

pub returns : goal.returns
unfolding entry_at
returns c = c.read_at.ensures
