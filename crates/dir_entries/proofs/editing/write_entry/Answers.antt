-- `dir_entries::editing::write_entry` meets its contract. Assumes nothing.
use Rattle.dir_entries.specs.Entries.{entry_put}
use Rattle.dir_entries.proofs.editing.write_entry.Goals as goal

pub returns : goal.returns
unfolding entry_put
returns c = c.fill_at.ensures
