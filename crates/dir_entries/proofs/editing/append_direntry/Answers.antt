-- `dir_entries::editing::append_direntry` meets its contract. Assumes nothing.
use Rattle.dir_entries.specs.Entries.{appended}
use Rattle.dir_entries.proofs.editing.append_direntry.Goals as goal

pub returns : goal.returns
unfolding appended
returns c = rw (c.write_entry.ensures, c.fit.ensures)
