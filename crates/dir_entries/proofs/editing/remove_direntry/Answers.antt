-- `dir_entries::editing::remove_direntry` meets its contract. The last entry is read before the hole is filled. Assumes nothing.
use Rattle.dir_entries.specs.Entries.{removed}
use Rattle.dir_entries.proofs.editing.remove_direntry.Goals as goal

pub returns : goal.returns
unfolding removed
returns c =
    rw (c.fit.ensures, c.write_entry.ensures, c.read_entry-e.ensures)
