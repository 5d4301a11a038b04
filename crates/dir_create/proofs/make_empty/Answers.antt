use Rattle.dir_create.specs.Create.{empty_dir}
use Rattle.dir_create.proofs.make_empty.Goals as goal

pub returns : goal.returns
unfolding empty_dir
returns c = rw (c.write_entry-2.ensures, c.entry_of-f.ensures, c.write_entry.ensures, c.entry_of-e.ensures, c.make_bare.ensures)
