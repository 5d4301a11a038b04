-- `sfs_entry` meets its contract. Assumes nothing.
use Rattle.sfs.proofs.Bytes.{listed_c}
use Rattle.sfs.proofs.c_looks.sfs_entry.Goals as goal

pub returns : goal.returns
returns c = listed_c c.entry-r.result c.entry-r.ensures c.unwrap_or.ensures c.number_of.ensures
