-- `dir_answers::judging::is_there` meets its contract. A reached inode of a whole card can be read, and its entries are few. Assumes nothing.
use mathlib.Core.Path.{refl}
use Rattle.dir_answers.proofs.Ready.{readable_ready, entries_inside, entries-few}
use Rattle.dir_answers.proofs.Heads.{head_is}
use Rattle.dir_answers.proofs.judging.is_there.Goals as goal

pub find_entry-requires : goal.find_entry-requires
find_entry-requires c =
    let a = c.args in
    let p = c.requires in
    let i = head_is a.image.now a.n.0 a.h p.2 in
    rw i.size_is (readable_ready a.image.now p.0 a.n.0 p.1, refl, entries_inside a.image.now p.0 a.n.0 p.1, entries-few a.image.now p.0 a.n.0 p.1)
