use Rattle.card_layout.specs.Entry.{entry_of}
use Rattle.card_layout.proofs.entry.entry_of.Goals as goal

pub returns : goal.returns
unfolding entry_of
returns c = rw (c.copy.ensures, c.put.ensures)
