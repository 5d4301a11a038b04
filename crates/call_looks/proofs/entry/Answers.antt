-- `call_looks::entry` meets its contract. Assumes nothing.
use Rattle.call_said.proofs.Opened.{on_open}
use Rattle.call_looks.proofs.EntryTold.{told_plain}
use Rattle.dir_look.proofs.LookLaws.{told_bytes}
use Rattle.call_looks.proofs.entry.Goals as goal

pub returns : goal.returns
returns c =
    let a = c.args in
    let e = c.in_ok-open_card.was in
    rw c.entry_at.ensures
    (record {
      opened = c.open_card.result;
      opening = c.open_card.ensures;
      said = on_open _ _ _ e (told_plain _ _);
      bytes = on_open _ _ _ e (told_bytes a.image.now a.p.0 a.k);
    })
