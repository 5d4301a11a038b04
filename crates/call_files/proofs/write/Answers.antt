-- `call_files::write` meets its contract. An open card is whole, which is what the request asks. Assumes nothing.
use Rattle.call_said.proofs.Opened.{ready, ready_sizes, ready_below}
use Rattle.call_files.proofs.write.Goals as goal

pub write-requires : goal.write-requires
write-requires c =
    let r = ready c.in_ok-c.c c.open_card.ensures c.in_ok-c.was in
    (ready_sizes r, ready_below r r.first)
