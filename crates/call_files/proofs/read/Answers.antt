-- `call_files::read` meets its contract. An open card is whole, which is what the request asks. Assumes nothing.
use Rattle.call_said.proofs.Opened.{ready, ready_sizes, ready_below}
use Rattle.call_files.proofs.read.Goals as goal

pub read-requires : goal.read-requires
read-requires c =
    let r = ready c.in_ok-c.c c.open_card.ensures c.in_ok-c.was in
    (ready_sizes r, ready_below r r.first)
