-- `file_requests::resizing::take_for` meets its contract. Growth from the lowest block on, and the record written (`lengthened_by`). Assumes nothing.
use Rattle.file_requests.proofs.Changes.{lengthened_by}
use Rattle.file_requests.proofs.resizing.take_for.Goals as goal

pub returns : goal.returns
returns c =
    let a = c.args in
    lengthened_by a.nb a.n.0 a.d a.len a.image.now _ _ _
    c.grow-r.result _
    c.blocks_for-b.ensures
    c.grow-r.ensures
    c.of_length.ensures
    c.encode.ensures
