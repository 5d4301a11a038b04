-- `file_requests::resizing::shorten` meets its contract. Blocks are freed by the record as it was, then the record is written (`shorter_by`). Assumes nothing.
use Rattle.file_requests.proofs.Changes.{shorter_by}
use Rattle.file_requests.proofs.resizing.shorten.Goals as goal

pub returns : goal.returns
returns c =
    let a = c.args in
    shorter_by a.nb a.n.0 a.d a.len a.image.now _ _ _ _ _ _ _
    c.file_blocks-a.ensures
    c.blocks_for-b.ensures
    c.shrink.ensures
    c.less_indirect-e.ensures
    c.less_double-f.ensures
    c.of_length.ensures
    c.encode.ensures
