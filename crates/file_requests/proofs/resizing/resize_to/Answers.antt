-- `file_requests::resizing::resize_to` meets its contract: the length first, then zeros. Assumes nothing.
use Rattle.file_requests.proofs.Changes.{resized_by}
use Rattle.file_requests.proofs.resizing.resize_to.Goals as goal

pub returns : goal.returns
returns c =
    let a = c.args in
    resized_by a.nb a.n.0 a.d a.len a.image.now _ _
    c.fit.ensures
    c.clean_new.ensures
