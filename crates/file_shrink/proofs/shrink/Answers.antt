-- `file_shrink::shrink` meets its contract: six steps, one after the other (`shrunk_by`). Assumes nothing.
use borrow.Author.Rules.{rules}
use Rattle.file_shrink.proofs.Freers.{shrunk_by}
use Rattle.file_shrink.proofs.shrink.Goals as goal

pub returns : goal.returns
returns c =
    let a = c.args in
    let done = shrunk_by _ a.n.0 a.d a.b a.a _ _ _ _ _ _ c.direct.ensures.walked c.indirect.ensures.walked c.double.ensures.walked
    c.free_pointer.ensures.freed c.free_level.ensures.freed c.free_pointer-2.ensures.freed in
    search rules
