-- `file_read::read_at` meets its contract: what the reader leaves in its buffer (`reads`). Assumes nothing.
use Rattle.file_read.proofs.Readers.{reads}
use borrow.Author.Rules.{rules}
use Rattle.file_read.proofs.read_at.Goals as goal

pub returns : goal.returns
returns c =
    let done = reads _ _ c.args.n.0 _ _ c.file.ensures c.first_of.ensures c.after_of.ensures in
    search rules
