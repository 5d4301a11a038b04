-- `file_fill::fill_at` meets its contract: what the filler leaves of the card (`fills`). Assumes nothing.
use Rattle.file_fill.proofs.Fillers.{fills}
use borrow.Author.Rules.{rules}
use Rattle.file_fill.proofs.fill_at.Goals as goal

pub returns : goal.returns
returns c =
    let done = fills _ _ c.args.n.0 _ _ c.file.ensures c.first_of.ensures c.after_of.ensures in
    search rules
