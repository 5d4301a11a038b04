use Rattle.words.proofs.Runs.{copied_add}
use Rattle.words.proofs.copy64.Goals as goal

pub returns : goal.returns
returns c =
    let a = c.args in
    let more = copied_add a.dst.now a.at a.src.now a.from in
    rw (c.copy16-4.ensures, c.copy16-3.ensures, c.copy16-2.ensures, c.copy16.ensures, more 16 16, more 32 16) (more 48 16)
