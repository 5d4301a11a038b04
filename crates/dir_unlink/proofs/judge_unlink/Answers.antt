use mathlib.Core.Path.{sym}
use Rattle.dir_answers.proofs.Dirs.{entry_ready}
use Rattle.dir_answers.proofs.Tests.{place_is}
use Rattle.dir_unlink.proofs.judge_unlink.Goals as goal

pub entry_number-requires : goal.entry_number-requires
entry_number-requires c =
    let a = c.args in
    let p = place_is a.image.now a.p.0 a.x.now c.in_ok-k.k (sym c.in_ok-k.ensures) in
    entry_ready a.image.now c.requires.0 a.p.0 c.requires.1 _ p.1
