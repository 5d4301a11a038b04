-- `check_walk::judge::dir_links` meets its contract: named once, 2 links and one for each subdirectory (`dir_tally`). Assumes nothing.
use mathlib.Core.Path.{◌∙◌}
use native.Mathlib.Omega.{arith}
use Rattle.check_marks.proofs.Heads.{head_links_lem}
use Rattle.check_walk.proofs.Visiting.{head_kids_lem}
use Rattle.check_walk.proofs.Families.{dir_tally, kept_few}
use Rattle.check_walk.proofs.judge.dir_links.Goals as goal

pub family-requires : goal.family-requires
family-requires c =
    let a = c.args in
    (c.kid_count.ensures.0 ∙ head_kids_lem a.image.now a.n.0 a.h c.requires.0, c.kid_count.ensures.1, c.requires.2)

pub overflow_add-result : goal.overflow_add-result
overflow_add-result c =
    let a = c.args in
    omega (arith, kept_few a.image.now a.n.0 c.in-Some.c c.in-Some.ensures, c.kid_count.ensures, head_kids_lem a.image.now a.n.0 a.h c.requires.0)

pub returns-in-Some : goal.returns-in-Some
returns-in-Some c =
    let a = c.args in
    dir_tally a.image.now a.n.0 a.v _ _ c.requires.1 c.if-v-ne1.false (head_links_lem a.image.now a.n.0 a.h c.requires.0) c.in-Some.ensures
