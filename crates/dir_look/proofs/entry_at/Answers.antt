use mathlib.Core.Path.{sym, ap, ◌∙◌}
use native.Mathlib.Omega.{arith}
use Rattle.std.specs.Prelude.{Ok}
use Rattle.dir_answers.proofs.Ready.{here_ready}
use Rattle.dir_answers.proofs.Heads.{head_is, dir_good}
use Rattle.dir_answers.proofs.Dirs.{entry_ready}
use Rattle.dir_look.proofs.LookLaws.{entry_none, entry_there}
use Rattle.dir_look.proofs.entry_at.Goals as goal

pub dir_head-requires : goal.dir_head-requires
dir_head-requires c = here_ready c.args.image.now c.requires.0 c.args.p.0 c.requires.1

pub returns-then-k-h : goal.returns-then-k-h
returns-then-k-h c =
    let a = c.args in
    let q = sym c.in_ok-h.ensures in
    let z = (head_is a.image.now a.p.0 _ (dir_good a.image.now a.p.0 _ q).0).size_is in
    sym (entry_none a.image.now a.p.0 a.k _ q (omega (arith, z, c.if-k-h.true)))

pub load_entry-requires : goal.load_entry-requires
load_entry-requires c =
    let a = c.args in
    let g = dir_good a.image.now a.p.0 _ (sym c.in_ok-h.ensures) in
    let z = (head_is a.image.now a.p.0 _ g.0).size_is in
    entry_ready a.image.now c.requires.0 a.p.0 c.requires.1 _ (omega (arith, z, c.if-k-h.false))

pub returns : goal.returns
returns c =
    let a = c.args in
    let q = sym c.in_ok-h.ensures in
    let z = (head_is a.image.now a.p.0 _ (dir_good a.image.now a.p.0 _ q).0).size_is in
    ap Ok c.load_entry.ensures ∙ sym (entry_there a.image.now a.p.0 a.k _ q (omega (arith, z, c.if-k-h.false)))
