use mathlib.Core.Path.{sym, ◌∙◌}
use native.Mathlib.Omega.{arith}
use Rattle.dir_answers.proofs.Ready.{here_ready, below_ready}
use Rattle.dir_answers.proofs.Dirs.{named_reached, dir_least, entry_small, entry_ready}
use Rattle.dir_unlink.proofs.UnlinkLaws.{sizes_are}
use Rattle.dir_unlink.proofs.unlink_named.Goals as goal

pub entry_number-c-requires : goal.entry_number-c-requires
entry_number-c-requires c = entry_ready c.args.image.now c.requires.0 c.args.p.0 c.requires.1 _ c.requires.3.1

pub decode-requires-2 : goal.decode-requires-2
decode-requires-2 c =
    let i = c.args.image.now in
    let p = c.requires in
    here_ready i p.0 _ (named_reached i p.0 c.args.p.0 p.1 c.args.k p.3.1 p.3.0 _ c.entry_number-c.ensures)

pub read-c-requires : goal.read-c-requires
read-c-requires c =
    let i = c.args.image.now in
    let p = c.requires in
    here_ready i p.0 _ (named_reached i p.0 c.args.p.0 p.1 c.args.k p.3.1 p.3.0 _ c.entry_number-c.ensures)

pub unlink_at-requires : goal.unlink_at-requires
unlink_at-requires c =
    let a = c.args in
    let i = a.image.now in
    let p = c.requires in
    let l = below_ready i p.0 a.p.0 p.1 in
    let m = below_ready i p.0 _ (named_reached i p.0 a.p.0 p.1 a.k p.3.1 p.3.0 _ c.entry_number-c.ensures) in
    let z = dir_least i p.0 a.p.0 p.1 c.in-Some.h (sym c.decode.ensures ∙ c.in-Some.is) p.3.0 in
    let e = c.read-p.ensures in (
      sizes_are i p.0 a.nb p.2,
      (rw e.0 (omega arith), rw c.read-c.ensures.0 (omega arith), rw e.1 z, entry_small i p.0 a.p.0 p.1 a.k p.3.1),
    )
