-- `dir_link::link` meets its contract. What is refused changes nothing; what is taken on has a name that fits, and an inode whose links may rise. Assumes nothing.
use mathlib.Core.Path.{◌≡◌, sym, ap, ◌∙◌, subst}
use Prim.Native.Nat.{◌<◌}
use native.Mathlib.Omega.{arith}
use Rattle.card_layout.specs.Inode.{decoded}
use Rattle.file_blocks.specs.Inner.{Sizes}
use Rattle.dir_answers.proofs.Ready.{sizes_whole, below_ready, here_ready}
use Rattle.dir_answers.proofs.Heads.{head_is, head_small}
use Rattle.dir_link.proofs.LinkLaws.{linked_name, linked_few, link_refused}
use Rattle.dir_link.proofs.link.Goals as goal
use Rattle.std.proofs.lemmas.Result.{err_from_is_err_and}
use Rattle.refusals.specs.Refusals.{answer_no}
use Rattle.refusals.proofs.Refused.{refusal_above}
use Rattle.std.specs.Prelude.{Some}

pub returns-in_err-judge_link : goal.returns-in_err-judge_link
returns-in_err-judge_link c =
    let a = c.args in
    let e = c.in_err-judge_link.ensures in
    let p = err_from_is_err_and c.from_residual.result c.from_residual.ensures.1 in
    rw (p.1, p.2) (e, sym (link_refused a.image.now a.p.0 a.x.now a.c.0 a.nb (λ z. refusal_above _ (ap answer_no e ∙ z))))

pub decode-requires : goal.decode-requires
decode-requires c = here_ready c.args.image.now c.requires.0 c.args.p.0 c.requires.1

pub decode-requires-2 : goal.decode-requires-2
decode-requires-2 c = here_ready c.args.image.now c.requires.0 c.args.c.0 c.requires.2

pub read-p-requires : goal.read-p-requires
read-p-requires c = here_ready c.args.image.now c.requires.0 c.args.p.0 c.requires.1

pub read-c-requires : goal.read-c-requires
read-c-requires c = here_ready c.args.image.now c.requires.0 c.args.c.0 c.requires.2

pub put_link-requires : goal.put_link-requires
put_link-requires c =
    let a = c.args in
    let p = c.requires in
    let h = c.in-Some.h in
    let g = c.in-Some-decode.g in
    let q : decoded a.image.now a.p.0 ≡ Some h = sym c.decode.ensures ∙ c.in-Some.is in
    let e : decoded a.image.now a.c.0 ≡ Some g = sym c.decode-2.ensures ∙ c.in-Some-decode.is in
    let t = sym c.in_ok-judge_link.ensures in
    let l : g.nlinks < 65536 = omega (arith, (head_is a.image.now a.c.0 g e).links_is) in
    rw (c.read-p.ensures.0, c.read-p.ensures.1, c.read-c.ensures.0, c.read-c.ensures.1) (
      subst (Sizes a.image.now) (sym p.3) (sizes_whole a.image.now p.0),
      omega (arith, p.3, below_ready a.image.now p.0 a.p.0 p.1),
      omega (arith, p.3, below_ready a.image.now p.0 a.c.0 p.2),
      head_small a.image.now p.0 a.p.0 p.1 h q,
      linked_name a.image.now a.p.0 a.x.now a.c.0 h g q e t,
      linked_few a.image.now a.p.0 a.x.now a.c.0 h g q e t l,
    )
