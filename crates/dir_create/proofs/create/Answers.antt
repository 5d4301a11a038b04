-- `dir_create::create` meets its contract. What is refused changes nothing; what is taken on has a name that fits, in a directory whose links may rise. Assumes
-- nothing.
use mathlib.Core.Path.{◌≡◌, sym, ap, ◌∙◌, subst}
use Prim.Native.Nat.{◌<◌}
use mathlib.Core.Bool.{false≢true}
use native.Mathlib.Omega.{arith}
use Rattle.card_layout.specs.Inode.{decoded}
use Rattle.file_blocks.specs.Inner.{Sizes}
use Rattle.dir_answers.proofs.Ready.{sizes_whole, below_ready, here_ready}
use Rattle.dir_answers.proofs.Heads.{head_is, head_small}
use Rattle.dir_create.proofs.CreateLaws.{create_known, fresh_first, taken_number, taken_name, taken_links}
use Rattle.dir_create.proofs.KindLaws.{kind_good, kind_bad}
use Rattle.dir_create.proofs.create.Goals as goal
use Rattle.std.specs.Prelude.{Some}

pub returns-in_err-kind : goal.returns-in_err-kind
returns-in_err-kind c =
    let a = c.args in
    let k = create_known a.nb a.image.now a.p.0 a.x.now a.kind c.in_ok-n.n (sym c.in_ok-n.ensures) in
    absurd (false≢true (sym (kind_bad a.kind _ (sym c.in_err-kind.ensures)).0 ∙ k))

pub decode-requires : goal.decode-requires
decode-requires c = here_ready c.args.image.now c.requires.0 c.args.p.0 c.requires.1

pub read-p-requires : goal.read-p-requires
read-p-requires c = here_ready c.args.image.now c.requires.0 c.args.p.0 c.requires.1

pub make-requires : goal.make-requires
make-requires c =
    let a = c.args in
    let p = c.requires in
    let img = a.image.now in
    let h = c.in-Some.h in
    let v = c.in_ok-n.n in
    let q : decoded img a.p.0 ≡ Some h = sym c.decode.ensures ∙ c.in-Some.is in
    let e = sym c.in_ok-n.ensures in
    let l : h.nlinks < 65536 = omega (arith, (head_is img a.p.0 h q).links_is) in
    rw (c.read-p.ensures.0, c.read-p.ensures.1) (
      λ z. taken_links a.nb img a.p.0 a.x.now a.kind h q v e l (sym (kind_good a.kind _ (sym c.in_ok-kind.ensures)) ∙ z),
      (
        subst (Sizes img) (sym p.2) (sizes_whole img p.0),
        fresh_first a.nb img v.0 (taken_number a.nb img a.p.0 a.x.now a.kind h q v e),
        omega (arith, p.2, below_ready img p.0 a.p.0 p.1),
        head_small img p.0 a.p.0 p.1 h q,
        taken_name a.nb img a.p.0 a.x.now a.kind h q v e,
      ),
    )
