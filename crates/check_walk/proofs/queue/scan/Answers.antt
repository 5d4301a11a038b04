-- `check_walk::queue::scan` meets its contract. The loop's invariant: the first j children are noted (`Noting`), and p knows its block. Assumes nothing.
use borrow.Author.Rules.{rules}
use native.Mathlib.Omega.{arith}
use mathlib.Core.Path.{refl}
use Prim.Native.Nat.{◌<◌}
use Rattle.card_rules.specs.View.{kids}
use Rattle.check_names.proofs.Entries.{nowhere_block}
use Rattle.check_walk.specs.Inner.{past}
use Rattle.check_walk.proofs.Queueing.{room, noting_none, noting_more, noting_many}
use Rattle.check_walk.proofs.queue.scan.Goals as goal

pub loop-j-init : goal.loop-j-init
loop-j-init c = (noting_none _ _ _ _ _ c.requires.6, nowhere_block _ _ _ _ c.nowhere-p.ensures.0 c.nowhere-p.ensures.1)

pub returns-then-nb-at : goal.returns-then-nb-at
returns-then-nb-at c =
    past c.loop-j.j (omega (arith, c.requires.1)) (omega (arith, c.entry_after-p.ensures.1))

pub returns-then-v-gt-MANY : goal.returns-then-v-gt-MANY
returns-then-v-gt-MANY c =
    let o = c.loop-j in
    let r = c.entry_after-p in
    let l : o.j < kids c.args.image.now c.args.n.0 = omega (arith, c.requires.1) in
    noting_many _ _ _ _ _ _ _ _ _ o.invariant.0 l r.ensures.1 (omega arith) (omega arith)

pub note-end-requires : goal.note-end-requires
note-end-requires c = (
  search rules,
  omega (arith, c.loop-j.invariant.0.grown.long),
  omega arith,
  refl,
  omega arith,
  λ z. room _ _ _ _ c.loop-j.invariant.0.grown.queue c.entry_after-p.result.number.0 (omega arith) z,
)

pub loop-j-preserved : goal.loop-j-preserved
loop-j-preserved c =
    let o = c.loop-j in
    let r = c.entry_after-p in
    let l : o.j < kids c.args.image.now c.args.n.0 = omega (arith, c.requires.1) in (
      noting_more _ _ _ _ _ _ _ _ _ o.invariant.0 l r.ensures.1 (omega arith) _ _ (omega arith) c.requires.5 c.note-end.ensures,
      r.ensures.0,
    )
