use Rattle.card_layout.proofs.Words.{length-words, get_or-words}
use lib.Seq.{ext_get_or}
use Rattle.card_layout.specs.Inode.{block_id}
use native.Mathlib.Omega.{arith}
use mathlib.Core.Path.{sym, ap, ◌∙◌}
use Prim.Native.Nat.{◌+◌, ◌*◌}
use Rattle.card_layout.proofs.inode.slots.Goals as goal

pub returns : goal.returns
returns c = let a = c.args in
    ext_get_or (block_id 0) _ _ (omega (arith, length-words 12 a.image.now (4096 * a.n.0 + 12)))
    (λ k l. c.loop-i.invariant.1 k (omega arith) ∙ sym (ap block_id (get_or-words 12 _ _ k (omega arith))))
