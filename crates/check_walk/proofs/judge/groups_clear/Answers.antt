-- `check_walk::judge::groups_clear` meets its contract. The loop's invariant: the bits of the groups from i up to j are clear (`clear_more`). Assumes nothing.
use mathlib.Core.Path.{◌∙◌, sym}
use Prim.Native.Nat.{◌*◌}
use native.Mathlib.Omega.{arith}
use Rattle.words.specs.Words.{Bytes}
use Rattle.card_map.proofs.Groups.{clear_group}
use Rattle.check_walk.proofs.Passing.{clear_more}
use Rattle.check_walk.proofs.judge.groups_clear.Goals as goal

pub returns-then-get-ne0 : goal.returns-then-get-ne0
returns-then-get-ne0 c =
    let img = c.args.image.now in
    let small : Bytes img = record { below = λ k. omega (arith, c.type_inv.image k) } in
    λ h. c.if-get-ne0.true (c.get.ensures ∙ clear_group img (8 * c.loop-j.j) small (λ b l m. h b (omega arith) (omega arith)))

pub loop-j-preserved : goal.loop-j-preserved
loop-j-preserved c =
    clear_more c.args.image.now c.args.i c.loop-j.j c.loop-j.invariant (sym c.get.ensures ∙ c.if-get-ne0.false)
