-- `utf8::ascii` meets its contract: the highest bit of all eight bytes by one mask. Assumes nothing.
use native.Mathlib.Omega.{arith}
use lib.Bits.{bit_and}
use Rattle.words.specs.Words.{Bytes}
use Rattle.words.proofs.Answers.{when-eqb}
use Rattle.utf8.proofs.Groups.{mask, mask_ascii, ascii_mask}
use Rattle.utf8.proofs.ascii.Goals as goal

pub returns : goal.returns
returns c =
    let a = c.args in
    let x = a.x.now in
    let bytes : Bytes x = record { below = λ k. omega (arith, c.type_inv.x k) } in
    let e = c.get.ensures in
    when-eqb (bit_and c.get.result (mask 8)) 0 _ _
    (λ z. mask_ascii 8 x a.at bytes (rw e at z))
    (λ n h. n (rw e (ascii_mask 8 x a.at bytes h)))
