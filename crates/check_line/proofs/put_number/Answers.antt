-- `check_line::put_number` meets its contract. The digits of the rest, put into the buffer as it is, make it what the digits of n make of the first one.
-- Assumes nothing.
use mathlib.Core.Path.{◌≡◌, refl, sym, ap, ◌∙◌}
use Prim.Native.Nat.{◌+◌, ◌-◌, ◌/◌, ◌%◌, ◌≤◌, ◌<◌}
use native.Mathlib.Omega.{arith}
use native.Mathlib.Decide.{dec_lt}
use lib.ListN.{length}
use Rattle.check_line.specs.Line.{digit, decimal, put_at}
use Rattle.check_line.proofs.Decimal.{decimal_small, decimal_large, length_small, length_large, length_some}
use Rattle.check_line.proofs.Puts.{put_one, put_last}
use Rattle.check_line.proofs.put_number.Goals as goal

pub loop-i-init : goal.loop-i-init
loop-i-init c = let some = length_some c.args.n in (λ l. (omega arith, refl), λ l. absurd (omega arith))

pub loop-i-preserved : goal.loop-i-preserved
loop-i-preserved c =
    let l = c.loop-i in
    let a = c.args in
    let v = l.invariant.0 c.loop-i-test.true in (
      λ b.
          let large : 10 ≤ l.rest = elim (dec_lt l.rest 10) [ yes s ↦ absurd (omega (arith, length_small l.rest s, v.0)) | no d ↦ omega arith ] in
          let more = length_large l.rest large in
          let place : l.i - 1 ≡ a.at + length (decimal (l.rest / 10)) = omega (arith, v.0) in (
            omega (arith, v.0),
            rw place
                (sym (put_last l.out a.at (decimal (l.rest / 10)) (digit (l.rest % 10)))
                ∙ ap (put_at l.out a.at) (sym (decimal_large l.rest large))
                ∙ v.1),
          ),
      λ b.
          let small : l.rest < 10 =
          elim (dec_lt l.rest 10) [ yes s ↦ s | no d ↦ absurd (omega (arith, length_large l.rest (omega arith), length_some (l.rest / 10), v.0)) ] in
          let place : l.i - 1 ≡ a.at = omega arith in
          let same : l.rest % 10 ≡ l.rest = omega arith in
          rw (place, same) (sym (put_one l.out a.at (digit l.rest)) ∙ ap (put_at l.out a.at) (sym (decimal_small l.rest small)) ∙ v.1),
    )
