-- `check_line::put_line` meets its contract: seven parts, one behind another. Assumes nothing.
use native.Mathlib.Omega.{arith}
use Rattle.check_line.specs.Line.{blocks_text, free_text, newline, decimal, check_line}
use Rattle.check_line.proofs.Puts.{made_first, made_more}
use Rattle.check_line.proofs.put_line.Goals as goal

pub returns : goal.returns
unfolding check_line
returns c =
    let a = c.args in
    let m1 = made_first c.put_text-a.ensures.0 c.put_text-a.ensures.1 in
    let m2 = made_more (decimal a.status) m1 c.put_number-b.ensures.0 c.put_number-b.ensures.2 in
    let m3 = made_more blocks_text m2 c.put_text-c.ensures.0 c.put_text-c.ensures.1 in
    let m4 = made_more (decimal a.blocks) m3 c.put_number-d.ensures.0 c.put_number-d.ensures.2 in
    let m5 = made_more free_text m4 c.put_text-e.ensures.0 c.put_text-e.ensures.1 in
    let m6 = made_more (decimal a.unused) m5 c.put_number-f.ensures.0 c.put_number-f.ensures.2 in
    let m7 = made_more newline m6 c.put_text.ensures.0 c.put_text.ensures.1 in
    record { value = (m7.end, omega arith); out_after = m7.bytes }
