-- `file_requests::requests::read` meets its contract. No sum of offset and length is made: what is left of the file is compared. Assumes nothing.
use mathlib.Core.Path.{◌≡◌, sym, ap}
use Prim.Native.Nat.{ℕ, ◌+◌, ◌-◌, min}
use native.Mathlib.Omega.{arith}
use lib.ListN.{length}
use Rattle.file_requests.proofs.Calls.{read_good, read_bad}
use Rattle.file_requests.proofs.requests.read.Goals as goal
use Rattle.std.proofs.lemmas.Result.{err_from_is_err_and}
use Rattle.std.specs.Prelude.{Ok}

pub returns-in_err-size : goal.returns-in_err-size
returns-in_err-size c =
    let a = c.args in
    let p = err_from_is_err_and c.from_residual.result c.from_residual.ensures.1 in
    rw (p.1, p.2) (read_bad a.nb a.image.now a.n.0 a.off a.buf.now _ (sym c.in_err-size.ensures))

pub returns : goal.returns
returns c =
    let a = c.args in
    let h = c.in_ok-size.field-0 in
    let end = min h.size (a.off + length a.buf.now) in
    let lo : c.min-lo.result ≡ min h.size a.off = c.min-lo.ensures in
    let hi : c.min-lo.result + c.min-k.result ≡ end = omega arith in
    let k : c.min-k.result ≡ end - min h.size a.off = omega arith in
    read_good a.nb a.image.now a.n.0 a.off a.buf.now h _ _ (sym c.in_ok-size.ensures)
    (ap (λ (x : ℕ). Ok x) k)
    (rw (c.read_at.ensures, hi, lo))
