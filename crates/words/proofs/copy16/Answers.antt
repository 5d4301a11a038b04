use Rattle.words.specs.Words.{Bytes}
use Rattle.words.proofs.Runs.{copied_add, put_copied}
use Rattle.words.proofs.copy16.Goals as goal

pub returns : goal.returns
returns c =
    let a = c.args in
    let small : Bytes a.src.now = record { below = λ k. (c.type_inv.src k).fits } in
    rw (
      c.put-2.ensures,
      c.put.ensures,
      c.get-b.ensures,
      c.get-a.ensures,
      put_copied 8 a.dst.now a.at _ _ small,
      put_copied 8 _ _ _ _ small,
    )
    (copied_add a.dst.now a.at a.src.now a.from 8 8)
