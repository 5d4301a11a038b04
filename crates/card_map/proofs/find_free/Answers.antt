-- `card_map::find_free` meets its contract: the search goes over whole map bytes, and what it finds is judged against n (`lowest_within`, `lowest_past`). Assumes nothing.
use Rattle.std.proofs.Common.{◌≡◌, ◌+◌, ◌*◌, ◌/◌, sym, ap, ◌∙◌, arith}
use Rattle.card_map.specs.Free.{lowest}
use Rattle.card_map.specs.Inner.{found_below}
use Rattle.card_map.proofs.Laws.{lowest_within, lowest_past, found_below_some, found_below-none}
use Rattle.card_map.proofs.find_free.Goals as goal

pub returns-then-b-n : goal.returns-then-b-n
returns-then-b-n c =
    let a = c.args in
    let n = a.n in
    let img = a.image.now in
    let s = c.search-b in
    let e : lowest img a.from.0 n ≡ s.result.0 =
    lowest_within img a.from.0 n (8 * ((n + 7) / 8)) (omega arith) (omega arith) (omega (arith, s.ensures)) ∙ sym s.ensures in
    sym (ap (found_below n) e ∙ found_below_some n s.result.0 c.if-b-n.true)

pub returns-else-b-n : goal.returns-else-b-n
returns-else-b-n c =
    let a = c.args in
    let n = a.n in
    let img = a.image.now in
    let s = c.search-b in
    let e : lowest img a.from.0 n ≡ n =
    lowest_past img a.from.0 n (8 * ((n + 7) / 8)) (omega arith) (omega arith) (omega (arith, s.ensures)) in
    sym (found_below-none n (lowest img a.from.0 n) (omega arith))
