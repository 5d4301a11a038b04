-- `cache_slots::write` meets its contract: what `write_plain` says of the words, said of the slots (`records_write`); a refusal leaves them. Assumes nothing.
use Rattle.std.proofs.Common.{◌≡◌, refl, rules}
use Rattle.refusals.specs.Refusals.{refusal_no, answer_no}
use Rattle.cache_slots.proofs.Records.{records_write, refused_as}
use Rattle.cache_slots.proofs.write.Goals as goal

pub returns-in_err-write_plain : goal.returns-in_err-write_plain
returns-in_err-write_plain c =
    let e : answer_no c.from_residual.result ≡ refusal_no c.in_err-write_plain.field-0.0 = search rules in
    rw e (refused_as _ (records_write c.args.slots.now _ (rw c.to_words-a.ensures at c.in_err-write_plain.ensures)) (λ k. (refl, k.1, k.2)))

pub returns : goal.returns
returns c = rw c.from_words.ensures (records_write c.args.slots.now _ (rw c.to_words-a.ensures at c.in_ok-write_plain.ensures))
