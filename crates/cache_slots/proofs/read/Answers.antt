-- `cache_slots::read` meets its contract: what `read_plain` says of the words, said of the slots (`records_read`); a refusal leaves them. Assumes nothing.
use Rattle.std.proofs.Common.{◌≡◌, refl, rules}
use Rattle.refusals.specs.Refusals.{refusal_no, answer_no}
use Rattle.cache_slots.proofs.Records.{records_read, refused_as}
use Rattle.cache_slots.proofs.read.Goals as goal

pub returns-in_err-read_plain : goal.returns-in_err-read_plain
returns-in_err-read_plain c =
    let e : answer_no c.from_residual.result ≡ refusal_no c.in_err-read_plain.field-0.0 = search rules in
    rw e (refused_as _ (records_read c.args.slots.now _ (rw c.to_words-a.ensures at c.in_err-read_plain.ensures)) (λ k. (refl, k.1, k.2, k.3)))

pub returns : goal.returns
returns c = rw c.from_words.ensures (records_read c.args.slots.now _ (rw c.to_words-a.ensures at c.in_ok-read_plain.ensures))
