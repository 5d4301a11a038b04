-- `cache_slots::sync` meets its contract: what `sync_plain` says of the words, said of the slots (`records_sync`); a refusal leaves them. Assumes nothing.
use Rattle.std.proofs.Common.{◌≡◌, refl, rules}
use Rattle.refusals.specs.Refusals.{refusal_no, answer_no}
use Rattle.cache_slots.proofs.Records.{records_sync, refused_as}
use Rattle.cache_slots.proofs.sync.Goals as goal

pub returns-in_err-sync_plain : goal.returns-in_err-sync_plain
returns-in_err-sync_plain c =
    let e : answer_no c.from_residual.result ≡ refusal_no c.in_err-sync_plain.field-0.0 = search rules in
    rw e (refused_as _ (records_sync c.args.slots.now _ (rw c.to_words-a.ensures at c.in_err-sync_plain.ensures)) (λ k. (refl, k.1)))

pub returns : goal.returns
returns c = rw c.from_words.ensures (records_sync c.args.slots.now _ (rw c.to_words-a.ensures at c.in_ok-sync_plain.ensures))
