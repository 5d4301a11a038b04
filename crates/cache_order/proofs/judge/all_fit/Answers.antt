-- `cache_order::judge::all_fit` meets its contract. Assumes nothing.
use Rattle.std.proofs.Common.{rules, ℕ, ◌<◌, refl}
use Rattle.std.proofs.lemmas.Iterator.{cases_from_all, YieldsList-from_range}
use Rattle.words.proofs.Answers.{when-map}
use Rattle.cache_order.specs.Slots.{slots_in, Fits, AllFit}
use Rattle.cache_order.proofs.Search.{tells_each}
use Rattle.cache_order.proofs.judge.all_fit.Goals as goal

pub returns : goal.returns
returns c =
    let w = c.args.slots.now in
    let v = c.args.device.now in
    when-map _ ((i : ℕ) → i < slots_in w → Fits w v i) _ (AllFit w v) (AllFit w v → ⊥) (λ h. record { each = h }) (λ n a. n a.each) (
    tells_each (slots_in w) (Fits w v) _ (
    cases_from_all _ _ _ (Fits w v) (λ i. Fits w v i → ⊥) c.all.ensures.ran (YieldsList-from_range 0 (slots_in w) (slots_in w) refl (search rules))
    (λ x q k. search rules) (λ x q k. search rules)))
