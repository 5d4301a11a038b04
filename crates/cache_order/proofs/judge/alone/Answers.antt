-- `cache_order::judge::alone` meets its contract. Assumes nothing.
use Rattle.std.proofs.Common.{rules, ℕ, ◌<◌, refl}
use Rattle.std.proofs.lemmas.Iterator.{cases_from_all, YieldsList-from_range}
use Rattle.words.proofs.Answers.{when-map}
use Rattle.cache_order.specs.Slots.{Differ, Alone}
use Rattle.cache_order.proofs.Search.{tells_each}
use Rattle.cache_order.proofs.judge.alone.Goals as goal

pub returns : goal.returns
returns c =
    let w = c.args.slots.now in
    let j = c.args.j in
    when-map _ ((i : ℕ) → i < j → Differ w i j) _ (Alone w j) (Alone w j → ⊥) (λ h. record { before = h }) (λ n a. n a.before) (
    tells_each j (λ i. Differ w i j) _ (
    cases_from_all _ _ _ (λ i. Differ w i j) (λ i. Differ w i j → ⊥) c.all.ensures.ran (YieldsList-from_range 0 j j refl (search rules))
    (λ x q k. search rules) (λ x q k. search rules)))
