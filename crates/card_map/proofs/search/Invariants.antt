use Rattle.std.proofs.Common.{◌≡◌, ℕ, ◌+◌, ◌-◌, ◌*◌, ◌<◌, ◌≤◌, List}
use Rattle.card_map.specs.Bits.{map_bit}
use Rattle.card_map.proofs.search.Given as goal

-- no block from i on below n is free
abbrev None : List ℕ → ℕ → ℕ → Type 0
None img i n = (b : ℕ) → i ≤ b → b < n → map_bit img b ≡ 1 → ⊥

abbrev pub invariant-search : goal.invariant-search
invariant-search l = (l.k < 8) × (l.i ≤ l.bytes) × (8 * l.initial.i + l.initial.k ≤ 8 * l.i + l.k) × None l.image (8 * l.initial.i + l.initial.k) (8 * l.i + l.k)

abbrev pub decreases-search : goal.decreases-search
decreases-search l = l.bytes - l.i
