-- Inner: what the contracts of many functions are put in; no part of what a call promises.
use Rattle.std.specs.Prelude.{ℕ, ◌+◌, ◌<◌, Bool, true, false}

-- the parts of m bytes at a and of n bytes at b have no byte in common: as a refutation, so that `omega arith` proves it
abbrev pub Apart : ℕ → ℕ → ℕ → ℕ → Type 0
Apart a m b n = a < b + n → b < a + m → ⊥

-- what a function that answers yes or no says: A where it is true, B where it is false
abbrev pub When : Bool → Type 0 → Type 0 → Type 0
When true A B = A
When false A B = B

-- what a function that answers whether A holds says
abbrev pub Tells : Bool → Type 0 → Type 0
Tells r A = When r A (A → ⊥)
