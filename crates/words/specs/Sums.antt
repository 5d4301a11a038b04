-- Counting by sums: over a range and over a list.
use Rattle.std.specs.Prelude.{ℕ, zero, suc, ◌+◌, List, [], ◌∷◌, eqb}
use Rattle.words.specs.Words.{pick}

-- 1 where the two are equal, else 0
unfoldable pub δ : ℕ → ℕ → ℕ
δ a b = pick (eqb a b) 1 0

-- f 0 + .. + f (n - 1): it counts up as loops do
unfoldable pub sum_to : (ℕ → ℕ) → ℕ → ℕ
sum_to f zero = 0
sum_to f (suc n) = sum_to f n + f n

-- the sum of f over a list
unfoldable pub sum_on : (ℕ → ℕ) → List ℕ → ℕ
sum_on f [] = 0
sum_on f (x ∷ xs) = f x + sum_on f xs

-- how often m stands in a list
abbrev pub cnt : ℕ → List ℕ → ℕ
cnt m l = sum_on (δ m) l

-- a list without its first m
unfoldable pub without : ℕ → List ℕ → List ℕ
without m [] = []
without m (x ∷ xs) = pick (eqb m x) xs (x ∷ without m xs)
