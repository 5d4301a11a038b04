-- Runs of stores, and loops that change a list.
use Rattle.std.specs.Prelude.{ℕ, zero, suc, ◌+◌, List, set}
use Rattle.words.specs.Words.{byte}

-- d after n stores: the k-th puts f k at addr k
unfoldable pub puts : List ℕ → (ℕ → ℕ) → (ℕ → ℕ) → ℕ → List ℕ
puts d addr f zero = d
puts d addr f (suc n) = set (puts d addr f n) (addr n) (f n)

-- d, whose n bytes from `at` on are those of s from `from` on
unfoldable pub copied : List ℕ → ℕ → List ℕ → ℕ → ℕ → List ℕ
copied d at s from n = puts d (λ k. at + k) (λ k. byte s (from + k)) n

-- d with n zeros from `at` on
unfoldable pub zeroed : List ℕ → ℕ → ℕ → List ℕ
zeroed d at n = puts d (λ k. at + k) (λ k. 0) n

-- what a loop `for j in i..i + k` leaves of a, whose turn j takes x to f j x
unfoldable pub turns : {A : Type 0} → (ℕ → A → A) → ℕ → ℕ → A → A
turns f i zero a = a
turns f i (suc k) a = f (i + k) (turns f i k a)
