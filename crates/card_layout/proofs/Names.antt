-- The bytes before the first NUL: the laws of `upto_nul`. Assumes nothing.
use Prim.Native.Nat.{ℕ, zero, suc, ◌+◌, ◌<◌, ◌≤◌}
use mathlib.Core.Path.{◌≡◌, refl, sym, ap, ◌∙◌}
use mathlib.Core.List.{List, [], ◌∷◌}
use native.Mathlib.Omega.{arith}
use lib.ListN.{length, get_or, take, drop, drop_of_length-le}
use Rattle.words.proofs.Lists.{rest_cons}
use Rattle.card_layout.specs.Entry.{upto_nul}

at_nul : (x : ℕ) (xs : List ℕ) → x ≡ 0 → upto_nul (x ∷ xs) ≡ []
unfolding upto_nul
at_nul zero xs e = refl
at_nul (suc x) xs e = absurd (omega arith)

at_other : (x : ℕ) (xs : List ℕ) → (x ≡ 0 → ⊥) → upto_nul (x ∷ xs) ≡ x ∷ upto_nul xs
unfolding upto_nul
at_other zero xs n = absurd (n refl)
at_other (suc x) xs n = refl

-- a scan at place i: a NUL ends it, anything else goes one further
pub nul_here : (xs : List ℕ) (i : ℕ) → i < length xs → get_or xs i 0 ≡ 0 → upto_nul (drop i xs) ≡ []
nul_here xs i l e = rw (rest_cons xs i l) (at_nul (get_or xs i 0) (drop (i + 1) xs) e)

pub nul_next : (xs : List ℕ) (i : ℕ) → i < length xs → (get_or xs i 0 ≡ 0 → ⊥) → upto_nul (drop i xs) ≡ get_or xs i 0 ∷ upto_nul (drop (i + 1) xs)
nul_next xs i l n = rw (rest_cons xs i l) (at_other (get_or xs i 0) (drop (i + 1) xs) n)

pub nul_end : (xs : List ℕ) (i : ℕ) → length xs ≤ i → upto_nul (drop i xs) ≡ []
unfolding upto_nul
nul_end xs i l = rw (drop_of_length-le xs {i = i} l)

-- it is the part before the NUL
pub upto_take : (xs : List ℕ) → upto_nul xs ≡ take (length (upto_nul xs)) xs
unfolding upto_nul
upto_take [] = refl
upto_take (zero ∷ xs) = refl
upto_take (suc x ∷ xs) = ap (λ (l : List ℕ). suc x ∷ l) (upto_take xs)

pub upto_le : (xs : List ℕ) → length (upto_nul xs) ≤ length xs
unfolding upto_nul
upto_le [] = omega arith
upto_le (zero ∷ xs) = omega arith
upto_le (suc x ∷ xs) = let h = upto_le xs in omega arith

-- no byte of it is 0
pub upto_no_nul : (xs : List ℕ) (k : ℕ) → k < length (upto_nul xs) → get_or (upto_nul xs) k 0 ≡ 0 → ⊥
unfolding upto_nul
upto_no_nul [] k l e = omega arith
upto_no_nul (zero ∷ xs) k l e = omega arith
upto_no_nul (suc x ∷ xs) zero l e = omega arith
upto_no_nul (suc x ∷ xs) (suc k) l e = upto_no_nul xs k (omega arith) e

-- the byte at its end is 0, where it does not end with the list
pub upto_nul_lem : (xs : List ℕ) → length (upto_nul xs) < length xs → get_or xs (length (upto_nul xs)) 0 ≡ 0
unfolding upto_nul
upto_nul_lem [] l = absurd (omega arith)
upto_nul_lem (zero ∷ xs) l = refl
upto_nul_lem (suc x ∷ xs) l = upto_nul_lem xs (omega arith)

-- what is to be found before the first NUL, by its bytes: as long as ys and the same there, and a NUL (or nothing more) after it
pub upto_is : (xs ys : List ℕ) → length ys ≤ length xs → ((k : ℕ) → k < length ys → get_or ys k 0 ≡ 0 → ⊥) → ((k : ℕ) → k < length ys → get_or xs k 0 ≡ get_or ys k 0) → get_or xs (length ys) 0 ≡ 0 → upto_nul xs ≡ ys
unfolding upto_nul
upto_is [] [] l n h z = refl
upto_is [] (y ∷ ys) l n h z = absurd (omega arith)
upto_is (x ∷ xs) [] l n h z = at_nul x xs z
upto_is (x ∷ xs) (y ∷ ys) l n h z =
    let e : x ≡ y = h 0 (omega arith) in
    at_other x xs (λ q. n 0 (omega arith) (sym e ∙ q))
    ∙ ap (λ (t : List ℕ). x ∷ t) (upto_is xs ys (omega arith) (λ k b. n (suc k) (omega arith)) (λ k b. h (suc k) (omega arith)) z)
    ∙ ap (λ (t : ℕ). t ∷ ys) e
