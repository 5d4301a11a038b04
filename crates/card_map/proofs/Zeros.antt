-- The lowest bit of a number by its trailing zeros: below the count all its bits are clear, and the bit there is set. Over the number n of the
-- number's digits, 8 at a map byte. And what is left of a number whose k lowest bits are masked off. Assumes nothing.
use Rattle.std.proofs.Common.{◌≡◌, ℕ, zero, suc, ◌*◌, ◌/◌, ◌%◌, ◌^◌, ◌<◌, ◌≤◌, sym, ap, ◌∙◌, mul_assoc, mul_comm, pow-suc, div-mul-le_self, arith}
use native.Mathlib.Nat.{div-div-eq-div-mul}
use native.Mathlib.Decide.{ℕ_discrete}
use lib.Count.{count_trailing_zeros, under}
use Rattle.card_map.proofs.Bits.{bit_of, bit_of_zero, bit_of_suc}

-- ---- trailing zeros

trailing_odd : (n x : ℕ) → x % 2 ≡ 1 → count_trailing_zeros (suc n) x ≡ 0
unfolding count_trailing_zeros
trailing_odd n x e = ap (λ (d : ℕ). under d (count_trailing_zeros n (x / 2))) e

trailing_even : (n x : ℕ) → x % 2 ≡ 0 → count_trailing_zeros (suc n) x ≡ suc (count_trailing_zeros n (x / 2))
unfolding count_trailing_zeros
trailing_even n x e = ap (λ (d : ℕ). under d (count_trailing_zeros n (x / 2))) e

-- t is the place of the lowest bit of x that is set
abbrev pub Lowest : ℕ → ℕ → Type 0
Lowest x t = (bit_of x t ≡ 1) × ((k : ℕ) → k < t → bit_of x k ≡ 0)

next : (x t : ℕ) → x % 2 ≡ 0 → Lowest (x / 2) t → Lowest x (suc t)
next x t e l = (bit_of_suc x t ∙ l.0, below)
  where
    below : (k : ℕ) → k < suc t → bit_of x k ≡ 0
    below zero h = bit_of_zero x ∙ e
    below (suc k) h = bit_of_suc x k ∙ l.1 k (omega arith)

pub trailing_lowest : (n x : ℕ) → x < 2 ^ n → (x ≡ 0 → ⊥) → (count_trailing_zeros n x < n) × Lowest x (count_trailing_zeros n x)
trailing_lowest zero x l z = absurd (z (omega arith))
trailing_lowest (suc n) x l z = go (ℕ_discrete (x % 2) 1) (λ h. trailing_lowest n (x / 2) (omega arith) h)
  where
    go : Dec (x % 2 ≡ 1) → ((x / 2 ≡ 0 → ⊥) → (count_trailing_zeros n (x / 2) < n) × Lowest (x / 2) (count_trailing_zeros n (x / 2)))
        → (count_trailing_zeros (suc n) x < suc n) × Lowest x (count_trailing_zeros (suc n) x)
    go (yes e) ih = rw (trailing_odd n x e) (omega arith, (bit_of_zero x ∙ e, λ k h. absurd (omega arith)))
    go (no m) ih =
        let e : x % 2 ≡ 0 = omega arith in
        let r = ih (λ h. z (omega arith)) in
        rw (trailing_even n x e) (omega arith, next x (count_trailing_zeros n (x / 2)) e r.1)

-- ---- the bits from k on

-- x with its k lowest bits masked off
abbrev pub from : ℕ → ℕ → ℕ
from x k = x / 2 ^ k * 2 ^ k

from_half : (x k : ℕ) → from x (suc k) ≡ from (x / 2) k * 2
from_half x k =
    let p : 2 ^ suc k ≡ 2 ^ k * 2 = pow-suc 2 k in
    let q : x / 2 ^ suc k ≡ x / 2 / 2 ^ k = ap (λ (n : ℕ). x / n) (p ∙ mul_comm (2 ^ k) 2) ∙ sym (div-div-eq-div-mul x 2 (2 ^ k)) in
    rw (q, p) (sym (mul_assoc (x / 2 / 2 ^ k) (2 ^ k) 2))

pub from_below : (x k j : ℕ) → j < k → bit_of (from x k) j ≡ 0
from_below x zero j h = absurd (omega arith)
from_below x (suc k) zero h = bit_of_zero (from x (suc k)) ∙ omega (arith, from_half x k)
from_below x (suc k) (suc j) h =
    let e : from x (suc k) / 2 ≡ from (x / 2) k = omega (arith, from_half x k) in
    bit_of_suc (from x (suc k)) j ∙ ap (λ (n : ℕ). bit_of n j) e ∙ from_below (x / 2) k j (omega arith)

pub from_on : (x k j : ℕ) → k ≤ j → bit_of (from x k) j ≡ bit_of x j
from_on x zero j h = ap (λ (n : ℕ). bit_of n j) (omega arith)
from_on x (suc k) zero h = absurd (omega arith)
from_on x (suc k) (suc j) h =
    let e : from x (suc k) / 2 ≡ from (x / 2) k = omega (arith, from_half x k) in
    bit_of_suc (from x (suc k)) j ∙ ap (λ (n : ℕ). bit_of n j) e ∙ from_on (x / 2) k j (omega arith) ∙ sym (bit_of_suc x j)

pub from_le : (x k : ℕ) → from x k ≤ x
from_le x k = div-mul-le_self x (2 ^ k)
