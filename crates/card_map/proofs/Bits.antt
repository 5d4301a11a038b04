-- Bits of a number: one taken off and one put on, what stays of the others, and what the code's shift is. Assumes nothing.
use Rattle.std.proofs.Common.{◌≡◌, ℕ, zero, suc, ◌+◌, ◌-◌, ◌*◌, ◌/◌, ◌%◌, ◌^◌, ◌<◌, ◌≤◌, ◌≢◌, sym, refl, ap, ◌∙◌, mod-eq_of_lt, mul_comm, one-mul, pow-suc, div-one, arith}
use native.Mathlib.Nat.{div-div-eq-div-mul}
use native.Mathlib.Decide.{ℕ_discrete}
use lib.Pow.{pow-lt}

-- bit k of x
abbrev pub bit_of : ℕ → ℕ → ℕ
bit_of x k = x / 2 ^ k % 2

pub bit_of_zero : (x : ℕ) → bit_of x 0 ≡ x % 2
bit_of_zero x = ap (λ (n : ℕ). n % 2) (div-one x)

pub bit_of_suc : (x k : ℕ) → bit_of x (suc k) ≡ bit_of (x / 2) k
bit_of_suc x k = ap (λ (n : ℕ). n % 2) (ap (λ (n : ℕ). x / n) (pow-suc 2 k ∙ mul_comm (2 ^ k) 2) ∙ sym (div-div-eq-div-mul x 2 (2 ^ k)))

-- a bit that is set has its power within the number
pub bit_within : (x k : ℕ) → bit_of x k ≡ 1 → 2 ^ k ≤ x
bit_within x zero h = let e = bit_of_zero x in omega arith
bit_within x (suc k) h =
    let p = bit_within (x / 2) k (sym (bit_of_suc x k) ∙ h) in omega arith

pub clear_same : (x k : ℕ) → bit_of x k ≡ 1 → bit_of (x - 2 ^ k) k ≡ 0
clear_same x zero h = let e = bit_of_zero x in bit_of_zero (x - 1) ∙ omega arith
clear_same x (suc k) h =
    let h' : bit_of (x / 2) k ≡ 1 = sym (bit_of_suc x k) ∙ h in
    let w = bit_within (x / 2) k h' in
    let e : (x - 2 ^ suc k) / 2 ≡ x / 2 - 2 ^ k = omega arith in
    bit_of_suc (x - 2 ^ suc k) k ∙ ap (λ (n : ℕ). bit_of n k) e ∙ clear_same (x / 2) k h'

pub clear_other : (x k j : ℕ) → bit_of x k ≡ 1 → j ≢ k → bit_of (x - 2 ^ k) j ≡ bit_of x j
clear_other x zero zero h n = absurd (n refl)
clear_other x zero (suc j) h n =
    let e₀ = bit_of_zero x in
    let e : (x - 1) / 2 ≡ x / 2 = omega arith in
    bit_of_suc (x - 1) j ∙ ap (λ (n : ℕ). bit_of n j) e ∙ sym (bit_of_suc x j)
clear_other x (suc k) zero h n =
    let w = bit_within x (suc k) h in
    bit_of_zero (x - 2 ^ suc k) ∙ omega arith ∙ sym (bit_of_zero x)
clear_other x (suc k) (suc j) h n =
    let h' : bit_of (x / 2) k ≡ 1 = sym (bit_of_suc x k) ∙ h in
    let w = bit_within (x / 2) k h' in
    let e : (x - 2 ^ suc k) / 2 ≡ x / 2 - 2 ^ k = omega arith in
    bit_of_suc (x - 2 ^ suc k) j ∙ ap (λ (n : ℕ). bit_of n j) e ∙ clear_other (x / 2) k j h' (λ q. n (ap suc q)) ∙ sym (bit_of_suc x j)

pub set_same : (x k : ℕ) → bit_of x k ≡ 0 → bit_of (x + 2 ^ k) k ≡ 1
set_same x zero h = let e = bit_of_zero x in bit_of_zero (x + 1) ∙ omega arith
set_same x (suc k) h =
    let e : (x + 2 ^ suc k) / 2 ≡ x / 2 + 2 ^ k = omega arith in
    bit_of_suc (x + 2 ^ suc k) k ∙ ap (λ (n : ℕ). bit_of n k) e ∙ set_same (x / 2) k (sym (bit_of_suc x k) ∙ h)

pub set_other : (x k j : ℕ) → bit_of x k ≡ 0 → j ≢ k → bit_of (x + 2 ^ k) j ≡ bit_of x j
set_other x zero zero h n = absurd (n refl)
set_other x zero (suc j) h n =
    let e₀ = bit_of_zero x in
    let e : (x + 1) / 2 ≡ x / 2 = omega arith in
    bit_of_suc (x + 1) j ∙ ap (λ (n : ℕ). bit_of n j) e ∙ sym (bit_of_suc x j)
set_other x (suc k) zero h n = bit_of_zero (x + 2 ^ suc k) ∙ omega arith ∙ sym (bit_of_zero x)
set_other x (suc k) (suc j) h n =
    let e : (x + 2 ^ suc k) / 2 ≡ x / 2 + 2 ^ k = omega arith in
    bit_of_suc (x + 2 ^ suc k) j ∙ ap (λ (n : ℕ). bit_of n j) e ∙ set_other (x / 2) k j (sym (bit_of_suc x k) ∙ h) (λ q. n (ap suc q)) ∙ sym (bit_of_suc x j)

-- a bit that is clear leaves room for its power below the next power: for x < 2 ^ n and k < n, x + 2 ^ k < 2 ^ n
pub set_room : (x k n : ℕ) → x < 2 ^ n → k < n → bit_of x k ≡ 0 → x + 2 ^ k < 2 ^ n
set_room x k zero hx hk h = omega arith
set_room x zero (suc n) hx hk h = let e = bit_of_zero x in omega arith
set_room x (suc k) (suc n) hx hk h =
    let p = set_room (x / 2) k n (omega arith) (omega arith) (sym (bit_of_suc x k) ∙ h) in omega arith

-- what the code's `1 << k` at a byte is
pub shl_one : (k : ℕ) → k < 8 → (1 * 2 ^ k) % 256 ≡ 2 ^ k
shl_one k h = ap (λ (n : ℕ). n % 256) (one-mul (2 ^ k)) ∙ mod-eq_of_lt (pow-lt {i = k} {j = 8} h)

-- ---- the same with no premise: what is taken off is the bit itself, and what is put on is what it lacks

pub bit_cases : (x k : ℕ) → Dec (bit_of x k ≡ 1)
bit_cases x k = ℕ_discrete (bit_of x k) 1

pub off_same : (x k : ℕ) → bit_of (x - bit_of x k * 2 ^ k) k ≡ 0
off_same x k = go (bit_cases x k)
  where
    go : Dec (bit_of x k ≡ 1) → bit_of (x - bit_of x k * 2 ^ k) k ≡ 0
    go (yes e) = ap (λ (b : ℕ). bit_of (x - b * 2 ^ k) k) e ∙ ap (λ (p : ℕ). bit_of (x - p) k) (one-mul (2 ^ k)) ∙ clear_same x k e
    go (no n) = let z : bit_of x k ≡ 0 = omega arith in ap (λ (b : ℕ). bit_of (x - b * 2 ^ k) k) z ∙ ap (λ (p : ℕ). bit_of p k) (omega arith) ∙ z

pub off_other : (x k j : ℕ) → j ≢ k → bit_of (x - bit_of x k * 2 ^ k) j ≡ bit_of x j
off_other x k j m = go (bit_cases x k)
  where
    go : Dec (bit_of x k ≡ 1) → bit_of (x - bit_of x k * 2 ^ k) j ≡ bit_of x j
    go (yes e) = ap (λ (b : ℕ). bit_of (x - b * 2 ^ k) j) e ∙ ap (λ (p : ℕ). bit_of (x - p) j) (one-mul (2 ^ k)) ∙ clear_other x k j e m
    go (no n) = let z : bit_of x k ≡ 0 = omega arith in ap (λ (b : ℕ). bit_of (x - b * 2 ^ k) j) z ∙ ap (λ (p : ℕ). bit_of p j) (omega arith)

pub on_same : (x k : ℕ) → bit_of (x + (1 - bit_of x k) * 2 ^ k) k ≡ 1
on_same x k = go (bit_cases x k)
  where
    go : Dec (bit_of x k ≡ 1) → bit_of (x + (1 - bit_of x k) * 2 ^ k) k ≡ 1
    go (yes e) = ap (λ (b : ℕ). bit_of (x + (1 - b) * 2 ^ k) k) e ∙ ap (λ (p : ℕ). bit_of p k) (omega arith) ∙ e
    go (no n) = let z : bit_of x k ≡ 0 = omega arith in ap (λ (b : ℕ). bit_of (x + (1 - b) * 2 ^ k) k) z ∙ ap (λ (p : ℕ). bit_of (x + p) k) (one-mul (2 ^ k)) ∙ set_same x k z

pub on_other : (x k j : ℕ) → j ≢ k → bit_of (x + (1 - bit_of x k) * 2 ^ k) j ≡ bit_of x j
on_other x k j m = go (bit_cases x k)
  where
    go : Dec (bit_of x k ≡ 1) → bit_of (x + (1 - bit_of x k) * 2 ^ k) j ≡ bit_of x j
    go (yes e) = ap (λ (b : ℕ). bit_of (x + (1 - b) * 2 ^ k) j) e ∙ ap (λ (p : ℕ). bit_of p j) (omega arith)
    go (no n) = let z : bit_of x k ≡ 0 = omega arith in ap (λ (b : ℕ). bit_of (x + (1 - b) * 2 ^ k) j) z ∙ ap (λ (p : ℕ). bit_of (x + p) j) (one-mul (2 ^ k)) ∙ set_other x k j z m

-- the bit is within the number, and the bit that it lacks has room
pub off_within : (x k : ℕ) → bit_of x k * 2 ^ k ≤ x
off_within x k = go (bit_cases x k)
  where
    go : Dec (bit_of x k ≡ 1) → bit_of x k * 2 ^ k ≤ x
    go (yes e) = let w = bit_within x k e in rw (e, one-mul) w
    go (no n) = let z : bit_of x k ≡ 0 = omega arith in rw z (omega arith)

pub on_room : (x k n : ℕ) → x < 2 ^ n → k < n → x + (1 - bit_of x k) * 2 ^ k < 2 ^ n
on_room x k n hx hk = go (bit_cases x k)
  where
    go : Dec (bit_of x k ≡ 1) → x + (1 - bit_of x k) * 2 ^ k < 2 ^ n
    go (yes e) = rw e (omega arith)
    go (no n') = let z : bit_of x k ≡ 0 = omega arith in rw (z, one-mul) (set_room x k n hx hk z)
