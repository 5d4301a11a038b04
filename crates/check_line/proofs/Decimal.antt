-- The decimal text of a number: how it is made digit by digit, how long it is, and that the number can be read back from it. Assumes nothing.
use mathlib.Core.Path.{◌≡◌, refl, sym, ap, ◌∙◌}
use mathlib.Core.List.{List, [], ◌∷◌, ◌++◌}
use Prim.Native.Nat.{ℕ, zero, suc, ◌+◌, ◌-◌, ◌*◌, ◌/◌, ◌%◌, ◌^◌, ◌≤◌, ◌<◌}
use native.Mathlib.Omega.{arith}
use native.Mathlib.Nat.{pow-suc, div-lt_iff_lt-mul}
use native.Mathlib.Decide.{dec_lt}
use borrow.Author.Tests.{lt-ltb, le-ltb}
use lib.ListN.{length, length-append, get_or-append}
use lib.Seq.{get_or_at}
use Rattle.words.specs.Words.{byte}
use Rattle.check_line.specs.Line.{digit, digits, decimal, value_from, value_of}

-- ---- digit by digit

digits_small : (k n : ℕ) → n < 10 → digits (suc k) n ≡ digit n ∷ []
unfolding digits
digits_small k n l = rw (lt-ltb n 10 l)

digits_large : (k n : ℕ) → 10 ≤ n → digits (suc k) n ≡ digits k (n / 10) ++ digit (n % 10) ∷ []
unfolding digits
digits_large k n l = rw (le-ltb n 10 l)

-- more digits than are enough change nothing
digits_enough : (k l n : ℕ) → n < k → n < l → digits k n ≡ digits l n
digits_enough zero l n h g = absurd (omega arith)
digits_enough (suc k) zero n h g = absurd (omega arith)
digits_enough (suc k) (suc l) n h g = go (dec_lt n 10) (digits_enough k l (n / 10))
  where
    go : Dec (n < 10) → (n / 10 < k → n / 10 < l → digits k (n / 10) ≡ digits l (n / 10)) → digits (suc k) n ≡ digits (suc l) n
    go (yes s) ih = digits_small k n s ∙ sym (digits_small l n s)
    go (no s) ih = rw (digits_large k n (omega arith), digits_large l n (omega arith), ih (omega arith) (omega arith))

pub decimal_small : (n : ℕ) → n < 10 → decimal n ≡ digit n ∷ []
unfolding decimal
decimal_small n l = digits_small n n l

pub decimal_large : (n : ℕ) → 10 ≤ n → decimal n ≡ decimal (n / 10) ++ digit (n % 10) ∷ []
unfolding decimal
decimal_large n l =
    digits_large n n l
    ∙ ap (λ (x : List ℕ). x ++ digit (n % 10) ∷ []) (digits_enough n (suc (n / 10)) (n / 10) (omega arith) (omega arith))

-- what holds below 10, and of n where it holds of n / 10, holds of every number
by_tenths : (P : ℕ → Type 0) → ((n : ℕ) → n < 10 → P n) → ((n : ℕ) → 10 ≤ n → P (n / 10) → P n) → (n : ℕ) → P n
by_tenths P small large n = go (suc n) n (omega arith)
  where
    go : (k m : ℕ) → m < k → P m
    go zero m l = absurd (omega arith)
    go (suc k) m l =
        elim (dec_lt m 10) [
          | yes s ↦ small m s
          | no s ↦ large m (omega arith) (go k (m / 10) (omega arith))
        ]

-- ---- its length

pub length_small : (n : ℕ) → n < 10 → length (decimal n) ≡ 1
length_small n l = ap length (decimal_small n l)

pub length_large : (n : ℕ) → 10 ≤ n → length (decimal n) ≡ length (decimal (n / 10)) + 1
length_large n l = ap length (decimal_large n l) ∙ length-append (decimal (n / 10)) (digit (n % 10) ∷ [])

pub length_some : (n : ℕ) → 1 ≤ length (decimal n)
length_some n =
    elim (dec_lt n 10) [
      | yes s ↦ omega (arith, length_small n s)
      | no s ↦ omega (arith, length_large n (omega arith))
    ]

length_below : (k n : ℕ) → n < 10 ^ suc k → length (decimal n) ≤ suc k
length_below zero n l = omega (arith, length_small n (omega arith))
length_below (suc k) n l =
    elim (dec_lt n 10) [
      | yes s ↦ omega (arith, length_small n s)
      | no s ↦ omega (
        arith,
        length_large n (omega arith),
        length_below k (n / 10) ((div-lt_iff_lt-mul (omega arith)).1 (omega (arith, pow-suc 10 (suc k)))),
      )
    ]

-- a number of 32 bits has at most ten digits
pub length_32 : (n : ℕ) → n < 4294967296 → length (decimal n) ≤ 10
length_32 n l = length_below 9 n (omega arith)

-- ---- the number is read back

value_last : (v : ℕ) (ds : List ℕ) (d : ℕ) → value_from v (ds ++ d ∷ []) ≡ 10 * value_from v ds + (d - 48)
unfolding value_from
value_last v [] d = refl
value_last v (x ∷ ds) d = value_last (10 * v + (x - 48)) ds d

value_one : (d : ℕ) → value_of (d ∷ []) ≡ d - 48
unfolding value_from
value_one d = omega arith

pub decimal_value : (n : ℕ) → value_of (decimal n) ≡ n
decimal_value =
    by_tenths (λ n. value_of (decimal n) ≡ n)
    (λ n l. ap value_of (decimal_small n l) ∙ value_one (digit n) ∙ omega arith)
    (λ n l ih. ap value_of (decimal_large n l) ∙ value_last 0 (decimal (n / 10)) (digit (n % 10)) ∙ omega arith)

pub decimal_differs : (m n : ℕ) → decimal m ≡ decimal n → m ≡ n
decimal_differs m n e = sym (decimal_value m) ∙ ap value_of e ∙ decimal_value n

-- ---- it is digits, with no zero in front of others

pub decimal-digits : (n k : ℕ) → k < length (decimal n) → (digit 0 ≤ byte (decimal n) k) × (byte (decimal n) k ≤ digit 9)
decimal-digits =
    by_tenths (λ n. (k : ℕ) → k < length (decimal n) → (digit 0 ≤ byte (decimal n) k) × (byte (decimal n) k ≤ digit 9))
    (λ n l k h. first n l k (omega (arith, length_small n l)))
    (λ n l ih k h. last n l ih k (omega (arith, length_large n l)))
  where
    first : (n : ℕ) → n < 10 → (k : ℕ) → k < 1 → (digit 0 ≤ byte (decimal n) k) × (byte (decimal n) k ≤ digit 9)
    first n l k h =
        let z : k ≡ 0 = omega arith in
        let e : byte (decimal n) 0 ≡ digit n = ap (λ (x : List ℕ). byte x 0) (decimal_small n l) in
        rw z (omega arith, omega arith)

    last : (n : ℕ) → 10 ≤ n → ((k : ℕ) → k < length (decimal (n / 10)) → (digit 0 ≤ byte (decimal (n / 10)) k) × (byte (decimal (n / 10)) k ≤ digit 9))
        → (k : ℕ) → k < length (decimal (n / 10)) + 1 → (digit 0 ≤ byte (decimal n) k) × (byte (decimal n) k ≤ digit 9)
    last n l ih k h =
        let e : byte (decimal n) k ≡ byte (decimal (n / 10) ++ digit (n % 10) ∷ []) k = ap (λ (x : List ℕ). byte x k) (decimal_large n l) in
        elim (dec_lt k (length (decimal (n / 10)))) [
          | yes q ↦
              let f = get_or-append (decimal (n / 10)) (digit (n % 10) ∷ []) 0 k q in
              (omega (arith, (ih k q).0), omega (arith, (ih k q).1))
          | no q ↦
              let f = get_or_at (decimal (n / 10)) (digit (n % 10)) [] 0 k (omega arith) in
              (omega arith, omega arith)
        ]

pub decimal_lead : (n : ℕ) → 1 ≤ n → digit 1 ≤ byte (decimal n) 0
decimal_lead =
    by_tenths (λ n. 1 ≤ n → digit 1 ≤ byte (decimal n) 0)
    (λ n l h. omega (arith, ap (λ (x : List ℕ). byte x 0) (decimal_small n l)))
    (λ n l ih h.
    omega (
      arith,
      ap (λ (x : List ℕ). byte x 0) (decimal_large n l),
      get_or-append (decimal (n / 10)) (digit (n % 10) ∷ []) 0 0 (length_some (n / 10)),
      ih (omega arith),
    ))
