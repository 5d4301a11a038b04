-- Bytes below 128: eight at a time by one mask, and what is passed of a list where they are. Assumes nothing.
use Prim.Native.Nat.{ℕ, zero, suc, ◌+◌, ◌-◌, ◌*◌, ◌^◌, ◌≤◌, ◌<◌}
use mathlib.Core.Path.{◌≡◌, refl, ap, ◌∙◌}
use mathlib.Core.List.{List}
use native.Mathlib.Omega.{arith}
use native.Mathlib.Decide.{dec_lt, ℕ_discrete}
use lib.Bits.{bit_and, and_block, and_zero_r}
use Rattle.words.specs.Words.{byte, num, Bytes}
use Rattle.utf8.specs.Inner.{Ascii}

-- the highest bit of each of n bytes
abbrev pub mask : ℕ → ℕ
mask zero = 0
mask (suc n) = mask n * 2 ^ 8 + 0x80

-- the highest bit of one byte
and_small : (b : ℕ) → b < 0x80 → bit_and b 0x80 ≡ 0
and_small b h =
    let e : bit_and (0 * 2 ^ 7 + b) 0x80 ≡ 0 * 2 ^ 7 + bit_and b 0 = and_block 7 0 1 b 0 h (omega arith) in
    let p : 0 * 2 ^ 7 + b ≡ b = omega arith in
    omega (arith, e, and_zero_r b, ap (λ (n : ℕ). bit_and n 0x80) p)

and_large : (b : ℕ) → 0x80 ≤ b → b < 0x100 → bit_and b 0x80 ≡ 0 → ⊥
and_large b l h e =
    let r = b - 0x80 in
    let p : 1 * 2 ^ 7 + r ≡ b = omega arith in
    let q : bit_and (1 * 2 ^ 7 + r) 0x80 ≡ 0x80 + bit_and r 0 = and_block 7 1 1 r 0 (omega arith) (omega arith) in
    omega (arith, e, q, ap (λ (n : ℕ). bit_and n 0x80) p)

-- the lowest byte apart from the others
and_num : (n : ℕ) (x : List ℕ) (at : ℕ) → Bytes x
    → bit_and (num (suc n) x at) (mask (suc n)) ≡ bit_and (num n x (at + 1)) (mask n) * 2 ^ 8 + bit_and (byte x at) 0x80
unfolding num
and_num n x at h =
    let e : byte x at + 256 * num n x (at + 1) ≡ num n x (at + 1) * 2 ^ 8 + byte x at = omega arith in
    ap (λ (v : ℕ). bit_and v (mask (suc n))) e ∙ and_block 8 (num n x (at + 1)) (mask n) (byte x at) 0x80 (h.below at) (omega arith)

pub mask_ascii : (n : ℕ) (x : List ℕ) (at : ℕ) → Bytes x → bit_and (num n x at) (mask n) ≡ 0 → Ascii x at (at + n)
mask_ascii zero x at h e = record { small = λ k l m. absurd (omega arith) }
mask_ascii (suc n) x at h e =
    record { small = λ k l m. go k l m (ℕ_discrete k at) (dec_lt (byte x at) 0x80) (mask_ascii n x (at + 1) h (omega (arith, and_num n x at h))) }
  where
    go : (k : ℕ) → at ≤ k → k < at + suc n → Dec (k ≡ at) → Dec (byte x at < 0x80) → Ascii x (at + 1) (at + 1 + n) → byte x k < 0x80
    go k l m (no d) b i = i.small k (omega arith) (omega arith)
    go k l m (yes d) (yes b) i = rw d b
    go k l m (yes d) (no b) i = absurd (and_large (byte x at) (omega arith) (h.below at) (omega (arith, e, and_num n x at h)))

pub ascii_mask : (n : ℕ) (x : List ℕ) (at : ℕ) → Bytes x → Ascii x at (at + n) → bit_and (num n x at) (mask n) ≡ 0
unfolding num
ascii_mask zero x at h a = refl
ascii_mask (suc n) x at h a =
    let i = ascii_mask n x (at + 1) h (record { small = λ k l m. a.small k (omega arith) (omega arith) }) in
    omega (arith, and_num n x at h, i, and_small (byte x at) (a.small at (omega arith) (omega arith)))

-- ---- places of a list

pub ascii_none : (x : List ℕ) (i : ℕ) → Ascii x i i
ascii_none x i = record { small = λ k l m. absurd (omega arith) }

pub ascii_join : {x : List ℕ} {i j h l : ℕ} → h ≤ j → Ascii x i j → Ascii x h l → Ascii x i l
ascii_join {x} {i} {j} {h} {l} p a b = record { small = λ k q r. go k q r (dec_lt k j) }
  where
    go : (k : ℕ) → i ≤ k → k < l → Dec (k < j) → byte x k < 0x80
    go k q r (yes m) = a.small k q m
    go k q r (no m) = b.small k (omega arith) r
