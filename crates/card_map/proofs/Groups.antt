-- Map bytes that are empty, one and eight at a time: a byte is 0 exactly if its bits are clear, and the number of eight bytes exactly if theirs are.
-- Assumes nothing.
use Rattle.std.proofs.Common.{◌≡◌, ℕ, zero, suc, ◌+◌, ◌-◌, ◌*◌, ◌/◌, ◌%◌, ◌^◌, ◌<◌, ◌≤◌, List, sym, refl, ap, ◌∙◌, arith}
use Rattle.words.specs.Words.{byte, num, Bytes}
use Rattle.card_map.specs.Bits.{map_bit}
use Rattle.card_map.proofs.Bits.{bit_of, bit_of_zero, bit_of_suc}
use Rattle.card_map.proofs.Map.{bit_at}

-- ---- a number and its bytes

num_clear : (n : ℕ) (xs : List ℕ) (at : ℕ) → num n xs at ≡ 0 → (k : ℕ) → k < n → byte xs (at + k) ≡ 0
unfolding num
num_clear zero xs at e k l = absurd (omega arith)
num_clear (suc n) xs at e zero l = ap (byte xs) (let z : at + 0 ≡ at = omega arith in z) ∙ omega arith
num_clear (suc n) xs at e (suc k) l =
    ap (byte xs) (let z : at + suc k ≡ at + 1 + k = omega arith in z) ∙ num_clear n xs (at + 1) (omega arith) k (omega arith)

clear_num : (n : ℕ) (xs : List ℕ) (at : ℕ) → ((k : ℕ) → k < n → byte xs (at + k) ≡ 0) → num n xs at ≡ 0
unfolding num
clear_num zero xs at h = refl
clear_num (suc n) xs at h =
    let first : byte xs at ≡ 0 = ap (byte xs) (let z : at ≡ at + 0 = omega arith in z) ∙ h 0 (omega arith) in
    omega (arith, clear_num n xs (at + 1) (λ k l. ap (byte xs) (let z : at + 1 + k ≡ at + suc k = omega arith in z) ∙ h (suc k) (omega arith)))

-- ---- a byte and its bits

pub bits_of_zero : (x k : ℕ) → x ≡ 0 → bit_of x k ≡ 0
bits_of_zero x zero e = bit_of_zero x ∙ omega arith
bits_of_zero x (suc k) e = bit_of_suc x k ∙ bits_of_zero (x / 2) k (omega arith)

no_bits : (n x : ℕ) → x < 2 ^ n → ((k : ℕ) → k < n → bit_of x k ≡ 0) → x ≡ 0
no_bits zero x l h = omega arith
no_bits (suc n) x l h =
    let low = h 0 (omega arith) in
    let high = no_bits n (x / 2) (omega arith) (λ k b. sym (bit_of_suc x k) ∙ h (suc k) (omega arith)) in
    omega (arith, bit_of_zero x)

-- ---- the eight bytes from map byte i on

module _ (img : List ℕ) (i : ℕ) where
  pub group_clear : num 8 img (8192 + i) ≡ 0 → (b : ℕ) → 8 * i ≤ b → b < 8 * i + 64 → map_bit img b ≡ 0
  group_clear e b l m =
      let p : 8 * (b / 8) + b % 8 ≡ b = omega arith in
      let q : 8192 + i + (b / 8 - i) ≡ 8192 + b / 8 = omega arith in
      ap (map_bit img) (sym p)
      ∙ bit_at img (b / 8) (b % 8) (omega arith)
      ∙ bits_of_zero (byte img (8192 + b / 8)) (b % 8) (ap (byte img) (sym q) ∙ num_clear 8 img (8192 + i) e (b / 8 - i) (omega arith))

  pub clear_group : Bytes img → ((b : ℕ) → 8 * i ≤ b → b < 8 * i + 64 → map_bit img b ≡ 0) → num 8 img (8192 + i) ≡ 0
  clear_group small h =
      clear_num 8 img (8192 + i)
      (λ k l.
      let q : 8192 + i + k ≡ 8192 + (i + k) = omega arith in
      ap (byte img) q
      ∙ no_bits 8 (byte img (8192 + (i + k))) (small.below (8192 + (i + k)))
      (λ j m. sym (bit_at img (i + k) j m) ∙ h (8 * (i + k) + j) (omega arith) (omega arith)))
