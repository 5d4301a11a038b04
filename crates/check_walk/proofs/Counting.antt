-- Bits of the map by the counts of the processor: the ones of a number of n digits are the sum of its bits, and those of a group of map bytes the
-- sum of the map's bits there. Assumes nothing.
use mathlib.Core.Path.{◌≡◌, sym, ap, ◌∙◌}
use mathlib.Core.List.{List}
use Prim.Native.Nat.{ℕ, zero, suc, ◌+◌, ◌*◌, ◌/◌, ◌^◌, ◌≤◌, ◌<◌}
use native.Mathlib.Omega.{arith}
use lib.Count.{ones, ones_step, ones_cat, ones-le}
use Rattle.words.specs.Words.{byte, num, Bytes}
use Rattle.words.specs.Sums.{sum_to}
use Rattle.words.proofs.Sums.{sum_to_zero, sum_to_suc, sum_to_cong, sum_to_more, sum_to_ones}
use Rattle.card_map.specs.Bits.{map_bit, free_bits}
use Rattle.card_map.proofs.Bits.{bit_of, bit_of_zero, bit_of_suc}
use Rattle.card_map.proofs.Map.{bit_at, bit_below}

-- a number whose n digits are all set
pub bits_of_ones : (n x k : ℕ) → x + 1 ≡ 2 ^ n → k < n → bit_of x k ≡ 1
bits_of_ones zero x k e l = absurd (omega arith)
bits_of_ones (suc n) x zero e l = bit_of_zero x ∙ omega arith
bits_of_ones (suc n) x (suc k) e l = bit_of_suc x k ∙ bits_of_ones n (x / 2) k (omega arith) (omega arith)

ones_bits : (n x : ℕ) → x < 2 ^ n → ones x ≡ sum_to (bit_of x) n
ones_bits zero x l = omega (arith, ones-le 0 x l, sum_to_zero (bit_of x))
ones_bits (suc n) x l =
    let up : (i : ℕ) → i < n → bit_of (x / 2) i ≡ bit_of x (1 + i) = λ i h.
    let e : suc i ≡ 1 + i = omega arith in sym (bit_of_suc x i) ∙ ap (bit_of x) e in
    let e : 1 + n ≡ suc n = omega arith in
    omega (
      arith,
      ones_step x,
      ones_bits n (x / 2) (omega arith),
      sum_to_cong (bit_of (x / 2)) (λ i. bit_of x (1 + i)) n up,
      sum_to_more (bit_of x) 1 n,
      sum_to_suc (bit_of x) 0,
      sum_to_zero (bit_of x),
      bit_of_zero x,
      ap (sum_to (bit_of x)) e,
    )

-- the n bytes from map byte i on
ones_num : (n : ℕ) (img : List ℕ) (i : ℕ) → Bytes img → ones (num n img (8192 + i)) ≡ sum_to (λ k. map_bit img (8 * i + k)) (8 * n)
unfolding num
ones_num zero img i small = omega (arith, ones-le 0 0 (omega arith), sum_to_zero (λ k. map_bit img (8 * i + k)))
ones_num (suc n) img i small =
    let x = byte img (8192 + i) in
    let m = num n img (8192 + i + 1) in
    let whole : x + 256 * m ≡ m * 2 ^ 8 + x = omega arith in
    let at : 8192 + i + 1 ≡ 8192 + (i + 1) = omega arith in
    let more : 8 * suc n ≡ 8 + 8 * n = omega arith in
    let f : ℕ → ℕ = λ k. map_bit img (8 * i + k) in
    let up : (k : ℕ) → k < 8 * n → f (8 + k) ≡ map_bit img (8 * (i + 1) + k) = λ k l.
    let e : 8 * i + (8 + k) ≡ 8 * (i + 1) + k = omega arith in ap (map_bit img) e in
    ap ones whole
    ∙ ones_cat 8 m x (small.below (8192 + i))
    ∙ omega (
      arith,
      ones_bits 8 x (small.below (8192 + i)),
      sum_to_cong f (bit_of x) 8 (λ k l. bit_at img i k l),
      ap (λ (a : ℕ). ones (num n img a)) at,
      ones_num n img (i + 1) small,
      sum_to_cong (λ k. f (8 + k)) (λ k. map_bit img (8 * (i + 1) + k)) (8 * n) up,
      sum_to_more f 8 (8 * n),
      ap (sum_to f) more,
    )

-- one more group
pub group_free : (img : List ℕ) (j : ℕ) → Bytes img → free_bits img (64 * (j + 1)) ≡ free_bits img (64 * j) + ones (num 8 img (8192 + 8 * j))
group_free img j small =
    let e : 64 * (j + 1) ≡ 64 * j + 64 = omega arith in
    let up : (k : ℕ) → k < 64 → map_bit img (64 * j + k) ≡ map_bit img (8 * (8 * j) + k) = λ k l.
    let q : 64 * j + k ≡ 8 * (8 * j) + k = omega arith in ap (map_bit img) q in
    omega (
      arith,
      ap (sum_to (map_bit img)) e,
      sum_to_more (map_bit img) (64 * j) 64,
      sum_to_cong (λ k. map_bit img (64 * j + k)) (λ k. map_bit img (8 * (8 * j) + k)) 64 up,
      ones_num 8 img (8 * j) small,
    )

pub free_most : (img : List ℕ) (n : ℕ) → free_bits img n ≤ n
free_most img n = sum_to_ones (map_bit img) n (λ b. omega (arith, bit_below img b))
