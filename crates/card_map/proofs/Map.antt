-- The laws of a bit of the map and of the card with one bit changed: lengths, bytes, bits, and how many are free. Nothing above unfolds
-- `map_bit`, `clear_bit` or `set_bit`. Assumes nothing.
use Rattle.std.proofs.Common.{◌≡◌, ℕ, ◌+◌, ◌-◌, ◌*◌, ◌/◌, ◌%◌, ◌^◌, ◌<◌, ◌≤◌, ◌≢◌, List, length, ap, arith, length-set, get_or-set_other, get_or-set_same}
use native.Mathlib.Decide.{ℕ_discrete}
use Rattle.words.specs.Words.{byte, Bytes}
use Rattle.words.proofs.Numbers.{bytes_set}
use Rattle.words.proofs.Sums.{sum_to_point, sum_to_cong}
use Rattle.card_map.specs.Bits.{map_byte, map_bit, clear_bit, set_bit, free_bits}
use Rattle.card_map.proofs.Bits as B

pub length-clear_bit : (img : List ℕ) (b : ℕ) → length (clear_bit img b) ≡ length img
unfolding clear_bit
length-clear_bit img b = simp length-set

pub length-set_bit : (img : List ℕ) (b : ℕ) → length (set_bit img b) ≡ length img
unfolding set_bit
length-set_bit img b = simp length-set

pub byte-clear_bit_off : (img : List ℕ) (b k : ℕ) → k ≢ map_byte b → byte (clear_bit img b) k ≡ byte img k
unfolding clear_bit
byte-clear_bit_off img b k h = simp get_or-set_other

pub byte-set_bit_off : (img : List ℕ) (b k : ℕ) → k ≢ map_byte b → byte (set_bit img b) k ≡ byte img k
unfolding set_bit
byte-set_bit_off img b k h = simp get_or-set_other

-- a map byte decides its bits
pub bit_is : (img out : List ℕ) (b : ℕ) → byte out (map_byte b) ≡ byte img (map_byte b) → map_bit out b ≡ map_bit img b
unfolding map_bit
bit_is img out b e = ap (λ (x : ℕ). x / 2 ^ (b % 8) % 2) e

pub bit_below : (img : List ℕ) (b : ℕ) → map_bit img b < 2
unfolding map_bit
bit_below img b = omega arith

-- a bit that is 1 has its power within its byte
pub bit_power : (img : List ℕ) (b : ℕ) → map_bit img b ≡ 1 → 2 ^ (b % 8) ≤ byte img (map_byte b)
unfolding map_bit
bit_power img b e = B.bit_within (byte img (map_byte b)) (b % 8) e

-- the bit of a block by its byte and its place there
pub bit_at : (img : List ℕ) (i k : ℕ) → k < 8 → map_bit img (8 * i + k) ≡ byte img (8192 + i) / 2 ^ k % 2
unfolding map_bit
bit_at img i k h =
    let q : (8 * i + k) / 8 ≡ i = omega arith in
    let r : (8 * i + k) % 8 ≡ k = omega arith in
    rw (q, r)

module _ (img : List ℕ) (b : ℕ) (inside : map_byte b < length img) where
  -- the byte that holds the bit
  pub byte-clear_bit_same : byte (clear_bit img b) (map_byte b) ≡ byte img (map_byte b) - map_bit img b * 2 ^ (b % 8)
  unfolding clear_bit
  byte-clear_bit_same = rw get_or-set_same

  pub byte-set_bit_same : byte (set_bit img b) (map_byte b) ≡ byte img (map_byte b) + (1 - map_bit img b) * 2 ^ (b % 8)
  unfolding set_bit
  byte-set_bit_same = rw get_or-set_same

  pub bit_clear_same : map_bit (clear_bit img b) b ≡ 0
  unfolding map_bit clear_bit
  bit_clear_same = rw get_or-set_same (B.off_same (byte img (map_byte b)) (b % 8))

  pub bit_set_same : map_bit (set_bit img b) b ≡ 1
  unfolding map_bit set_bit
  bit_set_same = rw get_or-set_same (B.on_same (byte img (map_byte b)) (b % 8))

  pub bit_clear_other : (c : ℕ) → c ≢ b → map_bit (clear_bit img b) c ≡ map_bit img c
  unfolding map_bit clear_bit
  bit_clear_other c n = go (ℕ_discrete (c / 8) (b / 8))
    where
      go : Dec (c / 8 ≡ b / 8) → map_bit (clear_bit img b) c ≡ map_bit img c
      go (yes e) = rw (e, get_or-set_same) (B.off_other (byte img (map_byte b)) (b % 8) (c % 8) (omega arith))
      go (no m) = bit_is img (clear_bit img b) c (byte-clear_bit_off img b (map_byte c) (omega arith))

  pub bit_set_other : (c : ℕ) → c ≢ b → map_bit (set_bit img b) c ≡ map_bit img c
  unfolding map_bit set_bit
  bit_set_other c n = go (ℕ_discrete (c / 8) (b / 8))
    where
      go : Dec (c / 8 ≡ b / 8) → map_bit (set_bit img b) c ≡ map_bit img c
      go (yes e) = rw (e, get_or-set_same) (B.on_other (byte img (map_byte b)) (b % 8) (c % 8) (omega arith))
      go (no m) = bit_is img (set_bit img b) c (byte-set_bit_off img b (map_byte c) (omega arith))

  -- ---- how many of the first n are free

  pub free_clear : (n : ℕ) → b < n → free_bits (clear_bit img b) n + map_bit img b ≡ free_bits img n
  free_clear n l =
      omega (arith, bit_clear_same, sum_to_point (map_bit img) (map_bit (clear_bit img b)) n b l (λ i _ d. bit_clear_other i d))

  pub free_set : (n : ℕ) → b < n → free_bits (set_bit img b) n ≡ free_bits img n + (1 - map_bit img b)
  free_set n l =
      omega (arith, bit_set_same, bit_below img b, sum_to_point (map_bit img) (map_bit (set_bit img b)) n b l (λ i _ d. bit_set_other i d))

  pub free_clear_past : (n : ℕ) → n ≤ b → free_bits (clear_bit img b) n ≡ free_bits img n
  free_clear_past n l = sum_to_cong (map_bit (clear_bit img b)) (map_bit img) n (λ i h. bit_clear_other i (omega arith))

  pub free_set_past : (n : ℕ) → n ≤ b → free_bits (set_bit img b) n ≡ free_bits img n
  free_set_past n l = sum_to_cong (map_bit (set_bit img b)) (map_bit img) n (λ i h. bit_set_other i (omega arith))

-- the count goes by the bits alone
pub free_is : (img out : List ℕ) (n : ℕ) → ((b : ℕ) → b < n → map_bit out b ≡ map_bit img b) → free_bits out n ≡ free_bits img n
free_is img out n h = sum_to_cong (map_bit out) (map_bit img) n h

pub bytes_clear_bit : (img : List ℕ) (b : ℕ) → Bytes img → Bytes (clear_bit img b)
unfolding clear_bit
bytes_clear_bit img b h = bytes_set _ _ (omega (arith, h.below (map_byte b))) h

pub bytes_set_bit : (img : List ℕ) (b : ℕ) → Bytes img → Bytes (set_bit img b)
unfolding set_bit map_bit
bytes_set_bit img b h = bytes_set _ _ (B.on_room (byte img (map_byte b)) (b % 8) 8 (h.below (map_byte b)) (omega arith)) h
