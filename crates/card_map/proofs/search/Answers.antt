-- `card_map::search` meets its contract. The loop's invariant: no block from `from` on has been passed that is free. A step passes eight empty bytes
-- (`group_clear`) or one; in a byte that is not empty the count of trailing zeros is the first free block (`trailing_lowest`). Assumes nothing.
use Rattle.std.proofs.Common.{◌≡◌, ℕ, ◌+◌, ◌-◌, ◌*◌, ◌/◌, ◌%◌, ◌<◌, ◌≤◌, List, sym, ap, ◌∙◌, arith, eqb-true}
use native.Mathlib.Decide.{dec_lt}
use lib.Count.{count_trailing_zeros}
use Rattle.words.specs.Words.{byte}
use Rattle.card_map.specs.Bits.{map_bit}
use Rattle.card_map.proofs.Bits.{bit_of}
use Rattle.card_map.proofs.Map.{bit_at}
use Rattle.card_map.proofs.Groups.{group_clear, bits_of_zero}
use Rattle.card_map.proofs.Zeros.{Lowest, trailing_lowest, from, from_below, from_on, from_le}
use Rattle.card_map.proofs.Laws.{lowest_is, lowest-none}
use Rattle.card_map.proofs.search.Goals as goal

-- no block from i on below n is free
abbrev None : List ℕ → ℕ → ℕ → Type 0
None img i n = (b : ℕ) → i ≤ b → b < n → map_bit img b ≡ 1 → ⊥

join : (img : List ℕ) (i j n : ℕ) → None img i j → None img j n → None img i n
join img i j n p q b l h e = go (dec_lt b j)
  where
    go : Dec (b < j) → ⊥
    go (yes m) = p b l m e
    go (no m) = q b (omega arith) h e

-- map byte i with its k lowest bits masked off, as the code makes it
abbrev masked : List ℕ → ℕ → ℕ → ℕ
masked img i k = from (byte img (8192 + i)) k % 256

module _ (img : List ℕ) (i k : ℕ) (small : byte img (8192 + i) < 256) where
  is-from : masked img i k ≡ from (byte img (8192 + i)) k
  is-from = omega (arith, from_le (byte img (8192 + i)) k)

  -- a bit of the map from k on
  bit-from : (j : ℕ) → k ≤ j → j < 8 → map_bit img (8 * i + j) ≡ bit_of (masked img i k) j
  bit-from j l h = bit_at img i j h ∙ sym (from_on (byte img (8192 + i)) k j l) ∙ ap (λ (y : ℕ). bit_of y j) (sym is-from)

  empty : masked img i k ≡ 0 → None img (8 * i + k) (8 * (i + 1) + 0)
  empty z b l h e =
      let j = b - 8 * i in
      let p : 8 * i + j ≡ b = omega arith in
      omega (arith, e, ap (map_bit img) p, bit-from j (omega arith) (omega arith), bits_of_zero (masked img i k) j z)

  lowest-bit : (masked img i k ≡ 0 → ⊥) → (count_trailing_zeros 8 (masked img i k) < 8) × Lowest (masked img i k) (count_trailing_zeros 8 (masked img i k))
  lowest-bit z = trailing_lowest 8 (masked img i k) (omega arith) z

  not-below : (t : ℕ) → bit_of (masked img i k) t ≡ 1 → k ≤ t
  not-below t e = go (dec_lt t k)
    where
      go : Dec (t < k) → k ≤ t
      go (yes h) = absurd (omega (arith, e, ap (λ (y : ℕ). bit_of y t) is-from, from_below (byte img (8192 + i)) k t h))
      go (no h) = omega arith

  passed : (t : ℕ) → t < 8 → Lowest (masked img i k) t → None img (8 * i + k) (8 * i + t)
  passed t u low b l h e =
      let j = b - 8 * i in
      let p : 8 * i + j ≡ b = omega arith in
      omega (arith, e, ap (map_bit img) p, bit-from j (omega arith) (omega arith), low.1 j (omega arith))

pub search-preserved-then-get-eq0 : goal.search-preserved-then-get-eq0
search-preserved-then-get-eq0 c =
    let s = c.search in
    let a = c.args in
    let e = group_clear a.image.now s.i (sym c.get.ensures ∙ eqb-true c.get.result 0 c.if-get-eq0.true-raw) in (
      omega arith,
      omega arith,
      omega arith,
      join a.image.now (8 * (a.from.0 / 8) + a.from.0 % 8) (8 * s.i + s.k) (8 * (s.i + 8) + 0) s.invariant.3
          (λ b l h q. omega (arith, q, e b (omega arith) (omega arith))),
    )

pub search-preserved : goal.search-preserved
search-preserved c =
    let s = c.search in
    let a = c.args in
    let img = a.image.now in (
      omega arith,
      omega arith,
      omega arith,
      join img (8 * (a.from.0 / 8) + a.from.0 % 8) (8 * s.i + s.k) (8 * (s.i + 1) + 0) s.invariant.3
          (empty img s.i s.k (omega (arith, c.type_inv.image (8192 + s.i))) c.if-x-ne0.false),
    )

pub returns-then-i-bytes-2 : goal.returns-then-i-bytes-2
returns-then-i-bytes-2 c =
    let a = c.args in
    sym (lowest-none a.image.now a.from.0 (8 * a.bytes) (omega arith)
    (λ b p h e. c.search.invariant.3 b (omega arith) (omega arith) e))

pub returns-then-x-ne0 : goal.returns-then-x-ne0
returns-then-x-ne0 c =
    let s = c.search in
    let a = c.args in
    let img = a.image.now in
    let t = count_trailing_zeros 8 (masked img s.i s.k) in
    let small : byte img (8192 + s.i) < 256 = omega (arith, c.type_inv.image (8192 + s.i)) in
    let l = lowest-bit img s.i s.k small c.if-x-ne0.true in
    let k = not-below img s.i s.k small t l.1.0 in
    sym (lowest_is img a.from.0 (8 * a.bytes) (8 * s.i + t) (omega arith) (omega arith)
    (bit-from img s.i s.k small t k l.0 ∙ l.1.0)
    (λ b p h e. join img (8 * (a.from.0 / 8) + a.from.0 % 8) (8 * s.i + s.k) (8 * s.i + t) s.invariant.3
    (passed img s.i s.k small t l.0 l.1) b (omega arith) h e))
