-- Cards whose free blocks are those from m on: which block is the next one, what a map byte is, and what is left when the lowest are taken. Assumes nothing.
use mathlib.Core.Path.{◌≡◌, sym, ap, ◌∙◌}
use mathlib.Core.Logic.{◌≢◌}
use mathlib.Core.List.{List}
use Prim.Native.Nat.{ℕ, ◌+◌, ◌-◌, ◌*◌, ◌≤◌, ◌<◌}
use native.Mathlib.Omega.{arith}
use native.Mathlib.Decide.{dec_lt}
use lib.Dec.{T, eqb, ltb, eqb→eq}
use Rattle.std.proofs.lemmas.Grind.{common_steps}
use Rattle.words.specs.Words.{pick, byte, Bytes}
use Rattle.words.proofs.Sums.{sum_to_none, sum_to_each, sum_to_more}
use Rattle.card_map.specs.Bits.{map_bit, free_bits}
use Rattle.card_map.specs.Free.{lowest}
use Rattle.card_map.proofs.Bits.{bit_of}
use Rattle.card_map.proofs.Map.{bit_at}
use Rattle.card_rules.proofs.Small.{each_below, each_below_lem}
use Rattle.file_grow.proofs.Taken.{nth_free, nth_of}
use Rattle.law_files.proofs.Return.{bits_same}

-- of the first nb blocks those below m are in use, those from m on are free
pub record FreeFrom (img : List ℕ) (m nb : ℕ) : Type 0 where
  pub used : (b : ℕ) → b < m → b < nb → map_bit img b ≡ 0
  pub free : (b : ℕ) → m ≤ b → b < nb → map_bit img b ≡ 1

module _ {img : List ℕ} {m nb : ℕ} (f : FreeFrom img m nb) where
  -- ---- the next blocks

  below : (j : ℕ) → m + j < nb → free_bits img (m + j) ≡ j
  below j h = grind (arith, common_steps, sum_to_more, sum_to_none, sum_to_each)

  pub nth_from : (j : ℕ) → m + j < nb → nth_free nb img j ≡ m + j
  nth_from j h = ap (nth_free nb img) (sym (below j h)) ∙ nth_of nb img (m + j) h (f.free (m + j) (omega arith) h)

  pub lowest_from : m < nb → lowest img 0 nb ≡ m
  unfolding nth_free
  lowest_from h = nth_from 0 (omega arith) ∙ omega arith

  -- ---- bytes of the map

  bit-from : (b : ℕ) → b < nb → map_bit img b ≡ pick (ltb b m) 0 1
  bit-from b h = grind (arith, common_steps)

  -- byte i of the map is v, whose bits are tested
  pub byte_from : Bytes img → (i v : ℕ) → 8 * i + 8 ≤ nb → v < 256 → T (each_below (λ k. eqb (pick (ltb (8 * i + k) m) 0 1) (bit_of v k)) 8)
      → byte img (8192 + i) ≡ v
  byte_from bytes i v h l t =
      bits_same 8 (byte img (8192 + i)) v (bytes.below (8192 + i)) l
      (λ k q.
      sym (bit_at img i k q)
      ∙ bit-from (8 * i + k) (omega arith)
      ∙ eqb→eq (pick (ltb (8 * i + k) m) 0 1) (bit_of v k) (each_below_lem (λ j. eqb (pick (ltb (8 * i + j) m) 0 1) (bit_of v j)) 8 t k q))

  -- ---- the lowest k are taken

  pub from_taken : {out : List ℕ} (k : ℕ) → ((j : ℕ) → j < k → map_bit out (nth_free nb img j) ≡ 0) → m + k ≤ nb
      → ((x : ℕ) → x < nb → ((j : ℕ) → j < k → x ≢ nth_free nb img j) → map_bit out x ≡ map_bit img x) → FreeFrom out (m + k) nb
  from_taken {out} k gone room others =
      record {
        used = λ b l h. low b h (dec_lt b m) l;
        free = λ b l h. others b h (λ j q e. omega (arith, nth_from j (omega arith))) ∙ f.free b (omega arith) h;
      }
    where
      low : (b : ℕ) → b < nb → Dec (b < m) → b < m + k → map_bit out b ≡ 0
      low b h (yes q) l = others b h (λ j p e. omega (arith, nth_from j (omega arith))) ∙ f.used b q h
      low b h (no q) l =
          let e : m + (b - m) ≡ b = omega arith in
          ap (map_bit out) (sym e ∙ sym (nth_from (b - m) (omega arith))) ∙ gone (b - m) (omega arith)
