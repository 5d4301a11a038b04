-- Which blocks are taken one after the other from a card: the lowest free ones, in rising order. Assumes nothing.
use mathlib.Core.Path.{◌≡◌, refl, sym, ap, ◌∙◌}
use mathlib.Core.Logic.{◌≢◌}
use mathlib.Core.List.{List}
use Prim.Native.Nat.{ℕ, zero, suc, ◌+◌, ◌-◌, ◌^◌, ◌≤◌, ◌<◌, zero-le}
use native.Mathlib.Numerals.{add-one}
use native.Mathlib.Omega.{arith}
use native.Mathlib.Decide.{dec_lt, ℕ_discrete}
use lib.ListN.{length}
use Rattle.words.specs.Words.{byte}
use Rattle.words.specs.Inner.{Apart}
use Rattle.words.specs.Runs.{turns}
use Rattle.words.specs.Sums.{sum_to}
use Rattle.words.proofs.Sums.{sum_to_suc, sum_to_zero, sum_to_mono, sum_to_next, sum_to_ones, sum_to_none, sum_to_more}
use Rattle.card_layout.specs.Sizes.{most}
use Rattle.card_layout.specs.Super.{unused}
use Rattle.card_map.specs.Bits.{map_byte, map_bit, free_bits}
use Rattle.card_map.specs.Free.{lowest, taken_at, taken}
use Rattle.card_map.proofs.Map.{bit_below}
use Rattle.file_blocks.specs.Taking.{Cursor, next_of, took_next}
use Rattle.file_blocks.specs.Inner.{Sizes}
use Rattle.file_blocks.proofs.Growth.{next_free_some}
use Rattle.card_map.proofs.Laws as F

-- ---- the j-th lowest free block

unfoldable pub nth_free : ℕ → List ℕ → ℕ → ℕ
nth_free nb img zero = lowest img 0 nb
nth_free nb img (suc j) = lowest img (nth_free nb img j + 1) nb

-- where the search for it begins: after the one before it
unfoldable pub past_free : ℕ → List ℕ → ℕ → ℕ
past_free nb img zero = 0
past_free nb img (suc j) = nth_free nb img j + 1

pub nth_search : (nb : ℕ) (img : List ℕ) (j : ℕ) → nth_free nb img j ≡ lowest img (past_free nb img j) nb
unfolding nth_free past_free
nth_search nb img zero = refl
nth_search nb img (suc j) = refl

-- while it is a block it is free, and the next one is higher
pub nth_free_lem : (nb : ℕ) (img : List ℕ) (j : ℕ) → nth_free nb img j < nb → map_bit img (nth_free nb img j) ≡ 1
unfolding nth_free
nth_free_lem nb img zero h = F.lowest_free img 0 nb h
nth_free_lem nb img (suc j) h = F.lowest_free img (nth_free nb img j + 1) nb h

pub nth_rises : (nb : ℕ) (img : List ℕ) (j : ℕ) → nth_free nb img j < nb → nth_free nb img j < nth_free nb img (suc j)
unfolding nth_free
nth_rises nb img j h = omega (arith, (F.lowest_range img (nth_free nb img j + 1) nb (omega arith)).0)

-- ---- how many free blocks are below it

no_one : (x : ℕ) → x < 2 → (x ≡ 1 → ⊥) → x ≡ 0
no_one x l h = omega arith

none_between : (img : List ℕ) (i b : ℕ) → i ≤ b → ((k : ℕ) → i ≤ k → k < b → map_bit img k ≡ 1 → ⊥) → free_bits img b ≡ free_bits img i
none_between img i b l h =
    let e : i + (b - i) ≡ b = omega arith in
    let z = sum_to_none (λ k. map_bit img (i + k)) (b - i) (λ k m. no_one (map_bit img (i + k)) (bit_below img (i + k)) (h (i + k) (omega arith) (omega arith))) in
    omega (arith, ap (sum_to (map_bit img)) e, sum_to_more (map_bit img) i (b - i), z)

pub count_lowest : (img : List ℕ) (i n : ℕ) → i ≤ n → free_bits img (lowest img i n) ≡ free_bits img i
count_lowest img i n l =
    let r = F.lowest_range img i n l in
    none_between img i (lowest img i n) r.0 (λ k p q e. omega (arith, F.lowest_least img i n k p (omega arith) e))

pub count_past : (img : List ℕ) (b : ℕ) → map_bit img b ≡ 1 → free_bits img (b + 1) ≡ free_bits img b + 1
count_past img b e = omega (arith, ap (sum_to (map_bit img)) (add-one b), sum_to_suc (map_bit img) b)

-- a search that starts with j free blocks below it, and there are more
found : (nb : ℕ) (img : List ℕ) (i j : ℕ) → i ≤ nb → free_bits img i ≡ j → j < free_bits img nb
    → (lowest img i nb < nb) × (free_bits img (lowest img i nb) ≡ j)
found nb img i j l e h = (go (ℕ_discrete (lowest img i nb) nb), count_lowest img i nb l ∙ e)
  where
    go : Dec (lowest img i nb ≡ nb) → lowest img i nb < nb
    go (yes q) = omega (arith, ap (sum_to (map_bit img)) q, count_lowest img i nb l)
    go (no q) = omega (arith, (F.lowest_range img i nb l).1)

-- the j-th free block, of more than j: it is below nb, and j free blocks are below it
pub nth_below : (nb : ℕ) (img : List ℕ) (j : ℕ) → j < free_bits img nb → (nth_free nb img j < nb) × (free_bits img (nth_free nb img j) ≡ j)
unfolding nth_free
nth_below nb img zero h = found nb img 0 0 zero-le (sum_to_zero (map_bit img)) h
nth_below nb img (suc j) h =
    let p = nth_below nb img j (omega arith) in
    let c = count_past img (nth_free nb img j) (nth_free_lem nb img j p.0) in
    found nb img (nth_free nb img j + 1) (suc j) (omega arith) (omega arith) h

pub nth_count : (nb : ℕ) (img : List ℕ) (j : ℕ) → j < free_bits img nb → free_bits img (nth_free nb img j + 1) ≡ j + 1
nth_count nb img j h =
    let p = nth_below nb img j h in
    count_past img (nth_free nb img j) (nth_free_lem nb img j p.0) ∙ ap (λ (x : ℕ). x + 1) p.1

pub nth_rising : (nb : ℕ) (img : List ℕ) (i j : ℕ) → i < j → j < free_bits img nb → nth_free nb img i < nth_free nb img j
nth_rising nb img i j l h = go (dec_lt (nth_free nb img i) (nth_free nb img j))
  where
    go : Dec (nth_free nb img i < nth_free nb img j) → nth_free nb img i < nth_free nb img j
    go (yes q) = q
    go (no q) =
        let p₁ = nth_below nb img i (omega arith) in
        let p₂ = nth_below nb img j h in
        omega (arith, sum_to_mono (map_bit img) (nth_free nb img j) (nth_free nb img i) (omega arith))

-- every free block is one of them
pub nth_of : (nb : ℕ) (img : List ℕ) (b : ℕ) → b < nb → map_bit img b ≡ 1 → nth_free nb img (free_bits img b) ≡ b
nth_of nb img b l e = go (dec_lt (nth_free nb img j) b) (dec_lt b (nth_free nb img j))
  where
    j : ℕ
    j = free_bits img b

    many : j < free_bits img nb
    many = omega (arith, sum_to_next (map_bit img) nb b l)

    go : Dec (nth_free nb img j < b) → Dec (b < nth_free nb img j) → nth_free nb img j ≡ b
    go (yes q) p = omega (arith, nth_count nb img j many, sum_to_mono (map_bit img) (nth_free nb img j + 1) b (omega arith))
    go (no q) (yes p) = omega (arith, (nth_below nb img j many).1, sum_to_next (map_bit img) (nth_free nb img j) b p)
    go (no q) (no p) = omega arith

-- those before the k-th stand before where the search for it begins
pub nth_before : (nb : ℕ) (img : List ℕ) (k j : ℕ) → k ≤ free_bits img nb → j < k → nth_free nb img j < past_free nb img k
unfolding past_free
nth_before nb img zero j h l = omega arith
nth_before nb img (suc k) j h l = go (ℕ_discrete j k)
  where
    go : Dec (j ≡ k) → nth_free nb img j < nth_free nb img k + 1
    go (yes e) = omega (arith, ap (nth_free nb img) e)
    go (no d) = omega (arith, nth_rising nb img j k (omega arith) (omega arith))

-- ---- a card from which the k lowest free blocks of img have been taken

pub record TookLowest (nb : ℕ) (img : List ℕ) (k : ℕ) (c : Cursor) : Type 0 where
  pub len : length c.img ≡ length img
  pub from_is : c.from ≡ past_free nb img k
  pub gone : (j : ℕ) → j < k → map_bit c.img (nth_free nb img j) ≡ 0
  pub others : (b : ℕ) → b < most → ((j : ℕ) → j < k → b ≢ nth_free nb img j) → map_bit c.img b ≡ map_bit img b
  pub left : unused c.img + k ≡ unused img

pub took_none : (nb : ℕ) (img : List ℕ) → TookLowest nb img 0 (record { img = img; from = 0 })
unfolding past_free
took_none nb img =
    record { len = refl; from_is = refl; gone = λ j l. omega arith; others = λ b l h. refl; left = omega arith }

-- it stays so where the map and the unused count do
pub took_kept : (nb : ℕ) (img : List ℕ) (k : ℕ) (c : Cursor) (out : List ℕ) → Sizes img nb → k ≤ free_bits img nb → TookLowest nb img k c
    → length out ≡ length c.img
    → ((b : ℕ) → b < most → map_bit out b ≡ map_bit c.img b) → unused out ≡ unused c.img → TookLowest nb img k (record { img = out; from = c.from })
took_kept nb img k c out sizes more t l h u =
    record {
      len = l ∙ t.len;
      from_is = t.from_is;
      gone = λ j m. h (nth_free nb img j) (omega (arith, (nth_below nb img j (omega arith)).0, sizes.many)) ∙ t.gone j m;
      others = λ b q m. h b q ∙ t.others b q m;
      left = omega (arith, t.left);
    }

module _ (nb : ℕ) (img : List ℕ) (sizes : Sizes img nb) (exact : unused img ≡ free_bits img nb) where
  module _ (k : ℕ) (more : k < free_bits img nb) (c : Cursor) (t : TookLowest nb img k c) where
    low : nth_free nb img k < nb
    low = (nth_below nb img k more).0

    -- the next search finds the k-th
    finds : lowest c.img c.from nb ≡ nth_free nb img k
    finds =
        ap (λ (i : ℕ). lowest c.img i nb) t.from_is
        ∙ F.lowest_cong img c.img (past_free nb img k) nb
        (λ b p q. t.others b (omega (arith, sizes.many)) (λ j l e. omega (arith, nth_before nb img k j (omega arith) l)))
        ∙ sym (nth_search nb img k)

    finds_one : lowest c.img c.from nb < nb
    finds_one = omega (arith, finds, low)

    pub next_is : next_of nb c ≡ nth_free nb img k
    next_is = next_free_some nb c.img c.from finds_one ∙ finds

    pub taken_is : taken c.img c.from nb ≡ taken_at c.img (nth_free nb img k)
    taken_is = F.taken_some c.img c.from nb finds_one ∙ ap (taken_at c.img) finds

    inside : map_byte (nth_free nb img k) < length c.img
    inside = omega (arith, t.len, low, sizes.few, sizes.many, sizes.long)

    apart : (j : ℕ) → j < k → nth_free nb img j ≢ nth_free nb img k
    apart j l e = omega (arith, nth_rising nb img j k l more)

    small : unused c.img < 2 ^ 32
    small =
        omega (arith, t.left, exact, sizes.many, sum_to_ones (map_bit img) nb (λ i. omega (arith, bit_below img i)))

    after : TookLowest nb img (suc k) (record { img = taken_at c.img (nth_free nb img k); from = nth_free nb img k + 1 })
    unfolding past_free
    after =
        record {
          len = F.length-taken_at c.img (nth_free nb img k) ∙ t.len;
          from_is = refl;
          gone = λ j l. goes j l (ℕ_discrete j k);
          others = λ b q h. F.bit_taken_at_other c.img (nth_free nb img k) inside b (h k (omega arith)) ∙ t.others b q (λ j l. h j (omega arith));
          left = omega (arith, F.unused-taken_at c.img (nth_free nb img k) inside small, t.left, exact);
        }
      where
        goes : (j : ℕ) → j < suc k → Dec (j ≡ k) → map_bit (taken_at c.img (nth_free nb img k)) (nth_free nb img j) ≡ 0
        goes j l (yes e) =
            ap (λ (i : ℕ). map_bit (taken_at c.img (nth_free nb img k)) (nth_free nb img i)) e
            ∙ F.bit_taken_at_same c.img (nth_free nb img k) inside
        goes j l (no d) =
            F.bit_taken_at_other c.img (nth_free nb img k) inside (nth_free nb img j) (apart j (omega arith)) ∙ t.gone j (omega arith)

    -- one more is taken
    pub took_next_lem : TookLowest nb img (suc k) (took_next nb c)
    took_next_lem = rw (taken_is, next_is) after

    -- and no byte changes but the four of the count and one of the map
    pub byte-took_next : (p : ℕ) → Apart p 1 8 4 → p ≢ map_byte (nth_free nb img k) → byte (took_next nb c).img p ≡ byte c.img p
    byte-took_next p h d = rw taken_is (F.byte-taken_at_off c.img (nth_free nb img k) p h d)

  -- k turns
  abbrev took : ℕ → Cursor
  took k = turns (λ j x. took_next nb x) 0 k (record { img = img; from = 0 })

  pub took_all : (k : ℕ) → k ≤ free_bits img nb → TookLowest nb img k (turns (λ j x. took_next nb x) 0 k (record { img = img; from = 0 }))
  unfolding turns
  took_all zero h = took_none nb img
  took_all (suc k) h = took_next_lem k (omega arith) (took k) (took_all k (omega arith))

  pub takes_nth : (k : ℕ) → k < free_bits img nb → next_of nb (turns (λ j x. took_next nb x) 0 k (record { img = img; from = 0 })) ≡ nth_free nb img k
  takes_nth k h = next_is k h (took k) (took_all k (omega arith))

  pub byte_took : (k : ℕ) → k ≤ free_bits img nb → (p : ℕ) → Apart p 1 8 4 → ((j : ℕ) → j < k → p ≢ map_byte (nth_free nb img j))
      → byte (turns (λ j x. took_next nb x) 0 k (record { img = img; from = 0 })).img p ≡ byte img p
  unfolding turns
  byte_took zero h p a d = refl
  byte_took (suc k) h p a d =
      byte-took_next k (omega arith) (took k) (took_all k (omega arith)) p a (d k (omega arith))
      ∙ byte_took k (omega arith) p a (λ j l. d j (omega arith))
