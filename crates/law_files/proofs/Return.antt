-- Return to start (RULES, demand 3): a day along which no length falls below its starting one, and after which all are at it, leaves map, unused count,
-- directories and block lists as they were; all along each byte below a file's starting length is as it was or as last written there. Assumes nothing.
use mathlib.Core.Path.{◌≡◌, sym, ap, ◌∙◌}
use mathlib.Core.List.{List}
use Prim.Native.Nat.{ℕ, zero, suc, ◌+◌, ◌*◌, ◌/◌, ◌^◌, ◌≤◌, ◌<◌}
use native.Mathlib.Omega.{arith}
use native.Mathlib.Decide.{dec_lt}
use Rattle.std.proofs.lemmas.Grind.{common_steps}
use Rattle.words.specs.Words.{byte, Bytes}
use Rattle.words.specs.Sums.{δ, sum_to, cnt}
use Rattle.words.proofs.Sums.{sum_to_cong, sum_on_cong}
use Rattle.card_layout.specs.Super.{blocks, maps}
use Rattle.card_layout.specs.Inode.{size, kind, count}
use Rattle.card_layout.specs.Slots.{seconds}
use Rattle.card_map.specs.Bits.{map_bit}
use Rattle.card_map.proofs.Bits.{bit_of, bit_of_zero, bit_of_suc}
use Rattle.card_map.proofs.Map.{bit_at, free_is}
use Rattle.card_rules.specs.View.{second, data_at, owns, uses}
use Rattle.card_rules.specs.Whole.{Sound, Tree}
use Rattle.card_rules.specs.Places.{Place, at_inode, at_indirect, at_double, at_second, at_data, held, InUse}
use Rattle.card_rules.proofs.Views.{none_below, some_from, own_indirect, own_double, own_seconds, own_data, owns_parts, uses_parts, seconds_mono}
use Rattle.card_rules.specs.Same.{SameFile}
use Rattle.card_rules.proofs.Frames.{file_trans}
use Rattle.card_rules.proofs.Kept.{slots_few}
use Rattle.law_files.specs.Requests.{Request}
use Rattle.law_files.specs.Returned.{Returned}
use Rattle.law_files.proofs.Steps.{Step}

-- a number is its bits
pub bits_same : (n x y : ℕ) → x < 2 ^ n → y < 2 ^ n → ((k : ℕ) → k < n → bit_of x k ≡ bit_of y k) → x ≡ y
bits_same zero x y a b h = omega arith
bits_same (suc n) x y a b h =
    let e : x / 2 ≡ y / 2 =
    bits_same n (x / 2) (y / 2) (omega arith) (omega arith)
    (λ k l. sym (bit_of_suc x k) ∙ h (suc k) (omega arith) ∙ bit_of_suc y k) in
    omega (arith, sym (bit_of_zero x) ∙ h 0 (omega arith) ∙ bit_of_zero y)

byte_bits : (img out : List ℕ) (i : ℕ) → Bytes img → Bytes out → ((k : ℕ) → k < 8 → map_bit out (8 * i + k) ≡ map_bit img (8 * i + k))
    → byte out (8192 + i) ≡ byte img (8192 + i)
byte_bits img out i a b h =
    bits_same 8 (byte out (8192 + i)) (byte img (8192 + i)) (b.below (8192 + i)) (a.below (8192 + i))
    (λ k l. sym (bit_at out i k l) ∙ h k l ∙ bit_at img i k l)

-- ---- what holds along the day

pub record Since (l start img : List ℕ) : Type 0 where
  pub sound : Sound img l
  pub tree : Tree img l
  pub bytes : Bytes img
  pub blocks_same : blocks img ≡ blocks start
  pub maps_same : maps img ≡ maps start
  pub kinds_same : (n : ℕ) → 0 < cnt n l → kind img n ≡ kind start n
  pub dirs_same : (n : ℕ) → 0 < cnt n l → kind start n ≡ 2 → SameFile start img n
  pub sizes : (n : ℕ) → 0 < cnt n l → size start n ≤ size img n
  pub places : (n : ℕ) (p : Place) → 0 < cnt n l → InUse start n p → held img n p ≡ held start n p

pub since_start : {l start : List ℕ} → Sound start l → Tree start l → Bytes start → Since l start start
since_start {l} {start} s t b = grind (arith, common_steps)

-- a longer file uses what a shorter one does
pub in_use_more : (img out : List ℕ) (n : ℕ) → count img n ≤ count out n → (p : Place) → InUse img n p → InUse out n p
in_use_more img out n h at_inode u = u
in_use_more img out n h at_indirect u = omega arith
in_use_more img out n h at_double u = omega arith
in_use_more img out n h (at_second j) u = omega (arith, seconds_mono (count img n) (count out n) h)
in_use_more img out n h (at_data i) u = omega arith

count-more : {img out l : List ℕ} → Sound img l → Sound out l → (n : ℕ) → 0 < cnt n l → size img n ≤ size out n → count img n ≤ count out n
count-more s t n c h = omega (arith, (s.inode n c).shape.counted, (t.inode n c).shape.counted)

module _ {l start : List ℕ} (s : Sound start l) where
  pub since_step : {img out : List ℕ} {r : Request} → Since l start img → Step l img out r → ((n : ℕ) → 0 < cnt n l → size start n ≤ size out n)
      → Since l start out
  since_step {img} {out} {r} z x h =
      record {
        sound = x.sound;
        tree = x.tree;
        bytes = x.bytes;
        blocks_same = x.blocks_same ∙ z.blocks_same;
        maps_same = x.maps_same ∙ z.maps_same;
        kinds_same = λ n c. x.kinds_same n c ∙ z.kinds_same n c;
        dirs_same = λ n c k. file_trans (slots_few s n c) (z.dirs_same n c k) (x.dirs_same n c (z.kinds_same n c ∙ k));
        sizes = h;
        places = λ n p c u.
            x.places n p c
            (in_use_more start img n (count-more s z.sound n c (z.sizes n c)) p u)
            (in_use_more start out n (count-more s x.sound n c (h n c)) p u)
            ∙ z.places n p c u;
      }

  -- ---- back at the starting lengths

  module _ {out : List ℕ} (t : Tree start l) (bytes : Bytes start) (z : Since l start out) (ends : (n : ℕ) → 0 < cnt n l → size out n ≡ size start n) where
    count_back : (n : ℕ) → 0 < cnt n l → count out n ≡ count start n
    count_back n c = omega (arith, (s.inode n c).shape.counted, (z.sound.inode n c).shape.counted, ends n c)

    owns_back : (n b : ℕ) → 0 < cnt n l → owns out n b ≡ owns start n b
    owns_back n b c = omega (arith, owns_parts out n b, owns_parts start n b, one (dec_lt (count start n) 12), two (dec_lt (count start n) 1036), level, body)
      where
        e : count out n ≡ count start n
        e = count_back n c

        one : Dec (count start n < 12) → own_indirect out n b ≡ own_indirect start n b
        one (yes a) = none_below (count out n) 12 _ (omega (arith, e)) ∙ sym (none_below (count start n) 12 _ a)
        one (no a) =
            some_from (count out n) 12 _ (omega (arith, e))
            ∙ ap (λ (x : ℕ). δ x b) (z.places n at_indirect c (omega arith))
            ∙ sym (some_from (count start n) 12 _ (omega arith))

        two : Dec (count start n < 1036) → own_double out n b ≡ own_double start n b
        two (yes a) = none_below (count out n) 1036 _ (omega (arith, e)) ∙ sym (none_below (count start n) 1036 _ a)
        two (no a) =
            some_from (count out n) 1036 _ (omega (arith, e))
            ∙ ap (λ (x : ℕ). δ x b) (z.places n at_double c (omega arith))
            ∙ sym (some_from (count start n) 1036 _ (omega arith))

        level : own_seconds out n b ≡ own_seconds start n b
        level =
            ap (λ (x : ℕ). sum_to (λ j. δ (second out n j) b) (seconds x)) e
            ∙ sum_to_cong (λ j. δ (second out n j) b) (λ j. δ (second start n j) b) (seconds (count start n))
            (λ j a. ap (λ (x : ℕ). δ x b) (z.places n (at_second j) c a))

        body : own_data out n b ≡ own_data start n b
        body =
            ap (λ (x : ℕ). sum_to (λ i. δ (data_at out n i) b) x) e
            ∙ sum_to_cong (λ i. δ (data_at out n i) b) (λ i. δ (data_at start n i) b) (count start n)
            (λ i a. ap (λ (x : ℕ). δ x b) (z.places n (at_data i) c a))

    uses_back : (b : ℕ) → uses out l b ≡ uses start l b
    uses_back b = grind (arith, common_steps, uses_parts, sum_on_cong, owns_back)

    -- a block's bit is what its uses leave of 1
    bit_back : (b : ℕ) → b < blocks start → map_bit out b ≡ map_bit start b
    bit_back b q = omega (arith, z.sound.once b (rw z.blocks_same q), s.once b q, uses_back b)

    pub returned : Returned start out
    returned = grind (arith, common_steps, byte_bits, free_is, bit_back)
