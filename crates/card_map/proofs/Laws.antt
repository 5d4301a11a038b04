-- The laws of searching, taking and freeing a block: nothing above this file unfolds `lowest`, `taken`, `taken_at` or `freed`. Assumes nothing.
use Rattle.std.proofs.Common.{◌≡◌, ℕ, ◌+◌, ◌-◌, ◌*◌, ◌%◌, ◌^◌, ◌<◌, ◌≤◌, Bool, ◌≢◌, List, length, set, sym, ap, ◌∙◌, zero-le, one-mul, arith, set-set, le-ltb, lt-ltb}
use native.Mathlib.Decide.{ℕ_discrete, dec_lt}
use lib.Seq.{set-get_or}
use Rattle.words.specs.Words.{pick, byte, num, put_num, Bytes}
use Rattle.words.specs.Inner.{Apart}
use Rattle.words.proofs.Numbers.{length-put, byte_out, num_same, num_frame, num_lt, bytes_put, set_put, put_put, put_num_lem}
use Rattle.words.proofs.Sums.{sum_to_pos}
use Rattle.card_layout.specs.Super.{unused, put_unused}
use Rattle.card_map.specs.Bits.{map_byte, map_bit, clear_bit, set_bit, free_bits}
use Rattle.card_map.specs.Free.{first_from, lowest, taken_at, taken, freed}
use Rattle.card_map.specs.Inner.{found_below}
use Rattle.card_map.proofs.Map as M
use Rattle.card_map.proofs.First.{first_is, first_none, first_hit, first_least, first_range, first_on, first_cong}
use Rattle.std.specs.Prelude.{Some, None}

-- ---- the lowest free block

pub lowest_free : (img : List ℕ) (i n : ℕ) → lowest img i n < n → map_bit img (lowest img i n) ≡ 1
unfolding lowest
lowest_free img i n h = first_hit (map_bit img) i (n - i) (omega arith)

pub lowest_least : (img : List ℕ) (i n b : ℕ) → i ≤ b → b < n → map_bit img b ≡ 1 → lowest img i n ≤ b
unfolding lowest
lowest_least img i n b l h e = first_least (map_bit img) i (n - i) b l (omega arith) e

pub lowest_range : (img : List ℕ) (i n : ℕ) → i ≤ n → (i ≤ lowest img i n) × (lowest img i n ≤ n)
unfolding lowest
lowest_range img i n l = let r = first_range (map_bit img) i (n - i) in (r.0, omega arith)

-- which block it is, and that there is none
pub lowest_is : (img : List ℕ) (i n b : ℕ) → i ≤ b → b < n → map_bit img b ≡ 1 → ((k : ℕ) → i ≤ k → k < b → map_bit img k ≡ 1 → ⊥) → lowest img i n ≡ b
unfolding lowest
lowest_is img i n b l h e f = first_is (map_bit img) i (n - i) b l (omega arith) e f

pub lowest-none : (img : List ℕ) (i n : ℕ) → i ≤ n → ((k : ℕ) → i ≤ k → k < n → map_bit img k ≡ 1 → ⊥) → lowest img i n ≡ n
unfolding lowest
lowest-none img i n l f = first_none (map_bit img) i (n - i) (λ k p q. f k p (omega arith)) ∙ omega arith

-- the search may go on at j where none below j is free
pub lowest_on : (img : List ℕ) (i j n : ℕ) → i ≤ j → j ≤ n → ((k : ℕ) → i ≤ k → k < j → map_bit img k ≡ 1 → ⊥) → lowest img i n ≡ lowest img j n
unfolding lowest
lowest_on img i j n p q f =
    let e : n - i ≡ j - i + (n - j) = omega arith in
    let e' : i + (j - i) ≡ j = omega arith in
    ap (first_from (map_bit img) i) e
    ∙ first_on (map_bit img) i (j - i) (n - j) (λ k l h. f k l (omega arith))
    ∙ ap (λ (a : ℕ). first_from (map_bit img) a (n - j)) e'

pub lowest_finds : (img : List ℕ) (n : ℕ) → 0 < free_bits img n → lowest img 0 n < n
lowest_finds img n h =
    let w = sum_to_pos (map_bit img) n h in
    omega (arith, w.1, lowest_least img 0 n w.0 zero-le w.1 (omega (arith, w.2, M.bit_below img w.0)))

-- only the bits of the range count
pub lowest_cong : (img out : List ℕ) (i n : ℕ) → ((k : ℕ) → i ≤ k → k < n → map_bit out k ≡ map_bit img k) → lowest out i n ≡ lowest img i n
unfolding lowest
lowest_cong img out i n h = first_cong (map_bit out) (map_bit img) i (n - i) (λ k l b. h k l (omega arith))

-- a search of a longer range, and what it says of the shorter one
pub lowest_within : (img : List ℕ) (i n m : ℕ) → i ≤ n → n ≤ m → lowest img i m < n → lowest img i n ≡ lowest img i m
lowest_within img i n m l h b =
    lowest_is img i n (lowest img i m) (lowest_range img i m (omega arith)).0 b (lowest_free img i m (omega arith))
    (λ k p q e. omega (arith, lowest_least img i m k p (omega arith) e))

pub lowest_past : (img : List ℕ) (i n m : ℕ) → i ≤ n → n ≤ m → n ≤ lowest img i m → lowest img i n ≡ n
lowest_past img i n m l h b = lowest-none img i n l (λ k p q e. omega (arith, lowest_least img i m k p (omega arith) e))

pub found_below_some : (n b : ℕ) → b < n → found_below n b ≡ Some (record { 0 = b })
found_below_some n b h = ap (λ (t : Bool). pick t (Some (record { 0 = b })) None) (lt-ltb b n h)

pub found_below-none : (n b : ℕ) → n ≤ b → found_below n b ≡ None
found_below-none n b h = ap (λ (t : Bool). pick t (Some (record { 0 = b })) None) (le-ltb b n h)

pub taken_some : (img : List ℕ) (i n : ℕ) → lowest img i n < n → taken img i n ≡ taken_at img (lowest img i n)
unfolding taken
taken_some img i n h = ap (λ (t : Bool). pick t (taken_at img (lowest img i n)) img) (lt-ltb _ _ h)

pub taken_none : (img : List ℕ) (i n : ℕ) → n ≤ lowest img i n → taken img i n ≡ img
unfolding taken
taken_none img i n h = ap (λ (t : Bool). pick t (taken_at img (lowest img i n)) img) (le-ltb _ _ h)

-- ---- what a block taken or freed changes: its bit and the unused count; in bytes, the four at 8 and one of the map

pub length-taken_at : (img : List ℕ) (b : ℕ) → length (taken_at img b) ≡ length img
unfolding taken_at
length-taken_at img b = length-put 4 (clear_bit img b) 8 (unused img - 1) ∙ M.length-clear_bit img b

pub length-freed : (img : List ℕ) (b : ℕ) → length (freed img b) ≡ length img
unfolding freed
length-freed img b = length-put 4 (set_bit img b) 8 ((unused img + 1) % 2 ^ 32) ∙ M.length-set_bit img b

pub byte-taken_at_off : (img : List ℕ) (b k : ℕ) → Apart k 1 8 4 → k ≢ map_byte b → byte (taken_at img b) k ≡ byte img k
unfolding taken_at
byte-taken_at_off img b k h d = byte_out 4 (clear_bit img b) 8 (unused img - 1) k h ∙ M.byte-clear_bit_off img b k d

pub byte-freed_off : (img : List ℕ) (b k : ℕ) → Apart k 1 8 4 → k ≢ map_byte b → byte (freed img b) k ≡ byte img k
unfolding freed
byte-freed_off img b k h d = byte_out 4 (set_bit img b) 8 ((unused img + 1) % 2 ^ 32) k h ∙ M.byte-set_bit_off img b k d

-- and so every number that has none of these bytes
pub num-taken_at_out : (n : ℕ) (img : List ℕ) (b at : ℕ) → Apart at n 8 4 → Apart at n (map_byte b) 1 → num n (taken_at img b) at ≡ num n img at
num-taken_at_out n img b at h d =
    num_frame n (taken_at img b) img at
    (λ k p q. byte-taken_at_off img b k (λ x y. h (omega arith) (omega arith)) (λ e. d (omega arith) (omega arith)))

pub num-freed_out : (n : ℕ) (img : List ℕ) (b at : ℕ) → Apart at n 8 4 → Apart at n (map_byte b) 1 → num n (freed img b) at ≡ num n img at
num-freed_out n img b at h d =
    num_frame n (freed img b) img at
    (λ k p q. byte-freed_off img b k (λ x y. h (omega arith) (omega arith)) (λ e. d (omega arith) (omega arith)))

pub bytes_taken_at : (img : List ℕ) (b : ℕ) → Bytes img → Bytes (taken_at img b)
unfolding taken_at
bytes_taken_at img b h = bytes_put 4 (clear_bit img b) 8 (unused img - 1) (M.bytes_clear_bit img b h)

pub bytes_freed : (img : List ℕ) (b : ℕ) → Bytes img → Bytes (freed img b)
unfolding freed
bytes_freed img b h = bytes_put 4 (set_bit img b) 8 ((unused img + 1) % 2 ^ 32) (M.bytes_set_bit img b h)

module _ (img : List ℕ) (b : ℕ) (inside : map_byte b < length img) where
  -- the count is apart from the map
  taken_bits : (c : ℕ) → map_bit (taken_at img b) c ≡ map_bit (clear_bit img b) c
  unfolding taken_at
  taken_bits c = M.bit_is (clear_bit img b) (put_unused (clear_bit img b) (unused img - 1)) c (byte_out 4 (clear_bit img b) 8 (unused img - 1) (map_byte c) (omega arith))

  freed_bits : (c : ℕ) → map_bit (freed img b) c ≡ map_bit (set_bit img b) c
  unfolding freed
  freed_bits c =
      let v = (unused img + 1) % 2 ^ 32 in
      M.bit_is (set_bit img b) (put_unused (set_bit img b) v) c (byte_out 4 (set_bit img b) 8 v (map_byte c) (omega arith))

  pub bit_taken_at_same : map_bit (taken_at img b) b ≡ 0
  bit_taken_at_same = taken_bits b ∙ M.bit_clear_same img b inside

  pub bit_taken_at_other : (c : ℕ) → c ≢ b → map_bit (taken_at img b) c ≡ map_bit img c
  bit_taken_at_other c d = taken_bits c ∙ M.bit_clear_other img b inside c d

  pub bit_freed_same : map_bit (freed img b) b ≡ 1
  bit_freed_same = freed_bits b ∙ M.bit_set_same img b inside

  pub bit_freed_other : (c : ℕ) → c ≢ b → map_bit (freed img b) c ≡ map_bit img c
  bit_freed_other c d = freed_bits c ∙ M.bit_set_other img b inside c d

  pub unused-taken_at : unused img < 2 ^ 32 → unused (taken_at img b) ≡ unused img - 1
  unfolding taken_at
  unused-taken_at h = num_same 4 (clear_bit img b) 8 (unused img - 1) (rw (M.length-clear_bit img b) (omega arith)) (omega arith)

  pub unused-freed : unused img + 1 < 2 ^ 32 → unused (freed img b) ≡ unused img + 1
  unfolding freed
  unused-freed h =
      num_same 4 (set_bit img b) 8 ((unused img + 1) % 2 ^ 32) (rw (M.length-set_bit img b) (omega arith)) (omega arith) ∙ omega arith

  -- ---- how many of the first n are free

  pub free_taken_at : (n : ℕ) → b < n → free_bits (taken_at img b) n + map_bit img b ≡ free_bits img n
  free_taken_at n l =
      omega (arith, M.free_is (clear_bit img b) (taken_at img b) n (λ c h. taken_bits c), M.free_clear img b inside n l)

  pub free_freed : (n : ℕ) → b < n → free_bits (freed img b) n ≡ free_bits img n + (1 - map_bit img b)
  free_freed n l = M.free_is (set_bit img b) (freed img b) n (λ c h. freed_bits c) ∙ M.free_set img b inside n l

  pub free_taken_at_past : (n : ℕ) → n ≤ b → free_bits (taken_at img b) n ≡ free_bits img n
  free_taken_at_past n l = M.free_is (clear_bit img b) (taken_at img b) n (λ c h. taken_bits c) ∙ M.free_clear_past img b inside n l

  pub free_freed_past : (n : ℕ) → n ≤ b → free_bits (freed img b) n ≡ free_bits img n
  free_freed_past n l = M.free_is (set_bit img b) (freed img b) n (λ c h. freed_bits c) ∙ M.free_set_past img b inside n l

-- ---- taking where there is one, in general

pub length_taken : (img : List ℕ) (i n : ℕ) → length (taken img i n) ≡ length img
length_taken img i n = go (dec_lt (lowest img i n) n)
  where
    go : Dec (lowest img i n < n) → length (taken img i n) ≡ length img
    go (yes h) = rw (taken_some img i n h) (length-taken_at img (lowest img i n))
    go (no h) = ap length (taken_none img i n (omega arith))

pub bytes_taken : (img : List ℕ) (i n : ℕ) → Bytes img → Bytes (taken img i n)
bytes_taken img i n p = go (dec_lt (lowest img i n) n)
  where
    go : Dec (lowest img i n < n) → Bytes (taken img i n)
    go (yes h) = rw (taken_some img i n h) (bytes_taken_at img (lowest img i n) p)
    go (no h) = rw (taken_none img i n (omega arith)) p

-- ---- the search on the card with a block taken

-- taking frees nothing
pub bit_taken_at_was : (img : List ℕ) (b : ℕ) → map_byte b < length img → (c : ℕ) → map_bit (taken_at img b) c ≡ 1 → map_bit img c ≡ 1
bit_taken_at_was img b inside c e = go (ℕ_discrete c b)
  where
    go : Dec (c ≡ b) → map_bit img c ≡ 1
    go (yes q) = absurd (omega (arith, bit_taken_at_same img b inside, ap (map_bit (taken_at img b)) q))
    go (no d) = sym (bit_taken_at_other img b inside c d) ∙ e

-- past the block it finds what it found before
pub lowest-taken_at_past : (img : List ℕ) (b : ℕ) → map_byte b < length img → (i n : ℕ) → b < i → lowest (taken_at img b) i n ≡ lowest img i n
lowest-taken_at_past img b inside i n h = lowest_cong img (taken_at img b) i n (λ k l m. bit_taken_at_other img b inside k (omega arith))

-- once the lowest is taken, the next search finds what one from the block after it finds
pub lowest_next : (img : List ℕ) (i n : ℕ) → i ≤ n → lowest img i n < n → map_byte (lowest img i n) < length img
    → lowest (taken_at img (lowest img i n)) i n ≡ lowest img (lowest img i n + 1) n
lowest_next img i n l h inside =
    let b = lowest img i n in
    let r = lowest_range img i n l in
    lowest_on (taken_at img b) i (b + 1) n (omega arith) (omega arith) none
    ∙ lowest-taken_at_past img b inside (b + 1) n (omega arith)
  where
    none : (k : ℕ) → i ≤ k → k < lowest img i n + 1 → map_bit (taken_at img (lowest img i n)) k ≡ 1 → ⊥
    none k p q e = go (ℕ_discrete k (lowest img i n))
      where
        go : Dec (k ≡ lowest img i n) → ⊥
        go (yes d) =
            omega (arith, bit_taken_at_same img (lowest img i n) inside, ap (map_bit (taken_at img (lowest img i n))) d)
        go (no d) =
            omega (arith, lowest_least img i n k p (omega arith) (bit_taken_at_was img (lowest img i n) inside k e))

-- ---- a free block that is taken and freed again leaves the card as it was

-- the arithmetic of its map byte: a power taken off and put on again
back : (x y p d e : ℕ) → y ≡ x - d * p → d ≡ 1 → e ≡ 0 → p ≤ x → y + (1 - e) * p ≡ x
back x y p d e h hd he l =
    let q : d * p ≡ p = ap (λ (k : ℕ). k * p) hd ∙ one-mul p in
    let r : (1 - e) * p ≡ p = ap (λ (k : ℕ). (1 - k) * p) he ∙ one-mul p in
    omega arith

module _ (img : List ℕ) (b : ℕ) (inside : map_byte b < length img) where
  still : map_byte b < length (taken_at img b)
  still = rw (length-taken_at img b) inside

  pub round_bits : map_bit img b ≡ 1 → (c : ℕ) → map_bit (freed (taken_at img b) b) c ≡ map_bit img c
  round_bits e c = go (ℕ_discrete c b)
    where
      go : Dec (c ≡ b) → map_bit (freed (taken_at img b) b) c ≡ map_bit img c
      go (yes q) = rw q (bit_freed_same (taken_at img b) b still ∙ sym e)
      go (no d) = bit_freed_other (taken_at img b) b still c d ∙ bit_taken_at_other img b inside c d

  pub round_unused : 0 < unused img → unused img < 2 ^ 32 → unused (freed (taken_at img b) b) ≡ unused img
  round_unused p h =
      let u = unused-taken_at img b inside h in
      unused-freed (taken_at img b) b still (omega arith) ∙ omega arith

  -- the map byte of the card with b taken, once b is put back
  byte_back : map_bit img b ≡ 1 → byte (taken_at img b) (map_byte b) + (1 - map_bit (taken_at img b) b) * 2 ^ (b % 8) ≡ byte img (map_byte b)
  unfolding taken_at
  byte_back e =
      back (byte img (map_byte b)) (byte (taken_at img b) (map_byte b)) (2 ^ (b % 8)) (map_bit img b) (map_bit (taken_at img b) b)
      (byte_out 4 (clear_bit img b) 8 (unused img - 1) (map_byte b) (omega arith) ∙ M.byte-clear_bit_same img b inside)
      e
      (bit_taken_at_same img b inside)
      (M.bit_power img b e)

  set_back : map_bit img b ≡ 1 → set_bit (taken_at img b) b ≡ put_unused img (unused img - 1)
  unfolding set_bit taken_at clear_bit
  set_back e =
      let m = map_byte b in
      let y = byte img m - map_bit img b * 2 ^ (b % 8) in
      ap (set (taken_at img b) m) (byte_back e)
      ∙ set_put 4 (set img m y) 8 (unused img - 1) m (byte img m) (omega arith)
      ∙ ap (λ (l : List ℕ). put_num 4 l 8 (unused img - 1)) (set-set img m y (byte img m) ∙ set-get_or img m 0)

  pub round : map_bit img b ≡ 1 → 0 < unused img → Bytes img → freed (taken_at img b) b ≡ img
  unfolding freed
  round e p h =
      let f = num_lt 4 img 8 h in
      let u = unused-taken_at img b inside f in
      let v : (unused (taken_at img b) + 1) % 2 ^ 32 ≡ unused img = omega arith in
      ap (put_unused (set_bit (taken_at img b) b)) v
      ∙ ap (λ (l : List ℕ). put_unused l (unused img)) (set_back e)
      ∙ put_put 4 img 8 (unused img - 1) (unused img)
      ∙ put_num_lem 4 img 8 h
