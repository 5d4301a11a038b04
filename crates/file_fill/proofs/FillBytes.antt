-- Where a file's blocks are blocks of the card and none of them is another of them or holds its slots, filling is byte by byte: what was to come is
-- there, and no other byte of the card changes. Assumes nothing.
use Prim.Native.Nat.{ℕ, suc, ◌+◌, ◌-◌, ◌*◌, ◌/◌, ◌%◌, ◌≤◌, ◌<◌, min, max}
use mathlib.Core.Path.{◌≡◌, refl, ap, ◌∙◌}
use mathlib.Core.Logic.{◌≢◌}
use mathlib.Core.Bool.{Bool, true, false}
use mathlib.Core.List.{List}
use native.Mathlib.Omega.{arith}
use native.Mathlib.Decide.{dec_lt}
use borrow.Author.Tests.{lt-ltb}
use lib.ListN.{length}
use Rattle.words.specs.Words.{byte, word}
use Rattle.words.specs.Inner.{Apart}
use Rattle.words.proofs.Numbers.{num_frame}
use Rattle.words.proofs.Runs.{byte-copied_in, byte-copied_off, byte-zeroed_in, byte-zeroed_off}
use Rattle.card_layout.specs.Inode.{count, indirect, double}
use Rattle.card_layout.specs.Slots.{seconds}
use Rattle.card_rules.specs.View.{second, data_at}
use Rattle.file_blocks.specs.Bytes.{piece_lo, piece_hi, put, piece_fill, run_fill, direct_fill, indirect_fill, level_fill, double_fill, filled}
use Rattle.file_blocks.proofs.Ranges.{piece_start, piece_stop, other_block, its_block}
use Rattle.file_blocks.proofs.Lengths.{length-put}
use Rattle.file_blocks.proofs.Walk.{Readable, Pointer, own, first, top, table, walk}

-- writes to the file's data move none of its slots and reach one block each
pub record Separate (img : List ℕ) (n : ℕ) : Type 0 where
  pub off_own : (i : ℕ) → i < count img n → data_at img n i ≢ n
  pub off_one : (i : ℕ) → i < count img n → 12 ≤ count img n → data_at img n i ≢ indirect img n
  pub off_two : (i : ℕ) → i < count img n → 1036 ≤ count img n → data_at img n i ≢ double img n
  pub off_levels : (i j : ℕ) → i < count img n → j < seconds (count img n) → data_at img n i ≢ second img n j
  pub off_others : (i k : ℕ) → i < count img n → k < count img n → i ≢ k → data_at img n i ≢ data_at img n k

-- the k-th byte that is to come
abbrev pub comes : Bool → List ℕ → ℕ → ℕ
comes true src k = 0
comes false src k = byte src k

-- where byte o of file n is on the card
abbrev pub spot : List ℕ → ℕ → ℕ → ℕ
spot img n o = 4096 * data_at img n (o / 4096) + o % 4096

put_off : (z : Bool) (src : List ℕ) (at k from : ℕ) (x : List ℕ) (p : ℕ) → Apart p 1 at k → byte (put z src at k from x) p ≡ byte x p
put_off true src at k from x p h = byte-zeroed_off x at k p h
put_off false src at k from x p h = byte-copied_off x at src from k p h

put_in : (z : Bool) (src : List ℕ) (at k from : ℕ) (x : List ℕ) (r : ℕ) → at + k ≤ length x → r < k
    → byte (put z src at k from x) (at + r) ≡ comes z src (from + r)
put_in true src at k from x r h l = byte-zeroed_in x at k r h l
put_in false src at k from x r h l = byte-copied_in x at src from k r h l

-- what is there once the bytes off to end that are in blocks below j have been filled
pub record Set (z : Bool) (src img : List ℕ) (n off end j : ℕ) (out : List ℕ) : Type 0 where
  pub len : length out ≡ length img
  pub here : (o : ℕ) → off ≤ o → o < end → o < 4096 * j → byte out (spot img n o) ≡ comes z src (o - off)
  pub rest : (p : ℕ) → ((o : ℕ) → off ≤ o → o < end → o < 4096 * j → p ≢ spot img n o) → byte out p ≡ byte img p

module _ (z : Bool) (src img : List ℕ) (n off end : ℕ) where
  begin : Set z src img n off end 0 img
  begin = record { len = refl; here = λ o a b c. absurd (omega arith); rest = λ p h. refl }

  skip : (i j : ℕ) (x : List ℕ) → i ≤ j → ((o : ℕ) → off ≤ o → o < end → 4096 * i ≤ o → o < 4096 * j → ⊥)
      → Set z src img n off end i x → Set z src img n off end j x
  skip i j x ij none g =
      record {
        len = g.len;
        here = λ o a b c. go o a b c (dec_lt o (4096 * i));
        rest = λ p h. g.rest p (λ o a b c. h o a b (omega arith));
      }
    where
      go : (o : ℕ) → off ≤ o → o < end → o < 4096 * j → Dec (o < 4096 * i) → byte x (spot img n o) ≡ comes z src (o - off)
      go o a b c (yes l) = g.here o a b l
      go o a b c (no m) = absurd (none o a b (omega arith) c)

-- ---- a piece

module _
    (z : Bool)
    (src img : List ℕ)
    (nb n off end : ℕ)
    (apart : Separate img n)
    (ordered : off ≤ end)
    (inside : end ≤ 4096 * count img n)
    (long : 4096 * nb ≤ length img)
    (j : ℕ)
    (x : List ℕ)
    (lo k : ℕ)
    (start : 4096 * j + lo ≡ max off (4096 * j))
    (stop : 4096 * j + lo + k ≡ min end (4096 * j + 4096))
    (there : j < count img n)
    (small : data_at img n j < nb)
    (g : Set z src img n off end j x)
  where
    abbrev out : List ℕ
    out = put z src (4096 * data_at img n j + lo) k (4096 * j + lo - off) x

    short : lo + k ≤ 4096
    short = omega arith

    fits : 4096 * data_at img n j + lo + k ≤ length x
    fits = omega (arith, g.len, short)

    piece_here : (o : ℕ) → off ≤ o → o < end → o < 4096 * suc j → Dec (o < 4096 * j) → byte out (spot img n o) ≡ comes z src (o - off)
    piece_here o a b c (yes l) =
        put_off z src _ k _ x (spot img n o)
        (other_block (data_at img n j) (data_at img n (o / 4096)) lo k (o % 4096) (apart.off_others (o / 4096) j (omega arith) there (omega arith)) short (omega arith))
        ∙ g.here o a b l
    piece_here o a b c (no m) =
        let r = o - (4096 * j + lo) in
        let which : o / 4096 ≡ j = omega arith in
        let byte_of : o % 4096 ≡ lo + r = omega arith in
        let same : 4096 * data_at img n j + (lo + r) ≡ 4096 * data_at img n j + lo + r = omega arith in
        let place : 4096 * j + lo - off + r ≡ o - off = omega arith in
        rw (which, byte_of, same) (put_in z src _ k _ x r fits (omega arith) ∙ ap (comes z src) place)

    piece_rest : (p : ℕ) → ((o : ℕ) → off ≤ o → o < end → o < 4096 * suc j → p ≢ spot img n o) → byte out p ≡ byte img p
    piece_rest p h = put_off z src _ k _ x p away ∙ g.rest p (λ o a b c. h o a b (omega arith))
      where
        away : Apart p 1 (4096 * data_at img n j + lo) k
        away u v =
            let o = 4096 * j + (p - 4096 * data_at img n j) in
            let which : o / 4096 ≡ j = omega arith in
            let byte_of : o % 4096 ≡ p - 4096 * data_at img n j = omega arith in
            let e : p ≡ 4096 * data_at img n j + (p - 4096 * data_at img n j) = omega arith in
            h o (omega arith) (omega arith) (omega arith) (rw (which, byte_of) e)

    piece_set : Set z src img n off end (suc j) out
    piece_set =
        record {
          len = length-put z src _ k _ x ∙ g.len;
          here = λ o a b c. piece_here o a b c (dec_lt o (4096 * j));
          rest = piece_rest;
        }

-- ---- the whole

module _
    (z : Bool)
    (src img : List ℕ)
    (nb n off end : ℕ)
    (card : Readable img nb n)
    (apart : Separate img n)
    (ordered : off ≤ end)
    (inside : end ≤ 4096 * count img n)
    (long : 4096 * nb ≤ length img)
  where
    step : (j : ℕ) (x : List ℕ) → j < count img n → off < 4096 * j + 4096 → 4096 * j < end → Set z src img n off end j x
        → Set z src img n off end (suc j) (piece_fill z src nb (data_at img n j) off end j x)
    step j x l a b g =
        rw (lt-ltb (data_at img n j) nb (card.data_blocks j l))
        (piece_set z src img nb n off end apart ordered inside long j x (piece_lo off j) (piece_hi end j - piece_lo off j)
        (piece_start off j) (piece_stop off end j ordered a b) l (card.data_blocks j l) g)

    not_slots : (m : ℕ) → Pointer img n m → (i : ℕ) → i < count img n → data_at img n i ≢ m
    not_slots m own i l = apart.off_own i l
    not_slots m (first h) i l = apart.off_one i l h
    not_slots m (top h) i l = apart.off_two i l h
    not_slots m (table j h) i l = apart.off_levels i j l h

    -- a block that is none of the file's data
    other : (j : ℕ) (x : List ℕ) → Set z src img n off end j x → (b p : ℕ) → ((i : ℕ) → i < count img n → data_at img n i ≢ b)
        → 4096 * b ≤ p → p < 4096 * b + 4096 → byte x p ≡ byte img p
    other j x g b p h l u =
        g.rest p (λ o ao oe oj e. h (o / 4096) (omega arith) (its_block (data_at img n (o / 4096)) b (o % 4096) p (omega arith) l u e))

    same : (j : ℕ) (x : List ℕ) → Set z src img n off end j x → (m a : ℕ) → Pointer img n m → 4096 * m ≤ a → a + 4 ≤ 4096 * m + 4096
        → word x a ≡ word img a
    same j x g m a t l u = num_frame 4 x img a (λ p q r. other j x g m p (not_slots m t) (omega arith) (omega arith))

    all : Set z src img n off end 1049612 (filled z src nb n off end img)
    unfolding run_fill direct_fill indirect_fill level_fill double_fill filled
    all =
        walk img nb n off end (λ b j y. piece_fill z src nb b off end j y) (λ y. y) (Set z src img n off end) card ordered inside
        (skip z src img n off end) step same img (begin z src img n off end)

    pub filled_here : (k : ℕ) → k < end - off → byte (filled z src nb n off end img) (spot img n (off + k)) ≡ comes z src k
    filled_here k l =
        let same-k : off + k - off ≡ k = omega arith in
        all.here (off + k) (omega arith) (omega arith) (omega (arith, card.few)) ∙ ap (comes z src) same-k

    pub filled_rest : (p : ℕ) → ((k : ℕ) → k < end - off → p ≢ spot img n (off + k)) → byte (filled z src nb n off end img) p ≡ byte img p
    filled_rest p h =
        all.rest p
        (λ o a b c e.
        let k : off + (o - off) ≡ o = omega arith in
        h (o - off) (omega arith) (rw k e))

    -- every byte of a block that is none of the file's data, and every slot of the file, is as it was
    pub filled_other : (b p : ℕ) → ((i : ℕ) → i < count img n → data_at img n i ≢ b) → 4096 * b ≤ p → p < 4096 * b + 4096
        → byte (filled z src nb n off end img) p ≡ byte img p
    filled_other b p h l u = other 1049612 _ all b p h l u

    pub filled_slots : (m a : ℕ) → Pointer img n m → 4096 * m ≤ a → a + 4 ≤ 4096 * m + 4096 → word (filled z src nb n off end img) a ≡ word img a
    filled_slots m a t l u = same 1049612 _ all m a t l u
