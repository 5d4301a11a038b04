-- Where a file's blocks are blocks of the card, reading is byte by byte: what comes are the bytes of the file, and no other byte of the buffer changes.
-- Assumes nothing.
use Prim.Native.Nat.{ℕ, suc, ◌+◌, ◌-◌, ◌*◌, ◌/◌, ◌%◌, ◌≤◌, ◌<◌, min, max}
use mathlib.Core.Path.{◌≡◌, refl, ap, ◌∙◌}
use mathlib.Core.List.{List}
use native.Mathlib.Omega.{arith}
use native.Mathlib.Decide.{dec_lt}
use borrow.Author.Tests.{lt-ltb}
use lib.ListN.{length}
use Rattle.words.specs.Words.{byte}
use Rattle.words.specs.Runs.{copied}
use Rattle.words.proofs.Runs.{length-copied, byte-copied_in, byte-copied_off}
use Rattle.card_layout.specs.Inode.{count}
use Rattle.card_rules.specs.View.{data_at, file_byte}
use Rattle.card_rules.proofs.Views.{file_byte_at}
use Rattle.file_blocks.specs.Bytes.{piece_lo, piece_hi, piece_read, run_read, direct_read, indirect_read, level_read, double_read, read_into}
use Rattle.file_blocks.proofs.Ranges.{piece_start, piece_stop}
use Rattle.file_blocks.proofs.Walk.{Readable, walk}

-- what is there once the bytes off to end that are in blocks below j have been read into buf
pub record Got (img buf : List ℕ) (n off end j : ℕ) (out : List ℕ) : Type 0 where
  pub len : length out ≡ length buf
  pub here : (o : ℕ) → off ≤ o → o < end → o < 4096 * j → byte out (o - off) ≡ file_byte img n o
  pub rest : (k : ℕ) → (off + k < end → off + k < 4096 * j → ⊥) → byte out k ≡ byte buf k

module _ (img buf : List ℕ) (n off end : ℕ) where
  begin : Got img buf n off end 0 buf
  begin = record { len = refl; here = λ o a b c. absurd (omega arith); rest = λ k h. refl }

  skip : (i j : ℕ) (x : List ℕ) → i ≤ j → ((o : ℕ) → off ≤ o → o < end → 4096 * i ≤ o → o < 4096 * j → ⊥)
      → Got img buf n off end i x → Got img buf n off end j x
  skip i j x ij none g =
      record {
        len = g.len;
        here = λ o a b c. go o a b c (dec_lt o (4096 * i));
        rest = λ k h. g.rest k (λ a b. h a (omega arith));
      }
    where
      go : (o : ℕ) → off ≤ o → o < end → o < 4096 * j → Dec (o < 4096 * i) → byte x (o - off) ≡ file_byte img n o
      go o a b c (yes l) = g.here o a b l
      go o a b c (no m) = absurd (none o a b (omega arith) c)

-- ---- a piece

module _
    (img buf : List ℕ)
    (n off end : ℕ)
    (ordered : off ≤ end)
    (room : end - off ≤ length buf)
    (j : ℕ)
    (x : List ℕ)
    (lo k : ℕ)
    (start : 4096 * j + lo ≡ max off (4096 * j))
    (stop : 4096 * j + lo + k ≡ min end (4096 * j + 4096))
    (g : Got img buf n off end j x)
  where
    abbrev out : List ℕ
    out = copied x (4096 * j + lo - off) img (4096 * data_at img n j + lo) k

    fits : 4096 * j + lo - off + k ≤ length x
    fits = omega (arith, g.len)

    piece_here : (o : ℕ) → off ≤ o → o < end → o < 4096 * suc j → Dec (o < 4096 * j) → byte out (o - off) ≡ file_byte img n o
    piece_here o a b c (yes l) = byte-copied_off x _ img _ k (o - off) (λ p q. omega arith) ∙ g.here o a b l
    piece_here o a b c (no m) =
        let r = o - (4096 * j + lo) in
        let place : o - off ≡ 4096 * j + lo - off + r = omega arith in
        let which : o / 4096 ≡ j = omega arith in
        let byte_of : o % 4096 ≡ lo + r = omega arith in
        let same : 4096 * data_at img n j + lo + r ≡ 4096 * data_at img n j + (lo + r) = omega arith in
        rw (place, file_byte_at img n o, which, byte_of) (byte-copied_in x _ img _ k r fits (omega arith) ∙ ap (byte img) same)

    piece_got : Got img buf n off end (suc j) out
    piece_got =
        record {
          len = length-copied x _ img _ k ∙ g.len;
          here = λ o a b c. piece_here o a b c (dec_lt o (4096 * j));
          rest = λ i h. byte-copied_off x _ img _ k i (λ p q. h (omega arith) (omega arith)) ∙ g.rest i (λ a b. h a (omega arith));
        }

-- ---- the whole

module _
    (img : List ℕ)
    (nb n off end : ℕ)
    (buf : List ℕ)
    (card : Readable img nb n)
    (ordered : off ≤ end)
    (inside : end ≤ 4096 * count img n)
    (room : end - off ≤ length buf)
  where
    step : (j : ℕ) (x : List ℕ) → j < count img n → off < 4096 * j + 4096 → 4096 * j < end → Got img buf n off end j x
        → Got img buf n off end (suc j) (piece_read img nb (data_at img n j) off end j x)
    step j x l a b g =
        rw (lt-ltb (data_at img n j) nb (card.data_blocks j l))
        (piece_got img buf n off end ordered room j x (piece_lo off j) (piece_hi end j - piece_lo off j) (piece_start off j) (piece_stop off end j ordered a b) g)

    got : Got img buf n off end 1049612 (read_into img nb n off end buf)
    unfolding run_read direct_read indirect_read level_read double_read read_into
    got =
        walk img nb n off end (λ b j y. piece_read img nb b off end j y) (λ y. img) (Got img buf n off end) card ordered inside
        (skip img buf n off end) step (λ j x p m a h b c. refl) buf (begin img buf n off end)

    pub read_here : (k : ℕ) → k < end - off → byte (read_into img nb n off end buf) k ≡ file_byte img n (off + k)
    read_here k l =
        let same : off + k - off ≡ k = omega arith in
        rw same at (got.here (off + k) (omega arith) (omega arith) (omega (arith, card.few)))

    pub read_rest : (k : ℕ) → end - off ≤ k → byte (read_into img nb n off end buf) k ≡ byte buf k
    read_rest k l = got.rest k (λ a b. omega arith)
