-- The bytes of files after a part of one has been filled: its own, and those of every file that shares no block with its data. Assumes nothing.
use Prim.Native.Nat.{ℕ, ◌+◌, ◌-◌, ◌*◌, ◌/◌, ◌%◌, ◌≤◌, ◌<◌}
use mathlib.Core.Path.{◌≡◌, sym, ap, ◌∙◌}
use mathlib.Core.Logic.{⊎_elim, ◌≢◌}
use mathlib.Core.Bool.{Bool}
use mathlib.Core.List.{List}
use native.Mathlib.Omega.{arith}
use native.Mathlib.Decide.{ℕ_discrete}
use lib.ListN.{length}
use Rattle.words.specs.Words.{byte, word}
use Rattle.words.proofs.Numbers.{num_frame}
use Rattle.card_layout.specs.Inode.{count, indirect, double}
use Rattle.card_layout.specs.Slots.{seconds}
use Rattle.card_rules.specs.View.{second, data_at, file_byte}
use Rattle.card_rules.proofs.Views.{data_direct, data_indirect, data_double, seconds_some, file_byte_at, ranges}
use Rattle.file_blocks.specs.Bytes.{filled}
use Rattle.file_blocks.proofs.Walk.{Readable, Pointer, own, first, top, table}
use Rattle.file_fill.proofs.FillBytes.{Separate, comes, spot, filled_here, filled_rest, filled_other, filled_slots}

-- ---- where the slots of a file are as they were, so are its data blocks' numbers

module _
    (img out : List ℕ)
    (n : ℕ)
    (few : count img n ≤ 1048576)
    (same : (m a : ℕ) → Pointer img n m → 4096 * m ≤ a → a + 4 ≤ 4096 * m + 4096 → word out a ≡ word img a)
  where
    pub count_kept : count out n ≡ count img n
    count_kept = same n (4096 * n + 8) own (omega arith) (omega arith)

    indirect_kept : indirect out n ≡ indirect img n
    indirect_kept = same n (4096 * n + 60) own (omega arith) (omega arith)

    double_kept : double out n ≡ double img n
    double_kept = same n (4096 * n + 64) own (omega arith) (omega arith)

    pub data_kept : (i : ℕ) → i < count img n → data_at out n i ≡ data_at img n i
    data_kept i l = ⊎_elim low (⊎_elim mid high) (ranges i)
      where
        low : i < 12 → data_at out n i ≡ data_at img n i
        low h = data_direct out n i h ∙ same n (4096 * n + 12 + 4 * i) own (omega arith) (omega arith) ∙ sym (data_direct img n i h)

        mid : (12 ≤ i) × (i < 1036) → data_at out n i ≡ data_at img n i
        mid h =
            rw (data_indirect out n i h.0 h.1, data_indirect img n i h.0 h.1, indirect_kept)
            (same (indirect img n) (4096 * indirect img n + 4 * (i - 12)) (first (omega arith)) (omega arith) (omega arith))

        high : 1036 ≤ i → data_at out n i ≡ data_at img n i
        high h =
            let q = (i - 1036) / 1024 in
            let lev : q < seconds (count img n) = omega (arith, seconds_some (count img n) (omega arith)) in
            let table_kept : word out (4096 * double img n + 4 * q) ≡ second img n q =
            same (double img n) (4096 * double img n + 4 * q) (top (omega arith)) (omega arith) (omega arith) in
            rw (data_double out n i h (omega arith), data_double img n i h (omega arith), double_kept, table_kept)
            (same (second img n q) (4096 * second img n q + 4 * ((i - 1036) % 1024)) (table q lev) (omega arith) (omega arith))

-- ---- the file that is filled

module _
    (z : Bool)
    (src img : List ℕ)
    (nb n off end : ℕ)
    (card : Readable img nb n)
    (apart : Separate img n)
    (ordered : off ≤ end)
    (inside : end ≤ 4096 * count img n)
    (long : 4096 * nb ≤ length img)
  where
    abbrev pub out : List ℕ
    out = filled z src nb n off end img

    slots : (m a : ℕ) → Pointer img n m → 4096 * m ≤ a → a + 4 ≤ 4096 * m + 4096 → word out a ≡ word img a
    slots = filled_slots z src img nb n off end card apart ordered inside long

    pub filled_data : (i : ℕ) → i < count img n → data_at out n i ≡ data_at img n i
    filled_data = data_kept img out n card.few slots

    file_spot : (o : ℕ) → o < 4096 * count img n → file_byte out n o ≡ byte out (spot img n o)
    file_spot o l = rw (file_byte_at out n o, filled_data (o / 4096) (omega arith))

    -- its bytes off to end are those that were to come
    pub file_here : (k : ℕ) → k < end - off → file_byte out n (off + k) ≡ comes z src k
    file_here k l = file_spot (off + k) (omega arith) ∙ filled_here z src img nb n off end card apart ordered inside long k l

    -- and its others are as they were
    pub file_rest : (o : ℕ) → o < 4096 * count img n → (off ≤ o → o < end → ⊥) → file_byte out n o ≡ file_byte img n o
    file_rest o l h =
        file_spot o l
        ∙ filled_rest z src img nb n off end card apart ordered inside long (spot img n o) (λ k lt. away (off + k) (omega arith) (λ e. h (omega arith) (omega arith)))
        ∙ sym (file_byte_at img n o)
      where
        away : (p : ℕ) → p < 4096 * count img n → o ≢ p → spot img n o ≢ spot img n p
        away p lp d = go (ℕ_discrete (o / 4096) (p / 4096))
          where
            go : Dec (o / 4096 ≡ p / 4096) → spot img n o ≢ spot img n p
            go (yes e) f =
                let b = ap (data_at img n) e in
                d (omega arith)
            go (no m) f = apart_spots (data_at img n (o / 4096)) (data_at img n (p / 4096)) (o % 4096) (p % 4096) (omega arith) (omega arith)
                (apart.off_others (o / 4096) (p / 4096) (omega arith) (omega arith) m) f
              where
                apart_spots : (a b r s : ℕ) → r < 4096 → s < 4096 → a ≢ b → 4096 * a + r ≢ 4096 * b + s
                apart_spots a b r s hr hs ne e = omega arith

    -- ---- another file, whose slots and data are in no data block of this one

    module _
        (m : ℕ)
        (few : count img m ≤ 1048576)
        (off-slots : (b : ℕ) → Pointer img m b → (i : ℕ) → i < count img n → data_at img n i ≢ b)
        (off-data : (k i : ℕ) → k < count img m → i < count img n → data_at img n i ≢ data_at img m k)
      where
        other_slots : (b a : ℕ) → Pointer img m b → 4096 * b ≤ a → a + 4 ≤ 4096 * b + 4096 → word out a ≡ word img a
        other_slots b a t l u =
            num_frame 4 out img a (λ p q r. filled_other z src img nb n off end card apart ordered inside long b p (off-slots b t) (omega arith) (omega arith))

        pub other_data : (i : ℕ) → i < count img m → data_at out m i ≡ data_at img m i
        other_data = data_kept img out m few other_slots

        pub other_file : (o : ℕ) → o < 4096 * count img m → file_byte out m o ≡ file_byte img m o
        other_file o l =
            rw (file_byte_at out m o, file_byte_at img m o, other_data (o / 4096) (omega arith))
            (filled_other z src img nb n off end card apart ordered inside long (data_at img m (o / 4096)) (spot img m o)
            (λ i h. off-data (o / 4096) i (omega arith) h) (omega arith) (omega arith))
