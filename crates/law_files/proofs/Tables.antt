-- The pointer blocks of a growing file that list data: how a run goes on in one of them. H is the block of each place; a the block count before, b the one
-- after; K blocks have been taken before the first of data. Assumes nothing.
use mathlib.Core.Path.{◌≡◌, sym, ap, ◌∙◌}
use mathlib.Core.Logic.{◌≢◌}
use mathlib.Core.List.{List}
use Prim.Native.Nat.{ℕ, zero, suc, ◌+◌, ◌-◌, ◌*◌, ◌/◌, ◌%◌, ◌≤◌, ◌<◌}
use native.Mathlib.Omega.{arith}
use Rattle.std.proofs.lemmas.Grind.{common_steps}
use Rattle.words.specs.Words.{byte, word}
use Rattle.words.specs.Inner.{Apart}
use Rattle.words.proofs.Numbers.{num_frame}
use Rattle.card_layout.specs.Super.{unused}
use Rattle.card_layout.specs.Slots.{seconds}
use Rattle.card_map.specs.Bits.{free_bits}
use Rattle.card_rules.specs.Places.{Place, at_indirect, at_double, at_second, at_data}
use Rattle.card_rules.proofs.Cells.{rank}
use Rattle.card_rules.proofs.Views.{seconds_some, seconds_many, seconds_reach}
use Rattle.file_blocks.specs.Inner.{Sizes}
use Rattle.file_blocks.specs.Taking.{Cursor, grow_run}
use Rattle.file_grow.proofs.Taken.{nth_free, TookLowest}
use Rattle.file_grow.proofs.Runs.{Clear, Ran, ran}
use Rattle.law_files.proofs.Plan.{Had}

-- ---- the pointer blocks that list data: the indirect one, and then the second level

abbrev pub table_of : ℕ → Place
table_of zero = at_indirect
table_of (suc q) = at_second q

pub table_rank : (t : ℕ) → (0 < rank (table_of t)) × (rank (table_of t) < 4) × (rank (table_of t) ≢ 2)
table_rank zero = (omega arith, omega arith, λ e. omega arith)
table_rank (suc q) = (omega arith, omega arith, λ e. omega arith)

-- that of block i
pub table_first : (i : ℕ) → 12 ≤ i → i < 1036 → table_of ((i - 12) / 1024) ≡ at_indirect
table_first i h l = let e : (i - 12) / 1024 ≡ 0 = omega arith in ap table_of e

pub table_second : (i : ℕ) → 1036 ≤ i → table_of ((i - 12) / 1024) ≡ at_second ((i - 1036) / 1024)
table_second i h = let e : (i - 12) / 1024 ≡ suc ((i - 1036) / 1024) = omega arith in ap table_of e

pub had_table : (b i : ℕ) → 12 ≤ i → i < b → Had b (table_of ((i - 12) / 1024))
had_table b i h l = grind (arith, common_steps, table_second, seconds_reach)

-- a block that is neither the superblock's nor the map's
pub block_clear : (x : ℕ) → x ≢ 0 → x ≢ 2 → Clear (4096 * x) 4096
block_clear x z m = record { count = λ p q. omega arith; map = λ p q. omega arith }

-- a part of a block
pub clear_in : (x at k : ℕ) → Clear (4096 * x) 4096 → 4096 * x ≤ at → at + k ≤ 4096 * x + 4096 → Clear at k
clear_in x at k c h l = record { count = λ p q. c.count (omega arith) (omega arith); map = λ p q. c.map (omega arith) (omega arith) }

-- parts of two blocks
pub blocks_apart : (x y p k at w : ℕ) → x ≢ y → 4096 * x ≤ p → p + k ≤ 4096 * x + 4096 → 4096 * y ≤ at → at + w ≤ 4096 * y + 4096
    → Apart p k at w
blocks_apart x y p k at w d h l h' l' u v = omega arith

-- ---- what is known of H, and of the card on the way

pub record Seats (nb K a b : ℕ) (img : List ℕ) (H : Place → ℕ) : Type 0 where
  pub few : b < 32768
  pub up : a < b
  pub room : K + (b - a) ≤ free_bits img nb
  pub new : (i : ℕ) → a ≤ i → i < b → H (at_data i) ≡ nth_free nb img (K + (i - a))
  pub below : (p : Place) → Had b p → H p < nb
  pub clear : (p : Place) → Had b p → Clear (4096 * H p) 4096
  pub apart : (p q : Place) → Had b p → Had b q → p ≢ q → H p ≢ H q

-- where the number of data block i stands, past the direct slots
abbrev pub seat_of : (Place → ℕ) → ℕ → ℕ
seat_of H i = 4096 * H (table_of ((i - 12) / 1024)) + 4 * ((i - 12) % 1024)

-- c has the data blocks below m, and lists those past the direct slots
pub record Listed (nb K a b : ℕ) (img : List ℕ) (H : Place → ℕ) (m : ℕ) (c : Cursor) : Type 0 where
  pub took : TookLowest nb img (K + (m - a)) c
  pub table : (j : ℕ) → j < seconds b → word c.img (4096 * H at_double + 4 * j) ≡ H (at_second j)
  pub listed : (i : ℕ) → 12 ≤ i → i < m → word c.img (seat_of H i) ≡ H (at_data i)
  pub kept : (p : ℕ) → Clear p 1 → ((q : Place) → Had b q → 0 < rank q → rank q < 4 → Apart p 1 (4096 * H q) 4096) → byte c.img p ≡ byte img p

module _ {nb K a b : ℕ} {img : List ℕ} {H : Place → ℕ} (s : Seats nb K a b img H) where
  pub seconds-low : seconds b ≤ 1024
  seconds-low = grind (arith, common_steps, seconds_some, seconds_many)

  -- a word of a block of H stays where its bytes do
  pub word_kept : (x y : List ℕ) (p : Place) (o : ℕ) → Had b p → o < 1024
      → ((k : ℕ) → Clear k 1 → 4096 * H p + 4 * o ≤ k → k < 4096 * H p + 4 * o + 4 → byte y k ≡ byte x k)
      → word y (4096 * H p + 4 * o) ≡ word x (4096 * H p + 4 * o)
  word_kept x y p o h l e =
      num_frame 4 y x (4096 * H p + 4 * o) (λ k u v. e k (clear_in (H p) k 1 (s.clear p h) (omega arith) (omega arith)) u v)

  -- ---- a run in pointer block t, from slot m up to slot e

  module _ (sizes : Sizes img nb) (exact : unused img ≡ free_bits img nb) (t m e : ℕ) (c : Cursor) (h : Had b (table_of t))
      (low : 12 + 1024 * t ≤ m) (up : m ≤ e) (high : e ≤ 12 + 1024 * t + 1024) (old : a ≤ m) (new : e ≤ b)
      (f : Listed nb K a b img H m c) where
    at : ℕ
    at = 4096 * H (table_of t) + 4 * (m - (12 + 1024 * t))

    out : Cursor
    out = grow_run nb at (e - m) c

    r : Ran nb img (K + (m - a)) at (e - m) c out
    unfolding out at
    r =
        let l = s.below (table_of t) h in
        ran nb img sizes exact (K + (m - a)) at c f.took (e - m) (omega (arith, s.room))
        (clear_in (H (table_of t)) at (4 * (e - m)) (s.clear (table_of t) h) (omega arith) (omega arith))
        (omega (arith, sizes.long))

    -- the other blocks of H
    elsewhere : (p : Place) (o : ℕ) → Had b p → table_of t ≢ p → o < 1024 → word out.img (4096 * H p + 4 * o) ≡ word c.img (4096 * H p + 4 * o)
    unfolding at
    elsewhere p o hp d l =
        word_kept c.img out.img p o hp l
        (λ k clear u v. r.kept k clear (blocks_apart (H p) (H (table_of t)) k 1 at (4 * (e - m)) (s.apart p (table_of t) hp h (λ q. d (sym q)))
        (omega arith) (omega arith) (omega arith) (omega arith)))

    -- the slots before m
    before : (i : ℕ) → 12 ≤ i → i < m → word out.img (seat_of H i) ≡ word c.img (seat_of H i)
    unfolding at
    before i l u = grind (arith, common_steps, had_table, word_kept, r, elsewhere)

    -- and those from m on
    here : (i : ℕ) → m ≤ i → i < e → word out.img (seat_of H i) ≡ H (at_data i)
    unfolding at
    here i l u =
        let q : (i - 12) / 1024 ≡ t = omega arith in
        let place : seat_of H i ≡ at + 4 * (i - m) = omega (arith, ap (λ (x : ℕ). H (table_of x)) q) in
        let turn : K + (m - a) + (i - m) ≡ K + (i - a) = omega arith in
        ap (word out.img) place ∙ r.listed (i - m) (omega arith) ∙ ap (nth_free nb img) turn ∙ sym (s.new i (omega arith) (omega arith))

    pub fills : Listed nb K a b img H e (grow_run nb (4096 * H (table_of t) + 4 * (m - (12 + 1024 * t))) (e - m) c)
    unfolding out at
    fills = grind (arith, common_steps, r, elsewhere, seconds_many, seconds-low, before, here)
