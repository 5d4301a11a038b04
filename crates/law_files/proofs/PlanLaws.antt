-- The plan of a growth on a sound card: every block of it is a block of the card, none is the superblock's or the map's, and no two places share one.
-- Assumes nothing.
use mathlib.Core.Path.{◌≡◌, refl, sym, ap, ◌∙◌}
use mathlib.Core.Logic.{◌≢◌}
use mathlib.Core.List.{List}
use Prim.Native.Nat.{ℕ, ◌+◌, ◌-◌, ◌*◌, ◌≤◌, ◌<◌}
use native.Mathlib.Omega.{arith}
use native.Mathlib.Decide.{dec_lt}
use lib.Dec.{ltb}
use Rattle.std.proofs.lemmas.Grind.{common_steps}
use Rattle.words.specs.Words.{pick}
use Rattle.words.specs.Sums.{cnt}
use Rattle.words.proofs.Sums.{sum_on_term}
use Rattle.card_layout.specs.Super.{blocks, unused, maps}
use Rattle.card_layout.specs.Inode.{count}
use Rattle.card_layout.specs.Slots.{seconds, owned}
use Rattle.card_map.specs.Bits.{map_bit, free_bits}
use Rattle.card_rules.specs.Places.{Place, at_inode, at_indirect, at_double, at_second, at_data, held, InUse}
use Rattle.card_rules.specs.Whole.{Sound}
use Rattle.card_rules.proofs.Views.{seconds_mono, owned_parts, owned_least}
use Rattle.card_rules.proofs.Cells.{held-owned}
use Rattle.card_rules.proofs.Owners.{held_below, owned_taken, places_differ, not_zero, not_map, free_not_zero, free_not_map}
use Rattle.card_rules.proofs.Counting.{set_and_owned}
use Rattle.card_rules.proofs.Kept.{bit_of_lem}
use Rattle.file_blocks.proofs.Picks.{pick_yes, pick_no, gap_over}
use Rattle.file_grow.proofs.Taken.{nth_free, nth_free_lem, nth_below}
use Rattle.file_grow.proofs.Runs.{Clear}
use Rattle.law_files.proofs.Plan.{Had, had_in_use, in_use_had, new_one, new_two, turn_of, planned, more, Planning}
use Rattle.law_files.proofs.Tables.{block_clear}

-- ---- places

from_dec : (m c : ℕ) → Dec (m ≤ c)
from_dec m c = grind (arith, common_steps)

pub had_dec : (c : ℕ) (p : Place) → Dec (Had c p)
had_dec c at_inode = yes tt
had_dec c at_indirect = from_dec 12 c
had_dec c at_double = from_dec 1036 c
had_dec c (at_second j) = dec_lt j (seconds c)
had_dec c (at_data i) = dec_lt i c

pub used_dec : (img : List ℕ) (n : ℕ) (p : Place) → Dec (InUse img n p)
used_dec img n p = go (had_dec (count img n) p)
  where
    go : Dec (Had (count img n) p) → Dec (InUse img n p)
    go (yes h) = yes (had_in_use img n p h)
    go (no h) = no (λ u. h (in_use_had img n p u))

-- ---- turns

module _ (a b : ℕ) (up : a ≤ b) where
  -- what a file has from m blocks on: one of b blocks has it where one of a blocks has it or gets it
  gap : (m : ℕ) → pick (ltb b m) 0 1 ≡ pick (ltb a m) (pick (ltb b m) 0 1) 0 + pick (ltb a m) 0 1
  gap m = grind (arith, common_steps)

  -- how many turns there are
  pub turns_all : owned b - owned a ≡ new_one a b + new_two a b + (seconds b - seconds a) + (b - a)
  turns_all = omega (arith, owned_parts a, owned_parts b, gap 12, gap 1036, seconds_mono a b up)

  pub turn_below : (p : Place) → Had b p → (Had a p → ⊥) → turn_of a b p < owned b - owned a
  turn_below at_inode h d = absurd (d tt)
  turn_below at_indirect h d = omega (arith, turns_all, gap_over {A = ℕ} 12 a b 0 1 (omega arith) h)
  turn_below at_double h d = omega (arith, turns_all, gap_over {A = ℕ} 1036 a b 0 1 (omega arith) h)
  turn_below (at_second j) h d = omega (arith, turns_all)
  turn_below (at_data i) h d = omega (arith, turns_all)

  -- the place whose turn it is
  abbrev place_of : ℕ → Place
  place_of t =
      let one : ℕ = new_one a b in
      let two : ℕ = one + new_two a b in
      let level : ℕ = two + (seconds b - seconds a) in
      pick (ltb t one) at_indirect (pick (ltb t two) at_double (pick (ltb t level) (at_second (t - two + seconds a)) (at_data (t - level + a))))

  place_turn : (p : Place) → Had b p → (Had a p → ⊥) → place_of (turn_of a b p) ≡ p
  place_turn at_inode h d = absurd (d tt)
  place_turn at_indirect h d = pick_yes 0 (new_one a b) _ _ (omega (arith, gap_over {A = ℕ} 12 a b 0 1 (omega arith) h))
  place_turn at_double h d =
      pick_no (new_one a b) (new_one a b) _ _ (omega arith)
      ∙ pick_yes (new_one a b) (new_one a b + new_two a b) _ _ (omega (arith, gap_over {A = ℕ} 1036 a b 0 1 (omega arith) h))
  place_turn (at_second j) h d =
      let two : ℕ = new_one a b + new_two a b in
      let e : two + (j - seconds a) - two + seconds a ≡ j = omega arith in
      pick_no (two + (j - seconds a)) (new_one a b) _ _ (omega arith)
      ∙ pick_no (two + (j - seconds a)) two _ _ (omega arith)
      ∙ pick_yes (two + (j - seconds a)) (two + (seconds b - seconds a)) _ _ (omega arith)
      ∙ ap at_second e
  place_turn (at_data i) h d =
      let level : ℕ = new_one a b + new_two a b + (seconds b - seconds a) in
      let e : level + (i - a) - level + a ≡ i = omega arith in
      pick_no (level + (i - a)) (new_one a b) _ _ (omega arith)
      ∙ pick_no (level + (i - a)) (new_one a b + new_two a b) _ _ (omega arith)
      ∙ pick_no (level + (i - a)) level _ _ (omega arith)
      ∙ ap at_data e

  pub turn_apart : (p q : Place) → Had b p → (Had a p → ⊥) → Had b q → (Had a q → ⊥) → turn_of a b p ≡ turn_of a b q → p ≡ q
  turn_apart p q h d k c e = sym (place_turn p h d) ∙ ap place_of e ∙ place_turn q k c

-- ---- blocks

-- the i-th and the j-th free block are one block only where i is j
pub nth_same : (nb : ℕ) (img : List ℕ) (i j : ℕ) → i < free_bits img nb → j < free_bits img nb → nth_free nb img i ≡ nth_free nb img j → i ≡ j
nth_same nb img i j h k e = sym (nth_below nb img i h).1 ∙ ap (free_bits img) e ∙ (nth_below nb img j k).1

module _ (img l : List ℕ) (s : Sound img l) (n : ℕ) (h : 0 < cnt n l) (b : ℕ) (up : count img n ≤ b)
    (room : owned b ≤ owned (count img n) + unused img) where
  few : b < 32768
  few =
      omega (
        arith,
        owned_least b,
        set_and_owned img l s,
        sum_on_term (λ k. 1 + owned (count img k)) n l h,
        s.sized.many,
      )

  one_map : 0 < maps img
  one_map = omega (arith, bit_of_lem img s.sized 0 (omega (arith, s.sized.few)))

  enough : more img n b ≤ free_bits img (blocks img)
  enough = omega (arith, s.free)

  old : (p : Place) → InUse img n p → planned img n b p ≡ held img n p
  old at_inode u = refl
  old at_indirect u = pick_no (count img n) 12 _ _ u
  old at_double u = pick_no (count img n) 1036 _ _ u
  old (at_second j) u = pick_yes j (seconds (count img n)) _ _ u
  old (at_data i) u = pick_yes i (count img n) _ _ u

  module _ (p : Place) (a : Had b p) (d : InUse img n p → ⊥) where
    not_had : Had (count img n) p → ⊥
    not_had x = d (had_in_use img n p x)

    turn_low : turn_of (count img n) b p < more img n b
    turn_low = turn_below (count img n) b up p a not_had

    turn_free : turn_of (count img n) b p < free_bits img (blocks img)
    turn_free = omega (arith, turn_low, enough)

  new : (p : Place) → Had b p → (InUse img n p → ⊥) → planned img n b p ≡ nth_free (blocks img) img (turn_of (count img n) b p)
  new at_inode a d = absurd (d tt)
  new at_indirect a d = pick_yes (count img n) 12 _ _ (omega arith)
  new at_double a d = pick_yes (count img n) 1036 _ _ (omega arith)
  new (at_second j) a d = pick_no j (seconds (count img n)) _ _ (omega arith)
  new (at_data i) a d = pick_no i (count img n) _ _ (omega arith)

  module _ (p : Place) (a : Had b p) (d : InUse img n p → ⊥) where
    new_below : planned img n b p < blocks img
    new_below = rw (new p a d) (nth_below (blocks img) img (turn_of (count img n) b p) (turn_free p a d)).0

    free : map_bit img (planned img n b p) ≡ 1
    free = grind (arith, common_steps, nth_free_lem, nth_below, turn_free)

  old_taken : (p : Place) → InUse img n p → map_bit img (planned img n b p) ≡ 0
  old_taken p u = rw (old p u) (owned_taken img l s n (held img n p) h (held-owned img n p u))

  below : (p : Place) → Had b p → planned img n b p < blocks img
  below p a = go (used_dec img n p)
    where
      go : Dec (InUse img n p) → planned img n b p < blocks img
      go (yes u) = rw (old p u) (held_below img l s n p h u)
      go (no d) = new_below p a d

  clear : (p : Place) → Had b p → Clear (4096 * planned img n b p) 4096
  clear p a = go (used_dec img n p)
    where
      go : Dec (InUse img n p) → Clear (4096 * planned img n b p) 4096
      go (yes u) = rw (old p u) (block_clear (held img n p) (not_zero img l s n p h u) (not_map img l s n p h u 0 one_map))
      go (no d) =
          let x : ℕ = planned img n b p in
          block_clear x (free_not_zero img l s x (new_below p a d) (free p a d)) (free_not_map img l s x (new_below p a d) (free p a d) 0 one_map)

  apart : (p q : Place) → Had b p → Had b q → (p ≡ q → ⊥) → planned img n b p ≢ planned img n b q
  apart p q a c d e = go (used_dec img n p) (used_dec img n q)
    where
      go : Dec (InUse img n p) → Dec (InUse img n q) → ⊥
      go (yes u) (yes v) = d (places_differ img l s n n p q h h u v (sym (old p u) ∙ e ∙ old q v)).1
      go (yes u) (no v) = omega (arith, old_taken p u, free q c v, ap (map_bit img) e)
      go (no u) (yes v) = omega (arith, old_taken q v, free p a u, ap (map_bit img) e)
      go (no u) (no v) =
          d (turn_apart (count img n) b up p q a (not_had p a u) c (not_had q c v)
          (nth_same (blocks img) img (turn_of (count img n) b p) (turn_of (count img n) b q) (turn_free p a u) (turn_free q c v)
          (sym (new p a u) ∙ e ∙ new q c v)))

  pub planning : Planning img n b
  planning =
      record { few = few; old = old; new = new; turn_low = turn_low; free = free; below = below; clear = clear; apart = apart }
