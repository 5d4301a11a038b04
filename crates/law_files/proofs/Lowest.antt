-- A file that grows takes the lowest free blocks: each lies below every block that is free afterwards. Assumes nothing.
use mathlib.Core.Path.{◌≡◌, sym, ap, ◌∙◌, subst}
use mathlib.Core.Bool.{true}
use mathlib.Core.List.{List, []}
use Prim.Native.Nat.{ℕ, ◌+◌, ◌≤◌, ◌<◌}
use native.Mathlib.Omega.{arith}
use native.Mathlib.Decide.{dec_lt}
use Rattle.std.proofs.lemmas.Grind.{common_steps}
use Rattle.words.specs.Words.{Bytes}
use Rattle.words.specs.Sums.{cnt}
use Rattle.words.proofs.Sums.{sum_to_next}
use Rattle.card_layout.specs.Sizes.{blocks_for}
use Rattle.card_layout.specs.Super.{blocks, unused}
use Rattle.card_layout.specs.Inode.{size, kind, count, kind_no}
use Rattle.card_layout.specs.Slots.{owned}
use Rattle.card_layout.specs.declared.inode.FileType.{FileType}
use Rattle.card_layout.proofs.InodeLaws.{inode_at}
use Rattle.card_map.specs.Bits.{map_bit, free_bits}
use Rattle.card_map.proofs.Map.{bit_below}
use Rattle.card_rules.specs.Whole.{Sound}
use Rattle.card_rules.specs.Places.{InUse}
use Rattle.card_rules.proofs.Frames.{count_is}
use Rattle.card_rules.proofs.Kept.{slots_few, bit_of_lem}
use Rattle.card_rules.proofs.Isolation.{WithinData, sound_one, data_slots, data_map}
use Rattle.file_grow.proofs.Taken.{nth_below, nth_free_lem, nth_of, nth_rising}
use Rattle.file_requests.specs.Resizing.{cleaned, fitted, new_zero, resized}
use Rattle.file_requests.proofs.Changes.{new_some, new_none}
use Rattle.file_requests.specs.Requests.{longest, needs}
use Rattle.law_files.specs.Effects.{Lowest}
use Rattle.law_files.proofs.Change.{Changed}
use Rattle.law_files.proofs.Plan.{Had, in_use_had, turn_of, more, Planning}
use Rattle.law_files.proofs.PlanLaws.{planning}
use Rattle.law_files.proofs.Placed.{Placed, fit_placed}
use Rattle.law_files.proofs.Filling.{filled_within}
use Rattle.law_files.proofs.Lengths.{fitted_changed, fitted-count}
use Rattle.law_files.proofs.Resized.{held_is, in_use_is}
use Rattle.law_files.proofs.Return.{in_use_more}

-- ---- by the plan

module _ {img out l : List ℕ} {n len : ℕ} (s : Sound img l) (h : 0 < cnt n l) (up : count img n < blocks_for len)
    (room : owned (blocks_for len) ≤ owned (count img n) + unused img) (counted : count out n ≡ blocks_for len) (w : Placed img out n len) where
  plan : Planning img n (blocks_for len)
  plan = planning img l s n h (blocks_for len) (omega arith) room

  -- as many are free
  enough : more img n (blocks_for len) ≤ free_bits img (blocks img)
  enough = omega (arith, s.free)

  -- the turn of a free block that was not taken comes after all that were
  after : (b : ℕ) → b < blocks img → map_bit out b ≡ 1 → (map_bit img b ≡ 1) × (more img n (blocks_for len) ≤ free_bits img b)
  after b q f = go (dec_lt (map_bit img b) 1)
    where
      late : map_bit img b ≡ 1 → Dec (free_bits img b < more img n (blocks_for len)) → more img n (blocks_for len) ≤ free_bits img b
      late e (no k) = omega arith
      late e (yes k) = absurd (omega (arith, w.gone (free_bits img b) k, ap (map_bit out) (nth_of (blocks img) img b q e)))

      go : Dec (map_bit img b < 1) → (map_bit img b ≡ 1) × (more img n (blocks_for len) ≤ free_bits img b)
      go (yes z) =
          absurd (omega (
            arith,
            w.others b q (λ j i e. omega (arith, ap (map_bit img) e, nth_free_lem (blocks img) img j (nth_below (blocks img) img j (omega (arith, enough))).0)),
          ))
      go (no z) = let e : map_bit img b ≡ 1 = omega (arith, bit_below img b) in (e, late e (dec_lt (free_bits img b) (more img n (blocks_for len))))

  placed_lowest : Lowest img out n
  placed_lowest p u new b q f =
      let had = subst (λ (c : ℕ). Had c p) counted (in_use_had out n p u) in
      let x = after b q f in
      let many : free_bits img b < free_bits img (blocks img) = omega (arith, sum_to_next (map_bit img) (blocks img) b q, x.0) in
      omega (
        arith,
        w.places p had,
        plan.new p had new,
        nth_rising (blocks img) img (turn_of (count img n) (blocks_for len) p) (free_bits img b) (omega (arith, plan.turn_low p had new, x.1)) many,
        nth_of (blocks img) img b q x.0,
      )

-- ---- a write in its data leaves the map and the places

pub data_lowest : (img : List ℕ) {mid out l : List ℕ} {n : ℕ} → Sound mid l → 0 < cnt n l → blocks mid ≡ blocks img → WithinData mid out n
    → Lowest img mid n → Lowest img out n
data_lowest img {mid} {out} {l} {n} m h same w f p u new b q free =
    let slots = data_slots m h w in
    let v : InUse mid n p = in_use_is mid out n (count_is slots.rec) p u in
    omega (
      arith,
      held_is slots (slots_few m n h) p v,
      f p v new b q (sym ((data_map m h w).bits b (bit_of_lem mid m.sized b (omega (arith, same)))) ∙ free),
    )

-- ---- any length change, with the new bytes up to z zero

module _ (img l : List ℕ) (s : Sound img l) (bytes : Bytes img) (n : ℕ) (h : 0 < cnt n l) (k : FileType) (e : kind img n ≡ kind_no k) (len : ℕ)
    (short : len ≤ longest) (room : needs (count img n) len ≤ unused img) where
  c : Changed img (fitted (blocks img) n (inode_at img n k) len img) n len
  c = fitted_changed img l s bytes n h k e len short room

  counted : count (fitted (blocks img) n (inode_at img n k) len img) n ≡ blocks_for len
  counted = fitted-count img l s bytes n h k e len short room

  fitted_lowest : Lowest img (fitted (blocks img) n (inode_at img n k) len img) n
  fitted_lowest = grind (arith, common_steps, placed_lowest, counted, fit_placed, in_use_more)

  pub change_lowest : (z : ℕ) → z ≤ len → Lowest img (new_zero (blocks img) n (inode_at img n k) z (fitted (blocks img) n (inode_at img n k) len img)) n
  change_lowest z below = go (dec_lt (size img n) z)
    where
      go : Dec (size img n < z) → Lowest img (new_zero (blocks img) n (inode_at img n k) z (fitted (blocks img) n (inode_at img n k) len img)) n
      go (no u) = rw (new_none (blocks img) n (inode_at img n k) z (fitted (blocks img) n (inode_at img n k) len img) (omega arith)) fitted_lowest
      go (yes u) =
          rw (new_some (blocks img) n (inode_at img n k) z (fitted (blocks img) n (inode_at img n k) len img) u)
          (zero_lowest u below c fitted_lowest)
        where
          zero_lowest : {mid : List ℕ} → size img n < z → z ≤ len → Changed img mid n len → Lowest img mid n
              → Lowest img (cleaned (blocks img) n (size img n) z mid) n
          zero_lowest {mid} i j x f =
              let m = sound_one s h x.within x.balanced in
              let d : count mid n ≡ blocks_for len = x.balanced.inode.shape.counted ∙ ap blocks_for x.size_is in
              let same = x.balanced.steady.blocks_same in
              subst (λ (y : ℕ). Lowest img (cleaned y n (size img n) z mid) n) same
              (data_lowest _ m h same (filled_within m x.bytes n h true [] (size img n) z (omega arith) (omega (arith, d))) f)

  pub resize_lowest : Lowest img (resized (blocks img) n (inode_at img n k) len img) n
  unfolding resized
  resize_lowest = change_lowest len (omega arith)
