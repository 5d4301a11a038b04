-- A length change zeroes the bytes from the old size up to the new, and no others (RULES): every other byte of the file's blocks, those past the new size among
-- them, is what the card had there before. Assumes nothing.
use mathlib.Core.Path.{◌≡◌, sym, ap, ◌∙◌}
use mathlib.Core.Bool.{true}
use mathlib.Core.List.{List, []}
use Prim.Native.Nat.{ℕ, ◌+◌, ◌*◌, ◌/◌, ◌%◌, ◌≤◌, ◌<◌}
use native.Mathlib.Omega.{arith}
use native.Mathlib.Decide.{dec_lt}
use Rattle.words.specs.Words.{byte, Bytes}
use Rattle.words.specs.Sums.{cnt}
use Rattle.card_layout.specs.Sizes.{blocks_for}
use Rattle.card_layout.specs.Super.{blocks, unused}
use Rattle.card_layout.specs.Inode.{size, kind, count, kind_no}
use Rattle.card_layout.specs.Slots.{owned}
use Rattle.card_layout.specs.declared.inode.FileType.{FileType}
use Rattle.card_layout.proofs.InodeLaws.{inode_at}
use Rattle.card_rules.specs.View.{data_at}
use Rattle.card_rules.specs.Whole.{Sound}
use Rattle.card_rules.specs.Places.{at_data}
use Rattle.card_rules.proofs.Views.{file_byte_at}
use Rattle.card_rules.proofs.Cells.{rank}
use Rattle.card_rules.proofs.Owners.{held_below, not_zero, not_map}
use Rattle.card_rules.specs.Same.{SameBlock}
use Rattle.card_rules.proofs.Frames.{data_is}
use Rattle.card_rules.proofs.Isolation.{sound_one, data_slots}
use Rattle.file_requests.specs.Resizing.{cleaned, fitted, new_zero, resized}
use Rattle.file_requests.specs.Requests.{longest, needs}
use Rattle.file_requests.proofs.Changes.{fitted_up, new_some, new_none}
use Rattle.law_files.specs.Effects.{Stood}
use Rattle.law_files.proofs.Change.{Changed}
use Rattle.law_files.proofs.Plan.{Planning, Grown}
use Rattle.law_files.proofs.PlanLaws.{planning}
use Rattle.law_files.proofs.Pointed.{pointed}
use Rattle.law_files.proofs.Lengthened.{grows}
use Rattle.law_files.proofs.GrownCard.{grown_changed}
use Rattle.law_files.proofs.Lengths.{fitted_changed, fitted-count}
use Rattle.law_files.proofs.Filling.{filled_within, filled_stays}

-- ---- the block count grows: growth writes to pointer blocks and the record, and to no data block, new ones included

module _ {img mid l : List ℕ} {n len : ℕ} (s : Sound img l) (h : 0 < cnt n l) (up : count img n < blocks_for len)
    (room : owned (blocks_for len) ≤ owned (count img n) + unused img) (g : Grown img mid n len) where
  plan : Planning img n (blocks_for len)
  plan = planning img l s n h (blocks_for len) (omega arith) room

  changed : Changed img mid n len
  changed = grown_changed s h up room g

  m : Sound mid l
  m = sound_one s h changed.within changed.balanced

  data_kept : (i : ℕ) → i < blocks_for len → SameBlock img mid (data_at mid n i)
  data_kept i u =
      let v : i < count mid n = omega (arith, g.count_is) in
      let y = changed.balanced.steady in
      g.kept (data_at mid n i) (omega (arith, held_below mid l m n (at_data i) h v, y.blocks_same)) (not_zero mid l m n (at_data i) h v)
      (λ j b. not_map mid l m n (at_data i) h v j (omega (arith, y.maps_same)))
      (λ p a r e. plan.apart (at_data i) p u a (λ q. omega (arith, ap rank q)) (sym (g.placed (at_data i) u) ∙ e))

  grown_shows : (o : ℕ) → o < 4096 * blocks_for len → Stood img mid n o
  grown_shows o a = file_byte_at mid n o ∙ (data_kept (o / 4096) (omega arith)).bytes (o % 4096) (omega arith)

-- ---- zeroing afterwards

zero_shows : {img mid l : List ℕ} {n len z : ℕ} → Sound img l → 0 < cnt n l → size img n < z → z ≤ len → Changed img mid n len → (o : ℕ)
    → o < 4096 * blocks_for len → (size img n ≤ o → o < z → ⊥) → Stood img mid n o → Stood img (cleaned (blocks img) n (size img n) z mid) n o
zero_shows {img} {mid} {l} {n} {len} {z} s h u below c o a d q =
    let counted : count mid n ≡ blocks_for len = c.balanced.inode.shape.counted ∙ ap blocks_for c.size_is in
    let m = sound_one s h c.within c.balanced in
    let inside : z ≤ 4096 * count mid n = omega (arith, counted) in
    let w = filled_within m c.bytes n h true [] (size img n) z (omega arith) inside in
    let i = data_is (data_slots m h w) (o / 4096) (omega (arith, counted)) in
    rw (← c.balanced.steady.blocks_same)
    (filled_stays m c.bytes n h true [] (size img n) z (omega arith) inside o (omega (arith, counted)) d
    ∙ q
    ∙ ap (λ (x : ℕ). byte img (4096 * x + o % 4096)) (sym i))

-- ---- any length change, with the new bytes up to z zero

module _ (img l : List ℕ) (s : Sound img l) (bytes : Bytes img) (n : ℕ) (h : 0 < cnt n l) (k : FileType) (e : kind img n ≡ kind_no k) (len : ℕ)
    (short : len ≤ longest) (room : needs (count img n) len ≤ unused img) where
  abbrev mid : List ℕ
  mid = fitted (blocks img) n (inode_at img n k) len img

  c : Changed img (fitted (blocks img) n (inode_at img n k) len img) n len
  c = fitted_changed img l s bytes n h k e len short room

  counted : count (fitted (blocks img) n (inode_at img n k) len img) n ≡ blocks_for len
  counted = fitted-count img l s bytes n h k e len short room

  fitted_shows : (o : ℕ) → o < 4096 * blocks_for len → Stood img (fitted (blocks img) n (inode_at img n k) len img) n o
  fitted_shows o a = go (dec_lt (count img n) (blocks_for len))
    where
      go : Dec (count img n < blocks_for len) → Stood img mid n o
      go (yes u) =
          let r : owned (blocks_for len) ≤ owned (count img n) + unused img = omega arith in
          let p = planning img l s n h (blocks_for len) (omega arith) r in
          rw (fitted_up (blocks img) n (inode_at img n k) len img u)
          (grown_shows s h u r (grows img l s bytes n h len (omega arith) u r p k e (pointed img l s bytes n h (blocks_for len) u r p k)) o a)
      go (no u) =
          let i : o / 4096 < count img n = omega arith in
          let j : o / 4096 < count mid n = omega (arith, counted) in
          let same = c.places (at_data (o / 4096)) i j in
          file_byte_at mid n o
          ∙ ap (λ (x : ℕ). byte mid (4096 * x + o % 4096)) same
          ∙ (c.data_same (o / 4096) i j).bytes (o % 4096) (omega arith)
          ∙ ap (λ (x : ℕ). byte img (4096 * x + o % 4096)) (sym same)

  pub change_shows : (z : ℕ) → z ≤ len → (o : ℕ) → o < 4096 * blocks_for len → (size img n ≤ o → o < z → ⊥)
      → Stood img (new_zero (blocks img) n (inode_at img n k) z (fitted (blocks img) n (inode_at img n k) len img)) n o
  change_shows z below o a d = go (dec_lt (size img n) z)
    where
      go : Dec (size img n < z) → Stood img (new_zero (blocks img) n (inode_at img n k) z mid) n o
      go (no u) = rw (new_none (blocks img) n (inode_at img n k) z mid (omega arith)) (fitted_shows o a)
      go (yes u) = rw (new_some (blocks img) n (inode_at img n k) z mid u) (zero_shows s h u below c o a d (fitted_shows o a))

  pub resize_shows : (o : ℕ) → len ≤ o → o < 4096 * blocks_for len → Stood img (resized (blocks img) n (inode_at img n k) len img) n o
  unfolding resized
  resize_shows o a b = change_shows len (omega arith) o b (λ u v. omega arith)
