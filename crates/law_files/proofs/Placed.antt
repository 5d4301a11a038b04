-- A file that grows, by its blocks: each place holds the block of the plan, and the lowest free blocks are gone from the map. `img` is the card before,
-- `out` the card after. Assumes nothing.
use mathlib.Core.Path.{◌≡◌, ◌∙◌}
use mathlib.Core.Logic.{◌≢◌}
use mathlib.Core.List.{List}
use Prim.Native.Nat.{ℕ, ◌+◌, ◌*◌, ◌≤◌, ◌<◌}
use native.Mathlib.Omega.{arith}
use Rattle.std.proofs.lemmas.Grind.{common_steps}
use Rattle.words.specs.Words.{Bytes}
use Rattle.words.specs.Sums.{cnt}
use Rattle.card_layout.specs.Sizes.{blocks_for}
use Rattle.card_layout.specs.Super.{blocks, unused, maps}
use Rattle.card_layout.specs.Inode.{size, kind, count, kind_no}
use Rattle.card_layout.specs.Slots.{owned}
use Rattle.card_layout.specs.declared.inode.FileType.{FileType}
use Rattle.card_layout.proofs.InodeLaws.{inode_at}
use Rattle.card_map.specs.Bits.{map_bit}
use Rattle.card_rules.specs.Whole.{Sound}
use Rattle.card_rules.specs.Places.{Place, held}
use Rattle.card_rules.proofs.Kept.{slots_few, bit_of_lem}
use Rattle.card_rules.proofs.Isolation.{WithinData, sound_one, data_slots, data_map}
use Rattle.file_grow.proofs.Taken.{nth_free, nth_below}
use Rattle.file_requests.specs.Resizing.{lengthened, cleaned, fitted, resized}
use Rattle.file_requests.proofs.Changes.{fitted_up, resized_is}
use Rattle.file_requests.specs.Requests.{longest, needs}
use Rattle.law_files.proofs.Change.{Changed}
use Rattle.law_files.proofs.Plan.{Had, had_in_use, planned, more, Planning, Grown}
use Rattle.law_files.proofs.PlanLaws.{planning}
use Rattle.law_files.proofs.Pointed.{pointed}
use Rattle.law_files.proofs.Lengthened.{grows}
use Rattle.law_files.proofs.GrownCard.{grown_changed}
use Rattle.law_files.proofs.Filling.{filled_within}
use Rattle.law_files.proofs.Resized.{held_is}

pub record Placed (img out : List ℕ) (n len : ℕ) : Type 0 where
  pub places : (p : Place) → Had (blocks_for len) p → held out n p ≡ planned img n (blocks_for len) p
  pub gone : (j : ℕ) → j < more img n (blocks_for len) → map_bit out (nth_free (blocks img) img j) ≡ 0
  pub others : (x : ℕ) → x < blocks img → ((j : ℕ) → j < more img n (blocks_for len) → x ≢ nth_free (blocks img) img j) → map_bit out x ≡ map_bit img x

module _ (img l : List ℕ) (s : Sound img l) (bytes : Bytes img) (n : ℕ) (h : 0 < cnt n l) (k : FileType) (e : kind img n ≡ kind_no k) (len : ℕ)
    (short : len ≤ longest) (room : needs (count img n) len ≤ unused img) (up : count img n < blocks_for len) where
  abbrev mid : List ℕ
  mid = lengthened (blocks img) n (inode_at img n k) len img

  enough : owned (blocks_for len) ≤ owned (count img n) + unused img
  enough = omega arith

  plan : Planning img n (blocks_for len)
  plan = planning img l s n h (blocks_for len) (omega arith) enough

  grown : Grown img mid n len
  grown = grows img l s bytes n h len (omega arith) up enough plan k e (pointed img l s bytes n h (blocks_for len) up enough plan k)

  changed : Changed img mid n len
  changed = grown_changed s h up enough grown

  mid_sound : Sound mid l
  mid_sound = sound_one s h changed.within changed.balanced

  same_blocks : blocks mid ≡ blocks img
  same_blocks = changed.balanced.steady.blocks_same

  -- the zeroing comes last, within its data
  zeroed : WithinData mid (cleaned (blocks img) n (size img n) len mid) n
  zeroed = grind (arith, common_steps, filled_within, mid_sound, changed)

  low : (x : ℕ) → x < blocks img → x < 32768 * maps mid
  low x q = bit_of_lem mid mid_sound.sized x (omega (arith, same_blocks))

  after : Placed img (cleaned (blocks img) n (size img n) len mid) n len
  after =
      record {
        places = λ p u.
            held_is (data_slots mid_sound h zeroed) (slots_few mid_sound n h) p (had_in_use mid n p (rw grown.count_is u)) ∙ grown.placed p u;
        gone = λ j q.
            (data_map mid_sound h zeroed).bits (nth_free (blocks img) img j) (low (nth_free (blocks img) img j) (nth_low j q)) ∙ grown.gone j q;
        others = λ x q d. (data_map mid_sound h zeroed).bits x (low x q) ∙ grown.others x (omega (arith, s.sized.many)) d;
      }
    where
      nth_low : (j : ℕ) → j < more img n (blocks_for len) → nth_free (blocks img) img j < blocks img
      nth_low j q = (nth_below (blocks img) img j (omega (arith, s.free, enough))).0

  -- without the zeroing
  pub fit_placed : Placed img (fitted (blocks img) n (inode_at img n k) len img) n len
  fit_placed = grind (arith, common_steps, fitted_up, grown)

  pub grow_placed : Placed img (resized (blocks img) n (inode_at img n k) len img) n len
  grow_placed = grind (arith, common_steps, resized_is, fitted_up, after)
