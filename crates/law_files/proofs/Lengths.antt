-- A length change that is not refused, whole: it grows, it shrinks, or its block count stays. Assumes nothing.
use mathlib.Core.Path.{◌≡◌, ap, ◌∙◌}
use mathlib.Core.List.{List}
use Prim.Native.Nat.{ℕ, ◌+◌, ◌≤◌, ◌<◌}
use native.Mathlib.Omega.{arith}
use native.Mathlib.Decide.{dec_lt}
use Rattle.words.specs.Words.{Bytes}
use Rattle.words.specs.Sums.{cnt}
use Rattle.card_layout.specs.Sizes.{blocks_for}
use Rattle.card_layout.specs.Super.{blocks, unused}
use Rattle.card_layout.specs.Inode.{size, kind, count, kind_no}
use Rattle.card_layout.specs.Slots.{owned}
use Rattle.card_layout.specs.declared.inode.FileType.{FileType}
use Rattle.card_layout.proofs.InodeLaws.{inode_at}
use Rattle.card_rules.specs.Whole.{Sound}
use Rattle.file_requests.specs.Resizing.{fitted, new_zero, resized}
use Rattle.file_requests.specs.Requests.{longest, needs}
use Rattle.file_requests.proofs.Changes.{fitted_up, fitted_down, fitted_within, new_some, new_none, resized_is}
use Rattle.law_files.proofs.Change.{Changed}
use Rattle.law_files.proofs.Resized.{Resized, resized_new, resized_still}
use Rattle.law_files.proofs.PlanLaws.{planning}
use Rattle.law_files.proofs.Pointed.{pointed}
use Rattle.law_files.proofs.Lengthened.{grows}
use Rattle.law_files.proofs.GrownCard.{grown_changed}
use Rattle.law_files.proofs.Shortened.{shorter_changed, same_changed}

module _ (img l : List ℕ) (s : Sound img l) (bytes : Bytes img) (n : ℕ) (h : 0 < cnt n l) (k : FileType) (e : kind img n ≡ kind_no k) (len : ℕ)
    (short : len ≤ longest) (room : needs (count img n) len ≤ unused img) where
  up : count img n < blocks_for len → Changed img (fitted (blocks img) n (inode_at img n k) len img) n len
  up u =
      let r : owned (blocks_for len) ≤ owned (count img n) + unused img = omega arith in
      let plan = planning img l s n h (blocks_for len) (omega arith) r in
      rw (fitted_up (blocks img) n (inode_at img n k) len img u)
      (grown_changed s h u r
      (grows img l s bytes n h len (omega arith) u r plan k e (pointed img l s bytes n h (blocks_for len) u r plan k)))

  not_up : blocks_for len ≤ count img n → Dec (blocks_for len < count img n) → Changed img (fitted (blocks img) n (inode_at img n k) len img) n len
  not_up d (yes u) = rw (fitted_down (blocks img) n (inode_at img n k) len img u) (shorter_changed img l s bytes n h len (omega arith) k e u)
  not_up d (no u) =
      rw (fitted_within (blocks img) n (inode_at img n k) len img (omega arith)) (same_changed img l s bytes n h len (omega arith) k e (omega arith))

  -- the new length, before any byte is zeroed
  pub fitted_changed : Changed img (fitted (blocks img) n (inode_at img n k) len img) n len
  fitted_changed = go (dec_lt (count img n) (blocks_for len))
    where
      go : Dec (count img n < blocks_for len) → Changed img (fitted (blocks img) n (inode_at img n k) len img) n len
      go (yes u) = up u
      go (no u) = not_up (omega arith) (dec_lt (blocks_for len) (count img n))

  pub fitted-count : count (fitted (blocks img) n (inode_at img n k) len img) n ≡ blocks_for len
  fitted-count = fitted_changed.balanced.inode.shape.counted ∙ ap blocks_for fitted_changed.size_is

  abbrev mid : List ℕ
  mid = fitted (blocks img) n (inode_at img n k) len img

  -- with the new bytes up to z zero
  pub zeroed_change : (z : ℕ) → z ≤ len → Resized img (new_zero (blocks img) n (inode_at img n k) z (fitted (blocks img) n (inode_at img n k) len img)) n len z
  zeroed_change z below = go (dec_lt (size img n) z)
    where
      go : Dec (size img n < z) → Resized img (new_zero (blocks img) n (inode_at img n k) z mid) n len z
      go (yes u) = rw (new_some (blocks img) n (inode_at img n k) z mid u) (resized_new s h u below fitted_changed)
      go (no u) = rw (new_none (blocks img) n (inode_at img n k) z mid (omega arith)) (resized_still s h (omega arith) fitted_changed)

  pub length_change : Resized img (resized (blocks img) n (inode_at img n k) len img) n len len
  length_change = rw (resized_is (blocks img) n (inode_at img n k) len img) (zeroed_change len (omega arith))
