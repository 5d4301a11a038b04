-- Filling a part of a file's bytes on a sound card: the card stays sound, nothing but the file's data changes, and its bytes are those that were to come.
-- Assumes nothing.
use mathlib.Core.Path.{◌≡◌}
use mathlib.Core.Bool.{Bool, true, false}
use mathlib.Core.List.{List}
use Prim.Native.Nat.{ℕ, ◌+◌, ◌-◌, ◌*◌, ◌≤◌, ◌<◌}
use lib.Dec.{ltb}
use Rattle.words.specs.Words.{pick, word, Bytes}
use Rattle.words.specs.Runs.{turns}
use Rattle.words.specs.Sums.{cnt}
use Rattle.words.proofs.Runs.{bytes_copied, bytes_zeroed, turns_keep}
use Rattle.card_layout.specs.Super.{blocks}
use Rattle.card_layout.specs.Inode.{count, indirect, double}
use Rattle.card_rules.specs.View.{file_byte}
use Rattle.card_rules.specs.Whole.{Sound}
use Rattle.card_rules.proofs.Frames.{block_from}
use Rattle.card_rules.proofs.Isolation.{WithinData, sound_data_write}
use Rattle.file_blocks.specs.Bytes.{put, piece_fill, run_fill, direct_fill, indirect_fill, level_fill, double_fill, filled}
use Rattle.file_blocks.proofs.Lengths.{length-filled}
use Rattle.file_blocks.proofs.Walk.{Readable}
use Rattle.file_fill.proofs.FillBytes.{Separate, comes, filled_other}
use Rattle.file_fill.proofs.FileBytes.{file_here, file_rest}
use Rattle.file_fill.proofs.Sound.{sound_readable, sound_separate}

-- ---- what each piece keeps, filling keeps: on any bytes

module _ (z : Bool) (src : List ℕ) (P : List ℕ → Type 0) (puts-keep : (at k from : ℕ) (x : List ℕ) → P x → P (put z src at k from x)) (nb off end : ℕ) where
  pick_keeps : (b : Bool) (x y : List ℕ) → P x → P y → P (pick b x y)
  pick_keeps true x y p q = p
  pick_keeps false x y p q = q

  loop_keeps : (f : ℕ → List ℕ → List ℕ) (i k : ℕ) (x : List ℕ) → ((j : ℕ) (y : List ℕ) → P y → P (f j y)) → P x → P (turns f i k x)
  loop_keeps f i k x h p = turns_keep f i x (λ j y. P y) p k (λ j y l q. h (i + j) y q)

  piece_keeps : (b j : ℕ) (x : List ℕ) → P x → P (piece_fill z src nb b off end j x)
  piece_keeps b j x p = pick_keeps (ltb b nb) _ x (puts-keep _ _ _ x p) p

  run_keeps : (at i e : ℕ) (x : List ℕ) → P x → P (run_fill z src nb at i e off end x)
  unfolding run_fill
  run_keeps at i e x p = loop_keeps _ i (e - i) x (λ j y. piece_keeps (word y (at + 4 * (j - i))) j y) p

  level_keeps : (s q : ℕ) (x : List ℕ) → P x → P (level_fill z src nb s off end q x)
  unfolding level_fill
  level_keeps s q x p = pick_keeps (ltb s nb) _ x (run_keeps _ _ _ x p) p

  pub filling_keeps : (n : ℕ) (x : List ℕ) → P x → P (filled z src nb n off end x)
  unfolding filled direct_fill indirect_fill double_fill
  filling_keeps n x p = twice _ (once _ (run_keeps _ _ _ x p))
    where
      once : (y : List ℕ) → P y → P (indirect_fill z src nb n off end y)
      once y q = pick_keeps (ltb (indirect y n) nb) _ y (run_keeps _ _ _ y q) q

      twice : (y : List ℕ) → P y → P (double_fill z src nb n off end y)
      twice y q = pick_keeps (ltb (double y n) nb) _ y (loop_keeps _ _ _ y (λ i w. level_keeps (word w (4096 * double y n + 4 * i)) i w) q) q

put_bytes : (z : Bool) (src : List ℕ) → Bytes src → (at k from : ℕ) (x : List ℕ) → Bytes x → Bytes (put z src at k from x)
put_bytes true src h at k from x b = bytes_zeroed x at k b
put_bytes false src h at k from x b = bytes_copied x at src from k b h

pub bytes_filled : (z : Bool) (src : List ℕ) (nb n off end : ℕ) (img : List ℕ) → Bytes src → Bytes img → Bytes (filled z src nb n off end img)
bytes_filled z src nb n off end img h b = filling_keeps z src Bytes (put_bytes z src h) nb off end n img b

-- ---- on a sound card

module _ {img l : List ℕ} (s : Sound img l) (bytes : Bytes img) (n : ℕ) (h : 0 < cnt n l) (z : Bool) (src : List ℕ) (off end : ℕ) (ordered : off ≤ end)
    (inside : end ≤ 4096 * count img n) where
  readable : Readable img (blocks img) n
  readable = sound_readable img l s bytes n h

  separate : Separate img n
  separate = sound_separate img l s bytes n h

  pub filled_within : WithinData img (filled z src (blocks img) n off end img) n
  filled_within =
      record {
        other = λ b q d.
            block_from img _ b
            (λ k lo hi. filled_other z src img (blocks img) n off end readable separate ordered inside s.sized.long b k d lo hi);
      }

  pub filled_sound : Sound (filled z src (blocks img) n off end img) l
  filled_sound = sound_data_write s h filled_within (length-filled z src (blocks img) off end n img)

  pub filled-comes : (k : ℕ) → k < end - off → file_byte (filled z src (blocks img) n off end img) n (off + k) ≡ comes z src k
  filled-comes = file_here z src img (blocks img) n off end readable separate ordered inside s.sized.long

  pub filled_stays : (o : ℕ) → o < 4096 * count img n → (off ≤ o → o < end → ⊥)
      → file_byte (filled z src (blocks img) n off end img) n o ≡ file_byte img n o
  filled_stays = file_rest z src img (blocks img) n off end readable separate ordered inside s.sized.long
