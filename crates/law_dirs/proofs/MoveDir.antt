-- ".." of a directory c that is moved, on a sound card: "the number in ".." becomes the new parent's, its other bytes staying". `img` is the card before,
-- `out` the card after. Assumes nothing.
use mathlib.Core.Path.{◌≡◌, sym, ap, ◌∙◌}
use mathlib.Core.Bool.{false}
use mathlib.Core.List.{List}
use mathlib.Core.Logic.{◌≢◌}
use Prim.Native.Nat.{ℕ, ◌+◌, ◌*◌, ◌≤◌, ◌<◌, ◌^◌}
use native.Mathlib.Omega.{arith}
use lib.ListN.{length, replicate, length-replicate}
use lib.Seq.{ext_get_or}
use Rattle.std.proofs.lemmas.Grind.{common_steps}
use Rattle.words.specs.Words.{word, put_word, Bytes}
use Rattle.words.specs.Sums.{cnt}
use Rattle.words.proofs.Numbers.{length-put, num_same, bytes_put}
use Rattle.card_layout.specs.Super.{blocks}
use Rattle.card_layout.specs.Inode.{size, kind, links, count}
use Rattle.card_rules.specs.View.{file_byte, file_bytes, entries, entry, name, times_named}
use Rattle.card_rules.specs.Places.{Place, held, InUse}
use Rattle.card_rules.specs.Whole.{Dir, Sound}
use Rattle.card_rules.proofs.Views.{kids_dir, entry_at, length-file_bytes, get_or-file_bytes, entry_cong, name_cong}
use Rattle.card_rules.proofs.Kept.{Steady, slots_few}
use Rattle.card_rules.specs.Same.{SameSlots, SameFile}
use Rattle.card_rules.proofs.Frames.{size_is, kind_is, links_is, count_is, kids_is, file_byte_is, names_by, slots_trans, inode_room}
use Rattle.card_rules.proofs.Isolation.{WithinData, data_slots, data_others}
use Rattle.file_blocks.specs.Bytes.{filled}
use Rattle.file_blocks.proofs.Lengths.{length-filled}
use Rattle.dir_move.specs.Move.{up_put}
use Rattle.law_files.proofs.Filling.{bytes_filled, filled_within, filled_sound, filled-comes, filled_stays}
use Rattle.law_files.proofs.Edits.{Edited, data_edited}
use Rattle.law_files.proofs.Resized.{held_is}
use Rattle.law_dirs.proofs.Entry.{bytes_zeros}

-- ---- another number in ".."

-- four bytes of c are t's number, and nothing else changed
pub record Turned (l img out : List ℕ) (c t : ℕ) : Type 0 where
  pub sound : Sound out l
  pub bytes : Bytes out
  pub steady : Steady img out
  pub others : (m : ℕ) → 0 < cnt m l → m ≢ c → SameFile img out m
  pub slots : SameSlots img out c
  pub up : entry out c 1 ≡ t
  pub kept : (o : ℕ) → o < 4096 * count img c → (260 ≤ o → o < 264 → ⊥) → file_byte out c o ≡ file_byte img c o

module _ (img l : List ℕ) (s : Sound img l) (bytes : Bytes img) (c : ℕ) (h : 0 < cnt c l) (two : 520 ≤ size img c) (t : ℕ) (low : t < 2 ^ 32) where
  abbrev four : List ℕ
  four = put_word (replicate 4 0) 0 t

  abbrev turned_out : List ℕ
  turned_out = filled false four (blocks img) c 260 264 img

  four_long : length four ≡ 4
  four_long = length-put 4 (replicate 4 0) 0 t ∙ length-replicate {A = ℕ} 4 0

  four_bytes : Bytes four
  four_bytes = bytes_put 4 (replicate 4 0) 0 t (bytes_zeros 4)

  inside : 264 ≤ 4096 * count img c
  inside = omega (arith, inode_room (s.inode c h))

  turned_within : WithinData img turned_out c
  turned_within = filled_within s bytes c h false four 260 264 (omega arith) inside

  turned_edited : Edited img turned_out c
  turned_edited =
      data_edited s h turned_within (length-filled false four (blocks img) 260 264 c img)
      (bytes_filled false four (blocks img) c 260 264 img four_bytes bytes)

  turned_here : file_bytes turned_out c (260 * 1) 4 ≡ four
  turned_here =
      ext_get_or 0 (file_bytes turned_out c (260 * 1) 4) four (length-file_bytes turned_out c (260 * 1) 4 ∙ sym four_long)
      (λ i q.
      let b : i < 4 = omega (arith, length-file_bytes turned_out c (260 * 1) 4) in
      get_or-file_bytes turned_out c (260 * 1) 4 i b
      ∙ filled-comes s bytes c h false four 260 264 (omega arith) inside i (omega arith))

  pub turn_up : Turned l img (up_put (blocks img) c t img) c t
  unfolding up_put
  turn_up =
      record {
        sound = filled_sound s bytes c h false four 260 264 (omega arith) inside;
        bytes = turned_edited.bytes;
        steady = turned_edited.balanced.steady;
        others = data_others s h turned_within;
        slots = data_slots s h turned_within;
        up =
            entry_at turned_out c 1
            ∙ ap (λ (x : List ℕ). word x 0) turned_here
            ∙ num_same 4 (replicate 4 0) 0 t (omega (arith, length-replicate {A = ℕ} 4 0)) low;
        kept = filled_stays s bytes c h false four 260 264 (omega arith) inside;
      }

-- ---- a directory with it, as its readers see it

-- a directory c whose ".." names t: all else of it is as it was
pub record TurnedDir (img out : List ℕ) (c t : ℕ) : Type 0 where
  pub slots : SameSlots img out c
  pub up : entry out c 1 ≡ t
  pub kept : (o : ℕ) → o < 4096 * count img c → (260 ≤ o → o < 264 → ⊥) → file_byte out c o ≡ file_byte img c o
  pub kind_same : kind out c ≡ kind img c
  pub size_same : size out c ≡ size img c
  pub links_same : links out c ≡ links img c
  pub places : (q : Place) → InUse img c q → held out c q ≡ held img c q
  pub entry_kept : (i : ℕ) → i < entries img c → i ≢ 1 → entry out c i ≡ entry img c i
  pub name_kept : (i : ℕ) → i < entries img c → name out c i ≡ name img c i

module _ {img mid out l : List ℕ} {c t : ℕ} (s : Sound img l) (h : 0 < cnt c l) (x : SameFile img mid c) (y : Turned l mid out c t) where
  rest : (o : ℕ) → o < 4096 * count img c → (260 ≤ o → o < 264 → ⊥) → file_byte out c o ≡ file_byte img c o
  rest o b d = y.kept o (rw (count_is x.slots.rec) b) d ∙ file_byte_is x o b

  both_slots : SameSlots img out c
  both_slots = slots_trans (slots_few s c h) x.slots y.slots

  pub turned_by : TurnedDir img out c t
  turned_by = grind (arith, common_steps, both_slots, rest, kind_is, size_is, links_is, held_is, slots_few, entry_cong, name_cong)

module _ {img out : List ℕ} {c t : ℕ} (d : Dir img c) (y : TurnedDir img out c t) where
  pub turned_names : (m : ℕ) → times_named out c m ≡ times_named img c m
  turned_names =
      names_by img out c (kids_is y.slots.rec)
      (λ i b. y.entry_kept (2 + i) (kids_dir img c i b).1 (λ e. omega arith))

  pub turned_dir : Dir out c
  turned_dir = grind (arith, common_steps)
