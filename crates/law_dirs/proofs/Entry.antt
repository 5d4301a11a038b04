-- An entry of a directory on a sound card: reading its 260 bytes, and writing them. No tree is asked for: n is any listed inode, whatever its kind.
-- `img` is the card before, `out` the card after. Assumes nothing.
use mathlib.Core.Path.{◌≡◌, sym, ap, ◌∙◌}
use mathlib.Core.Bool.{false}
use mathlib.Core.List.{List}
use mathlib.Core.Logic.{◌≢◌}
use Prim.Native.Nat.{ℕ, ◌+◌, ◌*◌, ◌≤◌, ◌<◌, ◌^◌}
use native.Mathlib.Omega.{arith}
use lib.ListN.{length, drop, replicate, length-drop, length-replicate}
use lib.Seq.{ext_get_or, get_or-drop}
use Rattle.std.proofs.lemmas.Grind.{common_steps}
use Rattle.words.specs.Words.{put_word, Bytes}
use Rattle.words.specs.Sums.{cnt}
use Rattle.words.proofs.Numbers.{bytes_put}
use Rattle.words.proofs.Runs.{bytes_copied}
use Rattle.card_layout.specs.Super.{blocks}
use Rattle.card_layout.specs.Inode.{size, kind, links, count}
use Rattle.card_layout.specs.Entry.{upto_nul, number_in, Name, entry_of}
use Rattle.card_layout.proofs.Names.{upto_is}
use Rattle.card_layout.proofs.EntryLaws.{length_entry, entry_number, entry_name_byte, entry_after}
use Rattle.card_rules.specs.View.{file_byte, file_bytes, entry, name}
use Rattle.card_rules.specs.Whole.{Sound}
use Rattle.card_rules.proofs.Views.{file_byte_at, length-file_bytes, get_or-file_bytes, file_bytes_cong, entry_cong, name_cong}
use Rattle.card_rules.specs.Same.{SameRecord}
use Rattle.card_rules.proofs.Frames.{size_is, kind_is, links_is, count_is, inode_room}
use Rattle.card_rules.proofs.Isolation.{WithinData, data_slots}
use Rattle.check_names.proofs.Entries.{number_loaded, name_loaded}
use Rattle.file_blocks.specs.Bytes.{read_into, filled}
use Rattle.file_blocks.proofs.Lengths.{length-read_into, length-filled}
use Rattle.file_read.proofs.ReadBytes.{read_here}
use Rattle.file_fill.proofs.Sound.{sound_readable}
use Rattle.dir_entries.specs.Entries.{entry_at, entry_put}
use Rattle.law_dirs.specs.Entries.{entry_in}
use Rattle.law_files.proofs.Filling.{bytes_filled, filled_within, filled_sound, filled-comes, filled_stays}
use Rattle.law_files.proofs.Edits.{Edited, data_edited}

-- ---- the entry of inode m under a name

pub bytes_zeros : (n : ℕ) → Bytes (replicate n 0)
bytes_zeros n = grind (arith, common_steps)

pub entry_of_bytes : (m : ℕ) (x : List ℕ) → Bytes x → Bytes (entry_of m x)
unfolding entry_of
entry_of_bytes m x b = bytes_copied (put_word (replicate 260 0) 0 m) 4 x 0 (length x) (bytes_put 4 (replicate 260 0) 0 m (bytes_zeros 260)) b

module _ (m : ℕ) (x : List ℕ) (g : Name x) where
  pub entry_of-length : length (entry_of m x) ≡ 260
  entry_of-length = length_entry m x g.high

  pub entry_of_number : m < 2 ^ 32 → number_in (entry_of m x) ≡ m
  entry_of_number = entry_number m x g.high

  pub entry_of-name : upto_nul (drop 4 (entry_of m x)) ≡ x
  entry_of-name =
      upto_is (drop 4 (entry_of m x)) x (omega (arith, length-drop 4 (entry_of m x), entry_of-length, g.high)) g.no_nul
      (λ k l. get_or-drop 4 (entry_of m x) k 0 ∙ entry_name_byte m x g.high k l)
      (get_or-drop 4 (entry_of m x) (length x) 0 ∙ entry_after m x g.high (4 + length x) (omega arith) (omega (arith, g.high)))

-- ---- reading

module _ (img l : List ℕ) (s : Sound img l) (bytes : Bytes img) (n : ℕ) (h : 0 < cnt n l) (j : ℕ) (inside : 260 * j + 260 ≤ size img n) where
  pub entry_at_is : entry_at (blocks img) img n j ≡ file_bytes img n (260 * j) 260
  unfolding entry_at
  entry_at_is =
      ext_get_or 0 (read_into img (blocks img) n (260 * j) (260 * j + 260) (replicate 260 0)) (file_bytes img n (260 * j) 260)
      (long ∙ sym (length-file_bytes img n (260 * j) 260))
      (λ i q.
      let b : i < 260 = omega (arith, long) in
      read_here img (blocks img) n (260 * j) (260 * j + 260) (replicate 260 0) (sound_readable img l s bytes n h) (omega arith)
      (omega (arith, inode_room (s.inode n h))) (omega (arith, length-replicate {A = ℕ} 260 0)) i (omega arith)
      ∙ sym (get_or-file_bytes img n (260 * j) 260 i b))
    where
      long : length (read_into img (blocks img) n (260 * j) (260 * j + 260) (replicate 260 0)) ≡ 260
      long = length-read_into img (blocks img) (260 * j) (260 * j + 260) n (replicate 260 0) ∙ length-replicate {A = ℕ} 260 0

  pub entry_at-length : length (entry_at (blocks img) img n j) ≡ 260
  entry_at-length = ap length entry_at_is ∙ length-file_bytes img n (260 * j) 260

  pub entry_at_number : entry img n j ≡ number_in (entry_at (blocks img) img n j)
  entry_at_number = number_loaded img n j ∙ ap number_in (sym entry_at_is)

  pub entry_at-name : name img n j ≡ upto_nul (drop 4 (entry_at (blocks img) img n j))
  entry_at-name = name_loaded img n j ∙ ap (λ (x : List ℕ). upto_nul (drop 4 x)) (sym entry_at_is)

  pub entry_at_bytes : Bytes (entry_at (blocks img) img n j)
  entry_at_bytes = grind (arith, common_steps, entry_at_is, get_or-file_bytes, file_byte_at, length-file_bytes)

-- ---- writing

-- the bytes e stand as entry j of n, and nothing else changed
pub record EntryPut (l img out : List ℕ) (n j : ℕ) (e : List ℕ) : Type 0 where
  pub within_data : WithinData img out n
  pub edited : Edited img out n
  pub sound : Sound out l
  pub rec : SameRecord img out n
  pub size_is : size out n ≡ size img n
  pub kind_is : kind out n ≡ kind img n
  pub links_is : links out n ≡ links img n
  pub count_is : count out n ≡ count img n
  pub entry_new : entry out n j ≡ number_in e
  pub name_new : name out n j ≡ upto_nul (drop 4 e)
  pub entry_kept : (i : ℕ) → i ≢ j → 260 * i + 260 ≤ size img n → entry out n i ≡ entry img n i
  pub name_kept : (i : ℕ) → i ≢ j → 260 * i + 260 ≤ size img n → name out n i ≡ name img n i
  -- byte by byte
  pub bytes_new : entry_in out n j ≡ e
  pub bytes_kept : (o : ℕ) → o < 4096 * count img n → (260 * j ≤ o → o < 260 * j + 260 → ⊥) → file_byte out n o ≡ file_byte img n o

-- another entry
pub put_beside : {l img out e : List ℕ} {n j : ℕ} → EntryPut l img out n j e → size img n ≤ 4096 * count img n → (i : ℕ) → i ≢ j
    → 260 * i + 260 ≤ size img n → entry_in out n i ≡ entry_in img n i
put_beside {l} {img} {out} {e} {n} {j} p room i d b =
    file_bytes_cong out img n n (260 * i) (260 * i) 260 (λ k q. p.bytes_kept (260 * i + k) (omega arith) (λ x y. d (omega arith)))

module _ (img l : List ℕ) (s : Sound img l) (bytes : Bytes img) (n : ℕ) (h : 0 < cnt n l) (j : ℕ) (e : List ℕ) (long : length e ≡ 260) (src : Bytes e)
    (inside : 260 * j + 260 ≤ size img n) where
  abbrev put_out : List ℕ
  put_out = filled false e (blocks img) n (260 * j) (260 * j + 260) img

  fits : 260 * j + 260 ≤ 4096 * count img n
  fits = omega (arith, inode_room (s.inode n h))

  put_within : WithinData img put_out n
  put_within = filled_within s bytes n h false e (260 * j) (260 * j + 260) (omega arith) fits

  put_rec : SameRecord img put_out n
  put_rec = (data_slots s h put_within).rec

  put_bytes : Bytes put_out
  put_bytes = bytes_filled false e (blocks img) n (260 * j) (260 * j + 260) img src bytes

  -- the entry's bytes, and those of others
  put_here : file_bytes put_out n (260 * j) 260 ≡ e
  put_here =
      ext_get_or 0 (file_bytes put_out n (260 * j) 260) e (length-file_bytes put_out n (260 * j) 260 ∙ sym long)
      (λ i q.
      let b : i < 260 = omega (arith, length-file_bytes put_out n (260 * j) 260) in
      get_or-file_bytes put_out n (260 * j) 260 i b
      ∙ filled-comes s bytes n h false e (260 * j) (260 * j + 260) (omega arith) fits i (omega arith))

  put_other : (i k : ℕ) → i ≢ j → 260 * i + 260 ≤ size img n → k < 260 → file_byte put_out n (260 * i + k) ≡ file_byte img n (260 * i + k)
  put_other i k d b q = grind (arith, common_steps, filled_stays)

  pub entry_put_lem : EntryPut l img (entry_put (blocks img) n j e img) n j e
  unfolding entry_put
  entry_put_lem =
      record {
        within_data = put_within;
        edited = data_edited s h put_within (length-filled false e (blocks img) (260 * j) (260 * j + 260) n img) put_bytes;
        sound = filled_sound s bytes n h false e (260 * j) (260 * j + 260) (omega arith) fits;
        rec = put_rec;
        size_is = size_is put_rec;
        kind_is = kind_is put_rec;
        links_is = links_is put_rec;
        count_is = count_is put_rec;
        entry_new = number_loaded put_out n j ∙ ap number_in put_here;
        name_new = name_loaded put_out n j ∙ ap (λ (x : List ℕ). upto_nul (drop 4 x)) put_here;
        entry_kept = λ i d b. entry_cong put_out img n n i i (λ k q. put_other i k d b (omega arith));
        name_kept = λ i d b.
            name_cong put_out img n n i i
            (λ k q.
            let t : 260 * i + 4 + k ≡ 260 * i + (4 + k) = omega arith in
            rw t (put_other i (4 + k) d b (omega arith)));
        bytes_new = put_here;
        bytes_kept = filled_stays s bytes n h false e (260 * j) (260 * j + 260) (omega arith) fits;
      }
