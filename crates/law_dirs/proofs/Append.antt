-- A directory with one entry more, on a sound card: "appends". n is any listed inode whose size is a multiple of 260, v its new links. `img` is the card
-- before, `out` the card after. Assumes nothing.
use mathlib.Core.Path.{◌≡◌, ap, ◌∙◌, subst}
use mathlib.Core.List.{List}
use Prim.Native.Nat.{ℕ, ◌+◌, ◌*◌, ◌/◌, ◌%◌, ◌≤◌, ◌<◌}
use native.Mathlib.Omega.{arith}
use lib.ListN.{length, drop}
use Rattle.words.specs.Words.{Bytes}
use Rattle.words.specs.Sums.{cnt}
use Rattle.card_layout.specs.Super.{blocks, unused}
use Rattle.card_layout.specs.Inode.{size, kind, links, count, kind_no, with_links}
use Rattle.card_layout.specs.Entry.{upto_nul, number_in}
use Rattle.card_layout.specs.declared.inode.FileType.{FileType}
use Rattle.card_layout.proofs.InodeLaws.{inode_at}
use Rattle.card_rules.specs.View.{entries, entry, name}
use Rattle.card_rules.specs.Whole.{Sound}
use Rattle.card_rules.specs.Places.{Place, held, InUse}
use Rattle.card_rules.proofs.Views.{file_bytes_cong, entry_cong, name_cong}
use Rattle.card_rules.proofs.Frames.{inode_room}
use Rattle.card_rules.proofs.Kept.{slots_few}
use Rattle.card_rules.proofs.Isolation.{sound_one, data_slots}
use Rattle.file_requests.specs.Resizing.{fitted}
use Rattle.file_requests.specs.Requests.{longest, needs}
use Rattle.dir_entries.specs.Entries.{entry_put, appended}
use Rattle.law_files.proofs.Resized.{held_is}
use Rattle.law_files.proofs.Return.{in_use_more}
use Rattle.law_files.proofs.Edits.{Edited, edited_trans}
use Rattle.law_dirs.specs.Entries.{entry_in}
use Rattle.law_dirs.proofs.RecordBytes.{SameTail, tail_trans, tail_record}
use Rattle.law_dirs.proofs.Links.{ResizedWith, links_change, resized_edited}
use Rattle.law_dirs.proofs.Entry.{EntryPut, entry_put_lem, put_beside}

pub record Appended (img out : List ℕ) (n v : ℕ) (e : List ℕ) : Type 0 where
  pub edited : Edited img out n
  pub links_is : links out n ≡ v
  pub size_is : size out n ≡ size img n + 260
  pub entries_is : entries out n ≡ entries img n + 1
  -- the blocks that it had stay
  pub places : (p : Place) → InUse img n p → held out n p ≡ held img n p
  -- the old entries, and the new one
  pub entry_kept : (i : ℕ) → i < entries img n → entry out n i ≡ entry img n i
  pub name_kept : (i : ℕ) → i < entries img n → name out n i ≡ name img n i
  pub entry_new : entry out n (entries img n) ≡ number_in e
  pub name_new : name out n (entries img n) ≡ upto_nul (drop 4 e)
  -- byte by byte
  pub bytes_kept : (i : ℕ) → i < entries img n → entry_in out n i ≡ entry_in img n i
  pub bytes_new : entry_in out n (entries img n) ≡ e
  pub tail : SameTail img out n

-- the directory is 260 longer, then its last entry is e
appended_by : {img mid out l e : List ℕ} {n v : ℕ} → Sound img l → 0 < cnt n l → ResizedWith img mid n (size img n + 260) v
    → EntryPut l mid out n (entries img n) e
    → Appended img out n v e
appended_by {img} {mid} {out} {l} {e} {n} {v} s h r p =
    let t : Sound mid l = sound_one s h r.within r.balanced in
    let more : count img n ≤ count mid n = omega (arith, (s.inode n h).shape.counted, (t.inode n h).shape.counted, r.size_is) in
    record {
      edited = edited_trans (resized_edited r) p.edited;
      links_is = p.links_is ∙ r.links_is;
      size_is = p.size_is ∙ r.size_is;
      entries_is = ap (λ (x : ℕ). x / 260) (p.size_is ∙ r.size_is) ∙ omega arith;
      places = λ q u.
          let v : InUse mid n q = in_use_more img mid n more q u in
          held_is (data_slots t h p.within_data) (slots_few t n h) q v ∙ r.places q u v;
      entry_kept = λ i b.
          p.entry_kept i (λ q. omega arith) (omega (arith, r.size_is))
          ∙ entry_cong mid img n n i i (λ k q. r.kept (260 * i + k) (omega arith) (omega arith));
      name_kept = λ i b.
          p.name_kept i (λ q. omega arith) (omega (arith, r.size_is))
          ∙ name_cong mid img n n i i (λ k q. r.kept (260 * i + 4 + k) (omega arith) (omega arith));
      entry_new = p.entry_new;
      name_new = p.name_new;
      bytes_kept = λ i b.
          put_beside p (inode_room (t.inode n h)) i (λ q. omega arith) (omega (arith, r.size_is))
          ∙ file_bytes_cong mid img n n (260 * i) (260 * i) 260 (λ k q. r.kept (260 * i + k) (omega arith) (omega arith));
      bytes_new = p.bytes_new;
      tail = tail_trans r.tail (tail_record p.rec);
    }

module _ (img l : List ℕ) (s : Sound img l) (bytes : Bytes img) (n : ℕ) (h : 0 < cnt n l) (k : FileType) (kind-as : kind img n ≡ kind_no k)
    (even : size img n % 260 ≡ 0) (v : ℕ) (low : v < 65536) (e : List ℕ) (long : length e ≡ 260) (src : Bytes e) (short : size img n + 260 ≤ longest)
    (room : needs (count img n) (size img n + 260) ≤ unused img) where
  pub append_entry : Appended img (appended (blocks img) n (with_links (inode_at img n k) v) e img) n v e
  unfolding appended
  append_entry =
      appended_by s h r
      (subst (λ (b : ℕ). EntryPut l mid (entry_put b n (entries img n) e mid) n (entries img n) e) r.balanced.steady.blocks_same
      (entry_put_lem mid l (sound_one s h r.within r.balanced) r.bytes n h (entries img n) e long src (omega (arith, r.size_is))))
    where
      mid : List ℕ
      mid = fitted (blocks img) n (with_links (inode_at img n k) v) (size img n + 260) img

      r : ResizedWith img mid n (size img n + 260) v
      r = links_change img l s bytes n h v low k kind-as (size img n + 260) short room
