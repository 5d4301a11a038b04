-- A directory with one entry less, on a sound card: "puts the last entry in the hole, shortens the directory by 260". n is any listed inode whose size is
-- a multiple of 260, v its new links. `img` is the card before, `out` the card after. Assumes nothing.
use mathlib.Core.Path.{◌≡◌, sym, ap, ◌∙◌, subst}
use mathlib.Core.List.{List}
use mathlib.Core.Logic.{◌≢◌}
use Prim.Native.Nat.{ℕ, ◌+◌, ◌-◌, ◌*◌, ◌%◌, ◌≤◌, ◌<◌}
use native.Mathlib.Omega.{arith}
use Rattle.std.proofs.lemmas.Grind.{common_steps}
use Rattle.words.specs.Words.{Bytes}
use Rattle.words.specs.Sums.{cnt}
use Rattle.words.proofs.Numbers.{num_lt}
use Rattle.card_layout.specs.Super.{blocks}
use Rattle.card_layout.specs.Inode.{size, kind, links, count, kind_no, with_links}
use Rattle.card_layout.specs.declared.inode.FileType.{FileType}
use Rattle.card_layout.specs.declared.inode.DiskINode.{DiskINode}
use Rattle.card_layout.proofs.InodeLaws.{inode_at}
use Rattle.card_rules.specs.View.{entries, entry, name}
use Rattle.card_rules.specs.Whole.{Sound}
use Rattle.card_rules.proofs.Views.{owned_mono, file_bytes_cong, entry_cong, name_cong}
use Rattle.card_rules.specs.Places.{Place, held, InUse}
use Rattle.card_rules.specs.Same.{SameRecord}
use Rattle.card_rules.proofs.Kept.{slots_few}
use Rattle.card_rules.proofs.Isolation.{data_slots}
use Rattle.card_rules.proofs.Frames.{inode_room, size_is, links_is, count_is, indirect_is, double_is, padding_is, device_is, directs_is}
use Rattle.file_requests.specs.Resizing.{fitted}
use Rattle.file_requests.specs.Requests.{needs}
use Rattle.dir_entries.specs.Entries.{entry_at, entry_put, removed}
use Rattle.law_files.proofs.Resized.{held_is, in_use_is}
use Rattle.law_files.proofs.Edits.{Edited, edited_trans}
use Rattle.law_dirs.specs.Entries.{entry_in, OneLess}
use Rattle.law_dirs.proofs.RecordBytes.{SameTail, tail_trans, tail_record}
use Rattle.law_dirs.proofs.Links.{ResizedWith, links_change, resized_edited}
use Rattle.law_dirs.proofs.Entry.{EntryPut, entry_put_lem, put_beside, entry_at_is, entry_at-length, entry_at_bytes, entry_at_number, entry_at-name}

pub record Removed (img out : List ℕ) (n v j : ℕ) : Type 0 where
  pub edited : Edited img out n
  pub links_is : links out n ≡ v
  pub size_is : size out n + 260 ≡ size img n
  pub entries_is : entries out n + 1 ≡ entries img n
  -- the entries that stay, and the last one in the hole
  pub entry_kept : (i : ℕ) → i < entries out n → i ≢ j → entry out n i ≡ entry img n i
  pub name_kept : (i : ℕ) → i < entries out n → i ≢ j → name out n i ≡ name img n i
  pub entry_moved : j < entries out n → entry out n j ≡ entry img n (entries img n - 1)
  pub name_moved : j < entries out n → name out n j ≡ name img n (entries img n - 1)
  -- byte by byte
  pub listing : OneLess img out n j
  pub tail : SameTail img out n
  pub places : (q : Place) → InUse img n q → InUse out n q → held out n q ≡ held img n q

-- the record that a card's bytes give goes by those bytes
pub inode_at_same : {img out : List ℕ} {n : ℕ} → SameRecord img out n → (k : FileType) → inode_at out n k ≡ inode_at img n k
inode_at_same s k = rw (size_is s, links_is s, count_is s, indirect_is s, double_is s, padding_is s, device_is s, directs_is s)

-- a shorter length needs no block
pub needs-none : {img l : List ℕ} → Sound img l → (n : ℕ) → 0 < cnt n l → (len : ℕ) → len ≤ size img n → needs (count img n) len ≡ 0
needs-none {img} s n h len q = grind (arith, common_steps, owned_mono)

-- entry j is e, which the last one was, then the directory is 260 shorter
removed_by : {img mid out l e : List ℕ} {n v j : ℕ} → Sound img l → 0 < cnt n l → size img n % 260 ≡ 0 → j < entries img n → EntryPut l img mid n j e
    → ResizedWith mid out n (size img n - 260) v → e ≡ entry_in img n (entries img n - 1)
    → entry mid n j ≡ entry img n (entries img n - 1) → name mid n j ≡ name img n (entries img n - 1)
    → Removed img out n v j
removed_by {img} {mid} {out} {l} {e} {n} {v} {j} s h even b p r whole number called =
    record {
      edited = edited_trans p.edited (resized_edited r);
      links_is = r.links_is;
      size_is = omega (arith, r.size_is);
      entries_is = omega (arith, r.size_is);
      entry_kept = λ i q d. entry_stays i q ∙ p.entry_kept i d (omega (arith, r.size_is));
      name_kept = λ i q d. name_stays i q ∙ p.name_kept i d (omega (arith, r.size_is));
      entry_moved = λ q. entry_stays j q ∙ number;
      name_moved = λ q. name_stays j q ∙ called;
      listing =
          record {
            size_is = omega (arith, r.size_is);
            kept = λ i q d. bytes_stay i q ∙ put_beside p (inode_room (s.inode n h)) i d (omega (arith, r.size_is));
            filled = λ q.
                let z : entries img n - 1 ≡ entries out n = omega (arith, r.size_is) in
                bytes_stay j q ∙ p.bytes_new ∙ whole ∙ ap (entry_in img n) z;
          };
      tail = tail_trans (tail_record p.rec) r.tail;
      places = λ q x y.
          r.places q (in_use_is mid img n (sym p.count_is) q x) y
          ∙ held_is (data_slots s h p.within_data) (slots_few s n h) q x;
    }
  where
    entry_stays : (i : ℕ) → i < entries out n → entry out n i ≡ entry mid n i
    entry_stays i q =
        entry_cong out mid n n i i (λ k t. r.kept (260 * i + k) (omega (arith, p.size_is, r.size_is)) (omega (arith, r.size_is)))

    bytes_stay : (i : ℕ) → i < entries out n → entry_in out n i ≡ entry_in mid n i
    bytes_stay i q =
        file_bytes_cong out mid n n (260 * i) (260 * i) 260
        (λ k t. r.kept (260 * i + k) (omega (arith, p.size_is, r.size_is)) (omega (arith, r.size_is)))

    name_stays : (i : ℕ) → i < entries out n → name out n i ≡ name mid n i
    name_stays i q =
        name_cong out mid n n i i (λ k t. r.kept (260 * i + 4 + k) (omega (arith, p.size_is, r.size_is)) (omega (arith, r.size_is)))

module _ (img l : List ℕ) (s : Sound img l) (bytes : Bytes img) (n : ℕ) (h : 0 < cnt n l) (k : FileType) (kind-as : kind img n ≡ kind_no k)
    (even : size img n % 260 ≡ 0) (v : ℕ) (low : v < 65536) (j : ℕ) (there : j < entries img n) where
  pub remove_entry : Removed img (removed (blocks img) n (with_links (inode_at img n k) v) j img) n v j
  unfolding removed
  remove_entry =
      removed_by s h even there p
      (subst (λ (b : ℕ). ResizedWith mid (fitted b n (with_links (inode_at img n k) v) (size img n - 260) mid) n (size img n - 260) v) same
      (subst (λ (d : DiskINode). ResizedWith mid (fitted (blocks mid) n (with_links d v) (size img n - 260) mid) n (size img n - 260) v)
      (inode_at_same p.rec k)
      (links_change mid l p.sound p.edited.bytes n h v low k (p.kind_is ∙ kind-as) (size img n - 260)
      (omega (arith, num_lt 4 img (4096 * n) bytes)) (omega (arith, none)))))
      (entry_at_is img l s bytes n h last (omega arith))
      (p.entry_new ∙ sym (entry_at_number img l s bytes n h last (omega arith)))
      (p.name_new ∙ sym (entry_at-name img l s bytes n h last (omega arith)))
    where
      last : ℕ
      last = entries img n - 1

      e : List ℕ
      e = entry_at (blocks img) img n last

      mid : List ℕ
      mid = entry_put (blocks img) n j e img

      p : EntryPut l img mid n j e
      p =
          entry_put_lem img l s bytes n h j e (entry_at-length img l s bytes n h last (omega arith)) (entry_at_bytes img l s bytes n h last (omega arith))
          (omega arith)

      same : blocks mid ≡ blocks img
      same = p.edited.balanced.steady.blocks_same

      none : needs (count mid n) (size img n - 260) ≡ 0
      none = needs-none p.sound n h (size img n - 260) (omega (arith, p.size_is))
