-- The second step of a creation, and of a link: a directory that earlier steps left alone gets an entry; and what a creation does to a tree in all. `img` is
-- the card before, `mid` and `new` cards on the way, `out` the card after. Assumes nothing.
use mathlib.Core.Path.{◌≡◌, refl, sym, ap, ◌∙◌, subst}
use mathlib.Core.List.{List, ◌∷◌}
use mathlib.Core.Logic.{◌≢◌}
use Prim.Native.Nat.{ℕ, ◌+◌, ◌≤◌, ◌<◌, ◌^◌}
use native.Mathlib.Omega.{arith}
use Rattle.std.proofs.lemmas.Grind.{common_steps}
use Rattle.words.specs.Words.{Bytes}
use Rattle.words.specs.Sums.{δ, cnt}
use Rattle.words.proofs.Sums.{δ_same, sum_on_cons}
use Rattle.card_layout.specs.Super.{blocks, unused}
use Rattle.card_layout.specs.Inode.{size, kind, count, with_links}
use Rattle.card_layout.specs.Entry.{Name, entry_of}
use Rattle.card_layout.specs.Slots.{owned}
use Rattle.card_layout.specs.declared.inode.FileType.{FileType}
use Rattle.card_layout.specs.declared.inode.FileType.TheVariants.{Dir}
use Rattle.card_layout.specs.declared.inode.DiskINode.{DiskINode}
use Rattle.card_layout.proofs.InodeLaws.{inode_at}
use Rattle.card_rules.specs.Whole.{Sound, Tree, Dir as DirRules}
use Rattle.card_rules.proofs.Views.{owned_few, owned_mono}
use Rattle.card_rules.proofs.Owners.{inode_below}
use Rattle.card_rules.proofs.Counting.{count_below}
use Rattle.card_rules.specs.Same.{SameFile}
use Rattle.card_rules.proofs.Frames.{size_is, kind_is, count_is, inode_room, file_trans}
use Rattle.card_rules.proofs.Kept.{slots_few}
use Rattle.card_rules.proofs.Isolation.{others_same}
use Rattle.file_requests.specs.Requests.{longest, needs}
use Rattle.dir_entries.specs.Entries.{appended}
use Rattle.law_files.proofs.Files.{takes_exactly}
use Rattle.law_tree.proofs.TreeAdd.{NewFile, NewDir, tree_add_new}
use Rattle.law_files.proofs.Edits.{Edited, edited_sound}
use Rattle.law_dirs.proofs.Entry.{entry_of-length, entry_of_bytes}
use Rattle.law_dirs.proofs.Append.{Appended, append_entry}
use Rattle.law_dirs.proofs.Remove.{inode_at_same}
use Rattle.law_dirs.proofs.EntryCounts.{EntryMore, more_by, more_before, names_more, parent_more}
use Rattle.law_dirs.proofs.NameTests.{CanName, can_where}
use Rattle.law_dirs.proofs.NewInode.{Fresh}

-- ---- an entry more for a directory as it was

-- a listed inode is short of the longest length by far
pub far_shorter : {img l : List ℕ} → Sound img l → (n : ℕ) → 0 < cnt n l → size img n + 260 ≤ longest
far_shorter {img} {l} s n h = omega (arith, count_below img l s n h, s.sized.many, inode_room (s.inode n h))

pub number_fits : {img l : List ℕ} → Sound img l → (n : ℕ) → 0 < cnt n l → n < 2 ^ 32
number_fits {img} {l} s n h = omega (arith, inode_below img l s n h, s.sized.many)

-- a link to spare
pub spare_link : (v : ℕ) → v < 65536 → v ≢ 65535 → v + 1 < 65536
spare_link v b d = grind (arith, common_steps)

-- what a sound card's directory of one more entry takes
pub append_takes : {img out l : List ℕ} {p v : ℕ} {e : List ℕ} → Sound img l → 0 < cnt p l → Appended img out p v e
    → unused out + needs (count img p) (size img p + 260) ≡ unused img
append_takes {img} {out} {l} {p} s h a = grind (arith, common_steps, edited_sound, takes_exactly, owned_mono)

-- p is on `new` as it was on img
module _ {img new l k : List ℕ} (s : Sound img l) (u : Sound new k) (bytes : Bytes new) (same_blocks : blocks new ≡ blocks img) (p : ℕ)
    (h : 0 < cnt p l) (g : 0 < cnt p k) (r : SameFile img new p) (d : DirRules img p) (dir : kind img p ≡ 2) (v : ℕ) (low : v < 65536) (c : ℕ)
    (x : List ℕ) (name : Name x) (src : Bytes x) (room : needs (count img p) (size img p + 260) ≤ unused new) where
  pub append_there : Appended new (appended (blocks img) p (with_links (inode_at img p Dir) v) (entry_of c x) new) p v (entry_of c x)
  append_there =
      let z : size new p ≡ size img p = size_is r.slots.rec in
      let q : count new p ≡ count img p = count_is r.slots.rec in
      subst (λ (y : DiskINode). Appended new (appended (blocks img) p (with_links y v) (entry_of c x) new) p v (entry_of c x)) (inode_at_same r.slots.rec Dir)
      (subst (λ (y : ℕ). Appended new (appended y p (with_links (inode_at new p Dir) v) (entry_of c x) new) p v (entry_of c x)) same_blocks
      (append_entry new k u bytes p g Dir (kind_is r.slots.rec ∙ dir) (rw z d.even) v low (entry_of c x) (entry_of-length c x name)
      (entry_of_bytes c x src) (far_shorter u p g) (rw (z, q) room)))

-- ---- a creation

-- who is listed after i has come
pub listed_more : (i m : ℕ) (l : List ℕ) → 0 < cnt m l → 0 < cnt m (i ∷ l)
listed_more i m l h = omega (arith, sum_on_cons (δ m) i l)

pub listed_here : (i : ℕ) (l : List ℕ) → 0 < cnt i (i ∷ l)
listed_here i l = omega (arith, sum_on_cons (δ i) i l, δ_same i i refl)

-- i is new (f), is edited (e), and p gets an entry for it (a)
module _ {l img mid new : List ℕ} {i v : ℕ} {t : FileType} (s : Sound img l) (f : Fresh l img mid i t v) (e : Edited mid new i) where
  abbrev here : 0 < cnt i (i ∷ l)
  here = listed_here i l

  pub apart_new : (m : ℕ) → 0 < cnt m l → m ≢ i
  apart_new m c q = omega (arith, f.new, ap (λ (y : ℕ). cnt y l) q)

  pub new_sound : Sound new (i ∷ l)
  new_sound = edited_sound f.sound here e

  pub new_blocks : blocks new ≡ blocks img
  new_blocks = e.balanced.steady.blocks_same ∙ f.blocks_is

  -- every inode of before is as it was
  pub old_same : (m : ℕ) → 0 < cnt m l → SameFile img new m
  old_same m c =
      file_trans (slots_few s m c) (f.same m c)
      (others_same f.sound here e.within m (listed_more i m l c) (apart_new m c))

  -- what the new inode took, beside its own block
  pub new_takes : unused new + owned (count new i) + 1 ≡ unused img
  new_takes =
      omega (arith, takes_exactly f.sound new_sound here e.balanced, f.takes, ap owned f.count_is, owned_few 0 (omega arith))

  module _ {out : List ℕ} {p n : ℕ} (x : List ℕ) (h : 0 < cnt p l) (a : Appended new out p n (entry_of i x)) where
    abbrev there : 0 < cnt p (i ∷ l)
    there = listed_more i p l h

    pub out_sound : Sound out (i ∷ l)
    out_sound = edited_sound new_sound there a.edited

    pub out_blocks : blocks out ≡ blocks img
    out_blocks = a.edited.balanced.steady.blocks_same ∙ new_blocks

    pub out_same : (m : ℕ) → 0 < cnt m l → m ≢ p → SameFile img out m
    out_same m c d =
        file_trans (slots_few s m c) (old_same m c) (others_same new_sound there a.edited.within m (listed_more i m l c) d)

    pub made_same : SameFile new out i
    made_same = others_same new_sound there a.edited.within i here (λ q. apart_new p h (sym q))

    pub out_more : Name x → EntryMore img out p i x
    out_more g =
        more_before (slots_few s p h) (old_same p h) (s.inode p h)
        (more_by a g (number_fits f.sound i here))

    pub out_takes : unused out + (needs (count img p) (size img p + 260) + owned (count new i) + 1) ≡ unused img
    out_takes =
        let r = (old_same p h).slots.rec in
        omega (
          arith,
          new_takes,
          append_takes new_sound there a,
          ap (λ (y : ℕ). needs y (size new p + 260)) (count_is r),
          ap (λ (y : ℕ). needs (count img p) (y + 260)) (size_is r),
        )

    pub out_tree : Tree img l → CanName img p x → (kind out i ≢ 2 → NewFile img out p i) → (kind out i ≡ 2 → NewDir img out p i) → Tree out (i ∷ l)
    out_tree tree c file dir =
        let d : DirRules img p = tree.dir p (tree.only p h) c.dir in
        let m = out_more c.stored in
        tree_add_new tree s.inode
        (record {
          fresh = f.new;
          p_in = h;
          parent = parent_more d m (can_where c) c.dir c.stored;
          more = names_more d c.dir m;
          others = out_same;
          file = file;
          dir = dir;
        })
