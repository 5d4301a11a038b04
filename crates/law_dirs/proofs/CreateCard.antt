-- What create promises on a whole card: it stays whole with the new inode in its listing, the name is found, the old names stay, no other inode changes,
-- the blocks that it takes are counted, and its answer is the lowest free block. Assumes nothing.
use mathlib.Core.Path.{◌≡◌, refl, sym, ap, ◌∙◌, subst}
use mathlib.Core.List.{List, ◌∷◌}
use mathlib.Core.Logic.{◌≢◌}
use Prim.Native.Nat.{ℕ, ◌+◌, ◌≤◌, ◌<◌}
use native.Mathlib.Omega.{arith}
use borrow.Author.Tests.{eq-eqb, ne_eqb}
use lib.Dec.{eqb}
use Rattle.std.proofs.lemmas.Grind.{common_steps}
use Rattle.words.specs.Words.{pick, Bytes}
use Rattle.words.specs.Sums.{cnt}
use Rattle.words.proofs.Numbers.{num_lt}
use Rattle.card_layout.specs.Super.{blocks, unused}
use Rattle.card_layout.specs.Inode.{size, kind, links, count, kind_no, head_at, encoded, new_inode, with_links}
use Rattle.card_layout.specs.Entry.{entry_of}
use Rattle.card_layout.specs.Slots.{owned}
use Rattle.card_layout.specs.declared.inode.FileType.{FileType}
use Rattle.card_layout.specs.declared.inode.FileType.TheVariants.{Dir}
use Rattle.card_layout.proofs.InodeLaws.{inode_at}
use Rattle.card_map.specs.Bits.{map_bit}
use Rattle.card_map.specs.Free.{lowest, taken}
use Rattle.card_rules.specs.View.{data_at, entries, entry, owns}
use Rattle.card_rules.specs.Places.{Place, held, InUse}
use Rattle.card_rules.specs.Whole.{Reached, Sound, Tree, Whole, Dir as DirRules}
use Rattle.card_rules.proofs.Views.{owned_few}
use Rattle.card_rules.specs.Same.{SameFile}
use Rattle.card_rules.proofs.Frames.{size_is, kind_is, links_is, count_is, data_is, owns_is, entry_is, dir_is}
use Rattle.card_rules.proofs.Kept.{slots_few}
use Rattle.card_rules.proofs.Isolation.{data_refl}
use Rattle.file_grow.proofs.Taken.{nth_free}
use Rattle.dir_entries.specs.Entries.{where_is, appended}
use Rattle.dir_answers.specs.Answers.{the_inode}
use Rattle.dir_create.specs.Create.{file_kind, fresh_inode, create_takes, create_answer, bare_dir, empty_dir, made_file, made_dir, made, create_card}
use Rattle.law_files.proofs.Requests.{of_kind}
use Rattle.law_files.proofs.Resized.{held_is}
use Rattle.law_tree.proofs.TreeAdd.{NewFile, NewDir}
use Rattle.law_files.proofs.Edits.{Edited, data_edited}
use Rattle.law_dirs.specs.Entries.{NewRecord}
use Rattle.law_dirs.proofs.Append.{Appended}
use Rattle.law_dirs.proofs.EntryBytes.{entry_in_is}
use Rattle.law_dirs.proofs.FreshRecord.{fresh_record, record_after}
use Rattle.law_dirs.proofs.EntryCounts.{EntryMore, found_more}
use Rattle.law_dirs.proofs.Tests.{same_inode}
use Rattle.law_dirs.proofs.NameTests.{can_where}
use Rattle.law_dirs.proofs.NewInode.{Fresh, new_inode_lem, next_lowest, second_lowest}
use Rattle.law_dirs.proofs.CreateTests.{CanCreate, create_tests_lem, create_can}
use Rattle.law_dirs.proofs.Creating.{
  append_there,
  listed_here,
  listed_more,
  number_fits,
  spare_link,
  new_sound,
  new_blocks,
  old_same,
  new_takes,
  out_sound,
  out_blocks,
  out_same,
  made_same,
  out_more,
  out_takes,
  out_tree,
}
use Rattle.law_dirs.proofs.CreateDir.{EmptyDir, empty_edited, empty_dir_lem, empty_block}
use Rattle.refusals.specs.Refusals.{answer_no}

-- a file or a symbolic link with nothing in it, and one name
pub record EmptyFile (out : List ℕ) (i : ℕ) : Type 0 where
  pub size_is : size out i ≡ 0
  pub links_is : links out i ≡ 1
  pub count_is : count out i ≡ 0
  pub new_record : NewRecord out i (kind out i) 0 1 0

-- inode i of kind k has come, under the name x in directory p; l are the inodes before
pub record CreateDone (l img out : List ℕ) (p : ℕ) (x : List ℕ) (k i : ℕ) : Type 0 where
  -- the card is whole, with i listed first
  pub sound : Sound out (i ∷ l)
  pub tree : Tree out (i ∷ l)
  pub bytes : Bytes out
  pub blocks_same : blocks out ≡ blocks img
  -- i was no inode and is one, of the kind that was asked for
  pub new : Reached img i → ⊥
  pub there : Reached out i
  pub kind_is : kind out i ≡ k
  pub file : k ≢ 2 → EmptyFile out i
  pub dir : k ≡ 2 → EmptyDir out i p
  -- the parent: its old entries, and the new one after them, where the name is found
  pub more : EntryMore img out p i x
  pub entries_is : entries out p ≡ entries img p + 1
  pub found : where_is out p x ≡ entries img p
  pub found_number : entry out p (entries img p) ≡ i
  -- "a directory's creation raises the parent's links"
  pub parent_links : links out p ≡ links img p + pick (eqb k 2) 1 0
  -- isolation: record, block list and bytes of every other inode
  pub others : (m : ℕ) → Reached img m → m ≢ p → SameFile img out m
  -- the blocks that it takes, and which of them the inode is
  pub takes : unused out + create_takes (head_at img p Dir) k ≡ unused img
  pub lowest_free : i ≡ lowest img 0 (blocks img)
  pub was_free : map_bit img i ≡ 1
  -- a directory's block is the lowest after it
  pub dir_block : k ≡ 2 → data_at out i 0 ≡ nth_free (blocks img) img 1
  -- the parent's blocks stay; a block that the two have and the parent had not was free
  pub parent_places : (q : Place) → InUse img p q → held out p q ≡ held img p q
  pub balance : (b : ℕ) → b < blocks img → owns out i b + (owns out p b + map_bit out b) ≡ owns img p b + map_bit img b

-- in sight of a caller
abbrev pub created_whole : {l img out : List ℕ} {p : ℕ} {x : List ℕ} {k i : ℕ} → CreateDone l img out p x k i → Whole out
created_whole {l} {img} {out} {p} {x} {k} {i} c = record { inodes = i ∷ l; sound = c.sound; tree = c.tree }

-- ---- from its steps

-- 1 more for a directory
abbrev extra : ℕ → ℕ
extra k = pick (eqb k 2) 1 0

extra_dir : (k : ℕ) → k ≡ 2 → extra k ≡ 1
extra_dir k e = rw (eq-eqb k 2 e)

extra_file : (k : ℕ) → k ≢ 2 → extra k ≡ 0
extra_file k d = rw (ne_eqb k 2 d)

module _ {img : List ℕ} (w : Whole img) (bytes : Bytes img) (p : ℕ) (r : Reached img p) (x : List ℕ) (src : Bytes x) (k : ℕ) (can : CanCreate img p x k) where
  abbrev l : List ℕ
  l = w.inodes

  abbrev i : ℕ
  i = fresh_inode (blocks img) img

  p_listed : 0 < cnt p l
  p_listed = omega (arith, w.tree.all p r)

  some_free : 0 < unused img
  some_free = omega (arith, can.room)

  p_dir : DirRules img p
  p_dir = w.tree.dir p r can.name.dir

  -- the new inode has come (f), has been made what it is to be (e), and is named (a)
  module _ {mid new out : List ℕ} {v n : ℕ} {t : FileType} (f : Fresh l img mid i t v)
      (e : Edited mid new i) (a : Appended new out p n (entry_of i x))
      (kind-as : kind_no t ≡ k) (file : k ≢ 2 → EmptyFile new i) (dir : k ≡ 2 → EmptyDir new i p)
      (linked : n ≡ links img p + pick (eqb k 2) 1 0) (took : owned (count new i) ≡ pick (eqb k 2) 1 0)
      (block : k ≡ 2 → data_at new i 0 ≡ nth_free (blocks img) img 1) where
    same : SameFile new out i
    same = made_same w.sound f e x p_listed a

    kind_out : kind out i ≡ k
    kind_out = kind_is same.slots.rec ∙ e.kind_is ∙ f.kind_is ∙ kind-as

    file_out : k ≢ 2 → EmptyFile out i
    file_out d =
        record {
          size_is = size_is same.slots.rec ∙ (file d).size_is;
          links_is = links_is same.slots.rec ∙ (file d).links_is;
          count_is = count_is same.slots.rec ∙ (file d).count_is;
          new_record =
              subst (λ (m : ℕ). NewRecord out i m 0 1 0) (sym (kind_is same.slots.rec)) (record_after (file d).new_record same.slots.rec);
        }

    dir_out : k ≡ 2 → EmptyDir out i p
    dir_out q =
        let g = dir q in
        let inode = (new_sound w.sound f e).inode i (listed_here i l) in
        record {
          kind_is = kind_is same.slots.rec ∙ g.kind_is;
          size_is = size_is same.slots.rec ∙ g.size_is;
          links_is = links_is same.slots.rec ∙ g.links_is;
          dir = dir_is same inode g.dir;
          up = entry_is same inode 1 (omega (arith, g.size_is)) ∙ g.up;
          first_bytes = entry_in_is same inode 0 (omega (arith, g.size_is)) ∙ g.first_bytes;
          second_bytes = entry_in_is same inode 1 (omega (arith, g.size_is)) ∙ g.second_bytes;
          new_record = record_after g.new_record same.slots.rec;
        }

    new_file : kind out i ≢ 2 → NewFile img out p i
    new_file d = grind (arith, common_steps, kind_out, file_out)

    new_dir : kind out i ≡ 2 → NewDir img out p i
    new_dir y = grind (arith, common_steps, kind_out, dir_out)

    tree_out : Tree out (i ∷ l)
    tree_out = out_tree w.sound f e x p_listed a w.tree can.name new_file new_dir

    took_some : k ≡ 2 → 0 < count new i
    took_some q = grind (arith, common_steps)

    -- p is before the append as it was
    p_same : SameFile img new p
    p_same = old_same w.sound f e p p_listed

    places_out : (q : Place) → InUse img p q → held out p q ≡ held img p q
    places_out q u = grind (arith, common_steps, count_is, p_same, held_is, slots_few)

    balance_out : (b : ℕ) → b < blocks img → owns out i b + (owns out p b + map_bit out b) ≡ owns img p b + map_bit img b
    balance_out b q = grind (arith, common_steps, owns_is, same, slots_few, p_same)

    create_by : CreateDone l img out p x k i
    create_by =
        let m = out_more w.sound f e x p_listed a can.name.stored in
        record {
          sound = out_sound w.sound f e x p_listed a;
          tree = tree_out;
          bytes = a.edited.bytes;
          blocks_same = out_blocks w.sound f e x p_listed a;
          new = λ q. omega (arith, w.tree.all i q, f.new);
          there = tree_out.only i (listed_here i l);
          kind_is = kind_out;
          file = file_out;
          dir = dir_out;
          more = m;
          entries_is = omega (arith, m.size_is);
          found = found_more p_dir m (can_where can.name);
          found_number = m.entry_new;
          parent_links = a.links_is ∙ linked;
          others = λ m q d. out_same w.sound f e x p_listed a m (omega (arith, w.tree.all m q)) d;
          takes = omega (arith, out_takes w.sound f e x p_listed a, took);
          lowest_free = next_lowest img l w.sound some_free;
          was_free = f.was_free;
          dir_block = λ q. data_is same.slots 0 (omega (arith, took_some q)) ∙ block q;
          parent_places = places_out;
          balance = balance_out;
        }

  -- ---- a file or a symbolic link

  made-kind : k ≢ 2 → kind_no (file_kind k) ≡ k
  made-kind d = grind (arith, common_steps)

  file_done : k ≢ 2 → CreateDone l img (made_file (blocks img) p (inode_at img p Dir) x (file_kind k) img) p x k i
  unfolding made_file
  file_done d =
      create_by f e a (made-kind d)
      (λ _.
      record {
        size_is = f.size_is;
        links_is = f.links_is;
        count_is = f.count_is;
        new_record = subst (λ (m : ℕ). NewRecord mid i m 0 1 0) (sym f.kind_is) (fresh_record f);
      })
      (λ q. absurd (d q)) (omega (arith, extra_file k d)) (ap owned f.count_is ∙ owned_few 0 (omega arith) ∙ sym (extra_file k d))
      (λ q. absurd (d q))
    where
      mid : List ℕ
      mid = encoded (taken img 0 (blocks img)) i (with_links (new_inode (file_kind k)) 1)

      f : Fresh l img mid i (file_kind k) 1
      f = new_inode_lem img l w.sound some_free bytes (file_kind k) 1 (omega arith)

      e : Edited mid mid i
      e = data_edited f.sound (listed_here i l) (data_refl mid i) refl f.bytes

      a : Appended mid (appended (blocks img) p (inode_at img p Dir) (entry_of i x) mid) p (links img p) (entry_of i x)
      a =
          append_there w.sound f.sound f.bytes f.blocks_is p p_listed (listed_more i p l p_listed)
          (f.same p p_listed) p_dir can.name.dir (links img p) (num_lt 2 img _ bytes) i x can.name.stored src
          (omega (arith, can.room, f.takes, extra_file k d))

  -- ---- a directory

  dir_done : k ≡ 2 → CreateDone l img (made_dir (blocks img) p (inode_at img p Dir) x img) p x k i
  unfolding made_dir empty_dir
  dir_done q =
      create_by f e a (sym q) (λ d. absurd (d q)) (λ _. g) (omega (arith, extra_dir k q)) (one_block ∙ sym (extra_dir k q))
      (λ _. empty_block f p (number_fits w.sound p p_listed) enough ∙ second_lowest f (next_lowest img l w.sound some_free))
    where
      mid : List ℕ
      mid = encoded (taken img 0 (blocks img)) i bare_dir

      new : List ℕ
      new = empty_dir (blocks img) i p (taken img 0 (blocks img))

      f : Fresh l img mid i Dir 2
      f = new_inode_lem img l w.sound some_free bytes Dir 2 (omega arith)

      enough : 1 ≤ unused mid
      enough = omega (arith, can.room, f.takes, extra_dir k q)

      e : Edited mid new i
      e = empty_edited f p (number_fits w.sound p p_listed) enough

      g : EmptyDir new i p
      g = empty_dir_lem f p (number_fits w.sound p p_listed) enough

      one_block : owned (count new i) ≡ 1
      one_block =
          let c : count new i ≡ 1 =
          omega (arith, ((new_sound w.sound f e).inode i (listed_here i l)).shape.counted, g.size_is) in
          ap owned c ∙ owned_few 1 (omega arith)

      spare : links img p + 1 < 65536
      spare = spare_link (links img p) (num_lt 2 img _ bytes) (can.spare q)

      a : Appended new (appended (blocks img) p (with_links (inode_at img p Dir) (links img p + 1)) (entry_of i x) new) p (links img p + 1)
          (entry_of i x)
      a =
          append_there w.sound (new_sound w.sound f e) e.bytes (new_blocks w.sound f e) p p_listed
          (listed_more i p l p_listed) (old_same w.sound f e p p_listed) p_dir can.name.dir (links img p + 1) spare
          i x can.name.stored src
          (omega (arith, can.room, new_takes w.sound f e, one_block, extra_dir k q))

  can_done : CreateDone l img (made (blocks img) p (inode_at img p Dir) x k img) p x k i
  unfolding made
  can_done = grind (arith, common_steps, dir_done, file_done)

-- ---- the call

module _ {img : List ℕ} (w : Whole img) (bytes : Bytes img) (p : ℕ) (r : Reached img p) (x : List ℕ) (src : Bytes x) (k i : ℕ)
    (done : create_answer (blocks img) img p x k ≡ the_inode i) where
  passed : CanCreate img p x k × (create_answer (blocks img) img p x k ≡ the_inode (lowest img 0 (blocks img)))
  passed = create_can (create_tests_lem w.sound p (omega (arith, w.tree.all p r)) x k) (ap answer_no done)

  number : fresh_inode (blocks img) img ≡ i
  number =
      next_lowest img w.inodes w.sound (omega (arith, passed.0.room)) ∙ sym (same_inode i (lowest img 0 (blocks img)) (sym done ∙ passed.1))

  card_is : create_card (blocks img) img p x k ≡ made (blocks img) p (inode_at img p Dir) x k img
  unfolding create_card
  card_is = rw ((of_kind img p Dir passed.0.name.dir).decodes, done)

  pub create : CreateDone w.inodes img (create_card (blocks img) img p x k) p x k i
  create =
      rw card_is
      (subst (CreateDone w.inodes img (made (blocks img) p (inode_at img p Dir) x k img) p x k) number (can_done w bytes p r x src k passed.0))

  -- with its listing in sight
  abbrev pub create_whole : Whole (create_card (blocks img) img p x k)
  create_whole = created_whole create
