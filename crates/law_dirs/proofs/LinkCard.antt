-- What link promises on a whole card: it stays whole with the same inodes, the name is found, the old names stay, the inode that it names has one link more
-- and is otherwise as it was, no other inode changes, and the blocks that it takes are counted. Assumes nothing.
use mathlib.Core.Path.{◌≡◌, refl, sym, ap, ◌∙◌, subst}
use mathlib.Core.List.{List}
use mathlib.Core.Logic.{◌≢◌}
use Prim.Native.Nat.{ℕ, ◌+◌, ◌*◌, ◌<◌}
use native.Mathlib.Omega.{arith}
use Rattle.words.specs.Words.{Bytes}
use Rattle.words.specs.Sums.{cnt}
use Rattle.words.proofs.Numbers.{num_lt}
use Rattle.card_layout.specs.Super.{blocks, unused}
use Rattle.card_layout.specs.Inode.{size, kind, links, count, encoded, with_links}
use Rattle.card_layout.specs.Entry.{entry_of}
use Rattle.card_layout.specs.Slots.{owned}
use Rattle.card_layout.specs.declared.inode.FileType.{FileType}
use Rattle.card_layout.specs.declared.inode.FileType.TheVariants.{Dir}
use Rattle.card_layout.specs.declared.inode.DiskINode.{DiskINode}
use Rattle.card_layout.proofs.InodeLaws.{inode_at}
use Rattle.card_rules.specs.View.{entries, entry, file_byte}
use Rattle.card_rules.specs.Whole.{Reached, Sound, Tree, Whole, Dir as DirRules}
use Rattle.card_rules.specs.Places.{Place, held, InUse}
use Rattle.card_rules.specs.Same.{SameFile}
use Rattle.card_rules.proofs.Frames.{size_is, kind_is, links_is, count_is, file_byte_is, file_refl, file_trans}
use Rattle.card_rules.proofs.Kept.{slots_few}
use Rattle.card_rules.proofs.Isolation.{others_same}
use Rattle.file_requests.specs.Requests.{needs}
use Rattle.dir_entries.specs.Entries.{where_is, appended}
use Rattle.dir_link.specs.Link.{link_answer, linked, link_card}
use Rattle.law_files.proofs.Resized.{held_is, in_use_is}
use Rattle.law_files.proofs.Requests.{OfKind, of_kind, kinds}
use Rattle.law_files.proofs.Files.{takes_exactly}
use Rattle.law_tree.proofs.TreeAdd.{tree_add_name}
use Rattle.law_files.proofs.Edits.{edited_sound}
use Rattle.law_dirs.specs.Entries.{Relinked as ButLinks}
use Rattle.law_dirs.proofs.EntryBytes.{relinked_record, relinked_trans}
use Rattle.law_dirs.proofs.Links.{Relinked, links_only}
use Rattle.law_dirs.proofs.Append.{Appended}
use Rattle.law_dirs.proofs.Remove.{inode_at_same}
use Rattle.law_dirs.proofs.EntryCounts.{EntryMore, more_by, more_after, names_more, parent_more, found_more}
use Rattle.law_dirs.proofs.NameTests.{can_where}
use Rattle.law_dirs.proofs.LinkTests.{CanLink, link_tests_lem, link_can}
use Rattle.law_dirs.proofs.Creating.{number_fits, spare_link, append_there, append_takes}
use Rattle.refusals.specs.Refusals.{answer_no}
use Rattle.std.specs.Prelude.{Ok}

-- directory p has the name x for inode c; l are the inodes before and after
pub record LinkDone (l img out : List ℕ) (p : ℕ) (x : List ℕ) (c : ℕ) : Type 0 where
  -- the card is whole, with the same inodes
  pub sound : Sound out l
  pub tree : Tree out l
  pub bytes : Bytes out
  pub blocks_same : blocks out ≡ blocks img
  -- c has one link more; its kind, its length, the blocks that it has and the bytes in them stay
  pub links_is : links out c ≡ links img c + 1
  pub kind_is : kind out c ≡ kind img c
  pub size_is : size out c ≡ size img c
  pub count_is : count out c ≡ count img c
  pub record_kept : ButLinks img out c
  pub places : (q : Place) → InUse img c q → held out c q ≡ held img c q
  pub kept : (o : ℕ) → o < 4096 * count img c → file_byte out c o ≡ file_byte img c o
  -- the parent: its old entries, and the new one after them, where the name is found
  pub more : EntryMore img out p c x
  pub entries_is : entries out p ≡ entries img p + 1
  pub found : where_is out p x ≡ entries img p
  pub found_number : entry out p (entries img p) ≡ c
  pub parent_links : links out p ≡ links img p
  -- isolation: record, block list and bytes of every other inode
  pub others : (m : ℕ) → Reached img m → m ≢ p → m ≢ c → SameFile img out m
  pub takes : unused out + needs (count img p) (size img p + 260) ≡ unused img

-- in sight of a caller
abbrev pub linked_whole : {l img out : List ℕ} {p : ℕ} {x : List ℕ} {c : ℕ} → LinkDone l img out p x c → Whole out
linked_whole {l} {img} {out} {p} {x} {c} d = record { inodes = l; sound = d.sound; tree = d.tree }

module _ {img : List ℕ} (w : Whole img) (bytes : Bytes img) (p : ℕ) (r : Reached img p) (x : List ℕ) (src : Bytes x) (c : ℕ) (u : Reached img c)
    (can : CanLink img p x c) where
  abbrev l : List ℕ
  l = w.inodes

  p_in : 0 < cnt p w.inodes
  p_in = omega (arith, w.tree.all p r)

  c_in : 0 < cnt c w.inodes
  c_in = omega (arith, w.tree.all c u)

  p_dir : DirRules img p
  p_dir = w.tree.dir p r can.name.dir

  -- c is no directory
  apart : c ≢ p
  apart e = can.no_dir (ap (kind img) e ∙ can.name.dir)

  -- the card with the entry
  abbrev mid : List ℕ
  mid = appended (blocks img) p (inode_at img p Dir) (entry_of c x) img

  a : Appended img mid p (links img p) (entry_of c x)
  a =
      append_there w.sound w.sound bytes refl p p_in p_in (file_refl img p) p_dir can.name.dir (links img p) (num_lt 2 img _ bytes) c x
      can.name.stored src can.room

  mid_sound : Sound mid w.inodes
  mid_sound = edited_sound w.sound p_in a.edited

  c_same : SameFile img mid c
  c_same = others_same w.sound p_in a.edited.within c c_in apart

  spare : links img c + 1 < 65536
  spare = spare_link (links img c) (num_lt 2 img _ bytes) can.spare

  module _ (t : FileType) (o : OfKind img c t) where
    abbrev out : List ℕ
    out = linked (blocks img) p (inode_at img p Dir) x c (inode_at img c t) img

    b : Relinked w.inodes mid (linked (blocks img) p (inode_at img p Dir) x c (inode_at img c t) img) c (links img c + 1)
    unfolding linked
    b =
        subst (λ (d : DiskINode). Relinked w.inodes mid (encoded mid c (with_links d (links img c + 1))) c (links img c + 1))
        (inode_at_same c_same.slots.rec t)
        (links_only mid w.inodes mid_sound a.edited.bytes c c_in (links img c + 1) spare t (kind_is c_same.slots.rec ∙ o.number))

    p_same : SameFile mid out p
    p_same = b.others p p_in (λ e. apart (sym e))

    more_out : EntryMore img out p c x
    more_out =
        more_after (slots_few mid_sound p p_in) (more_by a can.name.stored (number_fits w.sound c c_in)) p_same (mid_sound.inode p p_in)

    others_out : (m : ℕ) → 0 < cnt m w.inodes → m ≢ p → m ≢ c → SameFile img out m
    others_out m h d e =
        file_trans (slots_few w.sound m h) (others_same w.sound p_in a.edited.within m h d) (b.others m h e)

    kind_out : kind out c ≡ kind img c
    kind_out = b.kind_is ∙ kind_is c_same.slots.rec

    parent_out : links out p ≡ links img p
    parent_out = links_is p_same.slots.rec ∙ a.links_is

    tree_out : Tree out w.inodes
    tree_out =
        tree_add_name w.tree w.sound.inode
        (record {
          linking =
              record {
                p_in = p_in;
                c_in = c_in;
                parent = parent_more p_dir more_out (can_where can.name) can.name.dir can.name.stored;
                parent_links = parent_out;
                no_dir = can.no_dir;
                kind_same = kind_out;
                others = others_out;
              };
          more = names_more p_dir can.name.dir more_out;
          links-more = b.links_is;
        })

    can_done : LinkDone w.inodes img out p x c
    can_done =
        let k = c_same.slots.rec in
        record {
          sound = b.sound;
          tree = tree_out;
          bytes = b.bytes;
          blocks_same = b.balanced.steady.blocks_same ∙ a.edited.balanced.steady.blocks_same;
          links_is = b.links_is;
          kind_is = kind_out;
          size_is = b.size_is ∙ size_is k;
          count_is = b.count_is ∙ count_is k;
          record_kept = relinked_trans (relinked_record k) b.rest;
          places = λ q v.
              b.places q (in_use_is mid img c (sym (count_is k)) q v) ∙ held_is c_same.slots (slots_few w.sound c c_in) q v;
          kept = λ y q. b.kept y (rw (count_is k) q) ∙ file_byte_is c_same y q;
          more = more_out;
          entries_is = omega (arith, more_out.size_is);
          found = found_more p_dir more_out (can_where can.name);
          found_number = more_out.entry_new;
          parent_links = parent_out;
          others = λ m h d e. others_out m (omega (arith, w.tree.all m h)) d e;
          takes =
              omega (
                arith,
                append_takes w.sound p_in a,
                takes_exactly mid_sound b.sound c_in b.balanced,
                ap owned b.count_is,
              );
        }

-- ---- the call

module _ {img : List ℕ} (w : Whole img) (bytes : Bytes img) (p : ℕ) (r : Reached img p) (x : List ℕ) (src : Bytes x) (c : ℕ) (u : Reached img c)
    (done : link_answer img p x c ≡ Ok tt) where
  passed : CanLink img p x c
  passed = (link_can (link_tests_lem w.sound p (omega (arith, w.tree.all p r)) x c (omega (arith, w.tree.all c u))) (ap answer_no done)).0

  card_is : (t : FileType) → OfKind img c t
      → link_card (blocks img) img p x c ≡ linked (blocks img) p (inode_at img p Dir) x c (inode_at img c t) img
  unfolding link_card
  card_is t o = rw ((of_kind img p Dir passed.name.dir).decodes, o.decodes, done)

  pub link : LinkDone w.inodes img (link_card (blocks img) img p x c) p x c
  link =
      let k = kinds img c (w.sound.inode c (omega (arith, w.tree.all c u))) in
      rw (card_is k.0 k.1) (can_done w bytes p r x src c u passed k.0 k.1)

  -- with its listing in sight
  abbrev pub link_whole : Whole (link_card (blocks img) img p x c)
  link_whole = linked_whole link
