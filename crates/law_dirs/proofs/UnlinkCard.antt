-- What unlink promises on a whole card: it stays whole, the directory has every entry but that one, an inode with links left keeps all that it has, one
-- with none is gone and all its blocks are free, and no other inode changes. `img` is the card before, `out` the card after. Assumes nothing.
use mathlib.Core.Path.{◌≡◌, refl, sym, ap, ◌∙◌, subst}
use mathlib.Core.Logic.{◌≢◌}
use mathlib.Core.List.{List}
use Prim.Native.Nat.{ℕ, ◌+◌, ◌-◌, ◌*◌, ◌≤◌, ◌<◌}
use native.Mathlib.Omega.{arith}
use native.Mathlib.Decide.{dec_lt, ℕ_discrete}
use Rattle.std.proofs.lemmas.Grind.{common_steps}
use Rattle.words.specs.Words.{Bytes}
use Rattle.words.specs.Sums.{δ, cnt, without}
use Rattle.words.proofs.Numbers.{num_lt}
use Rattle.words.proofs.Sums.{δ_same, δ_other, sum_on-without}
use Rattle.card_layout.specs.Super.{blocks, unused}
use Rattle.card_layout.specs.Inode.{size, kind, links, count, indirect, double, kind_no, head_at, with_links, encoded}
use Rattle.card_layout.specs.Slots.{owned}
use Rattle.card_layout.specs.declared.inode.FileType.{FileType}
use Rattle.card_layout.specs.declared.inode.FileType.TheVariants.{Dir}
use Rattle.card_layout.specs.declared.inode.DiskINode.{DiskINode}
use Rattle.card_layout.proofs.InodeLaws.{inode_at}
use Rattle.card_map.specs.Bits.{map_bit}
use Rattle.card_rules.specs.View.{file_byte, entries, entry, name, kids, times_named}
use Rattle.card_rules.specs.Whole as Card
use Rattle.card_rules.specs.Whole.{Reached, Sound, Tree, Whole}
use Rattle.card_rules.specs.Places.{Place, at_indirect, at_double, held, InUse}
use Rattle.card_rules.proofs.Views.{kids_of_dir, owned_mono}
use Rattle.card_rules.proofs.Tree.{named_some}
use Rattle.card_rules.specs.Same.{SameFile}
use Rattle.card_rules.proofs.Frames.{kind_is, count_is, file_refl}
use Rattle.card_rules.proofs.Kept.{Steady}
use Rattle.card_rules.proofs.Isolation.{others_same}
use Rattle.dir_entries.specs.Entries.{where_is, removed}
use Rattle.dir_entries.proofs.Lookup.{where_hit}
use Rattle.dir_answers.specs.Answers.{named_by}
use Rattle.dir_unlink.specs.Unlink.{links_left, parent_less, dropped, unlinked, unlink_answer, unlinked_at, unlink_card}
use Rattle.dir_answers.proofs.Dirs.{dir_is}
use Rattle.law_files.proofs.Requests.{of_kind}
use Rattle.law_tree.proofs.Counts.{subs_none}
use Rattle.law_tree.proofs.TreeStep.{Parent}
use Rattle.law_tree.proofs.TreeDrop.{tree_drop_name, tree_drop}
use Rattle.law_files.proofs.Edits.{steady_trans, edited_sound}
use Rattle.law_dirs.specs.Entries.{OneLess, Lengthened, Relinked as ButLinks}
use Rattle.law_dirs.proofs.Links.{Relinked, links_only}
use Rattle.law_dirs.proofs.Remove.{Removed, inode_at_same, remove_entry}
use Rattle.law_dirs.proofs.EntryCounts.{EntryLess, names_less, gone_less, parent_less_lem}
use Rattle.law_dirs.proofs.DropCard.{DroppedCard, drop_inode}
use Rattle.law_dirs.proofs.Tests.{dir_not}
use Rattle.law_dirs.proofs.UnlinkTests.{Target, target}
use Rattle.law_dirs.proofs.UnlinkSteps.{Cut, beside, less_held, less_unused, less_use, parent_entries, parent_links, parent_shrinks}
use Rattle.law_dirs.proofs.UnlinkSteps.{own_byte, own_count, own_held, own_kind, own_links, own_record, own_size}
use Rattle.refusals.specs.Refusals.{answer_no}
use Rattle.std.specs.Prelude.{Ok}

-- ---- what is promised

-- c has links left: it is as it was, but for them
pub record Still (l img out : List ℕ) (p c : ℕ) : Type 0 where
  pub sound : Sound out l
  pub tree : Tree out l
  pub reached : Reached out c
  pub links_is : links out c + 1 ≡ links img c
  pub unused_is : unused out ≡ unused img + (owned (count img p) - owned (count out p))

-- "at no links frees the inode and all it owns; the dead record keeps its fields with links 0"
pub record Dead (l img out : List ℕ) (p c : ℕ) : Type 0 where
  pub sound : Sound out (without c l)
  pub tree : Tree out (without c l)
  pub unreached : Reached out c → ⊥
  pub links_none : links out c ≡ 0
  pub free : (q : Place) → InUse img c q → map_bit out (held img c q) ≡ 1
  pub unused_is : unused out ≡ unused img + 1 + owned (count img c) + (owned (count img p) - owned (count out p))

-- directory p has no entry x any more; l lists the inodes of the card before
pub record UnlinkDone (l img out : List ℕ) (p : ℕ) (x : List ℕ) : Type 0 where
  pub whole : Whole out
  pub bytes : Bytes out
  pub steady : Steady img out
  -- "puts the last entry in the hole, shortens the directory by 260"
  pub parent_size : size out p + 260 ≡ size img p
  pub entries_is : entries out p + 1 ≡ entries img p
  pub entry_kept : (i : ℕ) → i < entries out p → i ≢ where_is img p x → entry out p i ≡ entry img p i
  pub name_kept : (i : ℕ) → i < entries out p → i ≢ where_is img p x → name out p i ≡ name img p i
  pub entry_moved : where_is img p x < entries out p → entry out p (where_is img p x) ≡ entry img p (entries img p - 1)
  pub name_moved : where_is img p x < entries out p → name out p (where_is img p x) ≡ name img p (entries img p - 1)
  pub listing : OneLess img out p (where_is img p x)
  pub gone : where_is out p x ≡ entries out p
  pub parent : Lengthened img out p
  pub parent_kind : kind out p ≡ kind img p
  pub parent_shrinks : count out p ≤ count img p
  pub parent_file : kind img (named_by img p x) ≢ 2 → links out p ≡ links img p
  pub parent_dir : kind img (named_by img p x) ≡ 2 → links out p + 1 ≡ links img p
  -- every other inode, file or directory
  pub others : (m : ℕ) → Reached img m → m ≢ p → m ≢ named_by img p x → SameFile img out m
  pub reached_was : (m : ℕ) → Reached out m → Reached img m
  pub reached_still : (m : ℕ) → Reached img m → m ≢ named_by img p x → Reached out m
  -- the inode that was named, dead or not
  pub size_is : size out (named_by img p x) ≡ size img (named_by img p x)
  pub kind_is : kind out (named_by img p x) ≡ kind img (named_by img p x)
  pub count_is : count out (named_by img p x) ≡ count img (named_by img p x)
  pub record_kept : ButLinks img out (named_by img p x)
  pub places : (q : Place) → InUse img (named_by img p x) q → held out (named_by img p x) q ≡ held img (named_by img p x) q
  pub data_same : (o : ℕ) → o < 4096 * count img (named_by img p x) → file_byte out (named_by img p x) o ≡ file_byte img (named_by img p x) o
  pub still : kind img (named_by img p x) ≢ 2 → 2 ≤ links img (named_by img p x) → Still l img out p (named_by img p x)
  pub dead : (kind img (named_by img p x) ≢ 2 → links img (named_by img p x) ≡ 1) → Dead l img out p (named_by img p x)

-- ---- unlink

module _ {img : List ℕ} (w : Whole img) (bytes : Bytes img) (p : ℕ) (r : Reached img p) (x : List ℕ) (k : FileType) (t : Target img p x k) where
  abbrev l : List ℕ
  l = w.inodes

  abbrev j : ℕ
  j = where_is img p x

  abbrev c : ℕ
  c = named_by img p x

  -- the links that c and p have then
  abbrev u : ℕ
  u = links_left (head_at img c k)

  abbrev v : ℕ
  v = parent_less (head_at img p Dir) (head_at img c k)

  abbrev mid : List ℕ
  mid = removed (blocks img) p (with_links (inode_at img p Dir) v) j img

  abbrev less : List ℕ
  less = encoded mid c (with_links (inode_at img c k) u)

  abbrev last : List ℕ
  last = dropped (blocks img) c (inode_at img c k) less

  hp : 0 < cnt p l
  hp = omega (arith, w.tree.all p r)

  hc : 0 < cnt c l
  hc = omega (arith, w.tree.all c t.reached)

  d : Card.Dir img p
  d = w.tree.dir p r t.parent

  -- ---- links

  kind_of : kind img c ≡ kind_no k
  kind_of = t.of.number

  bare : kind img c ≡ 2 → kids img c ≡ 0
  bare e = omega (arith, kids_of_dir img c e, t.bare (sym kind_of ∙ e))

  pub some_link : kind img c ≢ 2 → 1 ≤ links img c
  some_link n =
      let e : 2 + (j - 2) ≡ j = omega (arith, t.past) in
      omega (
        arith,
        w.tree.file_links c t.reached n,
        named_some img w p c (j - 2) r (omega (arith, t.past, t.there, kids_of_dir img p t.parent)) (ap (entry img p) e),
      )

  two_links : kind img c ≡ 2 → links img c ≡ 2
  two_links e = omega (arith, w.tree.dir_links c t.reached e, subs_none img c (bare e))

  left_file : kind img c ≢ 2 → u + 1 ≡ links img c
  left_file n = rw (dir_not k (λ e. n (kind_of ∙ e))) (omega (arith, some_link n))

  left_dir : kind img c ≡ 2 → u ≡ 0
  left_dir e = rw (dir_is k (sym kind_of ∙ e)) (omega (arith, two_links e))

  same_file : kind img c ≢ 2 → v ≡ links img p
  same_file n = rw (dir_not k (λ e. n (kind_of ∙ e))) (omega arith)

  less_dir : kind img c ≡ 2 → v + 1 ≡ links img p
  less_dir e = rw (dir_is k (sym kind_of ∙ e)) (omega (arith, w.tree.dir_links p r t.parent))

  -- ---- the steps

  removes : Removed img mid p v j
  removes =
      remove_entry img l w.sound bytes p hp Dir t.parent d.even v (omega (arith, num_lt 2 img (4096 * p + 6) bytes)) j t.there

  now : Sound mid l
  now = edited_sound w.sound hp removes.edited

  own_mid : SameFile img mid c
  own_mid = others_same w.sound hp removes.edited.within c hc (λ q. t.apart (sym q))

  relinks : Relinked l mid less c u
  relinks =
      subst (λ (e : DiskINode). Relinked l mid (encoded mid c (with_links e u)) c u) (inode_at_same own_mid.slots.rec k)
      (links_only mid l now removes.edited.bytes c hc u (omega (arith, num_lt 2 img (4096 * c + 6) bytes)) k
      (kind_is own_mid.slots.rec ∙ kind_of))

  cut : Cut l img mid less p c v u j
  cut = record { sound = w.sound; p_in = hp; c_in = hc; apart = t.apart; removes = removes; relinks = relinks }

  steady_less : Steady img less
  steady_less = steady_trans removes.edited.balanced.steady relinks.balanced.steady

  count_less : count less c ≡ count img c
  count_less = relinks.count_is ∙ count_is own_mid.slots.rec

  indirect_less : indirect img c ≡ indirect less c
  indirect_less = go (dec_lt (count img c) 12)
    where
      go : Dec (count img c < 12) → indirect img c ≡ indirect less c
      go (yes q) = (w.sound.inode c hc).shape.single.to q ∙ sym ((relinks.sound.inode c hc).shape.single.to (omega (arith, count_less)))
      go (no q) =
          sym (less_held cut (λ m _. file_refl less m) at_indirect (omega arith))

  double_less : double img c ≡ double less c
  double_less = go (dec_lt (count img c) 1036)
    where
      go : Dec (count img c < 1036) → double img c ≡ double less c
      go (yes q) = (w.sound.inode c hc).shape.twofold.to q ∙ sym ((relinks.sound.inode c hc).shape.twofold.to (omega (arith, count_less)))
      go (no q) =
          sym (less_held cut (λ m _. file_refl less m) at_double (omega arith))

  drops : DroppedCard l less last c
  drops =
      subst (λ (b : ℕ). DroppedCard l less (dropped b c (inode_at img c k) less) c) steady_less.blocks_same
      (drop_inode less l relinks.sound relinks.bytes c hc (inode_at img c k) (sym count_less) indirect_less double_less)

  -- ---- what both have in common: nothing changes in what is listed

  module _ {out : List ℕ} (same : (m : ℕ) → 0 < cnt m l → SameFile less out m) where
    entries_less : EntryLess img out p j
    entries_less = parent_entries cut same

    parent_is : Parent img out p
    parent_is = parent_less_lem d entries_less t.past t.there t.parent

    by_count : (m : ℕ) → times_named out p m + δ c m ≡ times_named img p m
    by_count = names_less d t.parent entries_less t.past t.there

    file_links : kind img c ≢ 2 → links out p ≡ links img p
    file_links n = parent_links cut same ∙ same_file n

    dir_links : kind img c ≡ 2 → links out p + 1 ≡ links img p
    dir_links e = omega (arith, parent_links cut same, less_dir e)

    unused_less : unused less ≡ unused img + (owned (count img p) - owned (count out p))
    unused_less =
        omega (
          arith,
          less_unused cut same,
          owned_mono (count out p) (count img p) (parent_shrinks cut same),
        )

    module _ (kept : List ℕ) (sound : Sound out kept) (tree : Tree out kept) (fewer : (m : ℕ) → cnt m kept ≤ cnt m l)
        (all_but : (m : ℕ) → m ≢ c → cnt m l ≤ cnt m kept) where
      done_by : Bytes out → Steady img out → (kind img c ≢ 2 → 2 ≤ links img c → Still l img out p c)
          → ((kind img c ≢ 2 → links img c ≡ 1) → Dead l img out p c) → UnlinkDone l img out p x
      done_by bytes-out steady still dead =
          record {
            whole = record { inodes = kept; sound = sound; tree = tree };
            bytes = bytes-out;
            steady = steady;
            parent_size = entries_less.size_is;
            entries_is = omega (arith, entries_less.size_is);
            entry_kept = entries_less.entry_kept;
            name_kept = entries_less.name_kept;
            entry_moved = entries_less.entry_moved;
            name_moved = entries_less.name_moved;
            listing = entries_less.listing;
            parent = entries_less.parent;
            gone =
                subst (λ (y : List ℕ). where_is out p y ≡ entries out p) (where_hit img p x t.there) (gone_less d entries_less t.past t.there);
            parent_kind = entries_less.kind_is;
            parent_shrinks = parent_shrinks cut same;
            parent_file = file_links;
            parent_dir = dir_links;
            others = λ m q. beside cut same m (omega (arith, w.tree.all m q));
            reached_was = λ m q. w.tree.only m (omega (arith, tree.all m q, fewer m));
            reached_still = λ m q n. tree.only m (omega (arith, w.tree.all m q, all_but m n));
            size_is = own_size cut same;
            kind_is = own_kind cut same;
            count_is = own_count cut same;
            record_kept = own_record cut same;
            places = own_held cut same;
            data_same = own_byte cut same;
            still = still;
            dead = dead;
          }

  -- ---- it has links left

  still_done : u ≢ 0 → UnlinkDone l img less p x
  still_done n =
      done_by stays l relinks.sound tree (λ m. omega arith) (λ m _. omega arith) relinks.bytes steady_less (λ _ _. still)
      (λ e. absurd (n (omega (arith, left_file file, e file))))
    where
      stays : (m : ℕ) → 0 < cnt m l → SameFile less less m
      stays m _ = file_refl less m

      file : kind img c ≢ 2
      file e = n (left_dir e)

      fewer : links less c + 1 ≡ links img c
      fewer = omega (arith, relinks.links_is, left_file file)

      tree : Tree less l
      tree =
          tree_drop_name w.tree w.sound.inode
          (record {
            linking =
                record {
                  p_in = hp;
                  c_in = hc;
                  parent = parent_is stays;
                  parent_links = file_links stays file;
                  no_dir = file;
                  kind_same = own_kind cut stays;
                  others = beside cut stays;
                };
            less = by_count stays;
            links_less = fewer;
            left = positive relinks.links_is;
          })
        where
          positive : links less c ≡ u → 0 < links less c
          positive e = go (dec_lt 0 (links less c))
            where
              go : Dec (0 < links less c) → 0 < links less c
              go (yes q) = q
              go (no q) = absurd (n (sym e ∙ (let z : links less c ≡ 0 = omega arith in z)))

      still : Still l img less p c
      still =
          record { sound = relinks.sound; tree = tree; reached = tree.only c hc; links_is = fewer; unused_is = unused_less stays }

  -- ---- it has none

  dead_done : u ≡ 0 → UnlinkDone l img last p x
  dead_done z =
      done_by stays (without c l) drops.sound tree (λ m. omega (arith, sum_on-without (δ m) c l hc))
      (λ m n. omega (arith, sum_on-without (δ m) c l hc, δ_other m c n)) drops.bytes (steady_trans steady_less drops.dropped.steady)
      (λ n q. absurd (omega (arith, left_file n))) (λ _. dead)
    where
      stays : (m : ℕ) → 0 < cnt m l → SameFile less last m
      stays m h = go (ℕ_discrete m c)
        where
          go : Dec (m ≡ c) → SameFile less last m
          go (yes q) = subst (SameFile less last) (sym q) drops.file
          go (no q) = drops.others m h q

      tree : Tree last (without c l)
      tree =
          tree_drop w.tree w.sound.inode
          (record {
            p_in = hp;
            c_in = hc;
            parent = parent_is stays;
            less = by_count stays;
            others = beside cut stays;
            file = λ n. record { one_link = omega (arith, left_file n); parent_links = file_links stays n };
            dir = λ e. record { bare = bare e; parent_links = dir_links stays e };
          })

      dead : Dead l img last p c
      dead =
          record {
            sound = drops.sound;
            tree = tree;
            unreached = λ q. omega (arith, tree.all c q, sum_on-without (δ c) c l hc, δ_same c c refl, w.tree.all c t.reached);
            links_none = own_links cut stays ∙ z;
            free = λ q i.
                ap (map_bit last) (sym (less_held cut stays q i))
                ∙ drops.free q (less_use cut stays q i);
            unused_is = omega (arith, drops.unused_is, unused_less stays, ap owned count_less);
          }

  -- ---- the card that unlink leaves

  card_is : unlink_answer img p x ≡ Ok tt → unlink_card (blocks img) img p x ≡ unlinked (blocks img) p (inode_at img p Dir) j c (inode_at img c k) img
  unfolding unlink_card unlinked_at
  card_is e = rw ((of_kind img p Dir t.parent).decodes, t.of.decodes, e)

  card_done : UnlinkDone l img (unlinked (blocks img) p (inode_at img p Dir) j c (inode_at img c k) img) p x
  unfolding unlinked
  card_done = grind (arith, common_steps, dead_done, still_done)

module _ {img : List ℕ} (w : Whole img) (bytes : Bytes img) (p : ℕ) (r : Reached img p) (x : List ℕ) (done : unlink_answer img p x ≡ Ok tt) where
  pub unlink_done : UnlinkDone w.inodes img (unlink_card (blocks img) img p x) p x
  unlink_done =
      let t = target w p r x (ap answer_no done) in
      rw (card_is w bytes p r x t.0 t.1 done) (card_done w bytes p r x t.0 t.1)
