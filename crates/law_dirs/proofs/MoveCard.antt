-- Move keeps a card whole: "in one directory rewrites the name in place; otherwise it appends to the target, then removes, and for a directory adjusts both
-- parents' links .. the number in ".." becomes the new parent's, its other bytes staying". `img` is the card before, `out` the card after; p and t are the
-- directories, j the entry of the old name in p, c the inode that it names. Assumes nothing.
use mathlib.Core.Path.{◌≡◌, refl, sym, ap, ◌∙◌, subst}
use mathlib.Core.List.{List}
use mathlib.Core.Logic.{◌≢◌}
use Prim.Native.Nat.{ℕ, ◌+◌, ◌-◌, ◌*◌, ◌≤◌, ◌<◌, ◌^◌}
use native.Mathlib.Omega.{arith}
use native.Mathlib.Decide.{ℕ_discrete}
use Rattle.std.proofs.lemmas.Grind.{common_steps}
use Rattle.words.specs.Words.{Bytes}
use Rattle.words.specs.Sums.{cnt}
use Rattle.words.proofs.Numbers.{num_lt}
use Rattle.card_layout.specs.Super.{blocks}
use Rattle.card_layout.specs.Inode.{kind, links, count}
use Rattle.card_layout.specs.Entry.{entry_of}
use Rattle.card_rules.specs.View.{file_byte, entries, entry, name}
use Rattle.card_rules.specs.Whole.{Reached, Dir, Sound, Tree, Whole}
use Rattle.card_rules.proofs.Owners.{inode_below}
use Rattle.card_rules.proofs.Tree.{reached_listed}
use Rattle.card_rules.proofs.Kept.{Steady, slots_few}
use Rattle.card_rules.specs.Same.{SameSlots, SameFile}
use Rattle.card_rules.proofs.Frames.{size_is, links_is, file_trans}
use Rattle.card_rules.proofs.Isolation.{data_slots, others_same}
use Rattle.dir_entries.specs.Entries.{where_is, entry_put}
use Rattle.dir_entries.proofs.Lookup.{where_hit, where_none, where_not}
use Rattle.dir_answers.specs.Answers.{named_by}
use Rattle.dir_move.specs.Move.{up_put, move_answer, move_card}
use Rattle.law_files.proofs.Edits.{steady_trans}
use Rattle.law_dirs.specs.Entries.{entry_in}
use Rattle.law_dirs.proofs.Entry.{EntryPut, entry_put_lem, entry_of-length, entry_of_bytes}
use Rattle.law_dirs.proofs.EntryCounts.{EntryMore, EntryLess, EntryNamed, named_by_lem, more_after, less_after, names_more, names_less}
use Rattle.law_dirs.proofs.EntryCounts.{names_named, found_more, found_named, gone_less, parent_more, parent_less_lem, parent_named}
use Rattle.law_tree.proofs.TreeMove.{Above, MovedFile, MovedDir, tree_move, tree_rename}
use Rattle.law_dirs.proofs.Climb.{above_not, not_own_child}
use Rattle.law_dirs.proofs.MoveDir.{Turned, TurnedDir, turn_up, turned_by, turned_names, turned_dir}
use Rattle.law_dirs.proofs.MoveCarry.{carried_out, Carried, carry}
use Rattle.law_dirs.proofs.MoveTests.{Roomy}
use Rattle.law_dirs.proofs.MoveJudged.{Judged, judged, move_here, move_file, move_dir}
use Rattle.std.specs.Prelude.{Ok}

-- ---- what a move says

-- in one directory: entry j has the new name, and nothing else changed
pub record MovedHere (img out : List ℕ) (p : ℕ) (old : List ℕ) (j : ℕ) (new : List ℕ) : Type 0 where
  pub renamed : EntryNamed img out p j new
  pub slots : SameSlots img out p
  pub links_same : links out p ≡ links img p
  pub bytes_new : entry_in out p j ≡ entry_of (entry img p j) new
  pub bytes_kept : (o : ℕ) → o < 4096 * count img p → (260 * j ≤ o → o < 260 * j + 260 → ⊥) → file_byte out p o ≡ file_byte img p o
  pub at : where_is out p new ≡ j
  pub gone : where_is out p old ≡ entries out p

pub record AcrossDir (img out : List ℕ) (p t c : ℕ) : Type 0 where
  pub turned : TurnedDir img out c t
  pub from-links : links out p + 1 ≡ links img p
  pub to_links : links out t ≡ links img t + 1
  pub away : Above img c t

-- from one directory to another
pub record MovedAcross (img out : List ℕ) (p : ℕ) (old : List ℕ) (j t c : ℕ) (new : List ℕ) : Type 0 where
  pub less : EntryLess img out p j
  pub gone : where_is out p old ≡ entries out p
  pub more : EntryMore img out t c new
  pub at : where_is out t new ≡ entries img t
  pub file : kind img c ≢ 2 → MovedFile img out p t c
  pub dir : kind img c ≡ 2 → AcrossDir img out p t c

pub record MoveDone (l img out : List ℕ) (p : ℕ) (old : List ℕ) (j t c : ℕ) (new : List ℕ) : Type 0 where
  pub sound : Sound out l
  pub tree : Tree out l
  pub bytes : Bytes out
  pub steady : Steady img out
  pub others : (m : ℕ) → 0 < cnt m l → m ≢ p → m ≢ t → m ≢ c → SameFile img out m
  pub c_not_p : c ≢ p
  pub c_not_t : c ≢ t
  pub file : kind img c ≢ 2 → SameFile img out c
  pub found : named_by out t new ≡ c
  pub here : p ≡ t → MovedHere img out p old j new × SameFile img out c
  pub across : p ≢ t → MovedAcross img out p old j t c new

-- ---- the old name is gone from its entry

renamed_gone : {img out : List ℕ} {p j : ℕ} {old new : List ℕ} → Dir img p → EntryNamed img out p j new → j < entries img p → name img p j ≡ old
    → where_is img p new ≡ entries img p → where_is out p old ≡ entries out p
renamed_gone {img} {out} {p} {j} {old} {new} d a high hit free = grind (arith, common_steps, where_none, where_not)

-- ---- a move that is done

module _ {img : List ℕ} (w : Whole img) (bytes : Bytes img) (p t : ℕ) (old new : List ℕ) (src : Bytes new) (rp : Reached img p) (rt : Reached img t)
    (done : move_answer (blocks img) img p old t new ≡ Ok tt) where
  abbrev l : List ℕ
  l = w.inodes

  abbrev j : ℕ
  j = where_is img p old

  abbrev c : ℕ
  c = named_by img p old

  a : Judged img p old t new
  a = judged w p t old new rp rt done

  p_in : 0 < cnt p l
  p_in = reached_listed img w p rp

  t_in : 0 < cnt t l
  t_in = reached_listed img w t rt

  c_in : 0 < cnt c l
  c_in = reached_listed img w c a.c_reached

  p_dir : Dir img p
  p_dir = w.tree.dir p rp a.p_dir

  t_dir : Dir img t
  t_dir = w.tree.dir t rt a.t_dir

  hit : name img p j ≡ old
  hit = where_hit img p old a.there

  number_low : (n : ℕ) → 0 < cnt n l → n < 2 ^ 32
  number_low n h = omega (arith, inode_below img l w.sound n h, w.sound.sized.many)

  pub own_not_p : c ≢ p
  own_not_p e = not_own_child w p (j - 2) rp a.c_below (a.c_kid ∙ e)

  -- in one directory
  module _ (e : p ≡ t) where
    free_here : where_is img p new ≡ entries img p
    free_here = subst (λ (n : ℕ). where_is img n new ≡ entries img n) (sym e) a.new_free

    abbrev here_out : List ℕ
    here_out = entry_put (blocks img) p j (entry_of c new) img

    put : EntryPut l img here_out p j (entry_of c new)
    put =
        entry_put_lem img l w.sound bytes p p_in j (entry_of c new) (entry_of-length c new a.new_name_lem) (entry_of_bytes c new src)
        (omega (arith, a.there))

    renaming : EntryNamed img here_out p j new
    renaming = named_by_lem put a.new_name_lem (number_low c c_in) refl

    here_others : (m : ℕ) → 0 < cnt m l → m ≢ p → SameFile img here_out m
    here_others = others_same w.sound p_in put.edited.within

    here_tree : Tree here_out l
    here_tree =
        tree_rename w.tree w.sound.inode
        (record {
          p_in = p_in;
          parent = parent_named p_dir renaming a.low a.there free_here a.p_dir a.new_name_lem;
          parent_links = put.links_is;
          same = names_named p_dir a.p_dir renaming;
          others = here_others;
        })

    here_at : where_is here_out p new ≡ j
    here_at = found_named p_dir renaming a.low a.there free_here

    here_done : MoveDone l img here_out p old j t c new
    here_done =
        record {
          sound = put.sound;
          tree = here_tree;
          bytes = put.edited.bytes;
          steady = put.edited.balanced.steady;
          others = λ m h d _ _. here_others m h d;
          c_not_p = own_not_p;
          c_not_t = λ q. own_not_p (q ∙ sym e);
          file = λ _. here_others c c_in own_not_p;
          found =
              subst (λ (n : ℕ). named_by here_out n new ≡ c) e (ap (entry here_out p) here_at ∙ renaming.entry_kept j a.there);
          here = λ _. (
            record {
              renamed = renaming;
              slots = data_slots w.sound p_in put.within_data;
              links_same = put.links_is;
              bytes_new = put.bytes_new;
              bytes_kept = put.bytes_kept;
              at = here_at;
              gone = renamed_gone p_dir renaming a.there hit free_here;
            },
            here_others c c_in own_not_p,
          );
          across = λ d. absurd (d e);
        }

  -- from one directory to another
  module _ (apart : p ≢ t) where
    r : Roomy img t c
    r = a.roomy apart

    links_below : (n : ℕ) → links img n < 65536
    links_below n = num_lt 2 img (4096 * n + 6) bytes

    abbrev mid : ℕ → ℕ → List ℕ
    mid v u = carried_out img p v j t u c new

    carried : (v u : ℕ) → v < 65536 → u < 65536 → Carried l img (mid v u) p v j t u c new
    carried v u v_low u-low =
        carry img l w.sound bytes p t p_in t_in apart a.p_dir a.t_dir p_dir.even t_dir.even v u v_low u-low j a.there c
        (number_low c c_in) new a.new_name_lem src r.room

    -- what is seen on the card after makes a tree
    module _ (out : List ℕ) (c_not_t : c ≢ t) (others : (m : ℕ) → 0 < cnt m l → m ≢ p → m ≢ t → m ≢ c → SameFile img out m)
        (less : EntryLess img out p j) (more : EntryMore img out t c new) (file : kind img c ≢ 2 → MovedFile img out p t c)
        (dir : kind img c ≡ 2 → AcrossDir img out p t c) where
      across_dir : kind img c ≡ 2 → MovedDir img out p t c
      across_dir k =
          let x = dir k in
          record {
            kind_same = x.turned.kind_same;
            links_same = x.turned.links_same;
            names_same = turned_names (w.tree.dir c a.c_reached k) x.turned;
            dir = turned_dir (w.tree.dir c a.c_reached k) x.turned;
            up = x.turned.up;
            from-links = x.from-links;
            to_links = x.to_links;
            away = x.away;
          }

      across_tree : Tree out l
      across_tree =
          tree_move w.tree w.sound.inode
          (record {
            p_in = p_in;
            t_in = t_in;
            c_in = c_in;
            p_not_t = apart;
            c_not_p = own_not_p;
            c_not_t = c_not_t;
            from = parent_less_lem p_dir less a.low a.there a.p_dir;
            to = parent_more t_dir more a.new_free a.t_dir a.new_name_lem;
            less = names_less p_dir a.p_dir less a.low a.there;
            more = names_more t_dir a.t_dir more;
            others = others;
            file = file;
            dir = across_dir;
          })

      across_at : where_is out t new ≡ entries img t
      across_at = found_more t_dir more a.new_free

      across_done : Sound out l → Bytes out → Steady img out → MoveDone l img out p old j t c new
      across_done s b y =
          record {
            sound = s;
            tree = across_tree;
            bytes = b;
            steady = y;
            others = others;
            c_not_p = own_not_p;
            c_not_t = c_not_t;
            file = λ f. (file f).same;
            found = ap (entry out t) across_at ∙ more.entry_new;
            here = λ e. absurd (apart e);
            across = λ _.
                record {
                  less = less;
                  gone = subst (λ (x : List ℕ). where_is out p x ≡ entries out p) hit (gone_less p_dir less a.low a.there);
                  more = more;
                  at = across_at;
                  file = file;
                  dir = dir;
                };
          }

    -- a file
    file_done : kind img c ≢ 2 → MoveDone l img (mid (links img p) (links img t)) p old j t c new
    file_done f =
        let x = carried (links img p) (links img t) (links_below p) (links_below t) in
        let q : c ≢ t = λ e. f (ap (kind img) e ∙ a.t_dir) in
        across_done (mid (links img p) (links img t)) q (λ m h d e _. x.others m h d e) x.less x.more
        (λ _. record { same = x.others c c_in own_not_p q; from-links = x.from-links; to_links = x.to_links })
        (λ k. absurd (f k)) x.sound x.bytes x.steady

    -- a directory: ".." besides
    module _ (k : kind img c ≡ 2) where
      away : Above img c t
      away = r.away k

      dir_not_t : c ≢ t
      dir_not_t e = above_not away (sym e)

      abbrev between : List ℕ
      between = mid (links img p - 1) (links img t + 1)

      x : Carried l img between p (links img p - 1) j t (links img t + 1) c new
      x =
          carried (links img p - 1) (links img t + 1) (omega (arith, links_below p))
          (below_full (links img t) (links_below t) (r.links_left_lem k))
        where
          below_full : (n : ℕ) → n < 65536 → n ≢ 65535 → n + 1 < 65536
          below_full n h d = omega arith

      c_same : SameFile img between c
      c_same = x.others c c_in own_not_p dir_not_t

      y : Turned l between (up_put (blocks img) c t between) c t
      y =
          subst (λ (b : ℕ). Turned l between (up_put b c t between) c t) x.steady.blocks_same
          (turn_up between l x.sound x.bytes c c_in
          (rw (size_is c_same.slots.rec) (w.tree.dir c a.c_reached k).least) t (number_low t t_in))

      p_same : SameFile between (up_put (blocks img) c t between) p
      p_same = y.others p p_in (λ e. own_not_p (sym e))

      t_same : SameFile between (up_put (blocks img) c t between) t
      t_same = y.others t t_in (λ e. dir_not_t (sym e))

      dir_done : MoveDone l img (up_put (blocks img) c t between) p old j t c new
      dir_done =
          across_done (up_put (blocks img) c t between) dir_not_t
          (λ m h d e f. file_trans (slots_few w.sound m h) (x.others m h d e) (y.others m h f))
          (less_after (slots_few x.sound p p_in) x.less p_same (x.sound.inode p p_in))
          (more_after (slots_few x.sound t t_in) x.more t_same (x.sound.inode t t_in))
          (λ f. absurd (f k))
          (λ _.
          record {
            turned = turned_by w.sound c_in c_same y;
            from-links =
                omega (arith, links_is p_same.slots.rec, x.from-links, w.tree.dir_links p rp a.p_dir);
            to_links = links_is t_same.slots.rec ∙ x.to_links;
            away = away;
          })
          y.sound y.bytes (steady_trans x.steady y.steady)

  abbrev out : List ℕ
  out = move_card (blocks img) img p old t new

  pub move_done : MoveDone l img out p old j t c new
  move_done = go (ℕ_discrete p t) (ℕ_discrete (kind img c) 2)
    where
      from : {x : List ℕ} → out ≡ x → MoveDone l img x p old j t c new → MoveDone l img out p old j t c new
      from e = subst (λ (x : List ℕ). MoveDone l img x p old j t c new) (sym e)

      go : Dec (p ≡ t) → Dec (kind img c ≡ 2) → MoveDone l img out p old j t c new
      go (yes e) k = from (move_here w p t old new rp rt done e) (here_done e)
      go (no d) (yes k) = from (move_dir w p t old new rp rt done d k) (dir_done d k)
      go (no d) (no k) = from (move_file w p t old new rp rt done d k) (file_done d k)

  abbrev pub move_whole : Whole out
  move_whole = record { inodes = l; sound = move_done.sound; tree = move_done.tree }

  -- what was reached is, and nothing else
  pub move_reached : (m : ℕ) → (Reached img m → Reached out m) × (Reached out m → Reached img m)
  move_reached m = grind (arith, common_steps, move_done)
