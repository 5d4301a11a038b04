-- Names in a directory that a call, done or refused, does not ask about find the same number after it, or are still not found. Assumes nothing.
use mathlib.Core.Path.{◌≡◌, refl, sym, ap, ◌∙◌, subst}
use mathlib.Core.Logic.{◌≢◌, ◌⊎◌}
use mathlib.Core.List.{List, []}
use Prim.Native.Nat.{ℕ, ◌/◌, ◌≤◌, ◌<◌}
use native.Mathlib.Omega.{arith}
use native.Mathlib.Decide.{ℕ_discrete}
use borrow.Author.Tests.{eq-eqb}
use Rattle.std.proofs.lemmas.Grind.{common_steps}
use Rattle.words.specs.Words.{Bytes}
use Rattle.words.specs.Sums.{cnt}
use Rattle.card_layout.specs.Inode.{kind}
use Rattle.card_rules.specs.View.{entries, entry, name}
use Rattle.card_rules.specs.Whole.{Reached, Inode, Dir, Whole}
use Rattle.card_rules.specs.Same.{SameFile}
use Rattle.card_rules.proofs.Tree.{reached_listed}
use Rattle.card_rules.proofs.Frames.{size_is, kind_is, entry_is, name_is, file_refl}
use Rattle.dir_entries.specs.Entries.{where_is}
use Rattle.dir_entries.specs.Names.{dots}
use Rattle.dir_entries.proofs.Lookup.{where_hit}
use Rattle.dir_answers.specs.Answers.{the_inode, named_by}
use Rattle.dir_look.specs.Look.{find_answer}
use Rattle.law_dirs.proofs.Tests.{whole_inode}
use Rattle.law_dirs.proofs.LookTests.{FindTests, find_6, find_10, find_done, find_tests_lem, find_exact}
use Rattle.law_dirs.proofs.EntryCounts.{EntryMore, EntryLess, EntryNamed}
use Rattle.law_dirs.proofs.CreateCard.{CreateDone}
use Rattle.law_dirs.proofs.LinkCard.{LinkDone}
use Rattle.law_dirs.proofs.UnlinkCard.{UnlinkDone}
use Rattle.law_dirs.proofs.MoveDir.{TurnedDir}
use Rattle.law_dirs.proofs.MoveJudged.{Judged}
use Rattle.law_dirs.proofs.MoveCard.{MoveDone}
use Rattle.law_calls.specs.Made.{Asked, creating, linking, unlinking, moving, Made, filed, create, link}
use Rattle.law_calls.specs.Made.{unlink, move, find, list, describe, check, OfBytesAll, removes_of, Asks}
use Rattle.law_calls.specs.Runs.{Call, Unremoved, Unasked, Run, none, next}
use Rattle.law_calls.proofs.Calls.{call_step}
use Rattle.law_calls.proofs.Frame.{not_first}
use Rattle.law_calls.proofs.Refusals.{refused_same}
use Rattle.law_calls.proofs.DoneCalls.{created_done, linked_can, linked_done, unlinked_target, unlinked_done, moved_judged, moved_done}
use Rattle.law_calls.proofs.Made.{made_whole, made_bytes}
use Rattle.law_calls.proofs.Stays.{made_stays}
use Rattle.call_said.specs.Said.{Said}
use Rattle.refusals.specs.Refusals.{answer_no}

-- ---- what find asks of a directory

-- the entry of d with the name x, if there is one, has the same number on both cards, at whatever place
pub record KeptName (img out : List ℕ) (d : ℕ) (x : List ℕ) : Type 0 where
  pub kind_same : kind out d ≡ kind img d
  pub still : (j : ℕ) → j < entries img d → name img d j ≡ x
      → (i : ℕ) × (i < entries out d) × (name out d i ≡ x) × (entry out d i ≡ entry img d j)
  pub was : (i : ℕ) → i < entries out d → name out d i ≡ x → (j : ℕ) × (j < entries img d) × (name img d j ≡ x)

module _ {img out : List ℕ} (w : Whole img) (v : Whole out) {d : ℕ} (r : Reached img d) (s : Reached out d) (k : kind img d ≡ 2) {x : List ℕ}
    (e : KeptName img out d x) where
  k_out : kind out d ≡ 2
  k_out = e.kind_same ∙ k

  -- names differ, so that one entry has it
  one_entry : (i j : ℕ) → i < entries out d → name out d i ≡ x → j < entries out d → name out d j ≡ x → j ≡ i
  one_entry i j a p b q = grind (arith, common_steps)

  pub kept_finds : find_answer out d x ≡ find_answer img d x
  kept_finds = go (find_tests_lem w d r x)
    where
      go : FindTests img d x (find_answer img d x) → find_answer out d x ≡ find_answer img d x
      go (find_6 n _) = absurd (n k)
      go (find_10 _ n a) =
          sym (find_exact v d s x (find_10 k_out (λ i b q. let y = e.was i b q in n y.0 y.1 y.2) refl)) ∙ sym a
      go (find_done _ j b q _ a) =
          let y = e.still j b q in
          sym (find_exact v d s x (find_done k_out y.0 y.1 y.2 (λ i c p. one_entry y.0 i y.1 y.2 c p) refl))
          ∙ ap the_inode y.3
          ∙ sym a

-- ---- kept by what calls do to a directory

module _ {img out : List ℕ} {d : ℕ} {x : List ℕ} where
  pub same_kept : SameFile img out d → Inode img d → KeptName img out d x
  same_kept s i =
      let n : entries out d ≡ entries img d = ap (λ (z : ℕ). z / 260) (size_is s.slots.rec) in
      record {
        kind_same = kind_is s.slots.rec;
        still = λ j b e. (j, rw n b, name_is s i j b ∙ e, entry_is s i j b);
        was = λ j b e. let h : j < entries img d = rw n at b in (j, h, sym (name_is s i j h) ∙ e);
      }

  -- one entry more, of another name
  more_kept : {c : ℕ} {y : List ℕ} → EntryMore img out d c y → x ≢ y → KeptName img out d x
  more_kept {c} {y} a n = grind (arith, common_steps)

  -- entry j has another name
  module _ {j : ℕ} (high : j < entries img d) (n : x ≢ name img d j) where
    -- one entry less
    less_kept : Dir img d → EntryLess img out d j → 2 ≤ j → KeptName img out d x
    less_kept g a low = grind (arith, common_steps)

    -- another name for one
    named_kept : {y : List ℕ} → EntryNamed img out d j y → x ≢ y → KeptName img out d x
    named_kept {y} a m = grind (arith, common_steps)

  -- another number for ".."
  turned_kept : {t : ℕ} → Dir img d → TurnedDir img out d t → x ≢ dots → KeptName img out d x
  turned_kept g a n = grind (arith, common_steps)

-- ---- one call that is done

module _ {img out : List ℕ} (w : Whole img) {d : ℕ} (r : Reached img d) (k : kind img d ≡ 2) {x : List ℕ} where
  by_file_lem : SameFile img out d → KeptName img out d x
  by_file_lem s = same_kept s (whole_inode w d r)

  create_kept : {l : List ℕ} {p : ℕ} {y : List ℕ} {t i : ℕ} → CreateDone l img out p y t i → (Asks img (creating p y t) d x → ⊥) → KeptName img out d x
  create_kept {p = p} {y} {t} {i} c a = go (ℕ_discrete d p)
    where
      go : Dec (d ≡ p) → KeptName img out d x
      go (yes e) = more_kept (subst (λ (n : ℕ). EntryMore img out n i y) (sym e) c.more) (λ z. a (e, z))
      go (no n) = by_file_lem (c.others d r n)

  link_kept : {l : List ℕ} {p : ℕ} {y : List ℕ} {n : ℕ} → LinkDone l img out p y n → kind img n ≢ 2 → (Asks img (linking p y n) d x → ⊥)
      → KeptName img out d x
  link_kept {p = p} {y} {n} c f a = go (ℕ_discrete d p)
    where
      go : Dec (d ≡ p) → KeptName img out d x
      go (yes e) = more_kept (subst (λ (m : ℕ). EntryMore img out m n y) (sym e) c.more) (λ z. a (e, z))
      go (no m) = by_file_lem (c.others d r m (λ e. f (ap (kind img) (sym e) ∙ k)))

  unlink_kept : {l : List ℕ} {p : ℕ} {y : List ℕ} → UnlinkDone l img out p y → 2 ≤ where_is img p y → where_is img p y < entries img p
      → cnt d (removes_of img (unlinking p y)) ≡ 0 → (Asks img (unlinking p y) d x → ⊥) → KeptName img out d x
  unlink_kept {p = p} {y} u low high z a = go (ℕ_discrete d p)
    where
      less : EntryLess img out p (where_is img p y)
      less =
          record {
            kind_is = u.parent_kind;
            size_is = u.parent_size;
            entry_kept = u.entry_kept;
            name_kept = u.name_kept;
            entry_moved = u.entry_moved;
            name_moved = u.name_moved;
            listing = u.listing;
            parent = u.parent;
          }

      -- a directory that is named is removed
      not_named : d ≢ named_by img p y
      not_named e = not_first d (named_by img p y) [] (rw (eq-eqb (kind img (named_by img p y)) 2 (ap (kind img) (sym e) ∙ k)) at z) e

      here : d ≡ p → KeptName img out d x
      here e =
          let h : where_is img p y < entries img d = subst (λ (n : ℕ). where_is img p y < entries img n) (sym e) high in
          let q : name img d (where_is img p y) ≡ y = ap (λ (n : ℕ). name img n (where_is img p y)) e ∙ where_hit img p y high in
          less_kept h (λ s. a (e, s ∙ q)) (w.tree.dir d r k) (subst (λ (n : ℕ). EntryLess img out n (where_is img p y)) (sym e) less) low

      go : Dec (d ≡ p) → KeptName img out d x
      go (yes e) = here e
      go (no n) = by_file_lem (u.others d r n not_named)

  module _ {p t : ℕ} {old new : List ℕ} (q : Judged img p old t new)
      (m : MoveDone w.inodes img out p old (where_is img p old) t (named_by img p old) new) (a : Asks img (moving p old t new) d x → ⊥) where
    abbrev c : ℕ
    c = named_by img p old

    abbrev j : ℕ
    j = where_is img p old

    j_in : d ≡ p → j < entries img d
    j_in e = subst (λ (n : ℕ). j < entries img n) (sym e) q.there

    not_old : d ≡ p → x ≢ name img d j
    not_old e z = a (◌⊎◌.inl (e, z ∙ ap (λ (n : ℕ). name img n j) e ∙ where_hit img p old q.there))

    not_new : d ≡ t → x ≢ new
    not_new e z = a (◌⊎◌.inr (◌⊎◌.inl (e, z)))

    -- in one directory, and from one to another
    kept_here : p ≡ t → Dec (d ≡ p) → Dec (d ≡ c) → KeptName img out d x
    kept_here s (yes e) _ =
        named_kept (j_in e) (not_old e) (subst (λ (n : ℕ). EntryNamed img out n j new) (sym e) (m.here s).0.renamed) (not_new (e ∙ s))
    kept_here s (no e) (yes o) = by_file_lem (subst (SameFile img out) (sym o) (m.here s).1)
    kept_here s (no e) (no o) = by_file_lem (m.others d (reached_listed img w d r) e (λ f. e (f ∙ sym s)) o)

    kept_across : p ≢ t → Dec (d ≡ p) → Dec (d ≡ t) → Dec (d ≡ c) → KeptName img out d x
    kept_across s (yes e) _ _ =
        less_kept (j_in e) (not_old e) (w.tree.dir d r k) (subst (λ (n : ℕ). EntryLess img out n j) (sym e) (m.across s).less) q.low
    kept_across s (no _) (yes e) _ = more_kept (subst (λ (n : ℕ). EntryMore img out n c new) (sym e) (m.across s).more) (not_new e)
    kept_across s (no _) (no _) (yes o) =
        turned_kept (w.tree.dir d r k) (subst (λ (n : ℕ). TurnedDir img out n t) (sym o) ((m.across s).dir (ap (kind img) (sym o) ∙ k)).turned)
        (λ z. a (◌⊎◌.inr (◌⊎◌.inr (s, o, z))))
    kept_across s (no e) (no f) (no o) = by_file_lem (m.others d (reached_listed img w d r) e f o)

    move_kept : KeptName img out d x
    move_kept = go (ℕ_discrete p t)
      where
        go : Dec (p ≡ t) → KeptName img out d x
        go (yes s) = kept_here s (ℕ_discrete d p) (ℕ_discrete d c)
        go (no s) = kept_across s (ℕ_discrete d p) (ℕ_discrete d t) (ℕ_discrete d c)

-- ---- any call

module _ {img img' : List ℕ} (w : Whole img) (b : Bytes img) where
  done_kept : {q : Asked} {r : Said} → OfBytesAll q → Made img img' q r → answer_no r ≡ 0 → (d : ℕ) → Reached img d → kind img d ≡ 2 → (x : List ℕ)
      → cnt d (removes_of img q) ≡ 0 → (Asks img q d x → ⊥) → KeptName img img' d x
  done_kept o (filed c) z d h k x n a =
      by_file_lem w h k ((call_step w.sound w.tree b o c).taken.dirs_same d (reached_listed img w d h) k)
  done_kept o (create s s' p y t r c) z d h k x n a = create_kept w h k (created_done w b o c z) a
  done_kept o (link s s' p y m r c) z d h k x n a = link_kept w h k (linked_done w b o c z) (linked_can w b o c z).no_dir a
  done_kept o (unlink s s' p y r c) z d h k x n a =
      let t = (unlinked_target w b c z).1 in
      unlink_kept w h k (unlinked_done w b c z) t.past t.there n a
  done_kept o (move s s' p old t new r c) z d h k x n a = move_kept w h k (moved_judged w b o c z) (moved_done w b o c z) a
  done_kept o (find s s' p y r c e) z d h k x n a = rw e (by_file_lem w h k (file_refl img d))
  done_kept o (list s s' p i r y c e) z d h k x n a = rw e (by_file_lem w h k (file_refl img d))
  done_kept o (describe s s' m r t l v y c e) z d h k x n a = rw e (by_file_lem w h k (file_refl img d))
  done_kept o (check s s' y r c i e) z d h k x n a = rw e (by_file_lem w h k (file_refl img d))

  pub made_finds : {q : Asked} {r : Said} → OfBytesAll q → Made img img' q r → (d : ℕ) → Reached img d → kind img d ≡ 2 → (x : List ℕ)
      → (answer_no r ≡ 0 → cnt d (removes_of img q) ≡ 0) → (answer_no r ≡ 0 → Asks img q d x → ⊥)
      → (kind img' d ≡ 2) × (find_answer img' d x ≡ find_answer img d x)
  made_finds {q} {r} o m d h k x n a = go (ℕ_discrete (answer_no r) 0)
    where
      go : Dec (answer_no r ≡ 0) → (kind img' d ≡ 2) × (find_answer img' d x ≡ find_answer img d x)
      go (yes z) =
          let e = done_kept o m z d h k x (n z) (a z) in
          (e.kind_same ∙ k, kept_finds w (made_whole w b o m) h (made_stays w b o m d h n) k e)
      go (no f) = let e = refused_same m f in (rw e k, ap (λ (y : List ℕ). find_answer y d x) e)

-- ---- runs, each call of which leaves d an inode and does not ask about x in it

module _ {P : List ℕ → List ℕ → Call → Type 0} (d : ℕ) (x : List ℕ) (stays : (img mid : List ℕ) (c : Call) → P img mid c → Unremoved d img c)
    (alone : (img mid : List ℕ) (c : Call) → P img mid c → Unasked d x img c) where
  pub run_finds : {img out : List ℕ} {cs : List Call} → Whole img → Bytes img → Reached img d → kind img d ≡ 2 → Run P img out cs
      → Reached out d × (kind out d ≡ 2) × (find_answer out d x ≡ find_answer img d x)
  run_finds w b h k none = (h, k, refl)
  run_finds {img} w b h k (next {mid = mid} {c = c} o m p r) =
      let y = made_finds w b o m d h k x (stays img mid c p) (alone img mid c p) in
      let z = run_finds (made_whole w b o m) (made_bytes w b o m) (made_stays w b o m d h (stays img mid c p)) y.0 r in
      (z.0, z.1, z.2 ∙ y.1)
