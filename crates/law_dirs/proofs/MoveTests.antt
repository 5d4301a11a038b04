-- What move answers on a whole card, test by test: source 6, 7, target 6, then 8, 9, 10, 12, 13, 14. Assumes nothing.
use mathlib.Core.Path.{◌≡◌, refl, sym, ◌∙◌}
use mathlib.Core.Bool.{Bool, true, false}
use mathlib.Core.List.{List}
use mathlib.Core.Logic.{◌≢◌}
use Prim.Native.Nat.{ℕ, ◌+◌, ◌≤◌, ◌<◌}
use native.Mathlib.Omega.{arith}
use native.Mathlib.Decide.{dec_lt, ℕ_discrete}
use borrow.Author.Tests.{lt-ltb, le-ltb, eq-eqb, ne_eqb}
use lib.Dec.{eqb}
use Rattle.std.proofs.lemmas.Grind.{common_steps}
use Rattle.card_layout.specs.Sizes.{full_links}
use Rattle.words.specs.Words.{pick}
use Rattle.card_layout.specs.Super.{blocks, unused}
use Rattle.card_layout.specs.Inode.{size, kind, links, count, kind_no, head_at}
use Rattle.card_layout.specs.Entry.{Name}
use Rattle.card_layout.specs.declared.inode.FileType.{FileType}
use Rattle.card_layout.specs.declared.inode.FileType.TheVariants.{File, Dir, SymLink}
use Rattle.card_layout.specs.declared.inode.Head.{Head}
use Rattle.card_rules.specs.View.{entries, entry, name}
use Rattle.card_rules.specs.Whole.{Reached, Whole}
use Rattle.file_requests.specs.Requests.{needs}
use Rattle.dir_entries.specs.Entries.{where_is}
use Rattle.dir_entries.specs.Names.{is_dots}
use Rattle.dir_entries.proofs.Lookup.{where_range, where_hit, where_not}
use Rattle.dir_answers.specs.Answers.{in_dir, named_by}
use Rattle.dir_move.specs.Move.{climbs, entry_room, dir_room, move_room, child_answer, source_answer, move_answer}
use Rattle.law_files.proofs.Requests.{OfKind, of_kind, kinds}
use Rattle.law_tree.proofs.TreeMove.{Above}
use Rattle.law_dirs.proofs.Tests.{dir_not, whole_inode, DirTest, other, dir, dir_test, dir_exact, met, unmet}
use Rattle.law_dirs.proofs.NameTests.{CanName, NameTests, not_dir, bad_name, exists, can, name_tests, name_tests_lem, name_exact}
use Rattle.law_dirs.proofs.UnlinkTests.{HasName, has_where, has_child}
use Rattle.law_dirs.proofs.Climb.{climb_clear, climb_meets}
use Rattle.refusals.specs.Refusals.{answer_no, done}
use Rattle.refusals.specs.declared.Refusal.TheVariants.{NotDir, IsDir, BadName, EntryExist, EntryNotFound, InvalidParam, TooManyLinks, NoDeviceSpace}
use Rattle.refusals.specs.declared.Refusal.{Refusal}
use Rattle.std.specs.Prelude.{Err, Result}

-- p is a directory, and `old` neither "." nor ".."
pub record Source (img : List ℕ) (p : ℕ) (old : List ℕ) : Type 0 where
  pub dir : kind img p ≡ 2
  pub plain : is_dots old ≡ false

-- what 6 to 10 do not refuse: entry j of p has the name `old`, and directory t can take the name `new`
pub record CanMove (img : List ℕ) (p : ℕ) (old : List ℕ) (t : ℕ) (new : List ℕ) (j : ℕ) : Type 0 where
  pub from : HasName img p old j
  pub to : CanName img t new

-- what 12, 13 and 14 do not refuse between two directories: where c is a directory, t is neither c nor below it and has a link to spare
pub record Roomy (img : List ℕ) (t c : ℕ) : Type 0 where
  pub away : kind img c ≡ 2 → Above img c t
  pub links_left_lem : kind img c ≡ 2 → links img t ≢ full_links
  pub room : needs (count img t) (size img t + 260) ≤ unused img

-- the answer a, by RULES' numbers: in one directory a move takes no block and no link, so that 12, 13 and 14 cannot arise
pub data MoveTests (img : List ℕ) (p : ℕ) (old : List ℕ) (t : ℕ) (new : List ℕ) (a : Result Unit Refusal) : Type 0 where
  move_6 : kind img p ≢ 2 → a ≡ Err NotDir → MoveTests img p old t new a
  move_7 : kind img p ≡ 2 → is_dots old ≡ true → a ≡ Err IsDir → MoveTests img p old t new a
  move_target_6 : Source img p old → kind img t ≢ 2 → a ≡ Err NotDir → MoveTests img p old t new a
  move_8 : Source img p old → kind img t ≡ 2 → (Name new → ⊥) → a ≡ Err BadName → MoveTests img p old t new a
  move_9 : Source img p old → kind img t ≡ 2 → Name new → (j : ℕ) → j < entries img t → name img t j ≡ new → a ≡ Err EntryExist → MoveTests img p old t new a
  move_10 : Source img p old → CanName img t new → ((j : ℕ) → j < entries img p → name img p j ≢ old) → a ≡ Err EntryNotFound → MoveTests img p old t new a
  move_12 : (j : ℕ) → CanMove img p old t new j → p ≢ t → kind img (entry img p j) ≡ 2 → (Above img (entry img p j) t → ⊥) → a ≡ Err InvalidParam
      → MoveTests img p old t new a
  move_13 : (j : ℕ) → CanMove img p old t new j → p ≢ t → kind img (entry img p j) ≡ 2 → Above img (entry img p j) t → links img t ≡ full_links
      → a ≡ Err TooManyLinks → MoveTests img p old t new a
  move_14 : (j : ℕ) → CanMove img p old t new j → p ≢ t → (kind img (entry img p j) ≡ 2 → Above img (entry img p j) t)
      → (kind img (entry img p j) ≡ 2 → links img t ≢ full_links) → unused img < needs (count img t) (size img t + 260) → a ≡ Err NoDeviceSpace
      → MoveTests img p old t new a
  move_done : (j : ℕ) → CanMove img p old t new j → (p ≢ t → Roomy img t (entry img p j)) → a ≡ done → MoveTests img p old t new a

-- ---- 12, 13 and 14 in their definition

module _ (nb : ℕ) (img : List ℕ) (c t : ℕ) (h : Head) where
  room_other : (k : FileType) → kind_no k ≢ 2 → move_room nb img c (head_at img c k) t h ≡ entry_room img h
  unfolding move_room
  room_other k d = rw (dir_not k d)

  room_dir : move_room nb img c (head_at img c Dir) t h
      ≡ dir_room nb img c t h
  unfolding move_room
  room_dir = refl

module _ {img : List ℕ} (w : Whole img) (p : ℕ) (rp : Reached img p) (old : List ℕ) (t : ℕ) (rt : Reached img t) (new : List ℕ) where
  abbrev j : ℕ
  j = where_is img p old

  abbrev c : ℕ
  c = named_by img p old

  abbrev th : Head
  th = head_at img t Dir

  -- 14
  module _ (m : CanMove img p old t new j) (d : p ≢ t) where
    by_space : (kind img c ≡ 2 → Above img c t) → (kind img c ≡ 2 → links img t ≢ full_links) → Dec (unused img < needs (count img t) (size img t + 260))
        → MoveTests img p old t new (entry_room img th)
    by_space u v (yes q) = move_14 j m d u v q (rw (lt-ltb (unused img) (needs (count img t) (size img t + 260)) q))
    by_space u v (no q) =
        move_done j m (λ _. record { away = u; links_left_lem = v; room = omega arith })
        (rw (le-ltb (unused img) (needs (count img t) (size img t + 260)) (omega arith)))

    abbrev space : Dec (unused img < needs (count img t) (size img t + 260))
    space = dec_lt (unused img) (needs (count img t) (size img t + 260))

    by_links : kind img c ≡ 2 → Above img c t → Dec (links img t ≡ full_links)
        → MoveTests img p old t new (pick (eqb (links img t) full_links) (Err TooManyLinks) (entry_room img th))
    by_links k a (yes e) = move_13 j m d k a e (rw (eq-eqb (links img t) full_links e))
    by_links k a (no e) = rw (ne_eqb (links img t) full_links e) (by_space (λ _. a) (λ _. e) space)

    by_climb : kind img c ≡ 2 → (b : Bool) → climbs img c t (blocks img) ≡ b → MoveTests img p old t new (move_room (blocks img) img c (head_at img c Dir) t th)
    by_climb k true e =
        move_12 j m d k (climb_meets w c t rt m.to.dir e) (room_dir (blocks img) img c t th ∙ rw e)
    by_climb k false e =
        rw (room_dir (blocks img) img c t th, e) (by_links k (climb_clear w c t rt m.to.dir e) (ℕ_discrete (links img t) full_links))

    by_file_lem : (k : FileType) → kind_no k ≢ 2 → OfKind img c k → MoveTests img p old t new (move_room (blocks img) img c (head_at img c k) t th)
    by_file_lem k d o =
        let n : kind img c ≢ 2 = λ e. d (sym o.number ∙ e) in
        rw (room_other (blocks img) img c t th k d) (by_space (λ e. absurd (n e)) (λ e. absurd (n e)) space)

    by_kind : (k : FileType) → OfKind img c k → MoveTests img p old t new (move_room (blocks img) img c (head_at img c k) t th)
    by_kind File o = by_file_lem File (λ e. omega arith) o
    by_kind Dir o = by_climb o.number (climbs img c t (blocks img)) refl
    by_kind SymLink o = by_file_lem SymLink (λ e. omega arith) o

  abbrev last : Head → Result Unit Refusal
  last h = pick (eqb p t) done (child_answer (blocks img) img c t h)

  by_place : CanMove img p old t new j → Reached img c → Dec (p ≡ t) → MoveTests img p old t new (last th)
  by_place m r (yes e) = move_done j m (λ d. absurd (d e)) (rw (eq-eqb p t e))
  by_place m r (no d) = let k = kinds img c (whole_inode w c r) in rw (ne_eqb p t d, k.1.decodes) (by_kind m d k.0 k.1)

  abbrev after : Head → Result Unit Refusal
  after h = source_answer (blocks img) img p old t h

  by_old : Source img p old → CanName img t new → Dec (j < entries img p) → MoveTests img p old t new (after th)
  by_old s n (no q) =
      move_10 s n (where_not img p old (omega (arith, where_range img p old))) (rw (le-ltb j (entries img p) (omega arith)))
  by_old s n (yes q) =
      let h : HasName img p old j = record { parent = s.dir; plain = s.plain; there = q; named = where_hit img p old q } in
      rw (lt-ltb j (entries img p) q) (by_place (record { from = h; to = n }) (has_child w rp h) (ℕ_discrete p t))

  by_target : Source img p old → MoveTests img p old t new (name_tests img t new after)
  by_target s = go (name_tests_lem new after (whole_inode w t rt))
    where
      go : NameTests img t new (name_tests img t new after) (after th) → MoveTests img p old t new (name_tests img t new after)
      go (not_dir d e) = move_target_6 s d e
      go (bad_name d g e) = move_8 s d g e
      go (exists d g j b q e) = move_9 s d g j b q e
      go (can n e) = rw e (by_old s n (dec_lt j (entries img p)))

  abbrev rest : Result Unit Refusal
  rest = pick (is_dots old) (Err IsDir) (name_tests img t new after)

  by_dots : kind img p ≡ 2 → (b : Bool) → is_dots old ≡ b → MoveTests img p old t new rest
  by_dots d true e = move_7 d e (rw e)
  by_dots d false e = rw e (by_target (record { dir = d; plain = e }))

  pub move_tests_lem : MoveTests img p old t new (move_answer (blocks img) img p old t new)
  unfolding move_answer
  move_tests_lem = go (dir_test (λ h. rest) (whole_inode w p rp))
    where
      go : DirTest img p (in_dir img p (λ h. rest)) rest → MoveTests img p old t new (in_dir img p (λ h. rest))
      go (other d e) = move_6 d e
      go (dir d e) = rw e (by_dots d (is_dots old) refl)

  -- ---- the causes exclude each other

  climbs_when : (c : ℕ) → kind img t ≡ 2 → (Above img c t → ⊥) → climbs img c t (blocks img) ≡ true
  climbs_when c k n = grind (arith, common_steps, climb_clear)

  climbs_not : (c : ℕ) → kind img t ≡ 2 → Above img c t → climbs img c t (blocks img) ≡ false
  climbs_not c k n = grind (arith, common_steps, climb_meets)

  in_target_lem : {a : Result Unit Refusal} → Source img p old → a ≡ name_tests img t new after → a ≡ move_answer (blocks img) img p old t new
  unfolding move_answer
  in_target_lem s e = dir_exact (λ h. rest) (whole_inode w p rp) (dir s.dir (rw s.plain e))

  by_tests : {a : Result Unit Refusal} → Source img p old → NameTests img t new a (after th) → a ≡ move_answer (blocks img) img p old t new
  by_tests s n = in_target_lem s (name_exact new after (whole_inode w t rt) n)

  module _ (i : ℕ) (m : CanMove img p old t new i) where
    abbrev moving : ℕ
    moving = entry img p i

    moving_of : (k : FileType) × OfKind img moving k
    moving_of = kinds img moving (whole_inode w moving (has_child w rp m.from))

    in_last : {a : Result Unit Refusal} → a ≡ last th → a ≡ move_answer (blocks img) img p old t new
    in_last e =
        by_tests (record { dir = m.from.parent; plain = m.from.plain })
        (can m.to (rw (met img p old i m.from.there m.from.named) e))

    in_room : {a : Result Unit Refusal} (k : FileType) → OfKind img moving k → p ≢ t → a ≡ move_room (blocks img) img moving (head_at img moving k) t th
        → a ≡ move_answer (blocks img) img p old t new
    in_room k o d e = in_last (rw (ne_eqb p t d, has_where w rp m.from, o.decodes) e)

    -- 12 and 13 do not refuse
    in_space : {a : Result Unit Refusal} (k : FileType) → OfKind img moving k → p ≢ t → (kind img moving ≡ 2 → Above img moving t)
        → (kind img moving ≡ 2 → links img t ≢ full_links) → a ≡ entry_room img th → a ≡ move_answer (blocks img) img p old t new
    in_space File o d u v e = in_room File o d (e ∙ sym (room_other (blocks img) img moving t th File (λ q. omega arith)))
    in_space Dir o d u v e =
        in_room Dir o d
        (rw (room_dir (blocks img) img moving t th, climbs_not moving m.to.dir (u o.number), ne_eqb (links img t) full_links (v o.number)) e)
    in_space SymLink o d u v e = in_room SymLink o d (e ∙ sym (room_other (blocks img) img moving t th SymLink (λ q. omega arith)))

    in_done : {a : Result Unit Refusal} → (p ≢ t → Roomy img t moving) → a ≡ done → Dec (p ≡ t) → a ≡ move_answer (blocks img) img p old t new
    in_done f e t₁ = grind (arith, common_steps, in_last, moving_of, in_space)

  pub move_exact : {a : Result Unit Refusal} → MoveTests img p old t new a → a ≡ move_answer (blocks img) img p old t new
  unfolding move_answer
  move_exact (move_6 d e) = dir_exact (λ h. rest) (whole_inode w p rp) (other d e)
  move_exact (move_7 d q e) = dir_exact (λ h. rest) (whole_inode w p rp) (dir d (rw q e))
  move_exact (move_target_6 s d e) = by_tests s (not_dir d e)
  move_exact (move_8 s d n e) = by_tests s (bad_name d n e)
  move_exact (move_9 s d n i b q e) = by_tests s (exists d n i b q e)
  move_exact (move_10 s n f e) = by_tests s (can n (rw (unmet img p old f) e))
  move_exact (move_12 i m d k n e) =
      in_room i m Dir (of_kind img (entry img p i) Dir k) d
      (rw (room_dir (blocks img) img (entry img p i) t th, climbs_when (entry img p i) m.to.dir n) e)
  move_exact (move_13 i m d k n q e) =
      in_room i m Dir (of_kind img (entry img p i) Dir k) d
      (rw (room_dir (blocks img) img (entry img p i) t th, climbs_not (entry img p i) m.to.dir n, eq-eqb (links img t) full_links q) e)
  move_exact (move_14 i m d u v q e) =
      let o = moving_of i m in
      in_space i m o.0 o.1 d u v (rw (lt-ltb (unused img) (needs (count img t) (size img t + 260)) q) e)
  move_exact (move_done i m f e) = in_done i m f e (ℕ_discrete p t)

pub move_can : {img : List ℕ} {p : ℕ} {old : List ℕ} {t : ℕ} {new : List ℕ} {a : Result Unit Refusal} → MoveTests img p old t new a → answer_no a ≡ 0
    → (j : ℕ) × CanMove img p old t new j × (p ≢ t → Roomy img t (entry img p j)) × (a ≡ done)
move_can t₁ z = grind (arith, common_steps)
