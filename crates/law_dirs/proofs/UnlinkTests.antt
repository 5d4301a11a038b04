-- What unlink answers on a whole card, test by test: 6, 7, 10, 11; what is unlinked where it is done; and that a refusal changes nothing. Assumes nothing.
use mathlib.Core.Path.{◌≡◌, refl, sym, ap, ◌∙◌}
use mathlib.Core.Logic.{◌≢◌}
use mathlib.Core.Bool.{Bool, true, false}
use mathlib.Core.List.{List}
use Prim.Native.Nat.{ℕ, ◌+◌, ◌-◌, ◌≤◌, ◌<◌}
use native.Mathlib.Omega.{arith}
use native.Mathlib.Decide.{dec_lt}
use borrow.Author.Tests.{lt-ltb, le-ltb}
use lib.Dec.{ltb}
use Rattle.std.proofs.lemmas.Grind.{common_steps}
use Rattle.words.specs.Words.{pick}
use Rattle.card_layout.specs.Inode.{kind, kind_no, head_at}
use Rattle.card_layout.specs.declared.inode.FileType.{FileType}
use Rattle.card_layout.specs.declared.inode.FileType.TheVariants.{File, Dir, SymLink}
use Rattle.card_rules.specs.View.{entries, entry, name}
use Rattle.card_rules.specs.Whole.{Reached, down, Whole}
use Rattle.card_rules.proofs.Views.{kids_of_dir}
use Rattle.dir_entries.specs.Entries.{where_is}
use Rattle.dir_entries.specs.Names.{is_dots}
use Rattle.dir_entries.proofs.Lookup.{where_range, where_hit, where_not, where_only}
use Rattle.dir_entries.proofs.Given.{dots_apart}
use Rattle.dir_answers.specs.Answers.{in_dir, named_by}
use Rattle.dir_unlink.specs.Unlink.{not_empty, child_answer, unlink_answer}
use Rattle.law_files.proofs.Requests.{OfKind, of_kind, kinds}
use Rattle.law_dirs.proofs.Tests.{whole_inode, DirTest, other, dir, dir_test, dir_exact, met, unmet}
use Rattle.refusals.specs.Refusals.{answer_no, done}
use Rattle.refusals.specs.declared.Refusal.TheVariants.{NotDir, IsDir, EntryNotFound, DirNotEmpty}
use Rattle.refusals.specs.declared.Refusal.{Refusal}
use Rattle.std.specs.Prelude.{Err, Result}

-- ---- a name to be unlinked or moved

-- entry j of directory p has the name x, which is neither "." nor ".."
pub record HasName (img : List ℕ) (p : ℕ) (x : List ℕ) (j : ℕ) : Type 0 where
  pub parent : kind img p ≡ 2
  pub plain : is_dots x ≡ false
  pub there : j < entries img p
  pub named : name img p j ≡ x

module _ {img : List ℕ} (w : Whole img) {p : ℕ} (r : Reached img p) {x : List ℕ} {j : ℕ} (h : HasName img p x j) where
  pub has_where : where_is img p x ≡ j
  has_where = where_only img p x (w.tree.dir p r h.parent).names.differ j h.there h.named

  -- it is of a child
  pub has_past : 2 ≤ j
  has_past = grind (arith, common_steps, dots_apart)

  pub has_child : Reached img (entry img p j)
  has_child =
      let e : 2 + (j - 2) ≡ j = omega (arith, has_past) in
      down (entry img p j) (j - 2) r (omega (arith, has_past, h.there, kids_of_dir img p h.parent)) (ap (entry img p) e)

-- ---- the tests

-- the answer a, by RULES' numbers
pub data UnlinkTests (img : List ℕ) (p : ℕ) (x : List ℕ) (a : Result Unit Refusal) : Type 0 where
  unlink_6 : kind img p ≢ 2 → a ≡ Err NotDir → UnlinkTests img p x a
  unlink_7 : kind img p ≡ 2 → is_dots x ≡ true → a ≡ Err IsDir → UnlinkTests img p x a
  unlink_10 : kind img p ≡ 2 → is_dots x ≡ false → ((j : ℕ) → j < entries img p → name img p j ≢ x) → a ≡ Err EntryNotFound → UnlinkTests img p x a
  unlink_11 : (j : ℕ) → HasName img p x j → kind img (entry img p j) ≡ 2 → 2 < entries img (entry img p j) → a ≡ Err DirNotEmpty → UnlinkTests img p x a
  unlink_done : (j : ℕ) → HasName img p x j → (kind img (entry img p j) ≡ 2 → entries img (entry img p j) ≤ 2) → a ≡ done → UnlinkTests img p x a

module _ {img : List ℕ} (w : Whole img) (p : ℕ) (r : Reached img p) (x : List ℕ) where
  abbrev last : Result Unit Refusal
  last = child_answer img (named_by img p x)

  abbrev rest : Result Unit Refusal
  rest = pick (is_dots x) (Err IsDir) (pick (ltb (where_is img p x) (entries img p)) last (Err EntryNotFound))

  by_kind : HasName img p x (where_is img p x) → (k : FileType) → OfKind img (named_by img p x) k → Dec (2 < entries img (named_by img p x))
      → UnlinkTests img p x last
  by_kind h File o q = unlink_done (where_is img p x) h (λ e. absurd (omega (arith, o.number))) (rw o.decodes)
  by_kind h Dir o (yes q) = unlink_11 (where_is img p x) h o.number q (rw (o.decodes, lt-ltb 2 (entries img (named_by img p x)) q))
  by_kind h Dir o (no q) =
      unlink_done (where_is img p x) h (λ _. omega arith) (rw (o.decodes, le-ltb 2 (entries img (named_by img p x)) (omega arith)))
  by_kind h SymLink o q = unlink_done (where_is img p x) h (λ e. absurd (omega (arith, o.number))) (rw o.decodes)

  by_name : kind img p ≡ 2 → (t : Bool) → is_dots x ≡ t → Dec (where_is img p x < entries img p) → UnlinkTests img p x rest
  by_name d true e q = unlink_7 d e (rw e)
  by_name d false e (no q) =
      unlink_10 d e (where_not img p x (omega (arith, where_range img p x))) (rw (e, le-ltb (where_is img p x) (entries img p) (omega arith)))
  by_name d false e (yes q) =
      let h : HasName img p x (where_is img p x) = record { parent = d; plain = e; there = q; named = where_hit img p x q } in
      let k = kinds img (named_by img p x) (whole_inode w (named_by img p x) (has_child w r h)) in
      rw (e, lt-ltb (where_is img p x) (entries img p) q) (by_kind h k.0 k.1 (dec_lt 2 (entries img (named_by img p x))))

  pub unlink_tests_lem : UnlinkTests img p x (unlink_answer img p x)
  unfolding unlink_answer
  unlink_tests_lem = go (dir_test (λ h. rest) (whole_inode w p r))
    where
      go : DirTest img p (in_dir img p (λ h. rest)) rest → UnlinkTests img p x (in_dir img p (λ h. rest))
      go (other d e) = unlink_6 d e
      go (dir d e) = rw e (by_name d (is_dots x) refl (dec_lt (where_is img p x) (entries img p)))

  -- what 11 is asked of
  by_entry : (j : ℕ) (h : HasName img p x j) (k : FileType) → OfKind img (entry img p j) k
      → rest ≡ pick (not_empty (head_at img (entry img p j) k)) (Err DirNotEmpty) done
  by_entry j h k o = rw (h.plain, met img p x j h.there h.named, has_where w r h, o.decodes)

  by_bare : (j : ℕ) → HasName img p x j → (k : FileType) → OfKind img (entry img p j) k
      → (kind img (entry img p j) ≡ 2 → entries img (entry img p j) ≤ 2) → rest ≡ done
  by_bare j h File o b = by_entry j h File o
  by_bare j h Dir o b = by_entry j h Dir o ∙ rw (le-ltb 2 (entries img (entry img p j)) (b o.number))
  by_bare j h SymLink o b = by_entry j h SymLink o

  -- the causes exclude each other
  pub unlink_exact : {a : Result Unit Refusal} → UnlinkTests img p x a → a ≡ unlink_answer img p x
  unfolding unlink_answer
  unlink_exact (unlink_6 d e) = dir_exact (λ h. rest) (whole_inode w p r) (other d e)
  unlink_exact (unlink_7 d q e) = dir_exact (λ h. rest) (whole_inode w p r) (dir d (rw q e))
  unlink_exact (unlink_10 d q n e) = dir_exact (λ h. rest) (whole_inode w p r) (dir d (rw (q, unmet img p x n) e))
  unlink_exact (unlink_11 j h d b e) =
      let o = of_kind img (entry img p j) Dir d in
      dir_exact (λ h. rest) (whole_inode w p r) (dir h.parent (e ∙ sym (by_entry j h Dir o ∙ rw (lt-ltb 2 (entries img (entry img p j)) b))))
  unlink_exact (unlink_done j h b e) =
      let k = kinds img (entry img p j) (whole_inode w (entry img p j) (has_child w r h)) in
      dir_exact (λ h. rest) (whole_inode w p r) (dir h.parent (e ∙ sym (by_bare j h k.0 k.1 b)))

-- ---- done

-- what x names in p can be unlinked: it is of kind k
pub record Target (img : List ℕ) (p : ℕ) (x : List ℕ) (k : FileType) : Type 0 where
  pub parent : kind img p ≡ 2
  pub past : 2 ≤ where_is img p x
  pub there : where_is img p x < entries img p
  pub reached : Reached img (named_by img p x)
  pub of : OfKind img (named_by img p x) k
  pub bare : kind_no k ≡ 2 → entries img (named_by img p x) ≤ 2
  pub apart : p ≢ named_by img p x

module _ {img : List ℕ} (w : Whole img) (p : ℕ) (r : Reached img p) (x : List ℕ) where
  bare_target : (k : FileType) → OfKind img (named_by img p x) k → HasName img p x (where_is img p x)
      → (kind img (named_by img p x) ≡ 2 → entries img (named_by img p x) ≤ 2) → Target img p x k
  bare_target k o h b = grind (arith, common_steps, has_past, has_child)

  pub target : answer_no (unlink_answer img p x) ≡ 0 → (k : FileType) × Target img p x k
  target z = grind (arith, common_steps, unlink_tests_lem, has_where, kinds, has_child, bare_target)
