-- Create, link, unlink, find, the entry at an index and format say the number of the first test whose cause holds, on any image and with any scratch. Assumes
-- nothing.
use mathlib.Core.Path.{◌≡◌, ap}
use mathlib.Core.Bool.{true, false}
use mathlib.Core.Logic.{◌≢◌, ◌⊎◌, ⊎_elim}
use mathlib.Core.List.{List}
use Prim.Native.Nat.{ℕ, ◌+◌, ◌≤◌, ◌<◌}
use native.Mathlib.Omega.{arith}
use lib.Dec.{eqb}
use lib.ListN.{length}
use Rattle.std.proofs.lemmas.Grind.{common_steps}
use Rattle.words.specs.Words.{pick}
use Rattle.card_layout.specs.Sizes.{full_links}
use Rattle.card_layout.specs.Super.{unused}
use Rattle.card_layout.specs.Inode.{kind, links}
use Rattle.card_layout.specs.Entry.{Name}
use Rattle.card_rules.specs.View.{entries, entry, name}
use Rattle.card_rules.specs.Whole.{Reached, Whole}
use Rattle.dir_entries.specs.Names.{is_dots}
use Rattle.dir_entries.proofs.Comparing.{eqs_same}
use Rattle.dir_entries.proofs.Given.{dots_apart}
use Rattle.dir_answers.specs.Answers.{named_by}
use Rattle.dir_unlink.specs.Unlink.{unlink_answer}
use Rattle.dir_format.specs.Format.{format_answer}
use Rattle.call_dirs.specs.DirCalls.{Created, Linked, Unlinked, Formatted}
use Rattle.call_looks.specs.LookCalls.{Found, Listed}
use Rattle.law_dirs.proofs.NameTests.{CanName}
use Rattle.law_dirs.proofs.CreateTests.{create_tests_lem}
use Rattle.law_dirs.proofs.LinkTests.{link_tests_lem}
use Rattle.law_dirs.proofs.UnlinkTests.{HasName, has_where, UnlinkTests, unlink_6, unlink_7, unlink_10, unlink_11, unlink_done, unlink_tests_lem}
use Rattle.law_dirs.proofs.LookTests.{find_tests_lem, entry_tests_lem}
use Rattle.law_calls.specs.Tests.{Tests, fine, test, First, Has, Dotted, entry_takes}
use Rattle.law_calls.specs.Tests.{create_tests, link_tests, unlink_tests, find_tests, entry_tests, format_tests}
use Rattle.law_calls.proofs.FirstOpen.{first_said}
use Rattle.call_said.specs.Said.{Said, plain}
use Rattle.refusals.specs.Refusals.{answer_no}
use Rattle.refusals.specs.declared.Refusal.{Refusal}
use Rattle.refusals.proofs.Refused.{giving_no}
use Rattle.std.specs.Prelude.{Result}

-- ---- names

pub has_not : (img : List ℕ) (p : ℕ) (x : List ℕ) → ((j : ℕ) → j < entries img p → name img p j ≢ x) → Has img p x → ⊥
has_not img p x n h = n h.0 h.1 h.2

pub not_dotted : (x : List ℕ) → is_dots x ≡ false → Dotted x → ⊥
not_dotted x e = ⊎_elim (dots_apart x e).0 (dots_apart x e).1

pub is_dotted : (x : List ℕ) → is_dots x ≡ true → Dotted x
is_dotted x h = grind (arith, common_steps, eqs_same)

-- 6, 8 and 9 of a name that is to be put into directory p, before the rest
abbrev pub name_on : List ℕ → ℕ → List ℕ → Tests → Tests
name_on img p x rest = test 6 (kind img p ≢ 2) (test 8 (Name x → ⊥) (test 9 (Has img p x) rest))

module _ (img : List ℕ) (p : ℕ) (x : List ℕ) (rest : Tests) (k : ℕ) where
  pub name_6 : kind img p ≢ 2 → k ≡ 6 → First (name_on img p x rest) k
  name_6 d e = ◌⊎◌.inl (d, e)

  pub name_8 : kind img p ≡ 2 → (Name x → ⊥) → k ≡ 8 → First (name_on img p x rest) k
  name_8 d n e = ◌⊎◌.inr (λ q. q d, ◌⊎◌.inl (n, e))

  pub name_9 : kind img p ≡ 2 → Name x → Has img p x → k ≡ 9 → First (name_on img p x rest) k
  name_9 d n h e = ◌⊎◌.inr (λ q. q d, ◌⊎◌.inr (λ q. q n, ◌⊎◌.inl (h, e)))

  pub name_on_lem : CanName img p x → First rest k → First (name_on img p x rest) k
  name_on_lem c f = ◌⊎◌.inr (λ q. q c.dir, ◌⊎◌.inr (λ q. q c.stored, ◌⊎◌.inr (has_not img p x c.new, f)))

-- ---- the tests of each call's own

module _ (img : List ℕ) (p : ℕ) (x : List ℕ) (k : ℕ) where
  abbrev pub create_rest : Tests
  create_rest =
      test 12 ((k < 1) ⊎ (3 < k))
      (test 13 ((k ≡ 2) × (links img p ≡ full_links))
      (test 14 (unused img < 1 + pick (eqb k 2) 1 0 + entry_takes img p) fine))

module _ (img : List ℕ) (p : ℕ) (x : List ℕ) (c : ℕ) where
  abbrev pub link_rest : Tests
  link_rest = test 7 (kind img c ≡ 2) (test 13 (links img c ≡ full_links) (test 14 (unused img < entry_takes img p) fine))

abbrev pub unlink_own : List ℕ → ℕ → List ℕ → Tests
unlink_own img p x =
    test 6 (kind img p ≢ 2)
    (test 7 (Dotted x)
    (test 10 (Has img p x → ⊥)
    (test 11 ((kind img (named_by img p x) ≡ 2) × (2 < entries img (named_by img p x))) fine)))

module _ {img : List ℕ} (w : Whole img) (p : ℕ) (r : Reached img p) (x : List ℕ) where
  -- entry j has the name, and the last test answers so
  named_on : {k : ℕ} (j : ℕ) → HasName img p x j → First (test 11 ((kind img (entry img p j) ≡ 2) × (2 < entries img (entry img p j))) fine) k
      → First (unlink_own img p x) k
  named_on j h f = grind (arith, common_steps, not_dotted, has_where)

  pub unlink_own_lem : {a : Result Unit Refusal} → UnlinkTests img p x a → First (unlink_own img p x) (answer_no a)
  unlink_own_lem (unlink_6 d e) = ◌⊎◌.inl (d, ap answer_no e)
  unlink_own_lem (unlink_7 d h e) = ◌⊎◌.inr (λ q. q d, ◌⊎◌.inl (is_dotted x h, ap answer_no e))
  unlink_own_lem (unlink_10 d h n e) = ◌⊎◌.inr (λ q. q d, ◌⊎◌.inr (not_dotted x h, ◌⊎◌.inl (has_not img p x n, ap answer_no e)))
  unlink_own_lem (unlink_11 j h d b e) = named_on j h (◌⊎◌.inl ((d, b), ap answer_no e))
  unlink_own_lem (unlink_done j h b e) = named_on j h (◌⊎◌.inr (λ q. omega (arith, b q.0, q.1), ap answer_no e))

module _ (img : List ℕ) (p : ℕ) (x : List ℕ) where
  abbrev pub find_own : Tests
  find_own = test 6 (kind img p ≢ 2) (test 10 (Has img p x → ⊥) fine)

module _ (img : List ℕ) (p k : ℕ) where
  abbrev pub entry_own : Tests
  entry_own = test 6 (kind img p ≢ 2) (test 10 (entries img p ≤ k) fine)

-- ---- the calls

pub create_first : {img img' s s' : List ℕ} {p : ℕ} {x : List ℕ} {k : ℕ} {r : Said} → Created img img' s s' p x k r
    → First (create_tests img s p x k) (answer_no r)
create_first {img} {img'} {s} {s'} {p} {x} {k} c = grind (arith, common_steps, create_tests_lem)

pub link_first : {img img' s s' : List ℕ} {p : ℕ} {x : List ℕ} {n : ℕ} {r : Said} → Linked img img' s s' p x n r
    → First (link_tests img s p x n) (answer_no r)
link_first {img} {img'} {s} {s'} {p} {x} {n} c = grind (arith, common_steps, link_tests_lem)

pub unlink_first : {img img' s s' : List ℕ} {p : ℕ} {x : List ℕ} {r : Said} → Unlinked img img' s s' p x r → First (unlink_tests img s p x) (answer_no r)
unlink_first {img} {img'} {s} {s'} {p} {x} c =
    first_said (unlink_own img p x) c.opening (plain (unlink_answer img p x)) (giving_no (unlink_answer img p x) 0) c.said
    (λ w y z. unlink_own_lem w p y x (unlink_tests_lem w p y x))

pub find_first : {img s s' : List ℕ} {p : ℕ} {x : List ℕ} {r : Said} → Found img s s' p x r → First (find_tests img s p x) (answer_no r)
find_first {img} {s} {s'} {p} {x} c = grind (arith, common_steps, find_tests_lem)

pub entry_first : {img s s' : List ℕ} {p k : ℕ} {r : Said} {e : List ℕ} → Listed img s s' p k r e → First (entry_tests img s p k) (answer_no r)
entry_first {img} {s} {s'} {p} {k} c = grind (arith, common_steps, entry_tests_lem)

-- format opens no card
format_own : (img : List ℕ) (space : ℕ) → First (format_tests img space) (answer_no (format_answer (length img) space))
unfolding format_answer
format_own img space = grind (arith, common_steps)

pub format_first : {img img' : List ℕ} {space : ℕ} {r : Said} → Formatted img img' space r → First (format_tests img space) (answer_no r)
format_first {img} {img'} {space} {r} c = grind (arith, common_steps, giving_no, format_own)
