-- What find and the entry at an index answer on a whole card, test by test: 6, 10. Assumes nothing.
use mathlib.Core.Path.{◌≡◌, sym}
use mathlib.Core.List.{List}
use mathlib.Core.Logic.{◌≢◌}
use Prim.Native.Nat.{ℕ, ◌≤◌, ◌<◌}
use native.Mathlib.Omega.{arith}
use native.Mathlib.Decide.{dec_lt}
use borrow.Author.Tests.{lt-ltb, le-ltb}
use lib.Dec.{ltb}
use Rattle.std.proofs.lemmas.Grind.{common_steps}
use Rattle.words.specs.Words.{pick}
use Rattle.card_layout.specs.Inode.{kind}
use Rattle.card_layout.specs.declared.INodeId.{INodeId}
use Rattle.card_rules.specs.View.{entries, entry, name}
use Rattle.card_rules.specs.Whole.{Reached, Whole}
use Rattle.dir_entries.specs.Entries.{where_is}
use Rattle.dir_entries.proofs.Lookup.{where_range, where_hit, where_below, where_not, where_only}
use Rattle.dir_answers.specs.Answers.{the_inode, in_dir, named_by}
use Rattle.dir_look.specs.Look.{find_answer, entry_answer}
use Rattle.law_dirs.proofs.Tests.{whole_inode, DirTest, other, dir, dir_test, dir_exact, met, unmet}
use Rattle.refusals.specs.declared.Refusal.TheVariants.{NotDir, EntryNotFound}
use Rattle.refusals.specs.declared.Refusal.{Refusal}
use Rattle.std.specs.Prelude.{Err, Result}
use Rattle.refusals.specs.Refusals.{done}

-- the answer a, by RULES' numbers: the number is that of the one entry that has the name
pub data FindTests (img : List ℕ) (p : ℕ) (x : List ℕ) (a : Result INodeId Refusal) : Type 0 where
  find_6 : kind img p ≢ 2 → a ≡ Err NotDir → FindTests img p x a
  find_10 : kind img p ≡ 2 → ((j : ℕ) → j < entries img p → name img p j ≢ x) → a ≡ Err EntryNotFound → FindTests img p x a
  find_done : kind img p ≡ 2 → (j : ℕ) → j < entries img p → name img p j ≡ x → ((i : ℕ) → i < entries img p → name img p i ≡ x → i ≡ j)
      → a ≡ the_inode (entry img p j) → FindTests img p x a

pub data EntryTests (img : List ℕ) (p k : ℕ) (a : Result Unit Refusal) : Type 0 where
  entry_6 : kind img p ≢ 2 → a ≡ Err NotDir → EntryTests img p k a
  entry_10 : kind img p ≡ 2 → entries img p ≤ k → a ≡ Err EntryNotFound → EntryTests img p k a
  entry_done : kind img p ≡ 2 → k < entries img p → a ≡ done → EntryTests img p k a

module _ {img : List ℕ} (w : Whole img) (p : ℕ) (r : Reached img p) where
  module _ (x : List ℕ) where
    abbrev found : Result INodeId Refusal
    found = pick (ltb (where_is img p x) (entries img p)) (the_inode (named_by img p x)) (Err EntryNotFound)

    by_name : kind img p ≡ 2 → Dec (where_is img p x < entries img p) → FindTests img p x found
    by_name d (yes q) =
        find_done d (where_is img p x) q (where_hit img p x q) (λ i b e. sym (where_only img p x (w.tree.dir p r d).names.differ i b e))
        (rw (lt-ltb (where_is img p x) (entries img p) q))
    by_name d (no q) =
        find_10 d (where_not img p x (omega (arith, where_range img p x))) (rw (le-ltb (where_is img p x) (entries img p) (omega arith)))

    pub find_tests_lem : FindTests img p x (find_answer img p x)
    unfolding find_answer
    find_tests_lem = go (dir_test (λ h. found) (whole_inode w p r))
      where
        go : DirTest img p (in_dir img p (λ h. found)) found → FindTests img p x (in_dir img p (λ h. found))
        go (other d e) = find_6 d e
        go (dir d e) = rw e (by_name d (dec_lt (where_is img p x) (entries img p)))

    -- its causes exclude each other
    pub find_exact : {a : Result INodeId Refusal} → FindTests img p x a → a ≡ find_answer img p x
    unfolding find_answer
    find_exact (find_6 d e) = dir_exact (λ h. found) (whole_inode w p r) (other d e)
    find_exact (find_10 k n e) = dir_exact (λ h. found) (whole_inode w p r) (dir k (rw (unmet img p x n) e))
    find_exact (find_done k j b q o e) =
        dir_exact (λ h. found) (whole_inode w p r)
        (dir k (rw (met img p x j b q, o (where_is img p x) (where_below img p x j b q) (where_hit img p x (where_below img p x j b q))) e))

  module _ (k : ℕ) where
    abbrev listed : Result Unit Refusal
    listed = pick (ltb k (entries img p)) done (Err EntryNotFound)

    pub entry_tests_lem : EntryTests img p k (entry_answer img p k)
    unfolding entry_answer
    entry_tests_lem = grind (arith, common_steps, dir_test)

    pub entry_exact : {a : Result Unit Refusal} → EntryTests img p k a → a ≡ entry_answer img p k
    unfolding entry_answer
    entry_exact (entry_6 d e) = dir_exact (λ h. listed) (whole_inode w p r) (other d e)
    entry_exact (entry_10 d q e) = dir_exact (λ h. listed) (whole_inode w p r) (dir d (rw (le-ltb k (entries img p) q) e))
    entry_exact (entry_done d q e) = dir_exact (λ h. listed) (whole_inode w p r) (dir d (rw (lt-ltb k (entries img p) q) e))
