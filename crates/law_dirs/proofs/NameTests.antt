-- The tests of a name that is to be put into a directory: 6, 8 and 9, which create, link and move share. Assumes nothing.
use mathlib.Core.Path.{◌≡◌, refl}
use mathlib.Core.Bool.{Bool, true, false}
use mathlib.Core.List.{List}
use mathlib.Core.Logic.{◌≢◌}
use Prim.Native.Nat.{ℕ, ◌<◌}
use native.Mathlib.Omega.{arith}
use native.Mathlib.Decide.{dec_lt}
use borrow.Author.Tests.{lt-ltb, le-ltb}
use Rattle.std.proofs.lemmas.Grind.{common_steps}
use Rattle.card_layout.specs.Inode.{kind, head_at}
use Rattle.card_layout.specs.Entry.{Name}
use Rattle.card_layout.specs.declared.inode.FileType.TheVariants.{Dir}
use Rattle.card_layout.specs.declared.inode.Head.{Head}
use Rattle.card_rules.specs.View.{entries, name}
use Rattle.card_rules.specs.Whole.{Inode}
use Rattle.dir_entries.specs.Entries.{where_is}
use Rattle.dir_entries.specs.Names.{storable}
use Rattle.dir_entries.proofs.Lookup.{where_range, where_hit, where_none, where_not}
use Rattle.dir_entries.proofs.Given.{name_storable, storable_name, storable_not}
use Rattle.dir_answers.specs.Answers.{in_dir, new_name}
use Rattle.law_dirs.proofs.Tests.{DirTest, other, dir, dir_test, dir_exact, met, unmet}
use Rattle.refusals.specs.declared.Refusal.TheVariants.{NotDir, BadName, EntryExist}
use Rattle.refusals.specs.declared.Refusal.{Refusal}
use Rattle.std.specs.Prelude.{Err, Result}

-- directory p can take an entry of name x
pub record CanName (img : List ℕ) (p : ℕ) (x : List ℕ) : Type 0 where
  pub dir : kind img p ≡ 2
  pub stored : Name x
  pub new : (j : ℕ) → j < entries img p → name img p j ≢ x

-- so a is answered, where `rest` is what the other tests answer
pub data NameTests {A : Type 0} (img : List ℕ) (p : ℕ) (x : List ℕ) (a rest : Result A Refusal) : Type 0 where
  not_dir : kind img p ≢ 2 → a ≡ Err NotDir → NameTests img p x a rest
  bad_name : kind img p ≡ 2 → (Name x → ⊥) → a ≡ Err BadName → NameTests img p x a rest
  exists : kind img p ≡ 2 → Name x → (j : ℕ) → j < entries img p → name img p j ≡ x → a ≡ Err EntryExist → NameTests img p x a rest
  can : CanName img p x → a ≡ rest → NameTests img p x a rest

-- the form that they have in a definition: f is the rest, of the head of p
abbrev asked : {A : Type 0} → List ℕ → ℕ → List ℕ → (Head → Result A Refusal) → Head → Result A Refusal
asked img p x f h = new_name img p x (f h)

abbrev pub name_tests : {A : Type 0} → List ℕ → ℕ → List ℕ → (Head → Result A Refusal) → Result A Refusal
name_tests img p x f = in_dir img p (asked img p x f)

module _ {A : Type 0} {img : List ℕ} {p : ℕ} (x : List ℕ) (f : Head → Result A Refusal) where
  by_name : kind img p ≡ 2 → (t : Bool) → storable x ≡ t → Dec (where_is img p x < entries img p)
      → NameTests img p x (asked img p x f (head_at img p Dir)) (f (head_at img p Dir))
  by_name d false e q = bad_name d (storable_not x e) (rw e)
  by_name d true e (yes q) =
      exists d (storable_name x e) (where_is img p x) q (where_hit img p x q) (rw (e, lt-ltb (where_is img p x) (entries img p) q))
  by_name d true e (no q) =
      can (record { dir = d; stored = storable_name x e; new = where_not img p x (omega (arith, where_range img p x)) })
      (rw (e, le-ltb (where_is img p x) (entries img p) (omega arith)))

  pub name_tests_lem : Inode img p → NameTests img p x (name_tests img p x f) (f (head_at img p Dir))
  name_tests_lem i = go (dir_test (asked img p x f) i)
    where
      go : DirTest img p (name_tests img p x f) (asked img p x f (head_at img p Dir)) → NameTests img p x (name_tests img p x f) (f (head_at img p Dir))
      go (other d e) = not_dir d e
      go (dir d e) = rw e (by_name d (storable x) refl (dec_lt (where_is img p x) (entries img p)))

not_storable : (x : List ℕ) → (Name x → ⊥) → storable x ≡ false
not_storable x n = grind (arith, common_steps, storable_name)

-- their causes exclude each other
pub name_exact : {A : Type 0} {img : List ℕ} {p : ℕ} {a : Result A Refusal} (x : List ℕ) (f : Head → Result A Refusal) → Inode img p
    → NameTests img p x a (f (head_at img p Dir))
    → a ≡ name_tests img p x f
name_exact {img} {p} x f i (not_dir d e) = dir_exact (asked img p x f) i (other d e)
name_exact {img} {p} x f i (bad_name k n e) = dir_exact (asked img p x f) i (dir k (rw (not_storable x n) e))
name_exact {img} {p} x f i (exists k n j b q e) = dir_exact (asked img p x f) i (dir k (rw (name_storable x n, met img p x j b q) e))
name_exact {img} {p} x f i (can c e) = dir_exact (asked img p x f) i (dir c.dir (rw (name_storable x c.stored, unmet img p x c.new) e))

-- the place of a name that can be put there
pub can_where : {img : List ℕ} {p : ℕ} {x : List ℕ} → CanName img p x → where_is img p x ≡ entries img p
can_where {img} {p} {x} c = where_none img p x c.new
