-- What the tests of the calls on directories share: the kind of an inode (6), and whether a name is there (9, 10). Assumes nothing.
use mathlib.Core.Path.{◌≡◌}
use mathlib.Core.Bool.{true, false}
use mathlib.Core.List.{List}
use mathlib.Core.Logic.{◌≢◌}
use Prim.Native.Nat.{ℕ, ◌<◌}
use native.Mathlib.Omega.{arith}
use borrow.Author.Tests.{lt-ltb, le-ltb}
use lib.Dec.{ltb}
use Rattle.std.proofs.lemmas.Grind.{common_steps}
use Rattle.card_layout.specs.Inode.{kind, kind_no, head_at}
use Rattle.card_layout.specs.declared.inode.FileType.{FileType}
use Rattle.card_layout.specs.declared.inode.FileType.TheVariants.{Dir}
use Rattle.card_layout.specs.declared.inode.Head.{Head}
use Rattle.card_rules.specs.View.{entries, name}
use Rattle.card_rules.specs.Whole.{Reached, Inode, Whole}
use Rattle.card_rules.proofs.Tree.{reached_listed}
use Rattle.dir_entries.specs.Entries.{where_is}
use Rattle.dir_entries.proofs.Lookup.{where_below, where_none}
use Rattle.dir_answers.specs.Answers.{the_inode, is_dir, in_dir}
use Rattle.law_files.proofs.Requests.{kinds}
use Rattle.refusals.specs.declared.Refusal.TheVariants.{NotDir}
use Rattle.refusals.specs.declared.Refusal.{Refusal}
use Rattle.std.specs.Prelude.{Err, Result}

-- ---- kinds

pub dir_not : (k : FileType) → kind_no k ≢ 2 → is_dir k ≡ false
dir_not t₁ d = grind (arith, common_steps)

pub whole_inode : {img : List ℕ} → Whole img → (n : ℕ) → Reached img n → Inode img n
whole_inode {img} w n r = w.sound.inode n (reached_listed img w n r)

-- ---- 6

-- so a is answered, where `rest` is what the other tests answer
pub data DirTest {A : Type 0} (img : List ℕ) (p : ℕ) (a rest : Result A Refusal) : Type 0 where
  other : kind img p ≢ 2 → a ≡ Err NotDir → DirTest img p a rest
  dir : kind img p ≡ 2 → a ≡ rest → DirTest img p a rest

-- f is the rest, of the head of p
pub dir_test : {A : Type 0} {img : List ℕ} {p : ℕ} (f : Head → Result A Refusal) → Inode img p → DirTest img p (in_dir img p f) (f (head_at img p Dir))
dir_test {img} {p} f i = grind (arith, common_steps, kinds)

-- its two causes exclude each other
pub dir_exact : {A : Type 0} {img : List ℕ} {p : ℕ} {a : Result A Refusal} (f : Head → Result A Refusal) → Inode img p
    → DirTest img p a (f (head_at img p Dir)) → a ≡ in_dir img p f
dir_exact {img} {p} {a} f i t = grind (arith, common_steps, dir_test)

-- ---- 9 and 10

module _ (img : List ℕ) (p : ℕ) (x : List ℕ) where
  pub met : (j : ℕ) → j < entries img p → name img p j ≡ x → ltb (where_is img p x) (entries img p) ≡ true
  met j b e = lt-ltb (where_is img p x) (entries img p) (where_below img p x j b e)

  pub unmet : ((j : ℕ) → j < entries img p → name img p j ≢ x) → ltb (where_is img p x) (entries img p) ≡ false
  unmet n = le-ltb (where_is img p x) (entries img p) (omega (arith, where_none img p x n))

-- ---- an inode, by its number

pub same_inode : (i j : ℕ) → the_inode i ≡ the_inode j → i ≡ j
same_inode i j e = grind (arith, common_steps)
