-- What is left of a card by an answer, and tests in a row: a refusal changes nothing. Assumes nothing.
use mathlib.Core.Path.{◌≡◌, refl, ap}
use mathlib.Core.Bool.{Bool, true, false}
use mathlib.Core.List.{List}
use Prim.Native.Nat.{ℕ}
use lib.Dec.{ltb}
use Rattle.words.specs.Words.{pick}
use Rattle.card_layout.specs.Inode.{decoded}
use Rattle.card_layout.specs.declared.inode.Head.{Head}
use Rattle.card_rules.specs.View.{entries}
use Rattle.file_blocks.proofs.Picks.{pick-both}
use Rattle.dir_entries.specs.Entries.{where_is}
use Rattle.dir_entries.specs.Names.{storable}
use Rattle.dir_answers.specs.Answers.{is_dir, of_head, in_dir, new_name}
use Rattle.refusals.specs.Refusals.{answer_no}
use Rattle.refusals.specs.declared.Refusal.{Refusal}
use Rattle.refusals.specs.declared.Refusal.TheVariants.{NotDir, BadName, EntryExist}
use Rattle.refusals.proofs.Refused.{Refused, not_done}
use Rattle.std.specs.Prelude.{Option, Some, None, Result, Err}

-- ---- the card by a head, and by two

module _ {A : Type 0} (r : A) (f : Head → A) where
  pub of_good : (d : Option Head) (h : Head) → d ≡ Some h → of_head d r f ≡ f h
  of_good d h e = ap (λ (q : Option Head). of_head q r f) e

  pub of_bad : (d : Option Head) → d ≡ None → of_head d r f ≡ r
  of_bad d e = ap (λ (q : Option Head). of_head q r f) e

  pub of_same : (d : Option Head) → ((h : Head) → f h ≡ r) → of_head d r f ≡ r
  of_same (Some h) s = s h
  of_same None s = refl

-- ---- tests in a row

module _ {A : Type 0} (t : Bool) (x y : A) where
  pub held : t ≡ true → pick t x y ≡ x
  held e = ap (λ (q : Bool). pick q x y) e

  pub failed : t ≡ false → pick t x y ≡ y
  failed e = ap (λ (q : Bool). pick q x y) e

-- the second of two tests, made only where the first holds
pub two_tests : {A : Type 0} (a b : Bool) (t r : A) → pick a (pick b t r) r ≡ pick (pick a b false) t r
two_tests true b t r = refl
two_tests false b t r = refl

-- a refusal is not what was done, v, so its test has failed
pub test_passed : {A : Type 0} (t : Bool) (j r : Result A Refusal) {v : Result A Refusal} → answer_no v ≡ 0 → Refused j → pick t j r ≡ v → (t ≡ false) × (r ≡ v)
test_passed true j r z d e = absurd (not_done j z d e)
test_passed false j r z d e = (refl, e)

pub test_held : {A : Type 0} (t : Bool) (j r : Result A Refusal) {v : Result A Refusal} → answer_no v ≡ 0 → Refused r → pick t j r ≡ v → (t ≡ true) × (j ≡ v)
test_held true j r z d e = (refl, e)
test_held false j r z d e = absurd (not_done r z d e)

-- so what was done by a head had one
pub record Headed {A : Type 0} (d : Option Head) (f : Head → Result A Refusal) (v : Result A Refusal) : Type 0 where
  pub head : Head
  pub good : d ≡ Some head
  pub rest : f head ≡ v

pub headed : {A : Type 0} (d : Option Head) (r : Result A Refusal) (f : Head → Result A Refusal) {v : Result A Refusal} → answer_no v ≡ 0 → Refused r → of_head d r f ≡ v → Headed d f v
headed (Some h) r f z n e = record { head = h; good = refl; rest = e }
headed None r f z n e = absurd (not_done r z n e)

-- ---- what holds of every answer

-- what holds of the answer without a head, and of those with one
pub head_both : {A : Type 0} (S : Result A Refusal → Type 0) (d : Option Head) (r : Result A Refusal) (f : Head → Result A Refusal) → S r → ((h : Head) → S (f h)) → S (of_head d r f)
head_both S (Some h) r f p q = q h
head_both S None r f p q = p

pub dir_both : {A : Type 0} (S : Result A Refusal → Type 0) (img : List ℕ) (p : ℕ) (f : Head → Result A Refusal) → S (Err NotDir) → ((h : Head) → S (f h)) → S (in_dir img p f)
dir_both S img p f n q =
    head_both S (decoded img p) (Err NotDir) (λ h. pick (is_dir h.type_) (f h) (Err NotDir)) n
    (λ h. pick-both S (is_dir h.type_) (f h) (Err NotDir) (q h) n)

pub new_both : {A : Type 0} (S : Result A Refusal → Type 0) (img : List ℕ) (p : ℕ) (x : List ℕ) (r : Result A Refusal) → S (Err BadName) → S (Err EntryExist) → S r → S (new_name img p x r)
new_both S img p x r b e q =
    pick-both S (storable x) (pick (ltb (where_is img p x) (entries img p)) (Err EntryExist) r) (Err BadName)
    (pick-both S (ltb (where_is img p x) (entries img p)) (Err EntryExist) r e q) b
