-- A relation between two things made by the same tests and loops: it holds where it holds of their parts, and with one thing on both sides a property
-- is kept. Assumes nothing.
use mathlib.Core.Path.{◌≡◌, refl}
use mathlib.Core.Bool.{Bool, true, false}
use mathlib.Core.List.{List}
use Prim.Native.Nat.{ℕ, zero, suc, ◌+◌, ◌<◌}
use native.Mathlib.Omega.{arith}
use native.Mathlib.Decide.{dec_lt}
use borrow.Author.Tests.{lt-ltb, le-ltb}
use lib.Dec.{eqb, ltb}
use Rattle.words.specs.Words.{pick}
use Rattle.words.specs.Runs.{turns}
use Rattle.card_layout.specs.Inode.{kind, head_at, head_by, decoded}
use Rattle.card_layout.specs.declared.inode.FileType.{FileType}
use Rattle.card_layout.specs.declared.inode.FileType.TheVariants.{File, Dir, SymLink}
use Rattle.card_layout.specs.declared.inode.Head.{Head}
use Rattle.file_requests.specs.Requests.{by_file}
use Rattle.dir_answers.specs.Answers.{of_head}
use Rattle.refusals.specs.Refusals.{answer_no, if_done}
use Rattle.refusals.specs.declared.Refusal.{Refusal}
use Rattle.std.specs.Prelude.{Option, Some, None, Ok, Err, Result}

-- one of two, where the test is known to hold for the first
pub both_below : {A : Type 0} (R : A → A → Type 0) (a b : ℕ) (x y x' y' : A) → (a < b → R x y) → R x' y' → R (pick (ltb a b) x x') (pick (ltb a b) y y')
both_below R a b x y x' y' p q = go (dec_lt a b)
  where
    go : Dec (a < b) → R (pick (ltb a b) x x') (pick (ltb a b) y y')
    go (yes h) = rw (lt-ltb a b h) (p h)
    go (no h) = rw (le-ltb a b (omega arith)) q

pub both_pick : {A : Type 0} (R : A → A → Type 0) (t : Bool) (x y x' y' : A) → R x y → R x' y' → R (pick t x x') (pick t y y')
both_pick R true x y x' y' p q = p
both_pick R false x y x' y' p q = q

pub both_turns : {A : Type 0} (R : A → A → Type 0) (f g : ℕ → A → A) (i : ℕ) (x y : A) → R x y → (k : ℕ)
    → ((j : ℕ) (u v : A) → j < k → R u v → R (f (i + j) u) (g (i + j) v)) → R (turns f i k x) (turns g i k y)
unfolding turns
both_turns R f g i x y r zero h = r
both_turns R f g i x y r (suc k) h = h k _ _ (omega arith) (both_turns R f g i x y r k (λ j u v l q. h j u v (omega arith) q))

pub both_if : {A B : Type 0} (R : A → A → Type 0) (a : Result B Refusal) (x y r s : A) → (answer_no a ≡ 0 → R x y) → R r s → R (if_done a x r) (if_done a y s)
both_if R (Ok v) x y r s p q = p refl
both_if R (Err e) x y r s p q = q

-- whatever kind the record is of
module _ {A : Type 0} (R : A → A → Type 0) (img : List ℕ) (n : ℕ) (r s : A) (f g : Head → A)
    (p : (k : FileType) → R (f (head_at img n k)) (g (head_at img n k))) (q : R r s) where
  abbrev choice : Bool → Bool → Bool → Option Head
  choice a b c = pick a (Some (head_at img n File)) (pick b (Some (head_at img n Dir)) (pick c (Some (head_at img n SymLink)) None))

  pub both_head : R (of_head (decoded img n) r f) (of_head (decoded img n) s g)
  unfolding head_by
  both_head = go (eqb (kind img n) 1) (eqb (kind img n) 2) (eqb (kind img n) 3)
    where
      go : (a b c : Bool) → R (of_head (choice a b c) r f) (of_head (choice a b c) s g)
      go true b c = p File
      go false true c = p Dir
      go false false true = p SymLink
      go false false false = q

  pub both_file : R (by_file (decoded img n) r f) (by_file (decoded img n) s g)
  unfolding head_by
  both_file = go (eqb (kind img n) 1) (eqb (kind img n) 2) (eqb (kind img n) 3)
    where
      go : (a b c : Bool) → R (by_file (choice a b c) r f) (by_file (choice a b c) s g)
      go true b c = p File
      go false true c = q
      go false false true = p SymLink
      go false false false = q
