-- A public call that answers 0 has found the card open. Assumes nothing.
use mathlib.Core.Path.{◌≡◌}
use native.Mathlib.Omega.{arith}
use mathlib.Core.List.{List}
use Prim.Native.Nat.{ℕ}
use Rattle.std.proofs.lemmas.Grind.{common_steps}
use Rattle.card_layout.specs.Super.{blocks}
use Rattle.card_rules.specs.Whole.{Reached, Whole}
use Rattle.check_walk.specs.Opening.{Opening, Opened}
use Rattle.dir_create.specs.Create.{create_answer, create_card}
use Rattle.dir_link.specs.Link.{link_answer, link_card}
use Rattle.dir_unlink.specs.Unlink.{unlink_answer, unlink_card}
use Rattle.call_dirs.specs.DirCalls.{Created, Linked, Unlinked, Moved}
use Rattle.call_said.specs.Said.{of_opened, numbered, plain, Said}
use Rattle.refusals.specs.Refusals.{answer_no, if_done}

-- f is what the call says of an open card, and `out` what it leaves then
pub record Acts {A : Type 0} (img : List ℕ) (a b : ℕ) (f r : Said) (out left : A) : Type 0 where
  pub card : Whole img
  pub first : Reached img a
  pub second : Reached img b
  pub done : answer_no f ≡ 0
  pub said_is : r ≡ f
  pub left_is : left ≡ out

pub acts : {A : Type 0} {img s s' : List ℕ} {a b : ℕ} (f : Said) (out before left : A) {r : Said} (o : Opened) → Opening img s s' a b o
    → r ≡ if_done o f (of_opened o) → left ≡ if_done o out before → answer_no r ≡ 0 → Acts img a b f r out left
acts f out before left t₁ x e i z = grind (arith, common_steps)

-- ---- so the card of a directory call that answers 0 is whole

module _ {img img' s s' : List ℕ} {p : ℕ} {x : List ℕ} {r : Said} (z : answer_no r ≡ 0) where
  pub created_card : {k : ℕ} → Created img img' s s' p x k r → Whole img
  created_card {k} c =
      (acts (numbered (create_answer (blocks img) img p x k)) (create_card (blocks img) img p x k) img img' c.opened c.opening c.said c.image z).card

  pub linked_card : {n : ℕ} → Linked img img' s s' p x n r → Whole img
  linked_card {n} c =
      (acts (plain (link_answer img p x n)) (link_card (blocks img) img p x n) img img' c.opened c.opening c.said c.image z).card

  pub unlinked_card : Unlinked img img' s s' p x r → Whole img
  unlinked_card c = (acts (plain (unlink_answer img p x)) (unlink_card (blocks img) img p x) img img' c.opened c.opening c.said c.image z).card

  pub moved_card : {t : ℕ} {new : List ℕ} → Moved img img' s s' p x t new r → Whole img
  moved_card {t} {new} c = grind (arith, common_steps)
