-- What a call may do with a card that is open: the card is whole, of as many blocks as the answer says, and the inodes are reached; and which of its
-- two answers a call has. Assumes nothing.
use Prim.Native.Nat.{ℕ, ◌+◌, ◌*◌, ◌≤◌, ◌<◌}
use mathlib.Core.Path.{◌≡◌, refl, sym, ap, ◌∙◌}
use mathlib.Core.Bool.{Bool, true, false}
use mathlib.Core.List.{List}
use native.Mathlib.Omega.{arith}
use lib.Dec.{eqb}
use lib.ListN.{length}
use borrow.Author.Tests.{eqb-false}
use Rattle.words.specs.Words.{pick}
use Rattle.words.specs.Sums.{cnt}
use Rattle.card_layout.specs.Super.{blocks}
use Rattle.card_layout.specs.Inode.{kind, head_by, decoded}
use Rattle.card_layout.specs.declared.inode.Head.{Head}
use Rattle.card_layout.specs.declared.INodeId.{INodeId}
use Rattle.card_rules.specs.Whole.{Reached, Whole}
use Rattle.card_rules.proofs.Owners.{inode_below}
use Rattle.file_blocks.specs.Inner.{Sizes}
use Rattle.dir_answers.specs.Answers.{of_head}
use Rattle.check_walk.specs.declared.Counts.{Counts}
use Rattle.check_walk.specs.Opening.{blocks_of, Opening, whole, no_inode, damaged, scratch_short, wrong_fs, unsized, Opened}
use Rattle.call_said.specs.Said.{numbered}
use Rattle.refusals.specs.Refusals.{answer_no, if_done}
use Rattle.refusals.specs.declared.Refusal.{Refusal}
use Rattle.std.specs.Prelude.{Option, Some, None, Result, Ok, Err}

-- ---- a kind that is one of the three

no-head : (h : Head) → Some h ≡ None → ⊥
no-head h e = let z : ◌≡◌ {A = ℕ} 1 0 = ap (λ (d : Option Head). of_head d 0 (λ g. 1)) e in omega arith

by_tests : (a b c : Bool) (f g h : Head) → pick a (Some f) (pick b (Some g) (pick c (Some h) None)) ≡ None
    → (a ≡ false) × (b ≡ false) × (c ≡ false)
by_tests true b c f g h e = absurd (no-head f e)
by_tests false true c f g h e = absurd (no-head g e)
by_tests false false true f g h e = absurd (no-head h e)
by_tests false false false f g h e = (refl, refl, refl)

unknown_kind : (img : List ℕ) (n : ℕ) → decoded img n ≡ None → 1 ≤ kind img n → kind img n ≤ 3 → ⊥
unfolding head_by
unknown_kind img n e l m =
    let k = kind img n in
    let t = by_tests (eqb k 1) (eqb k 2) (eqb k 3) _ _ _ e in
    omega (arith, eqb-false k 1 t.0, eqb-false k 2 t.1, eqb-false k 3 t.2)

-- ---- a whole card has what the crates below ask

module _ {img : List ℕ} (w : Whole img) where
  pub sizes_of : Sizes img (blocks img)
  sizes_of = let z = w.sound.sized in record { few = z.few; many = z.many; long = z.long }

  module _ {n : ℕ} (r : Reached img n) where
    listed : 0 < cnt n w.inodes
    listed = omega (arith, w.tree.all n r)

    pub reached_below : n < blocks img
    reached_below = inode_below img w.inodes w.sound n listed

    pub reached_kind : decoded img n ≡ None → ⊥
    reached_kind e = let i = w.sound.inode n listed in unknown_kind img n e i.kind_low i.kind_high

    pub record_in : 4096 * n + 80 ≤ length img
    record_in = omega (arith, reached_below, w.sound.sized.long)

-- ---- the answer Ok

-- the card is whole, has nb blocks, and a and b are inodes of it
pub record Ready (img : List ℕ) (a b nb : ℕ) : Type 0 where
  pub card : Whole img
  pub first : Reached img a
  pub second : Reached img b
  pub blocks_is : nb ≡ blocks img

module _ {img s s' : List ℕ} {a b : ℕ} {o : Opened} (c : Counts) where
  pub ready : Opening img s s' a b o → o ≡ Ok c → Ready img a b c.blocks
  ready (whole l w x y e f) q = record { card = w; first = x; second = y; blocks_is = ap blocks_of (sym q ∙ e) }
  ready (no_inode l w x e f) q = absurd (omega (arith, ap answer_no (sym q ∙ e)))
  ready (damaged z l w e f) q = absurd (omega (arith, ap answer_no (sym q ∙ e)))
  ready (scratch_short z l e f) q = absurd (omega (arith, ap answer_no (sym q ∙ e)))
  ready (wrong_fs l w e f) q = absurd (omega (arith, ap answer_no (sym q ∙ e)))
  ready (unsized l w e f) q = absurd (omega (arith, ap answer_no (sym q ∙ e)))

module _ {img : List ℕ} {a b nb : ℕ} (r : Ready img a b nb) where
  pub ready_sizes : Sizes img nb
  ready_sizes = rw r.blocks_is (sizes_of r.card)

  pub ready_below : {n : ℕ} → Reached img n → n < nb
  ready_below x = rw r.blocks_is (reached_below r.card x)

-- ---- which of its two answers a call has: x where the card is open

pub on_open : {A : Type 0} {o : Opened} (c : Counts) (x r : A) {y : A} → o ≡ Ok c → y ≡ x → y ≡ if_done o x r
on_open c x r e p = rw e p

-- the answer is a refusal
pub on_shut : {A : Type 0} (o : Opened) (x r : A) {y : A} → ((c : Counts) → o ≡ Ok c → ⊥) → y ≡ r → y ≡ if_done o x r
on_shut (Ok c) x r t p = absurd (t c refl)
on_shut (Err e) x r t p = p

-- ---- an answer that names an inode is said with its number

pub numbered_no : (r : Result INodeId Refusal) → answer_no (numbered r) ≡ answer_no r
numbered_no (Ok n) = refl
numbered_no (Err e) = refl
