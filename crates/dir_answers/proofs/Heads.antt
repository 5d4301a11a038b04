-- A decoded head is that of its record on the card; the head of a directory. Assumes nothing.
use mathlib.Core.Path.{◌≡◌, refl, sym, ap, ◌∙◌}
use mathlib.Core.Bool.{Bool, true, false}
use mathlib.Core.List.{List}
use Prim.Native.Nat.{ℕ, ◌+◌, ◌≤◌}
use native.Mathlib.Omega.{arith}
use lib.Dec.{eqb}
use borrow.Author.Tests.{eqb-true}
use Rattle.words.specs.Words.{pick}
use Rattle.card_layout.specs.Sizes.{blocks_for}
use Rattle.card_layout.specs.Inode.{size, kind, links, count, kind_no, head_at, head_by, decoded}
use Rattle.card_layout.specs.declared.inode.FileType.{FileType}
use Rattle.card_layout.specs.declared.inode.FileType.TheVariants.{File, Dir, SymLink}
use Rattle.card_layout.specs.declared.inode.Head.{Head}
use Rattle.card_rules.specs.Whole.{Reached, Whole}
use Rattle.file_requests.proofs.Answers.{owned_below}
use Rattle.dir_entries.specs.Inner.{CanAppend}
use Rattle.dir_answers.specs.Answers.{is_dir, of_head, in_dir, entry_needs}
use Rattle.dir_answers.proofs.Ready.{size_ready}
use Rattle.refusals.specs.declared.Refusal.{Refusal}
use Rattle.refusals.specs.declared.Refusal.TheVariants.{NotDir}
use Rattle.std.specs.Prelude.{Option, Some, None, Result, Ok, Err}

no-head : (h : Head) → Some h ≡ None → ⊥
no-head h e = let z : ◌≡◌ {A = ℕ} 0 1 = cc in omega arith

-- ---- what a good head says

-- the fields of record n
pub record HeadIs (img : List ℕ) (n : ℕ) (h : Head) : Type 0 where
  pub size_is : h.size ≡ size img n
  pub blocks_is : h.blocks ≡ count img n
  pub links_is : h.nlinks ≡ links img n
  pub kind_is : kind_no h.type_ ≡ kind img n

module _ (img : List ℕ) (n : ℕ) (h : Head) where
  of_kind : (t : FileType) → kind_no t ≡ kind img n → Some (head_at img n t) ≡ Some h → HeadIs img n h
  of_kind t k e =
      let q : h ≡ head_at img n t = cc in
      record {
        size_is = ap (λ (x : Head). x.size) q;
        blocks_is = ap (λ (x : Head). x.blocks) q;
        links_is = ap (λ (x : Head). x.nlinks) q;
        kind_is = ap (λ (x : Head). kind_no x.type_) q ∙ k;
      }

  of_tests : (a b c : Bool) → (a ≡ true → 1 ≡ kind img n) → (b ≡ true → 2 ≡ kind img n) → (c ≡ true → 3 ≡ kind img n)
      → pick a (Some (head_at img n File)) (pick b (Some (head_at img n Dir)) (pick c (Some (head_at img n SymLink)) None)) ≡ Some h
      → HeadIs img n h
  of_tests true b c p q s e = of_kind File (p refl) e
  of_tests false true c p q s e = of_kind Dir (q refl) e
  of_tests false false true p q s e = of_kind SymLink (s refl) e
  of_tests false false false p q s e = absurd (no-head h (sym e))

  pub head_is : decoded img n ≡ Some h → HeadIs img n h
  unfolding head_by
  head_is e =
      let k = kind img n in
      of_tests (eqb k 1) (eqb k 2) (eqb k 3) (λ q. sym (eqb-true k 1 q)) (λ q. sym (eqb-true k 2 q)) (λ q. sym (eqb-true k 3 q)) e

-- the head of a reached inode of a whole card: its sums are small
module _ (img : List ℕ) (w : Whole img) (n : ℕ) (r : Reached img n) (h : Head) (g : decoded img n ≡ Some h) where
  is : HeadIs img n h
  is = head_is img n h g

  pub head_small : CanAppend h
  head_small = omega (arith, is.size_is, size_ready img w n r)

-- what an entry takes is far from what a machine word holds
pub needs_small : (h : Head) → CanAppend h → entry_needs h ≤ 3000000
needs_small h l = omega (arith, owned_below (blocks_for (h.size + 260)))

-- ---- the head of a directory

dir_test : (t : Bool) (h g : Head) → pick t (Ok h) (Err NotDir) ≡ Ok g → (h ≡ g) × (t ≡ true)
dir_test true h g e = (cc, refl)
dir_test false h g e = let z : ◌≡◌ {A = ℕ} 0 1 = cc in absurd (omega arith)

-- a head that is answered is the card's, and a directory's
pub dir_good : (img : List ℕ) (p : ℕ) (g : Head) → in_dir img p (λ h. Ok h) ≡ Ok g → (decoded img p ≡ Some g) × (is_dir g.type_ ≡ true)
dir_good img p g = go (decoded img p)
  where
    go : (d : Option Head) → of_head d (Err NotDir) (λ h. pick (is_dir h.type_) (Ok h) (Err NotDir)) ≡ Ok g → (d ≡ Some g) × (is_dir g.type_ ≡ true)
    go (Some h) e =
        let t = dir_test (is_dir h.type_) h g e in
        (ap (λ (x : Head). Some x) t.0, ap (λ (x : Head). is_dir x.type_) (sym t.0) ∙ t.1)
    go None e = let z : ◌≡◌ {A = ℕ} 0 1 = cc in absurd (omega arith)

module _ {A : Type 0} (img : List ℕ) (p : ℕ) (f : Head → Result A Refusal) where
  no_dir : (t : Bool) (h : Head) (e : Refusal) (x : Result A Refusal) → pick t (Ok h) (Err NotDir) ≡ Err e → pick t x (Err NotDir) ≡ Err e
  no_dir true h e x q = let z : ◌≡◌ {A = ℕ} 0 1 = cc in absurd (omega arith)
  no_dir false h e x q = cc

  -- and where none is answered, there is no directory
  pub dir_bad : (e : Refusal) → in_dir img p (λ h. Ok h) ≡ Err e → in_dir img p f ≡ Err e
  dir_bad e = go (decoded img p)
    where
      go : (d : Option Head) → of_head d (Err NotDir) (λ h. pick (is_dir h.type_) (Ok h) (Err NotDir)) ≡ Err e
          → of_head d (Err NotDir) (λ h. pick (is_dir h.type_) (f h) (Err NotDir)) ≡ Err e
      go (Some h) q = no_dir (is_dir h.type_) h e (f h) q
      go None q = cc

  pub dir_yes : (h : Head) → decoded img p ≡ Some h → is_dir h.type_ ≡ true → in_dir img p f ≡ f h
  dir_yes h e t =
      ap (λ (q : Option Head). of_head q (Err NotDir) (λ h. pick (is_dir h.type_) (f h) (Err NotDir))) e
      ∙ ap (λ (b : Bool). pick b (f h) (Err NotDir)) t
