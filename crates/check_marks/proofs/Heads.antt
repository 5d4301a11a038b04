-- A decoded head is that of its record on the card, and is right by itself exactly where the record is an inode by rule 4. Assumes nothing.
use mathlib.Core.Path.{◌≡◌, sym, ap, ◌∙◌}
use mathlib.Core.List.{List}
use Prim.Native.Nat.{ℕ, ◌≤◌}
use native.Mathlib.Omega.{arith}
use native.Mathlib.Decide.{ℕ_discrete}
use borrow.Author.Tests.{eq-eqb, ne_eqb}
use Rattle.card_layout.specs.Inode.{size, kind, links, kind_no, head_at, head_by, decoded}
use Rattle.card_layout.specs.declared.inode.FileType.{FileType}
use Rattle.card_layout.specs.declared.inode.FileType.TheVariants.{File, Dir, SymLink}
use Rattle.card_layout.specs.declared.inode.Head.{Head}
use Rattle.card_rules.specs.Whole.{Inode}
use Rattle.check_marks.specs.Inner.{HeadOf, HeadFits}
use Rattle.std.specs.Prelude.{Some, None}

-- ---- decoding by the number of the kind

head_1 : (img : List ℕ) (n k : ℕ) → k ≡ 1 → head_by k img n ≡ Some (head_at img n File)
unfolding head_by
head_1 img n k e = simp (eq-eqb k 1 e)

head_2 : (img : List ℕ) (n k : ℕ) → k ≡ 2 → head_by k img n ≡ Some (head_at img n Dir)
unfolding head_by
head_2 img n k e = simp (ne_eqb k 1 (λ q. omega arith), eq-eqb k 2 e)

head_3 : (img : List ℕ) (n k : ℕ) → k ≡ 3 → head_by k img n ≡ Some (head_at img n SymLink)
unfolding head_by
head_3 img n k e = simp (ne_eqb k 1 (λ q. omega arith), ne_eqb k 2 (λ q. omega arith), eq-eqb k 3 e)

head_other : (img : List ℕ) (n k : ℕ) → (k ≡ 1 → ⊥) → (k ≡ 2 → ⊥) → (k ≡ 3 → ⊥) → head_by k img n ≡ None
unfolding head_by
head_other img n k d1 d2 d3 = simp (ne_eqb k 1 d1, ne_eqb k 2 d2, ne_eqb k 3 d3)

-- a good head is the record's, with the kind's number
head_by_lem : (img : List ℕ) (n k : ℕ) (h : Head) → head_by k img n ≡ Some h → (t : FileType) × (h ≡ head_at img n t) × (k ≡ kind_no t)
head_by_lem img n k h g = go (ℕ_discrete k 1) (ℕ_discrete k 2) (ℕ_discrete k 3)
  where
    good : (x : Head) → head_by k img n ≡ Some x → h ≡ x
    good x e = let q : Some h ≡ Some x = sym g ∙ e in cc

    go : Dec (k ≡ 1) → Dec (k ≡ 2) → Dec (k ≡ 3) → (t : FileType) × (h ≡ head_at img n t) × (k ≡ kind_no t)
    go (yes e) a b = (File, good (head_at img n File) (head_1 img n k e), e)
    go (no d) (yes e) b = (Dir, good (head_at img n Dir) (head_2 img n k e), e)
    go (no d) (no d2) (yes e) = (SymLink, good (head_at img n SymLink) (head_3 img n k e), e)
    go (no d) (no d2) (no d3) =
        let q : Some h ≡ None = sym g ∙ head_other img n k d d2 d3 in
        let z : ◌≡◌ {A = ℕ} 0 1 = cc in
        absurd (omega arith)

kind_range : (t : FileType) → (1 ≤ kind_no t) × (kind_no t ≤ 3)
kind_range File = (omega arith, omega arith)
kind_range Dir = (omega arith, omega arith)
kind_range SymLink = (omega arith, omega arith)

-- ---- a record that decodes

module _ (img : List ℕ) (n : ℕ) (h : Head) (g : decoded img n ≡ Some h) where
  the_head : (t : FileType) × (h ≡ head_at img n t) × (kind img n ≡ kind_no t)
  the_head = head_by_lem img n (kind img n) h g

  pub head_of : HeadOf img n h
  head_of =
      let e = the_head.1 in
      record { blocks = ap (λ (x : Head). x.blocks) e; single = ap (λ (x : Head). x.indirect.0) e; twofold = ap (λ (x : Head). x.db_indirect.0) e }

  pub head_kind : kind img n ≡ kind_no h.type_
  head_kind = the_head.2 ∙ sym (ap (λ (x : Head). kind_no x.type_) the_head.1)

  pub head_size : h.size ≡ size img n
  head_size = ap (λ (x : Head). x.size) the_head.1

  pub head_links_lem : h.nlinks ≡ links img n
  head_links_lem = ap (λ (x : Head). x.nlinks) the_head.1

  pub fits_inode : HeadFits h → Inode img n
  fits_inode f =
      let o = head_of in
      let k = kind_range h.type_ in
      record {
        kind_low = omega (arith, head_kind, k.0);
        kind_high = omega (arith, head_kind, k.1);
        shape =
            record {
              counted = omega (arith, f.counted, o.blocks, head_size);
              single =
                  record {
                    from = λ l. omega (arith, o.single, f.single.from (omega (arith, o.blocks)));
                    to = λ l. omega (arith, o.single, f.single.to (omega (arith, o.blocks)));
                  };
              twofold =
                  record {
                    from = λ l. omega (arith, o.twofold, f.twofold.from (omega (arith, o.blocks)));
                    to = λ l. omega (arith, o.twofold, f.twofold.to (omega (arith, o.blocks)));
                  };
            };
      }

  pub inode_fits : Inode img n → HeadFits h
  inode_fits i =
      let o = head_of in
      record {
        counted = omega (arith, i.shape.counted, o.blocks, head_size);
        single =
            record {
              from = λ l. omega (arith, o.single, i.shape.single.from (omega (arith, o.blocks)));
              to = λ l. omega (arith, o.single, i.shape.single.to (omega (arith, o.blocks)));
            };
        twofold =
            record {
              from = λ l. omega (arith, o.twofold, i.shape.twofold.from (omega (arith, o.blocks)));
              to = λ l. omega (arith, o.twofold, i.shape.twofold.to (omega (arith, o.blocks)));
            };
      }

-- a record that does not decode is no inode
pub bad_no_inode : (img : List ℕ) (n : ℕ) → decoded img n ≡ None → Inode img n → ⊥
bad_no_inode img n b i = go (ℕ_discrete (kind img n) 1) (ℕ_discrete (kind img n) 2)
  where
    bad : (x : Head) → decoded img n ≡ Some x → ⊥
    bad x e = let q : Some x ≡ None = sym e ∙ b in let z : ◌≡◌ {A = ℕ} 0 1 = cc in omega arith

    go : Dec (kind img n ≡ 1) → Dec (kind img n ≡ 2) → ⊥
    go (yes e) q = bad (head_at img n File) (head_1 img n (kind img n) e)
    go (no d) (yes e) = bad (head_at img n Dir) (head_2 img n (kind img n) e)
    go (no d) (no d2) =
        let e : kind img n ≡ 3 = omega (arith, i.kind_low, i.kind_high) in bad (head_at img n SymLink) (head_3 img n (kind img n) e)

-- nor a directory's
pub bad_no_dir : (img : List ℕ) (n : ℕ) → decoded img n ≡ None → kind img n ≡ 2 → ⊥
bad_no_dir img n b e =
    let q : Some (head_at img n Dir) ≡ None = sym (head_2 img n (kind img n) e) ∙ b in
    let z : ◌≡◌ {A = ℕ} 0 1 = cc in
    omega arith
