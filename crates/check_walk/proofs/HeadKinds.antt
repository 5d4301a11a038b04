-- What a derived `==` on kinds says of a record that decodes. Assumes nothing.
use mathlib.Core.Path.{◌≡◌, refl, ap, sym, ◌∙◌}
use mathlib.Core.List.{List}
use mathlib.Core.Bool.{true, false}
use Prim.Native.Nat.{ℕ}
use lib.Dec.{eqb}
use borrow.Author.Tests.{eq-eqb}
use Rattle.std.proofs.lemmas.Bool.{eqb-true}
use denote.Enum.Bare.{sameb}
use Rattle.card_layout.specs.contracts.inode.FileType.{the_type}
use Rattle.card_layout.specs.Inode.{kind, kind_no, decoded}
use Rattle.card_layout.specs.declared.inode.FileType.{FileType}
use Rattle.card_layout.specs.declared.inode.FileType.TheVariants as kinds
use Rattle.card_layout.specs.declared.inode.Head.{Head}
use Rattle.check_marks.proofs.Heads.{head_kind}
use Rattle.std.specs.Prelude.{Some}

same_dir : (k : FileType) → sameb the_type k kinds.Dir ≡ eqb (kind_no k) 2
same_dir kinds.File = refl
same_dir kinds.Dir = refl
same_dir kinds.SymLink = refl

pub head_dir : (img : List ℕ) (n : ℕ) (h : Head) → decoded img n ≡ Some h → sameb the_type h.type_ kinds.Dir ≡ eqb (kind img n) 2
head_dir img n h g = same_dir h.type_ ∙ ap (λ (k : ℕ). eqb k 2) (sym (head_kind img n h g))

-- it is a directory's, or it is not
pub dir_kind : (img : List ℕ) (n : ℕ) (h : Head) → decoded img n ≡ Some h → sameb the_type h.type_ kinds.Dir ≡ true → kind img n ≡ 2
dir_kind img n h g e = eqb-true (kind img n) 2 (sym (head_dir img n h g) ∙ e)

pub other_kind : (img : List ℕ) (n : ℕ) (h : Head) → decoded img n ≡ Some h → sameb the_type h.type_ kinds.Dir ≡ false → kind img n ≡ 2 → ⊥
other_kind img n h g e k = let f : true ≡ false = sym (eq-eqb (kind img n) 2 k) ∙ sym (head_dir img n h g) ∙ e in cc
