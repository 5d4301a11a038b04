-- A kind by its number: `kind_of` says what `known_kind` does, and which. Assumes nothing.
use mathlib.Core.Path.{◌≡◌, refl, sym, ap, ◌∙◌}
use mathlib.Core.Bool.{Bool, true, false}
use Prim.Native.Nat.{ℕ, ◌<◌, ◌≤◌}
use native.Mathlib.Omega.{arith}
use native.Mathlib.Decide.{ℕ_discrete}
use lib.Dec.{eqb, ltb}
use borrow.Author.Tests.{eqb-true, eqb-false, eq-eqb, ne_eqb, lt-ltb, le-ltb}
use Rattle.words.specs.Words.{pick}
use Rattle.card_layout.specs.Inode.{kind_no, kind_of}
use Rattle.card_layout.specs.declared.inode.FileType.{FileType}
use Rattle.card_layout.specs.declared.inode.FileType.TheVariants.{File, Dir, SymLink}
use Rattle.dir_create.specs.Create.{known_kind, file_kind}
use Rattle.refusals.specs.declared.Refusal.{Refusal}
use Rattle.refusals.specs.declared.Refusal.TheVariants.{InvalidParam}
use Rattle.std.specs.Prelude.{Result, Ok, Err}

same : (s t : FileType) → ◌≡◌ {A = Result FileType Refusal} (Ok s) (Ok t) → kind_no s ≡ kind_no t
same s t e = let q : s ≡ t = cc in ap kind_no q

apart : (e : Refusal) (t : FileType) → ◌≡◌ {A = Result FileType Refusal} (Err e) (Ok t) → ⊥
apart e t q = let z : ◌≡◌ {A = ℕ} 0 1 = cc in omega arith

by_tests : (a b c : Bool) (k : ℕ) (t : FileType) → (a ≡ true → 1 ≡ k) → (b ≡ true → 2 ≡ k) → (c ≡ true → 3 ≡ k)
    → pick a (Ok File) (pick b (Ok Dir) (pick c (Ok SymLink) (Err InvalidParam))) ≡ Ok t → kind_no t ≡ k
by_tests true b c k t p q s e = sym (same File t e) ∙ p refl
by_tests false true c k t p q s e = sym (same Dir t e) ∙ q refl
by_tests false false true k t p q s e = sym (same SymLink t e) ∙ s refl
by_tests false false false k t p q s e = absurd (apart InvalidParam t e)

least : (t : FileType) → 1 ≤ kind_no t
least File = omega arith
least Dir = omega arith
least SymLink = omega arith

greatest : (t : FileType) → kind_no t ≤ 3
greatest File = omega arith
greatest Dir = omega arith
greatest SymLink = omega arith

-- a kind that is answered has the number
pub kind_good : (k : ℕ) (t : FileType) → kind_of k ≡ Ok t → kind_no t ≡ k
kind_good k t e =
    by_tests (eqb k 1) (eqb k 2) (eqb k 3) k t (λ q. sym (eqb-true k 1 q)) (λ q. sym (eqb-true k 2 q)) (λ q. sym (eqb-true k 3 q)) e

pub kind_known : (t : FileType) → known_kind (kind_no t) ≡ true
kind_known File = refl
kind_known Dir = refl
kind_known SymLink = refl

-- the kind of what is no directory
pub kind_file : (t : FileType) → (kind_no t ≡ 2 → ⊥) → file_kind (kind_no t) ≡ t
kind_file File d = refl
kind_file Dir d = absurd (d refl)
kind_file SymLink d = refl

none : (a b c : Bool) (e : Refusal) → pick a (Ok File) (pick b (Ok Dir) (pick c (Ok SymLink) (Err InvalidParam))) ≡ Err e
    → (a ≡ false) × (b ≡ false) × (c ≡ false) × (InvalidParam ≡ e)
none true b c e q = absurd (apart e File (sym q))
none false true c e q = absurd (apart e Dir (sym q))
none false false true e q = absurd (apart e SymLink (sym q))
none false false false e q = (refl, refl, refl, cc)

-- and where none is, it is no kind, which is 12
pub kind_bad : (k : ℕ) (e : Refusal) → kind_of k ≡ Err e → (known_kind k ≡ false) × (InvalidParam ≡ e)
kind_bad k e q =
    let n = none (eqb k 1) (eqb k 2) (eqb k 3) e q in
    (go (eqb-false k 1 n.0) (eqb-false k 2 n.1) (eqb-false k 3 n.2) (ℕ_discrete k 0), n.3)
  where
    go : (k ≡ 1 → ⊥) → (k ≡ 2 → ⊥) → (k ≡ 3 → ⊥) → Dec (k ≡ 0) → known_kind k ≡ false
    go a b c (yes z) = ap (λ (t : Bool). pick t false (ltb k 4)) (eq-eqb k 0 z)
    go a b c (no d) = let l : 4 ≤ k = omega arith in ap (λ (t : Bool). pick t false (ltb k 4)) (ne_eqb k 0 d) ∙ le-ltb k 4 l
