-- Names in entries of 260 bytes: hash and length in one scan, and names as parts of the bytes that were loaded. Assumes nothing.
use mathlib.Core.Path.{◌≡◌, refl, sym, ap, ◌∙◌}
use mathlib.Core.List.{List, []}
use Prim.Native.Nat.{ℕ, ◌+◌, ◌*◌, ◌%◌, ◌≤◌, ◌<◌}
use native.Mathlib.Omega.{arith}
use native.Mathlib.Decide.{dec_lt}
use borrow.Author.Tests.{eq-eqb, lt-ltb, le-ltb}
use mathlib.Core.Bool.{Bool, true, false}
use lib.ListN.{length, get_or, drop}
use Rattle.words.specs.Inner.{Tells}
use Rattle.card_layout.specs.Entry.{upto_nul, name_in, Name}
use Rattle.card_layout.proofs.Names.{nul_next, upto_no_nul}
use Rattle.card_rules.specs.View.{name, file_bytes}
use Rattle.card_rules.proofs.Views.{name_at}
use Rattle.check_names.specs.InnerNames.{hash_on, Scans}
use Rattle.check_names.specs.declared.directory.Scanned.{Scanned}
use Rattle.std.specs.Prelude.{Option}
use Rattle.check_names.proofs.Entries.{length_loaded, name_loaded}

-- what is left of the name of entry e from place i on
abbrev pub left : List ℕ → ℕ → List ℕ
left e i = upto_nul (drop i e)

-- the name of an entry that is loaded
pub name_left : (img : List ℕ) (n k : ℕ) (f : List ℕ) → f ≡ file_bytes img n (260 * k) 260 → name img n k ≡ left f 4
name_left img n k f e = name_loaded img n k ∙ ap (λ (x : List ℕ). left x 4) (sym e)

-- and as a part of its bytes, where it has a name's length or what it is compared with has
module _ (img : List ℕ) (n k : ℕ) (f x : List ℕ) (e : f ≡ file_bytes img n (260 * k) 260) where
  long : length f ≡ 260
  long = ap length e ∙ length_loaded img n k

  part : length (left f 4) < 256 → name_in f ≡ left f 4
  unfolding name_in
  part l = rw (eq-eqb (length f) 260 long, lt-ltb (length (left f 4)) 256 l)

  none : 256 ≤ length (left f 4) → name_in f ≡ []
  unfolding name_in
  none l = rw (eq-eqb (length f) 260 long, le-ltb (length (left f 4)) 256 l)

  pub name_is : 0 < length x → name_in f ≡ x → name img n k ≡ x
  name_is p q = go (dec_lt (length (left f 4)) 256)
    where
      go : Dec (length (left f 4) < 256) → name img n k ≡ x
      go (yes l) = name_left img n k f e ∙ sym (part l) ∙ q
      go (no l) = let z : length x ≡ 0 = ap length (sym q ∙ none (omega arith)) in absurd (omega arith)

  pub is_name : length x < 256 → name img n k ≡ x → name_in f ≡ x
  is_name l q =
      let s : left f 4 ≡ x = sym (name_left img n k f e) ∙ q in
      let b : length (left f 4) < 256 = omega (arith, ap length s) in
      part b ∙ s

-- a test that decides A tells it
pub tells : (r : Bool) (A : Type 0) → (r ≡ true → A) → (A → r ≡ true) → Tells r A
tells true A f g = f refl
tells false A f g = λ a. let z : false ≡ true = g a in cc

-- a name that can be stored
pub name_fits : (img : List ℕ) (n k : ℕ) → 1 ≤ length (name img n k) → length (name img n k) ≤ 255 → Name (name img n k)
name_fits img n k a b = record { low = a; high = b; no_nul = rw name_at (upto_no_nul (file_bytes img n (260 * k + 4) 256)) }

-- what a scan says of a name that stands in what was scanned
pub scans_at : (r : Option Scanned) (x y : List ℕ) (m k : ℕ) → x ≡ y → m ≡ k → Scans r y k → Scans r x m
scans_at r x y m k e f s = rw (e, f) s

-- ---- its hash on top of a: where the scan ends, and one byte on

pub hash_none : (x : List ℕ) (a : ℕ) → x ≡ [] → hash_on x a ≡ a
unfolding hash_on
hash_none x a h = ap (λ (y : List ℕ). hash_on y a) h

pub hash_next : (e : List ℕ) (i a : ℕ) → i < length e → (get_or e i 0 ≡ 0 → ⊥)
    → hash_on (left e i) a ≡ hash_on (left e (i + 1)) ((a * 2654435761 + get_or e i 0) % 4294967296)
unfolding hash_on
hash_next e i a l d = ap (λ (y : List ℕ). hash_on y a) (nul_next e i l d)
