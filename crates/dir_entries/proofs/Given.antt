-- Names that a call is given: "." and "..", and those that can be stored. Assumes nothing.
use mathlib.Core.Path.{◌≡◌, refl, sym, ap, ◌∙◌}
use mathlib.Core.Bool.{Bool, true, false, false≢true}
use mathlib.Core.List.{List, [], ◌∷◌}
use Prim.Native.Nat.{ℕ, zero, suc, ◌+◌, ◌≤◌, ◌<◌}
use native.Mathlib.Omega.{arith}
use native.Mathlib.Decide.{ℕ_discrete, dec_lt}
use borrow.Author.Tests.{eq-eqb, ne_eqb, lt-ltb, le-ltb}
use lib.Dec.{eqb}
use lib.Pointwise.{pointwise}
use lib.ListN.{length, get_or, drop, drop_of_length-le}
use Rattle.std.specs.Cmp.Lexicographic.{same_text, other_text}
use Rattle.words.specs.Words.{pick, byte}
use Rattle.words.proofs.Lists.{rest_cons}
use Rattle.card_layout.specs.Entry.{Name}
use Rattle.dir_entries.specs.Entries.{eqs}
use Rattle.dir_entries.specs.Names.{dot, dots, is_dots, no_nul, storable}
use Rattle.dir_entries.proofs.Comparing.{eqs_is, eqs_differ}

-- ---- "." and ".."

pub is_dot : (x : List ℕ) → x ≡ dot → is_dots x ≡ true
is_dot x e = ap (λ (t : Bool). pick t true (eqs x dots)) (eqs_is x dot e)

pub is_dots_lem : (x : List ℕ) → x ≡ dots → is_dots x ≡ true
is_dots_lem x e = go (eqs x dot)
  where
    go : (t : Bool) → pick t true (eqs x dots) ≡ true
    go true = refl
    go false = eqs_is x dots e

pub not_dots : (x : List ℕ) → (x ≡ dot → ⊥) → (x ≡ dots → ⊥) → is_dots x ≡ false
not_dots x d e = rw (eqs_differ x dot d) (eqs_differ x dots e)

-- a name that is neither
pub dots_apart : (x : List ℕ) → is_dots x ≡ false → (x ≡ dot → ⊥) × (x ≡ dots → ⊥)
dots_apart x e = (λ p. false≢true (sym e ∙ is_dot x p), λ p. false≢true (sym e ∙ is_dots_lem x p))

-- by two comparisons of text
pub dots_first : (x : List ℕ) (t : Bool) → t ≡ pointwise eqb x dot → t ≡ true → t ≡ is_dots x
dots_first x t e y = y ∙ sym (is_dot x (same_text x dot (sym y ∙ e)))

pub dots_second : (x : List ℕ) (t u : Bool) → t ≡ pointwise eqb x dot → t ≡ false → u ≡ pointwise eqb x dots → u ≡ is_dots x
dots_second x t true e n d = sym (is_dots_lem x (same_text x dots d))
dots_second x t false e n d = sym (not_dots x (other_text x dot (sym n ∙ e)) (other_text x dots d))

-- ---- NULs

nul_first : (y : ℕ) (ys : List ℕ) → y ≡ 0 → no_nul (y ∷ ys) ≡ false
unfolding no_nul
nul_first y ys e = ap (λ (t : Bool). pick t false (no_nul ys)) (eq-eqb y 0 e)

nul_after : (y : ℕ) (ys : List ℕ) → (y ≡ 0 → ⊥) → no_nul (y ∷ ys) ≡ no_nul ys
unfolding no_nul
nul_after y ys d = ap (λ (t : Bool). pick t false (no_nul ys)) (ne_eqb y 0 d)

pub none_here : (x : List ℕ) (i : ℕ) → i < length x → get_or x i 0 ≡ 0 → no_nul (drop i x) ≡ false
none_here x i l e = rw (rest_cons x i l) (nul_first (get_or x i 0) (drop (i + 1) x) e)

pub none_next : (x : List ℕ) (i : ℕ) → i < length x → (get_or x i 0 ≡ 0 → ⊥) → no_nul (drop i x) ≡ no_nul (drop (i + 1) x)
none_next x i l d = rw (rest_cons x i l) (nul_after (get_or x i 0) (drop (i + 1) x) d)

pub none_end : (x : List ℕ) (i : ℕ) → length x ≤ i → no_nul (drop i x) ≡ true
unfolding no_nul
none_end x i l = rw (drop_of_length-le x {i = i} l)

pub no_nul_at : (x : List ℕ) → no_nul x ≡ true → (k : ℕ) → k < length x → byte x k ≡ 0 → ⊥
no_nul_at [] h k l e = omega arith
no_nul_at (y ∷ x) h zero l e = false≢true (sym (nul_first y x e) ∙ h)
no_nul_at (y ∷ x) h (suc k) l e = go (ℕ_discrete y 0) (no_nul_at x)
  where
    go : Dec (y ≡ 0) → (no_nul x ≡ true → (j : ℕ) → j < length x → byte x j ≡ 0 → ⊥) → ⊥
    go (yes z) ih = false≢true (sym (nul_first y x z) ∙ h)
    go (no d) ih = ih (sym (nul_after y x d) ∙ h) k (omega arith) e

pub no_nul_of : (x : List ℕ) → ((k : ℕ) → k < length x → byte x k ≡ 0 → ⊥) → no_nul x ≡ true
unfolding no_nul
no_nul_of [] h = refl
no_nul_of (y ∷ x) h = nul_after y x (h 0 (omega arith)) ∙ no_nul_of x (λ k l. h (suc k) (omega arith))

-- ---- what can be stored

pub name_storable : (x : List ℕ) → Name x → storable x ≡ true
name_storable x s =
    let a = s.low in
    let b = s.high in
    rw (ne_eqb (length x) 0 (λ p. omega arith), le-ltb 255 (length x) b) (no_nul_of x s.no_nul)

pub storable_empty : (x : List ℕ) → length x ≡ 0 → storable x ≡ false
storable_empty x e = rw (eq-eqb (length x) 0 e)

pub storable_long : (x : List ℕ) → 255 < length x → storable x ≡ false
storable_long x l = rw (ne_eqb (length x) 0 (λ p. omega arith), lt-ltb 255 (length x) l)

pub storable_within : (x : List ℕ) → (length x ≡ 0 → ⊥) → length x ≤ 255 → storable x ≡ no_nul x
storable_within x d l = rw (ne_eqb (length x) 0 d, le-ltb 255 (length x) l)

pub storable_name : (x : List ℕ) → storable x ≡ true → Name x
storable_name x h = go (ℕ_discrete (length x) 0) (dec_lt 255 (length x))
  where
    go : Dec (length x ≡ 0) → Dec (255 < length x) → Name x
    go (yes e) q = absurd (false≢true (sym (storable_empty x e) ∙ h))
    go (no d) (yes l) = absurd (false≢true (sym (storable_long x l) ∙ h))
    go (no d) (no l) =
        record {
          low = omega arith;
          high = omega arith;
          no_nul = no_nul_at x (sym (storable_within x d (omega arith)) ∙ h);
        }

-- a name that cannot
pub storable_not : (x : List ℕ) → storable x ≡ false → Name x → ⊥
storable_not x e s = false≢true (sym e ∙ name_storable x s)
