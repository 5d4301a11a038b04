-- Names compared: `eqs`, place by place and by the last eight bytes, and how many bytes of an entry tell. Assumes nothing.
use mathlib.Core.Path.{◌≡◌, refl, sym, ap, ◌∙◌, subst}
use mathlib.Core.Bool.{Bool, true, false, not, false≢true}
use mathlib.Core.List.{List, [], ◌∷◌}
use Prim.Native.Nat.{ℕ, zero, suc, ◌+◌, ◌-◌, ◌*◌, ◌/◌, ◌%◌, ◌≤◌, ◌<◌, min}
use native.Mathlib.Omega.{arith}
use native.Mathlib.Decide.{ℕ_discrete, dec_lt}
use borrow.Author.Tests.{eq-eqb, ne_eqb, eqb-false, not-true, lt-ltb, le-ltb}
use lib.Dec.{eqb}
use lib.ListN.{length, get_or, take, drop, length-drop, drop_of_length-le}
use lib.Seq.{ext_get_or, get_or-take, get_or-drop, length-take-le}
use Rattle.words.specs.Words.{pick, byte, num}
use Rattle.words.proofs.Lists.{rest_cons}
use Rattle.words.proofs.Numbers.{num_frame}
use Rattle.card_layout.specs.Entry.{upto_nul}
use Rattle.card_layout.proofs.Names.{nul_here, nul_next, nul_end, upto_take, upto_le}
use Rattle.card_rules.specs.View.{data_at, file_byte, file_bytes, name}
use Rattle.card_rules.proofs.Views.{name_at, length-file_bytes, get_or-file_bytes}
use Rattle.check_names.proofs.Entries.{byte_here}
use Rattle.check_names.proofs.Scanning.{left}
use Rattle.dir_entries.specs.Entries.{eqs}
use Rattle.dir_entries.specs.Inner.{tail_differs}

-- ---- one byte on

pub eqs_next : (x y : ℕ) (xs ys : List ℕ) → x ≡ y → eqs (x ∷ xs) (y ∷ ys) ≡ eqs xs ys
unfolding eqs
eqs_next x y xs ys p = ap (λ (t : Bool). pick t (eqs xs ys) false) (eq-eqb x y p)

pub eqs_stop : (x y : ℕ) (xs ys : List ℕ) → (x ≡ y → ⊥) → eqs (x ∷ xs) (y ∷ ys) ≡ false
unfolding eqs
eqs_stop x y xs ys d = ap (λ (t : Bool). pick t (eqs xs ys) false) (ne_eqb x y d)

eqs_short : (y : ℕ) (ys : List ℕ) → eqs [] (y ∷ ys) ≡ false
unfolding eqs
eqs_short y ys = refl

eqs-none : eqs [] [] ≡ true
unfolding eqs
eqs-none = refl

-- ---- it is true of the same names, and of no others

pub eqs_same : (x y : List ℕ) → eqs x y ≡ true → x ≡ y
unfolding eqs
eqs_same [] [] e = refl
eqs_same [] (y ∷ ys) e = absurd (false≢true e)
eqs_same (x ∷ xs) [] e = absurd (false≢true e)
eqs_same (x ∷ xs) (y ∷ ys) e = go (ℕ_discrete x y) (eqs_same xs ys)
  where
    go : Dec (x ≡ y) → (eqs xs ys ≡ true → xs ≡ ys) → x ∷ xs ≡ y ∷ ys
    go (yes p) ih = ap (λ (t : ℕ). t ∷ xs) p ∙ ap (λ (t : List ℕ). y ∷ t) (ih (sym (eqs_next x y xs ys p) ∙ e))
    go (no d) ih = absurd (false≢true (sym (eqs_stop x y xs ys d) ∙ e))

pub eqs_refl : (x : List ℕ) → eqs x x ≡ true
eqs_refl [] = eqs-none
eqs_refl (x ∷ xs) = eqs_next x x xs xs refl ∙ eqs_refl xs

pub eqs_is : (x y : List ℕ) → x ≡ y → eqs x y ≡ true
eqs_is x y p = subst (λ (t : List ℕ). eqs x t ≡ true) p (eqs_refl x)

pub eqs_differ : (x y : List ℕ) → (x ≡ y → ⊥) → eqs x y ≡ false
eqs_differ x y d = go (eqs x y) refl
  where
    go : (t : Bool) → eqs x y ≡ t → eqs x y ≡ false
    go true e = absurd (d (eqs_same x y e))
    go false e = e

pub eqs_apart : (x y : List ℕ) → eqs x y ≡ false → x ≡ y → ⊥
eqs_apart x y e p = false≢true (sym e ∙ eqs_is x y p)

-- ---- what stands before the first NUL of e, and x

-- it ends where x does not
upto_ends : (e : List ℕ) → get_or e (length (upto_nul e)) 0 ≡ 0
unfolding upto_nul
upto_ends [] = refl
upto_ends (zero ∷ e) = refl
upto_ends (suc y ∷ e) = upto_ends e

pub eqs_open : (e x : List ℕ) → (get_or e (length x) 0 ≡ 0 → ⊥) → eqs (upto_nul e) x ≡ false
eqs_open e x d = eqs_differ (upto_nul e) x (λ p. d (ap (λ (t : List ℕ). get_or e (length t) 0) (sym p) ∙ upto_ends e))

pub eqs-long : (e x : List ℕ) → length e < length x → eqs (upto_nul e) x ≡ false
eqs-long e x l = eqs_differ (upto_nul e) x (λ p. omega (arith, ap length p, upto_le e))

-- place by place
module _ (e x : List ℕ) (i : ℕ) (l : i < length e) (m : i < length x) where
  pub place_nul : get_or e i 0 ≡ 0 → eqs (left e i) (drop i x) ≡ false
  place_nul z = rw (nul_here e i l z, rest_cons x i m) (eqs_short (get_or x i 0) (drop (i + 1) x))

  pub place_other : (get_or e i 0 ≡ get_or x i 0 → ⊥) → eqs (left e i) (drop i x) ≡ false
  place_other d = go (ℕ_discrete (get_or e i 0) 0)
    where
      go : Dec (get_or e i 0 ≡ 0) → eqs (left e i) (drop i x) ≡ false
      go (yes z) = place_nul z
      go (no n) = rw (nul_next e i l n, rest_cons x i m) (eqs_stop (get_or e i 0) (get_or x i 0) (left e (i + 1)) (drop (i + 1) x) d)

  pub place_same : get_or e i 0 ≡ get_or x i 0 → (get_or e i 0 ≡ 0 → ⊥) → eqs (left e i) (drop i x) ≡ eqs (left e (i + 1)) (drop (i + 1) x)
  place_same p n = rw (nul_next e i l n, rest_cons x i m) (eqs_next (get_or e i 0) (get_or x i 0) (left e (i + 1)) (drop (i + 1) x) p)

pub place_end : (e x : List ℕ) (i : ℕ) → i ≡ length x → get_or e (length x) 0 ≡ 0 → eqs (left e i) (drop i x) ≡ true
place_end e x i p z = rw (none, drop_of_length-le x {i = i} (omega arith)) eqs-none
  where
    none : left e i ≡ []
    none = go (dec_lt i (length e))
      where
        go : Dec (i < length e) → left e i ≡ []
        go (yes l) = nul_here e i l (ap (λ (k : ℕ). get_or e k 0) p ∙ z)
        go (no l) = nul_end e i (omega arith)

-- ---- the last eight bytes of x

-- where it has fewer, the test tells nothing
pub tail_short : (e x : List ℕ) → length x < 8 → tail_differs e x ≡ false
tail_short e x l = rw (lt-ltb (length x) 8 l)

pub tail_long : (e x : List ℕ) (a b : ℕ) → 8 ≤ length x → a ≡ num 8 e (length x - 8) → b ≡ num 8 x (length x - 8) → tail_differs e x ≡ not (eqb a b)
tail_long e x a b l p q = rw (le-ltb (length x) 8 l, p, q)

upto_byte : (e : List ℕ) (k : ℕ) → k < length (upto_nul e) → get_or e k 0 ≡ get_or (upto_nul e) k 0
upto_byte e k l = sym (ap (λ (t : List ℕ). get_or t k 0) (upto_take e) ∙ get_or-take (length (upto_nul e)) e k 0 l)

-- the same name has the same eight
pub eqs_tail : (e x : List ℕ) → tail_differs e x ≡ true → eqs (upto_nul e) x ≡ false
eqs_tail e x t = eqs_differ (upto_nul e) x (go (dec_lt (length x) 8))
  where
    go : Dec (length x < 8) → upto_nul e ≡ x → ⊥
    go (yes l) p = false≢true (sym (tail_short e x l) ∙ t)
    go (no l) p =
        let at = length x - 8 in
        let bytes : num 8 e at ≡ num 8 x at =
        num_frame 8 e x at (λ k m n. upto_byte e k (omega (arith, ap length p)) ∙ ap (λ (s : List ℕ). get_or s k 0) p) in
        let test : not (eqb (num 8 e at) (num 8 x at)) ≡ true = sym (tail_long e x (num 8 e at) (num 8 x at) (omega arith) refl refl) ∙ t in
        eqb-false (num 8 e at) (num 8 x at) (not-true _ test) bytes

-- ---- the bytes that tell

-- of f, as many as x has and one more, or all
pub eqs_part : (f x : List ℕ) (w : ℕ) → min (length x + 1) (length f) ≤ w → eqs (upto_nul (take w f)) x ≡ eqs (upto_nul f) x
unfolding eqs upto_nul
eqs_part [] x zero l = refl
eqs_part [] x (suc w) l = refl
eqs_part (y ∷ f) x zero l = absurd (omega arith)
eqs_part (zero ∷ f) x (suc w) l = refl
eqs_part (suc y ∷ f) [] (suc w) l = refl
eqs_part (suc y ∷ f) (z ∷ x) (suc w) l =
    ap (λ (t : Bool). pick (eqb (suc y) z) t false) (eqs_part f x w (omega arith))

-- of the card, where they stand in the block in which entry k begins
pub name_part : (img : List ℕ) (n k b a w : ℕ) → b ≡ data_at img n (260 * k / 4096) → a ≡ 4096 * b + 260 * k % 4096 + 4 → 260 * k % 4096 + 4 + w ≤ 4096 → w ≤ 256 → a + w ≤ length img
    → take w (drop a img) ≡ take w (file_bytes img n (260 * k + 4) 256)
name_part img n k b a w eb ea fit lw l =
    let f : List ℕ = file_bytes img n (260 * k + 4) 256 in
    let long : length f ≡ 256 = length-file_bytes img n (260 * k + 4) 256 in
    let tl : length (take w f) ≡ w = length-take-le w f (omega arith) in
    let dl : length (take w (drop a img)) ≡ w = length-take-le w (drop a img) (omega (arith, length-drop a img)) in
    ext_get_or 0 (take w (drop a img)) (take w f) (dl ∙ sym tl)
    (λ i q.
    let p : i < w = omega arith in
    let s : 260 * k + 4 + i ≡ 260 * k + (4 + i) = omega arith in
    let t : a + i ≡ 4096 * data_at img n (260 * k / 4096) + 260 * k % 4096 + (4 + i) = omega arith in
    get_or-take w (drop a img) i 0 p
    ∙ get_or-drop a img i 0
    ∙ ap (byte img) t
    ∙ sym (byte_here img n (260 * k) (4 + i) (omega arith))
    ∙ ap (file_byte img n) (sym s)
    ∙ sym (get_or-file_bytes img n (260 * k + 4) 256 i (omega arith))
    ∙ sym (get_or-take w f i 0 p))

pub name_told : (img : List ℕ) (n k b a w : ℕ) (x : List ℕ) → b ≡ data_at img n (260 * k / 4096) → a ≡ 4096 * b + 260 * k % 4096 + 4 → 260 * k % 4096 + 4 + w ≤ 4096 → w ≡ min (length x + 1) 256
    → a + w ≤ length img → eqs (upto_nul (take w (drop a img))) x ≡ eqs (name img n k) x
name_told img n k b a w x eb ea fit ew l =
    let f : List ℕ = file_bytes img n (260 * k + 4) 256 in
    ap (λ (t : List ℕ). eqs (upto_nul t) x) (name_part img n k b a w eb ea fit (omega arith) l)
    ∙ eqs_part f x w (omega (arith, length-file_bytes img n (260 * k + 4) 256))
    ∙ ap (λ (t : List ℕ). eqs t x) (sym (name_at img n k))
