-- UTF-8 of whole lists: from the front, one after another, of bytes below 128; and the table is the definition, `valid_utf8` and `utf8_valid`. Assumes nothing.
use Prim.Native.Nat.{ℕ, zero, suc, ◌+◌, ◌-◌, ◌≤◌, ◌<◌}
use mathlib.Core.Path.{◌≡◌, refl, sym, ap, ◌∙◌, subst}
use mathlib.Core.Bool.{true, false}
use mathlib.Core.List.{List, [], ◌∷◌, ◌++◌}
use mathlib.Core.Logic.{◌⊎◌, inl, inr}
use native.Mathlib.Omega.{arith}
use native.Mathlib.Decide.{dec_lt, ℕ_discrete}
use borrow.Author.Tests.{eq-eqb, ne_eqb}
use lib.ListN.{length, get_or, drop, length-append, length-drop, get_or-append}
use lib.Seq.{drop-nil, drop_at, drop-drop, get_or-drop, get_or-append-add}
use Rattle.words.specs.Words.{byte}
use Rattle.utf8.specs.Utf8.{Scalar, encoding, encodings, Utf8}
use Rattle.utf8.specs.Inner.{taken, valid_from, valid, Passed}
use Rattle.utf8.proofs.Encoding.{encoding-one, encoding_front, encodings_append, encoding_some, some_bytes}
use Rattle.utf8.proofs.Table.{Coded, fronted, taken-encoding, taken_small}

-- ---- from the front

pub utf8_nil : Utf8 []
unfolding encodings
utf8_nil = record { numbers = []; each = λ k h. absurd (omega arith); is = refl }

pub utf8_cons : (c : ℕ) (s : List ℕ) → Scalar c → Utf8 s → Utf8 (encoding c ++ s)
unfolding encodings
utf8_cons c s h u = record { numbers = c ∷ u.numbers; each = each; is = ap (λ (x : List ℕ). encoding c ++ x) u.is }
  where
    each : (k : ℕ) → k < length (c ∷ u.numbers) → Scalar (get_or (c ∷ u.numbers) k 0)
    each zero l = h
    each (suc k) l = u.each k (omega arith)

-- what is in front of a list that is not empty
record First (x : List ℕ) : Type 0 where
  number : ℕ
  rest : List ℕ
  scalar : Scalar number
  text : Utf8 rest
  is : x ≡ encoding number ++ rest

first : (x : List ℕ) → Utf8 x → (x ≡ []) ⊎ First x
unfolding encodings
first x u = go u.numbers u.each u.is
  where
    go : (cs : List ℕ) → ((k : ℕ) → k < length cs → Scalar (get_or cs k 0)) → x ≡ encodings cs → (x ≡ []) ⊎ First x
    go [] h e = inl e
    go (c ∷ cs) h e =
        let u : Utf8 (encodings cs) = record { numbers = cs; each = λ k l. h (suc k) (omega arith); is = refl } in
        inr (record { number = c; rest = encodings cs; scalar = h 0 (omega arith); text = u; is = e })

-- a sequence that the table takes is text before text, and before nothing else
pub utf8_back : (x : List ℕ) → 0 < taken x → Utf8 (drop (taken x) x) → Utf8 x
utf8_back x h u =
    let k = (fronted x).some h in
    subst Utf8 (sym k.is) (utf8_cons k.number (drop (taken x) x) k.scalar u)

pub utf8_on : (x : List ℕ) → 0 < taken x → Utf8 x → Utf8 (drop (taken x) x)
utf8_on x h u = go (first x u)
  where
    k : Coded x (taken x)
    k = (fronted x).some h

    go : (x ≡ []) ⊎ First x → Utf8 (drop (taken x) x)
    go (inl e) = absurd (some_bytes k.number (drop (taken x) x) (sym k.is ∙ e))
    go (inr f) = subst Utf8 (encoding_front f.number k.number f.rest (drop (taken x) x) (sym f.is ∙ k.is)).1 f.text

-- where it takes none there is no text
pub utf8_none : (x : List ℕ) → taken x ≡ 0 → 0 < length x → Utf8 x → ⊥
utf8_none x z h u = go (first x u)
  where
    go : (x ≡ []) ⊎ First x → ⊥
    go (inl e) = omega (arith, ap length e)
    go (inr f) = (fronted x).none z f.number f.rest f.scalar f.is

-- ---- one after another

pub utf8_append : (x y : List ℕ) → Utf8 x → Utf8 y → Utf8 (x ++ y)
utf8_append x y u v =
    record {
      numbers = u.numbers ++ v.numbers;
      each = λ k h. each k h (dec_lt k (length u.numbers));
      is = cc (encodings_append u.numbers v.numbers);
    }
  where
    each : (k : ℕ) → k < length (u.numbers ++ v.numbers) → Dec (k < length u.numbers) → Scalar (get_or (u.numbers ++ v.numbers) k 0)
    each k h (yes l) = rw (get_or-append u.numbers v.numbers 0 k l) (u.each k l)
    each k h (no l) =
        let j = k - length u.numbers in
        let e : length u.numbers + j ≡ k = omega arith in
        let f = get_or-append-add u.numbers v.numbers j 0 in
        subst (λ (n : ℕ). Scalar (get_or (u.numbers ++ v.numbers) n 0)) e
        (rw f (v.each j (omega (arith, length-append u.numbers v.numbers))))

-- ---- bytes below 128

ascii_scalar : (c : ℕ) → c < 0x80 → Scalar c
ascii_scalar c h = record { last = omega arith; plain = λ p q. omega arith }

pub ascii_utf8 : (x : List ℕ) → ((k : ℕ) → k < length x → byte x k < 0x80) → Utf8 x
ascii_utf8 [] h = utf8_nil
ascii_utf8 (a ∷ s) h =
    let l : a < 0x80 = h 0 (omega arith) in
    let u = utf8_cons a s (ascii_scalar a l) (ascii_utf8 s (λ k p. h (suc k) (omega arith))) in
    rw (encoding-one a l) at u

-- ---- the table is the definition

module _ (a : ℕ) (s : List ℕ) where
  valid-none : taken (a ∷ s) ≡ 0 → valid (a ∷ s) ≡ false
  unfolding valid_from
  valid-none z = rw (eq-eqb (taken (a ∷ s)) 0 z)

  valid_some : (taken (a ∷ s) ≡ 0 → ⊥) → valid (a ∷ s) ≡ valid_from (taken (a ∷ s) - 1) s
  unfolding valid_from
  valid_some n = rw (ne_eqb (taken (a ∷ s)) 0 n)

  drop_some : (taken (a ∷ s) ≡ 0 → ⊥) → drop (taken (a ∷ s)) (a ∷ s) ≡ drop (taken (a ∷ s) - 1) s
  drop_some n =
      let e : taken (a ∷ s) ≡ suc (taken (a ∷ s) - 1) = omega arith in
      ap (λ (k : ℕ). drop k (a ∷ s)) e

valid_back : (k : ℕ) (x : List ℕ) → valid_from k x ≡ true → Utf8 (drop k x)
unfolding valid_from
valid_back k [] e = rw (drop-nil k) utf8_nil
valid_back (suc k) (a ∷ s) e = valid_back k s e
valid_back zero (a ∷ s) e = go (ℕ_discrete (taken (a ∷ s)) 0) (λ j h. valid_back j s h)
  where
    go : Dec (taken (a ∷ s) ≡ 0) → ((j : ℕ) → valid_from j s ≡ true → Utf8 (drop j s)) → Utf8 (a ∷ s)
    go (yes z) ih = let f = valid-none a s z in let w : ◌≡◌ {A = ℕ} 0 1 = cc in absurd (omega arith)
    go (no n) ih =
        utf8_back (a ∷ s) (omega arith) (rw (drop_some a s n) (ih (taken (a ∷ s) - 1) (sym (valid_some a s n) ∙ e)))

pub valid_utf8 : (x : List ℕ) → valid x ≡ true → Utf8 x
valid_utf8 x e = valid_back 0 x e

valid_skip : (k : ℕ) (x : List ℕ) → valid_from k x ≡ valid (drop k x)
unfolding valid_from
valid_skip zero x = refl
valid_skip (suc k) [] = refl
valid_skip (suc k) (a ∷ s) = valid_skip k s

valid_on : (x : List ℕ) → (taken x ≡ 0 → ⊥) → valid x ≡ valid (drop (taken x) x)
valid_on [] n = absurd (n refl)
valid_on (a ∷ s) n = valid_some a s n ∙ valid_skip (taken (a ∷ s) - 1) s ∙ ap valid (sym (drop_some a s n))

valid_cons : (c : ℕ) (s : List ℕ) → Scalar c → valid (encoding c ++ s) ≡ valid s
valid_cons c s h =
    let t = taken-encoding c s h in
    valid_on (encoding c ++ s) (λ z. omega (arith, encoding_some c)) ∙ ap valid (drop_at (encoding c) s (taken (encoding c ++ s)) (sym t))

valid-encodings : (cs : List ℕ) → ((k : ℕ) → k < length cs → Scalar (get_or cs k 0)) → valid (encodings cs) ≡ true
unfolding encodings valid_from
valid-encodings [] h = refl
valid-encodings (c ∷ cs) h = valid_cons c (encodings cs) (h 0 (omega arith)) ∙ valid-encodings cs (λ k l. h (suc k) (omega arith))

pub utf8_valid : (x : List ℕ) → Utf8 x → valid x ≡ true
utf8_valid x u = ap valid u.is ∙ valid-encodings u.numbers u.each

-- ---- places of a list: what is behind both is text, or behind neither

pub record Same (x : List ℕ) (i j : ℕ) : Type 0 where
  pub on : Utf8 (drop i x) → Utf8 (drop j x)
  pub back : Utf8 (drop j x) → Utf8 (drop i x)

pub same_join : {x : List ℕ} {i j k : ℕ} → Same x i j → Same x j k → Same x i k
same_join a b = record { on = λ u. b.on (a.on u); back = λ u. a.back (b.back u) }

pub same_taken : (x : List ℕ) (i k : ℕ) → k ≡ taken (drop i x) → 0 < k → Same x i (i + k)
same_taken x i k e h =
    let d : drop (taken (drop i x)) (drop i x) ≡ drop (i + k) x = drop-drop (taken (drop i x)) i x ∙ ap (λ (n : ℕ). drop (i + n) x) (sym e) in
    record {
      on = λ u. subst Utf8 d (utf8_on (drop i x) (omega arith) u);
      back = λ u. utf8_back (drop i x) (omega arith) (subst Utf8 (sym d) u);
    }

pub same_passed : (x : List ℕ) (i j : ℕ) → Passed x i j → Same x i j
same_passed x i j p = go (j - i) i (omega arith) (omega arith)
  where
    go : (n k : ℕ) → k + n ≡ j → i ≤ k → Same x k j
    go zero k e l =
        let f : k ≡ j = omega arith in
        rw f (record { on = λ u. u; back = λ u. u })
    go (suc n) k e l =
        let at : byte (drop k x) 0 ≡ byte x k = get_or-drop k x 0 0 ∙ ap (byte x) (omega arith) in
        let t : taken (drop k x) ≡ 1 = taken_small (drop k x) (omega (arith, length-drop k x)) (omega (arith, at, p.ascii.small k l (omega arith))) in
        same_join (same_taken x k 1 (sym t) (omega arith)) (go n (k + 1) (omega arith) (omega arith))
