-- The table against the definition, at the front of a list: a sequence that the table takes is a number's bytes (`Coded`), and where it takes none the list
-- starts with no number's bytes. Assumes nothing.
use Prim.Native.Nat.{ℕ, ◌+◌, ◌-◌, ◌*◌, ◌/◌, ◌≤◌, ◌<◌}
use mathlib.Core.Path.{◌≡◌, refl, sym, ap, ◌∙◌}
use mathlib.Core.Bool.{Bool, true, false}
use mathlib.Core.List.{List, [], ◌∷◌, ◌++◌}
use native.Mathlib.Omega.{arith}
use native.Mathlib.Decide.{dec_lt, ℕ_discrete}
use borrow.Author.Tests.{eqb-true, eqb-false, lt-ltb, le-ltb}
use lib.Dec.{eqb, ltb}
use lib.ListN.{length, drop, length-append, length-drop}
use Rattle.std.proofs.lemmas.List.{get_or_past}
use Rattle.std.proofs.lemmas.Bool.Decides.{nat_tests}
use Rattle.words.specs.Words.{byte, pick}
use Rattle.utf8.specs.Utf8.{Scalar, six, encoding}
use Rattle.utf8.specs.Inner as table
use Rattle.utf8.specs.Inner.{low, high, sequence, taken}
use Rattle.utf8.proofs.Encoding.{Sized, one, two, three, four, sized, encoding-one, encoding-two, encoding-three, encoding-four, encoding_front, some_bytes}
use Rattle.utf8.proofs.Tests.{Told, holds, fails, ltb_told, and_told, within_told}

-- ---- the rows of the table

abbrev Within : ℕ → ℕ → ℕ → Type 0
Within lo hi b = (lo ≤ b) × (b ≤ hi)

abbrev Tail : ℕ → Type 0
Tail b = Within 0x80 0xBF b

abbrev Second : ℕ → ℕ → Type 0
Second a b = Within (low a) (high a) b

abbrev Two : ℕ → ℕ → Type 0
Two a b = Within 0xC2 0xDF a × Tail b

abbrev Three : ℕ → ℕ → ℕ → Type 0
Three a b c = Within 0xE0 0xEF a × (Second a b × Tail c)

abbrev Four : ℕ → ℕ → ℕ → ℕ → Type 0
Four a b c d = Within 0xF0 0xF4 a × (Second a b × (Tail c × Tail d))

module _ (a b c d : ℕ) where
  two_told : Told (Two a b) (table.two a b)
  unfolding table.two
  two_told = and_told (within_told 0xC2 0xDF a) (within_told 0x80 0xBF b)

  three_told : Told (Three a b c) (table.three a b c)
  unfolding table.three
  three_told = and_told (within_told 0xE0 0xEF a) (and_told (within_told (low a) (high a) b) (within_told 0x80 0xBF c))

  four_told : Told (Four a b c d) (table.four a b c d)
  unfolding table.four
  four_told =
      and_told (within_told 0xF0 0xF4 a)
      (and_told (within_told (low a) (high a) b) (and_told (within_told 0x80 0xBF c) (within_told 0x80 0xBF d)))

-- the second byte's range by the lead byte
data Lows (a : ℕ) : ℕ → Type 0 where
  at_e0 : a ≡ 0xE0 → Lows a 0xA0
  at_f0 : a ≡ 0xF0 → Lows a 0x90
  low_else : (a ≡ 0xE0 → ⊥) → (a ≡ 0xF0 → ⊥) → Lows a 0x80

lows : (a : ℕ) → Lows a (low a)
unfolding low
lows a = go (eqb a 0xE0) (eqb a 0xF0) refl refl
  where
    go : (p q : Bool) → eqb a 0xE0 ≡ p → eqb a 0xF0 ≡ q → Lows a (pick p 0xA0 (pick q 0x90 0x80))
    go true q e f = at_e0 (eqb-true _ _ e)
    go false true e f = at_f0 (eqb-true _ _ f)
    go false false e f = low_else (eqb-false _ _ e) (eqb-false _ _ f)

data Highs (a : ℕ) : ℕ → Type 0 where
  at_ed : a ≡ 0xED → Highs a 0x9F
  at_f4 : a ≡ 0xF4 → Highs a 0x8F
  high_else : (a ≡ 0xED → ⊥) → (a ≡ 0xF4 → ⊥) → Highs a 0xBF

highs : (a : ℕ) → Highs a (high a)
unfolding high
highs a = go (eqb a 0xED) (eqb a 0xF4) refl refl
  where
    go : (p q : Bool) → eqb a 0xED ≡ p → eqb a 0xF4 ≡ q → Highs a (pick p 0x9F (pick q 0x8F 0xBF))
    go true q e f = at_ed (eqb-true _ _ e)
    go false true e f = at_f4 (eqb-true _ _ f)
    go false false e f = high_else (eqb-false _ _ e) (eqb-false _ _ f)

-- what the range says of the number: of a number of three bytes the two first tell c / 64, of one of four c / 4096
record LedThree (v b : ℕ) : Type 0 where
  tail : Tail b
  least : 0x20 ≤ v
  plain : 0x360 ≤ v → v ≤ 0x37F → ⊥

record LedFour (v b : ℕ) : Type 0 where
  tail : Tail b
  least : 0x10 ≤ v
  last : v ≤ 0x10F

module _ (a b v : ℕ) where
  low-three : {l : ℕ} → Lows a l → Within 0xE0 0xEF a → l ≤ b → v ≡ (a - 0xE0) * 64 + (b - 0x80) → (0x80 ≤ b) × (0x20 ≤ v)
  low-three (at_e0 e) w h q = (omega arith, omega arith)
  low-three (at_f0 e) w h q = (omega arith, omega arith)
  low-three (low_else m n) w h q = (omega arith, omega arith)

  high-three : {l : ℕ} → Highs a l → Within 0xE0 0xEF a → b ≤ l → v ≡ (a - 0xE0) * 64 + (b - 0x80) → 0x360 ≤ v → v ≤ 0x37F → ⊥
  high-three (at_ed e) w h q l r = omega arith
  high-three (at_f4 e) w h q l r = omega arith
  high-three (high_else m n) w h q l r = omega arith

  high-tail : {l : ℕ} → Highs a l → b ≤ l → b ≤ 0xBF
  high-tail (at_ed e) h = omega arith
  high-tail (at_f4 e) h = omega arith
  high-tail (high_else m n) h = omega arith

  led_three : Within 0xE0 0xEF a → Second a b → v ≡ (a - 0xE0) * 64 + (b - 0x80) → LedThree v b
  led_three w h q =
      let l = low-three (lows a) w h.0 q in
      record { tail = (l.0, high-tail (highs a) h.1); least = l.1; plain = high-three (highs a) w h.1 q }

  low-four : {l : ℕ} → Lows a l → Within 0xF0 0xF4 a → l ≤ b → v ≡ (a - 0xF0) * 64 + (b - 0x80) → (0x80 ≤ b) × (0x10 ≤ v)
  low-four (at_e0 e) w h q = (omega arith, omega arith)
  low-four (at_f0 e) w h q = (omega arith, omega arith)
  low-four (low_else m n) w h q = (omega arith, omega arith)

  high-four : {l : ℕ} → Highs a l → Within 0xF0 0xF4 a → b ≤ l → v ≡ (a - 0xF0) * 64 + (b - 0x80) → v ≤ 0x10F
  high-four (at_ed e) w h q = omega arith
  high-four (at_f4 e) w h q = omega arith
  high-four (high_else m n) w h q = omega arith

  led_four : Within 0xF0 0xF4 a → Second a b → v ≡ (a - 0xF0) * 64 + (b - 0x80) → LedFour v b
  led_four w h q =
      let l = low-four (lows a) w h.0 q in
      record { tail = (l.0, high-tail (highs a) h.1); least = l.1; last = high-four (highs a) w h.1 q }

-- ---- a row is a number's bytes

-- the first k bytes are those of a number
pub record Coded (x : List ℕ) (k : ℕ) : Type 0 where
  pub number : ℕ
  pub scalar : Scalar number
  pub size : length (encoding number) ≡ k
  pub is : x ≡ encoding number ++ drop k x

module _ (c : ℕ) (is : Scalar c) (s : List ℕ) where
  join_two : (a b : ℕ) → 0x80 ≤ c → c < 0x800 → 0xC0 + c / 64 ≡ a → six c ≡ b → Coded (a ∷ b ∷ s) 2
  join_two a b l h p q =
      record { number = c; scalar = is; size = ap length (encoding-two c l h); is = rw (encoding-two c l h, p, q) }

  join_three : (a b d : ℕ) → 0x800 ≤ c → c < 0x10000 → 0xE0 + c / 4096 ≡ a → six (c / 64) ≡ b → six c ≡ d → Coded (a ∷ b ∷ d ∷ s) 3
  join_three a b d l h p q r =
      record { number = c; scalar = is; size = ap length (encoding-three c l h); is = rw (encoding-three c l h, p, q, r) }

  join_four : (a b d e : ℕ) → 0x10000 ≤ c → 0xF0 + c / 262144 ≡ a → six (c / 4096) ≡ b → six (c / 64) ≡ d → six c ≡ e → Coded (a ∷ b ∷ d ∷ e ∷ s) 4
  join_four a b d e l p q r t =
      record { number = c; scalar = is; size = ap length (encoding-four c l); is = rw (encoding-four c l, p, q, r, t) }

coded_one : (a : ℕ) (s : List ℕ) → a < 0x80 → Coded (a ∷ s) 1
coded_one a s h =
    record {
      number = a;
      scalar = record { last = omega arith; plain = λ p q. omega arith };
      size = ap length (encoding-one a h);
      is = rw (encoding-one a h);
    }

coded_two : (a : ℕ) (s : List ℕ) → Two a (byte s 0) → Coded (a ∷ s) 2
coded_two a [] h = absurd (omega arith)
coded_two a (b ∷ s) h =
    let c = (a - 0xC0) * 64 + (b - 0x80) in
    join_two c (record { last = omega arith; plain = λ p q. omega arith }) s a b (omega arith) (omega arith) (omega arith) (omega arith)

coded_three : (a : ℕ) (s : List ℕ) → Three a (byte s 0) (byte s 1) → Coded (a ∷ s) 3
coded_three a [] h = absurd (omega arith)
coded_three a (b ∷ []) h = absurd (omega arith)
coded_three a (b ∷ d ∷ s) h =
    let v = (a - 0xE0) * 64 + (b - 0x80) in
    let l = led_three a b v h.0 h.1.0 refl in
    let c = v * 64 + (d - 0x80) in
    join_three c (record { last = omega arith; plain = λ p q. l.plain (omega arith) (omega arith) }) s a b d (omega arith) (omega arith) (omega arith)
    (omega arith) (omega arith)

coded_four : (a : ℕ) (s : List ℕ) → Four a (byte s 0) (byte s 1) (byte s 2) → Coded (a ∷ s) 4
coded_four a [] h = absurd (omega arith)
coded_four a (b ∷ []) h = absurd (omega arith)
coded_four a (b ∷ d ∷ []) h = absurd (omega arith)
coded_four a (b ∷ d ∷ e ∷ s) h =
    let v = (a - 0xF0) * 64 + (b - 0x80) in
    let l = led_four a b v h.0 h.1.0 refl in
    let u = v * 64 + (d - 0x80) in
    let c = u * 64 + (e - 0x80) in
    join_four c (record { last = omega arith; plain = λ p q. omega arith }) s a b d e (omega arith) (omega arith) (omega arith) (omega arith) (omega arith)

-- ---- a number's bytes are in a row

module _ (c a b : ℕ) where
  in_low-three : {l : ℕ} → Lows a l → 0x800 ≤ c → c < 0x10000 → a ≡ 0xE0 + c / 4096 → b ≡ six (c / 64) → l ≤ b
  in_low-three (at_e0 e) l h p q = omega arith
  in_low-three (at_f0 e) l h p q = omega arith
  in_low-three (low_else m n) l h p q = omega arith

  in_high-three : {l : ℕ} → Highs a l → Scalar c → c < 0x10000 → a ≡ 0xE0 + c / 4096 → b ≡ six (c / 64) → b ≤ l
  in_high-three (at_ed e) s h p q = go (dec_lt b 0xA0)
    where
      go : Dec (b < 0xA0) → b ≤ 0x9F
      go (yes t) = omega arith
      go (no t) = absurd (s.plain (omega arith) (omega arith))
  in_high-three (at_f4 e) s h p q = omega arith
  in_high-three (high_else m n) s h p q = omega arith

  in_low-four : {l : ℕ} → Lows a l → 0x10000 ≤ c → Scalar c → a ≡ 0xF0 + c / 262144 → b ≡ six (c / 4096) → l ≤ b
  in_low-four (at_e0 e) l s p q = omega arith
  in_low-four (at_f0 e) l s p q = omega arith
  in_low-four (low_else m n) l s p q = omega arith

  in_high-four : {l : ℕ} → Highs a l → Scalar c → a ≡ 0xF0 + c / 262144 → b ≡ six (c / 4096) → b ≤ l
  in_high-four (at_ed e) s p q = omega arith
  in_high-four (at_f4 e) s p q = omega arith
  in_high-four (high_else m n) s p q = omega arith

-- a list in no row of the table starts with no number's bytes
module _ (a : ℕ) (s : List ℕ) (n₁ : a < 0x80 → ⊥) (n₂ : Two a (byte s 0) → ⊥) (n₃ : Three a (byte s 0) (byte s 1) → ⊥)
    (n₄ : Four a (byte s 0) (byte s 1) (byte s 2) → ⊥) where
  excluded : {c : ℕ} {e : List ℕ} (t : List ℕ) → Sized c e → Scalar c → a ∷ s ≡ e ++ t → ⊥
  excluded t (one h) is e = let p = ap (λ (x : List ℕ). byte x 0) e in n₁ (omega arith)
  excluded t (two l h) is e =
      let p = ap (λ (x : List ℕ). byte x 0) e in
      let q = ap (λ (x : List ℕ). byte x 1) e in
      n₂ ((omega arith, omega arith), (omega arith, omega arith))
  excluded {c} t (three l h) is e =
      let p = ap (λ (x : List ℕ). byte x 0) e in
      let q = ap (λ (x : List ℕ). byte x 1) e in
      let r = ap (λ (x : List ℕ). byte x 2) e in
      let f : Second a (byte s 0) = (in_low-three c a (byte s 0) (lows a) l h p q, in_high-three c a (byte s 0) (highs a) is h p q) in
      n₃ ((omega arith, omega arith), (f, (omega arith, omega arith)))
  excluded {c} t (four l) is e =
      let p = ap (λ (x : List ℕ). byte x 0) e in
      let q = ap (λ (x : List ℕ). byte x 1) e in
      let r = ap (λ (x : List ℕ). byte x 2) e in
      let u = ap (λ (x : List ℕ). byte x 3) e in
      let f : Second a (byte s 0) = (in_low-four c a (byte s 0) (lows a) l is p q, in_high-four c a (byte s 0) (highs a) is p q) in
      n₄ ((omega arith, omega arith), (f, ((omega arith, omega arith), (omega arith, omega arith))))

-- ---- what the table says of a list's front

pub record Fronted (x : List ℕ) (k : ℕ) : Type 0 where
  pub some : 0 < k → Coded x k
  pub none : k ≡ 0 → (c : ℕ) (t : List ℕ) → Scalar c → x ≡ encoding c ++ t → ⊥

pub fronted : (x : List ℕ) → Fronted x (taken x)
unfolding sequence
fronted [] = record { some = λ h. absurd (omega arith); none = λ z c t is e. some_bytes c t (sym e) }
fronted (a ∷ s) = go (ltb_told a 0x80) (two_told a b c d) (three_told a b c d) (four_told a b c d)
  where
    b : ℕ
    b = byte s 0

    c : ℕ
    c = byte s 1

    d : ℕ
    d = byte s 2

    go : {p q r t : Bool} → Told (a < 0x80) p → Told (Two a b) q → Told (Three a b c) r → Told (Four a b c d) t
        → Fronted (a ∷ s) (pick p 1 (pick q 2 (pick r 3 (pick t 4 0))))
    go (holds h) q r t = record { some = λ z. coded_one a s h; none = λ z. absurd (omega arith) }
    go (fails n) (holds h) r t = record { some = λ z. coded_two a s h; none = λ z. absurd (omega arith) }
    go (fails n) (fails m) (holds h) t = record { some = λ z. coded_three a s h; none = λ z. absurd (omega arith) }
    go (fails n) (fails m) (fails k) (holds h) = record { some = λ z. coded_four a s h; none = λ z. absurd (omega arith) }
    go (fails n) (fails m) (fails k) (fails j) =
        record { some = λ z. absurd (omega arith); none = λ z c t is e. excluded a s n m k j t (sized c) is e }

pub taken_some : (x : List ℕ) → 0 < taken x → Coded x (taken x)
taken_some x h = (fronted x).some h

-- as many bytes are taken as the number in front has
pub taken-encoding : (c : ℕ) (s : List ℕ) → Scalar c → taken (encoding c ++ s) ≡ length (encoding c)
taken-encoding c s is = go (ℕ_discrete (taken x) 0)
  where
    x : List ℕ
    x = encoding c ++ s

    go : Dec (taken x ≡ 0) → taken x ≡ length (encoding c)
    go (yes z) = absurd ((fronted x).none z c s is refl)
    go (no n) =
        let k = taken_some x (omega arith) in
        let e : c ≡ k.number = (encoding_front c k.number s (drop (taken x) x) k.is).0 in
        sym k.size ∙ ap (λ (d : ℕ). length (encoding d)) (sym e)

-- the bytes taken are there
pub taken_within : (x : List ℕ) → taken x ≤ length x
taken_within x = go (ℕ_discrete (taken x) 0)
  where
    go : Dec (taken x ≡ 0) → taken x ≤ length x
    go (yes z) = omega arith
    go (no n) =
        let k = taken_some x (omega arith) in
        omega (arith, k.size, ap length k.is, length-append (encoding k.number) (drop (taken x) x), length-drop (taken x) x)

-- what is taken by the tests of the bytes
pub taken_rows : (x : List ℕ) → 0 < length x → (p q r t : Bool) → ltb (byte x 0) 0x80 ≡ p → table.two (byte x 0) (byte x 1) ≡ q
    → table.three (byte x 0) (byte x 1) (byte x 2) ≡ r → table.four (byte x 0) (byte x 1) (byte x 2) (byte x 3) ≡ t
    → pick p 1 (pick q 2 (pick r 3 (pick t 4 0))) ≡ taken x
unfolding sequence
taken_rows [] h p q r t e f g k = absurd (omega arith)
taken_rows (a ∷ s) h p q r t e f g k = rw (e, f, g, k)

pub taken_small : (x : List ℕ) → 0 < length x → byte x 0 < 0x80 → taken x ≡ 1
taken_small x h l = sym (taken_rows x h true _ _ _ (lt-ltb (byte x 0) 0x80 l) refl refl refl)

pub taken_two : (x : List ℕ) → 2 ≤ length x → 0x80 ≤ byte x 0 → table.two (byte x 0) (byte x 1) ≡ true → taken x ≡ 2
taken_two x h l e = sym (taken_rows x (omega arith) false true _ _ (le-ltb (byte x 0) 0x80 l) e refl refl)

pub taken_three : (x : List ℕ) → 3 ≤ length x → 0x80 ≤ byte x 0 → table.two (byte x 0) (byte x 1) ≡ false
    → table.three (byte x 0) (byte x 1) (byte x 2) ≡ true → taken x ≡ 3
taken_three x h l e f = sym (taken_rows x (omega arith) false false true _ (le-ltb (byte x 0) 0x80 l) e f refl)

pub taken_four : (x : List ℕ) → 4 ≤ length x → 0x80 ≤ byte x 0 → table.two (byte x 0) (byte x 1) ≡ false
    → table.three (byte x 0) (byte x 1) (byte x 2) ≡ false → table.four (byte x 0) (byte x 1) (byte x 2) (byte x 3) ≡ true → taken x ≡ 4
taken_four x h l e f g = sym (taken_rows x (omega arith) false false false true (le-ltb (byte x 0) 0x80 l) e f g)

pub taken_none : (x : List ℕ) → 0x80 ≤ byte x 0 → table.two (byte x 0) (byte x 1) ≡ false → table.three (byte x 0) (byte x 1) (byte x 2) ≡ false
    → table.four (byte x 0) (byte x 1) (byte x 2) (byte x 3) ≡ false → taken x ≡ 0
taken_none [] l e f g = refl
taken_none (a ∷ s) l e f g = sym (taken_rows (a ∷ s) (omega arith) false false false false (le-ltb a 0x80 l) e f g)

-- a byte past the end counts as 0, which is no tail
pub short_two : (x : List ℕ) → length x < 2 → table.two (byte x 0) (byte x 1) ≡ false
unfolding table.two
short_two x h = let e : byte x 1 ≡ 0 = get_or_past x 1 0 (omega arith) in grind (arith, nat_tests)

pub short_three : (x : List ℕ) → length x < 3 → table.three (byte x 0) (byte x 1) (byte x 2) ≡ false
unfolding table.three
short_three x h = let e : byte x 2 ≡ 0 = get_or_past x 2 0 (omega arith) in grind (arith, nat_tests)

pub short_four : (x : List ℕ) → length x < 4 → table.four (byte x 0) (byte x 1) (byte x 2) (byte x 3) ≡ false
unfolding table.four
short_four x h = let e : byte x 3 ≡ 0 = get_or_past x 3 0 (omega arith) in grind (arith, nat_tests)

-- what `taken` answers by the tests that it makes
pub ruleset by_rows = (tt, taken_small, taken_two, taken_three, taken_four, taken_none, short_two, short_three, short_four)
