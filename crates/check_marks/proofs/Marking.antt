-- Laws of marks: none, one more, some and then others; how a clash is carried to a caller. Assumes nothing.
use mathlib.Core.Path.{◌≡◌, refl, sym, ap, ◌∙◌, subst}
use mathlib.Core.List.{List}
use mathlib.Core.Logic.{⊎_elim}
use mathlib.Core.Bool.{Bool}
use Prim.Native.Nat.{ℕ, ◌+◌, ◌*◌, ◌≤◌, ◌<◌}
use native.Mathlib.Omega.{arith}
use native.Mathlib.Numerals.{add-one}
use native.Mathlib.Decide.{dec_lt}
use lib.ListN.{length, get_or, length-set}
use lib.Seq.{get_or-set_same, get_or-set_other}
use Rattle.words.specs.Words.{word}
use Rattle.words.specs.Inner.{When}
use Rattle.words.specs.Sums.{δ, sum_to}
use Rattle.words.proofs.Answers.{when-map}
use Rattle.words.proofs.Sums.{δ_cases, δ_same, sum_to_zero, sum_to_suc, sum_to_term, sum_to_next}
use Rattle.check_marks.specs.Inner.{Mark, NoMark, Marks, Clash, run_use}

-- ---- marks

pub marks_none : (u : List ℕ) (f : ℕ → ℕ) → ((b : ℕ) → f b ≡ 0) → Marks u u f
marks_none u f z = record { long = refl; more = λ b l. omega (arith, z b); below = λ b l. z b }

pub marks_cong : {u u' : List ℕ} (f h : ℕ → ℕ) → Marks u u' f → ((b : ℕ) → h b ≡ f b) → Marks u u' h
marks_cong f h m e =
    record { long = m.long; more = λ b l. omega (arith, m.more b l, e b); below = λ b l. omega (arith, m.below b l, e b) }

-- one block more
pub marks_more : {u₀ u u' : List ℕ} (f g : ℕ → ℕ) (b : ℕ) → Marks u₀ u f → Mark u u' b → ((x : ℕ) → g x ≡ f x + δ b x) → Marks u₀ u' g
marks_more {u₀} {u} {u'} f g b m k e =
    record {
      long = ap length k.now ∙ length-set u b 1 ∙ m.long;
      more = more;
      below = λ x l. omega (arith, e x, m.below x l, ⊎_elim (λ w. absurd (omega (arith, w.0, k.inside, m.long))) (λ w. w.1) (δ_cases b x));
    }
  where
    more : (x : ℕ) → x < length u₀ → get_or u' x 0 ≡ get_or u₀ x 0 + g x
    more x l =
        ⊎_elim
        (λ w.
        let v : get_or u' b 0 ≡ 1 = ap (λ (q : List ℕ). get_or q b 0) k.now ∙ get_or-set_same u b 1 0 k.inside in
        let v' : get_or u' x 0 ≡ 1 = subst (λ (y : ℕ). get_or u' y 0 ≡ 1) w.0 v in
        let z : get_or u x 0 ≡ 0 = subst (λ (y : ℕ). get_or u y 0 ≡ 0) w.0 k.was in
        omega (arith, v', z, m.more x l, e x, w.1))
        (λ w.
        let v : get_or u' x 0 ≡ get_or u x 0 = ap (λ (q : List ℕ). get_or q x 0) k.now ∙ get_or-set_other u b x 1 0 (λ q. w.0 (sym q)) in
        omega (arith, v, m.more x l, e x, w.1))
        (δ_cases b x)

-- one block alone
pub marks_one : {u u' : List ℕ} (b : ℕ) → Mark u u' b → Marks u u' (δ b)
marks_one {u} b k = marks_more (λ x. 0) (δ b) b (marks_none u (λ x. 0) (λ x. refl)) k (λ x. omega arith)

-- marks f, and then marks g
pub marks_join : {u u₁ u₂ : List ℕ} (f g h : ℕ → ℕ) → Marks u u₁ f → Marks u₁ u₂ g → ((b : ℕ) → h b ≡ f b + g b) → Marks u u₂ h
marks_join f g h p q e =
    record {
      long = q.long ∙ p.long;
      more = λ b l. omega (arith, q.more b (omega (arith, p.long)), p.more b l, e b);
      below = λ b l. omega (arith, q.below b (omega (arith, p.long)), p.below b l, e b);
    }

-- a block that is marked is on the card
pub marked_inside : {u u' : List ℕ} (f : ℕ → ℕ) (b : ℕ) → Marks u u' f → 0 < f b → b < length u
marked_inside {u} f b m h = go (dec_lt b (length u))
  where
    go : Dec (b < length u) → b < length u
    go (yes l) = l
    go (no l) = absurd (omega (arith, m.below b (omega arith)))

-- ---- clashes

-- block b could not be marked, after marks f
pub clash : {u₀ u u' : List ℕ} (f g : ℕ → ℕ) (b : ℕ) → Marks u₀ u f → NoMark u u' b → ((x : ℕ) → f x + δ b x ≤ g x) → Clash u₀ g
clash f g b m k e =
    record {
      at = b;
      used = omega (arith, e b, δ_same b b refl);
      twice = λ l. omega (arith, e b, δ_same b b refl, k.taken (omega (arith, m.long)), m.more b l);
    }

-- nor before any
pub clash_one : {u u' : List ℕ} (g : ℕ → ℕ) (b : ℕ) → NoMark u u' b → ((x : ℕ) → δ b x ≤ g x) → Clash u g
clash_one {u} g b k e = clash (λ x. 0) g b (marks_none u (λ x. 0) (λ x. refl)) k (λ x. omega (arith, e x))

-- to a larger use
pub clash_le : {u : List ℕ} (f h : ℕ → ℕ) → Clash u f → ((b : ℕ) → f b ≤ h b) → Clash u h
clash_le f h k e = record { at = k.at; used = omega (arith, k.used, e k.at); twice = λ l. omega (arith, k.twice l, e k.at) }

-- over the marks f that were made before
pub clash_after : {u u₁ : List ℕ} (f g h : ℕ → ℕ) → Marks u u₁ f → Clash u₁ g → ((b : ℕ) → f b + g b ≤ h b) → Clash u h
clash_after f g h m k e =
    record {
      at = k.at;
      used = omega (arith, k.used, e k.at);
      twice = λ l. omega (arith, k.twice (omega (arith, m.long)), m.more k.at l, e k.at);
    }

-- ---- an answer with marks: true and marked, or false and a clash

abbrev pub Did : Bool → List ℕ → List ℕ → (ℕ → ℕ) → Type 0
Did t u u' f = When t (Marks u u' f) (Clash u f)

-- after marks f, an answer on g is one on both
pub did_after : (t : Bool) (u u₁ u₂ : List ℕ) (f g h : ℕ → ℕ) → Marks u u₁ f → ((b : ℕ) → h b ≡ f b + g b) → Did t u₁ u₂ g → Did t u u₂ h
did_after t u u₁ u₂ f g h m e d =
    when-map t _ _ _ _ (λ p. marks_join f g h m p e) (λ k. clash_after f g h m k (λ b. omega (arith, e b))) d

-- an answer of `mark_run`, over the length k that the code has for c
pub did_run : (img u u' : List ℕ) (at k c : ℕ) (t : Bool) → k ≡ c → Did t u u' (run_use img at k) → Did t u u' (run_use img at c)
did_run img u u' at k c t e d = subst (λ (x : ℕ). Did t u u' (run_use img at x)) e d

-- every block that a run names is on the card
pub run_in : {u u' : List ℕ} (img : List ℕ) (at c : ℕ) → Marks u u' (run_use img at c) → (j : ℕ) → j < c → word img (at + 4 * j) < length u
run_in img at c m j l =
    let b : ℕ = word img (at + 4 * j) in
    marked_inside (run_use img at c) b m (omega (arith, sum_to_term (λ i. δ (word img (at + 4 * i)) b) c j l, δ_same b b refl))

pub run_none : (img : List ℕ) (at c b : ℕ) → c ≡ 0 → run_use img at c b ≡ 0
run_none img at c b e = ap (λ (x : ℕ). run_use img at x b) e ∙ sum_to_zero (λ j. δ (word img (at + 4 * j)) b)

-- ---- one more term of a sum

pub sum_more : (f : ℕ → ℕ) (i v : ℕ) → v ≡ f i → sum_to f (i + 1) ≡ sum_to f i + v
sum_more f i v e = rw add-one (omega (arith, sum_to_suc f i))

pub sum_next : (f : ℕ → ℕ) (i v c : ℕ) → v ≡ f i → i < c → sum_to f i + v ≤ sum_to f c
sum_next f i v c e l = omega (arith, sum_to_next f c i l)

-- of one that counts x among g 0, g 1, ..
module _ (g : ℕ → ℕ) (i b : ℕ) (e : b ≡ g i) (x : ℕ) where
  pub count-more : sum_to (λ j. δ (g j) x) (i + 1) ≡ sum_to (λ j. δ (g j) x) i + δ b x
  count-more = sum_more (λ j. δ (g j) x) i (δ b x) (ap (λ (y : ℕ). δ y x) e)

  pub count_next : (c : ℕ) → i < c → sum_to (λ j. δ (g j) x) i + δ b x ≤ sum_to (λ j. δ (g j) x) c
  count_next c l = sum_next (λ j. δ (g j) x) i (δ b x) c (ap (λ (y : ℕ). δ y x) e) l
