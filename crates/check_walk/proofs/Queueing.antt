-- The queue of the walk: its room, one name noted, a directory's names noted one after the other. Assumes nothing.
use mathlib.Core.Path.{◌≡◌, refl, sym, ap, ◌∙◌, subst}
use mathlib.Core.List.{List, [], ◌∷◌, ◌++◌}
use mathlib.Core.Logic.{⊎_elim}
use Prim.Native.Nat.{ℕ, zero, suc, ◌+◌, ◌*◌, ◌≤◌, ◌<◌}
use native.Mathlib.Omega.{arith}
use native.Mathlib.Numerals.{add-one}
use borrow.Author.Count.{below_more}
use lib.ListN.{length, get_or, set, take, length-set}
use lib.Seq.{get_or-set_same, get_or-set_other, take-set-le, take-suc-set}
use Rattle.words.specs.Sums.{δ, sum_to, cnt}
use Rattle.words.proofs.Sums.{δ_cases, δ_same, δ_comm, sum_to_zero, sum_to_cong, sum_to_point, sum_to_room, sum_to_ones, sum_on_snoc}
use Rattle.check_marks.proofs.Marking.{count-more, count_next}
use Rattle.card_rules.specs.View.{kids, kid}
use Rattle.card_rules.specs.Whole.{Reached, down}
use Rattle.check_walk.specs.Inner.{pos, seen_at, Queue, Noted, fresh, again, Grown, Lost, many, Scanned}

-- ---- named or not, as 1 or 0

pub pos_zero : (v : ℕ) → v ≡ 0 → pos v ≡ 0
pos_zero v e = ap pos e

pub pos_suc : (v : ℕ) → 0 < v → pos v ≡ 1
pos_suc zero h = absurd (omega arith)
pos_suc (suc v) h = refl

pub pos_le : (v : ℕ) → pos v ≤ 1
pos_le zero = omega arith
pos_le (suc v) = omega arith

-- ---- room, and what stands in the queue

module _ (img s : List ℕ) (nb t : ℕ) (q : Queue img s nb t) where
  -- the queue is no longer than the card
  pub queue_le : t ≤ nb
  queue_le = omega (arith, q.filled, sum_to_ones (λ x. pos (seen_at s nb x)) nb (λ x. pos_le (seen_at s nb x)))

  -- a block that was not named leaves room in it
  pub room : (m : ℕ) → m < nb → seen_at s nb m ≡ 0 → t < nb
  room m l e =
      omega (arith, q.filled, sum_to_room (λ x. pos (seen_at s nb x)) nb m (λ x. pos_le (seen_at s nb x)) l (pos_zero (seen_at s nb m) e))

  -- what was named is in it
  pub reached_seen : (m : ℕ) → m < nb → 0 < seen_at s nb m → Reached img m
  reached_seen m l z = q.reached m (omega (arith, q.listed m l, pos_suc (seen_at s nb m) z))

-- ---- one name

module _ (img s : List ℕ) (nb t m : ℕ) (long : 4 * nb ≤ length s) (q : Queue img s nb t) (l : m < nb) (r : Reached img m) where
  -- m is new
  module _ (s' : List ℕ) (z : seen_at s nb m ≡ 0) (e : s' ≡ set (set s t m) (2 * nb + m) 1) where
    t< : t < nb
    t< = room img s nb t q m l z

    seen_here : seen_at s' nb m ≡ 1
    seen_here =
        ap (λ (x : List ℕ). get_or x (2 * nb + m) 0) e ∙ get_or-set_same (set s t m) (2 * nb + m) 1 0 (simp length-set (omega arith))

    other : (i : ℕ) → (i ≡ t → ⊥) → (i ≡ 2 * nb + m → ⊥) → get_or s' i 0 ≡ get_or s i 0
    other i a b = ap (λ (x : List ℕ). get_or x i 0) e ∙ get_or-set_other (set s t m) (2 * nb + m) i 1 0 b ∙ get_or-set_other s t i m 0 a

    seen_other : (x : ℕ) → (m ≡ x → ⊥) → seen_at s' nb x ≡ seen_at s nb x
    seen_other x d = other (2 * nb + x) (λ p. omega (arith, t<)) (λ p. d (omega arith))

    q' : take (t + 1) s' ≡ take t s ++ (m ∷ [])
    q' =
        ap (λ (x : List ℕ). take (t + 1) x) e
        ∙ take-set-le (t + 1) (set s t m) (2 * nb + m) 1 (omega (arith, t<))
        ∙ ap (λ (k : ℕ). take k (set s t m)) (add-one t)
        ∙ take-suc-set s t m (omega (arith, t<))

    cnt' : (x : ℕ) → cnt x (take (t + 1) s') ≡ cnt x (take t s) + δ m x
    cnt' x = ap (cnt x) q' ∙ sum_on_snoc (δ x) (take t s) m ∙ ap (λ (y : ℕ). cnt x (take t s) + y) (δ_comm x m)

    seen' : (x : ℕ) → x < nb → seen_at s' nb x ≡ seen_at s nb x + δ m x
    seen' x b =
        ⊎_elim
        (λ w. subst (λ (y : ℕ). seen_at s' nb y ≡ seen_at s nb y + δ m y) w.0 (omega (arith, seen_here, z, δ_same m m refl)))
        (λ w. omega (arith, seen_other x w.0, w.1))
        (δ_cases m x)

    listed' : (x : ℕ) → x < nb → cnt x (take (t + 1) s') ≡ pos (seen_at s' nb x)
    listed' x b =
        ⊎_elim
        (λ w.
        subst (λ (y : ℕ). cnt y (take (t + 1) s') ≡ pos (seen_at s' nb y)) w.0
        (omega (arith, cnt' m, δ_same m m refl, q.listed m l, ap pos z, ap pos seen_here)))
        (λ w. omega (arith, cnt' x, w.1, q.listed x b, ap pos (seen_other x w.0)))
        (δ_cases m x)

    queue_fresh : Queue img s' nb (t + 1)
    queue_fresh =
        record {
          reached = λ x h. ⊎_elim (λ w. subst (Reached img) w.0 r) (λ w. q.reached x (omega (arith, cnt' x, w.1))) (δ_cases m x);
          inside = λ x h. ⊎_elim (λ w. omega (arith, w.0)) (λ w. q.inside x (omega (arith, cnt' x, w.1))) (δ_cases m x);
          listed = listed';
          filled = omega (
            arith,
            q.filled,
            ap pos z,
            ap pos seen_here,
            sum_to_point (λ x. pos (seen_at s nb x)) (λ x. pos (seen_at s' nb x)) nb m l (λ i b d. ap pos (seen_other i (λ p. d (sym p)))),
          );
        }

    pub grown-fresh : Grown img s s' nb t (t + 1) (δ m)
    grown-fresh =
        record {
          long = ap length e ∙ length-set (set s t m) (2 * nb + m) 1 ∙ length-set s t m;
          queue = queue_fresh;
          grows = omega arith;
          front = λ i b. other i (λ p. omega arith) (λ p. omega (arith, t<));
          more = seen';
          own = λ x b. other (3 * nb + x) (λ p. omega (arith, t<)) (λ p. omega arith);
        }

  -- m was named before
  module _ (s' : List ℕ) (z : 0 < seen_at s nb m) (e : s' ≡ set s (2 * nb + m) (seen_at s nb m + 1)) where
    t≤ : t ≤ nb
    t≤ = queue_le img s nb t q

    there : seen_at s' nb m ≡ seen_at s nb m + 1
    there = ap (λ (x : List ℕ). get_or x (2 * nb + m) 0) e ∙ get_or-set_same s (2 * nb + m) (seen_at s nb m + 1) 0 (omega arith)

    else : (i : ℕ) → (i ≡ 2 * nb + m → ⊥) → get_or s' i 0 ≡ get_or s i 0
    else i b = ap (λ (x : List ℕ). get_or x i 0) e ∙ get_or-set_other s (2 * nb + m) i (seen_at s nb m + 1) 0 b

    seen'' : (x : ℕ) → x < nb → seen_at s' nb x ≡ seen_at s nb x + δ m x
    seen'' x b =
        ⊎_elim
        (λ w. subst (λ (y : ℕ). seen_at s' nb y ≡ seen_at s nb y + δ m y) w.0 (omega (arith, there, δ_same m m refl)))
        (λ w. omega (arith, else (2 * nb + x) (λ p. w.0 (omega arith)), w.1))
        (δ_cases m x)

    pos_kept : (x : ℕ) → pos (seen_at s' nb x) ≡ pos (seen_at s nb x)
    pos_kept x =
        ⊎_elim
        (λ w.
        subst (λ (y : ℕ). pos (seen_at s' nb y) ≡ pos (seen_at s nb y)) w.0
        (pos_suc (seen_at s' nb m) (omega (arith, there)) ∙ sym (pos_suc (seen_at s nb m) z)))
        (λ w. ap pos (else (2 * nb + x) (λ p. w.0 (omega arith))))
        (δ_cases m x)

    q'' : take t s' ≡ take t s
    q'' = ap (λ (x : List ℕ). take t x) e ∙ take-set-le t s (2 * nb + m) (seen_at s nb m + 1) (omega (arith, t≤))

    queue_again : Queue img s' nb t
    queue_again =
        record {
          reached = λ x h. q.reached x (rw q'' at h);
          inside = λ x h. q.inside x (rw q'' at h);
          listed = λ x b. ap (cnt x) q'' ∙ q.listed x b ∙ sym (pos_kept x);
          filled = sum_to_cong (λ x. pos (seen_at s' nb x)) (λ x. pos (seen_at s nb x)) nb (λ i b. pos_kept i) ∙ q.filled;
        }

    pub grown_again : Grown img s s' nb t t (δ m)
    grown_again =
        record {
          long = ap length e ∙ length-set s (2 * nb + m) (seen_at s nb m + 1);
          queue = queue_again;
          grows = omega arith;
          front = λ i b. else i (λ p. omega (arith, t≤));
          more = seen'';
          own = λ x b. else (3 * nb + x) (λ p. omega arith);
        }

-- ---- names, one after the other

pub grown_none : (img s : List ℕ) (nb t : ℕ) (f : ℕ → ℕ) → Queue img s nb t → ((x : ℕ) → f x ≡ 0) → Grown img s s nb t t f
grown_none img s nb t f q z =
    record { long = refl; queue = q; grows = omega arith; front = λ i l. refl; more = λ m l. omega (arith, z m); own = λ b l. refl }

pub grown_join : (img s s₁ s₂ : List ℕ) (nb t t₁ t₂ : ℕ) (f g h : ℕ → ℕ) → Grown img s s₁ nb t t₁ f → Grown img s₁ s₂ nb t₁ t₂ g
    → ((x : ℕ) → h x ≡ f x + g x) → Grown img s s₂ nb t t₂ h
grown_join img s s₁ s₂ nb t t₁ t₂ f g h a b e =
    record {
      long = b.long ∙ a.long;
      queue = b.queue;
      grows = omega (arith, a.grows, b.grows);
      front = λ i l. b.front i (omega (arith, a.grows)) ∙ a.front i l;
      more = λ m l. omega (arith, b.more m l, a.more m l, e m);
      own = λ x l. b.own x l ∙ a.own x l;
    }

pub grown_note : (img s s' : List ℕ) (nb t r m : ℕ) → 4 * nb ≤ length s → Queue img s nb t → m < nb → Reached img m → Noted s s' nb m t r
    → Grown img s s' nb t r (δ m)
grown_note img s s' nb t r m long q l h (fresh z e p) =
    subst (λ (k : ℕ). Grown img s s' nb t k (δ m)) (sym p) (grown-fresh img s nb t m long q l h s' z e)
grown_note img s s' nb t r m long q l h (again z e p) =
    subst (λ (k : ℕ). Grown img s s' nb t k (δ m)) (sym p) (grown_again img s nb t m long q l h s' z e)

-- ---- the names of directory n

-- how many of the first j children of n are x
abbrev pub kids_as : List ℕ → ℕ → ℕ → ℕ → ℕ
kids_as img n j x = sum_to (λ i. δ (kid img n i) x) j

-- the first j children are noted
pub record Noting (img s s' : List ℕ) (nb n t t' j : ℕ) : Type 0 where
  pub grown : Grown img s s' nb t t' (kids_as img n j)
  pub below : (i : ℕ) → i < j → kid img n i < nb

pub noting_none : (img s : List ℕ) (nb n t : ℕ) → Queue img s nb t → Noting img s s nb n t t 0
noting_none img s nb n t q =
    record { grown = grown_none img s nb t (kids_as img n 0) q (λ x. sum_to_zero (λ i. δ (kid img n i) x)); below = λ i l. absurd (omega arith) }

pub noting_all : (img s s' : List ℕ) (nb n t t' j : ℕ) → Noting img s s' nb n t t' j → j ≡ kids img n → Scanned img s s' nb n t t'
noting_all img s s' nb n t t' j a e =
    record {
      grown = subst (λ (k : ℕ). Grown img s s' nb t t' (kids_as img n k)) e a.grown;
      kids_below = λ i l. a.below i (omega (arith, e));
    }

module _ (img s₀ s : List ℕ) (nb n t end j m : ℕ) (a : Noting img s₀ s nb n t end j) (l : j < kids img n) (e : m ≡ kid img n j) (b : m < nb) where
  pub noting_more : (s' : List ℕ) (r : ℕ) → 4 * nb ≤ length s₀ → Reached img n → Noted s s' nb m end r → Noting img s₀ s' nb n t r (j + 1)
  noting_more s' r long h d =
      record {
        grown = grown_join img s₀ s s' nb t end r (kids_as img n j) (δ m) (kids_as img n (j + 1)) a.grown
            (grown_note img s s' nb end r m (omega (arith, a.grown.long)) a.grown.queue b (down m j h l (sym e)) d)
            (λ x. count-more (kid img n) j m e x);
        below = below_more (λ i. kid img n i < nb) j a.below (omega (arith, e));
      }

  -- one that was named too often already
  pub noting_many : 65535 < seen_at s nb m → Lost img s₀ nb n
  noting_many v =
      many m b (reached_seen img s nb end a.grown.queue m b (omega arith))
      (omega (arith, a.grown.more m b, δ_same m m refl, count_next (kid img n) j m e m (kids img n) l))
