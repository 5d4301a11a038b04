-- Climbing ".." on a whole card: from every directory it reaches the root, in fewer steps than the card has blocks; so the test "a directory moved into
-- itself or below" (12) answers rightly. Assumes nothing.
use mathlib.Core.Path.{◌≡◌, refl, sym, ap, ◌∙◌, subst}
use mathlib.Core.Bool.{true, false, false≢true}
use mathlib.Core.List.{List}
use mathlib.Core.Logic.{◌≢◌, ⊎_elim}
use Prim.Native.Nat.{ℕ, zero, suc, ◌+◌, ◌≤◌, ◌<◌}
use native.Mathlib.Omega.{arith}
use native.Mathlib.Decide.{ℕ_discrete, dec_lt}
use borrow.Author.Tests.{eq-eqb, ne_eqb}
use Rattle.words.specs.Sums.{δ, sum_to}
use Rattle.words.proofs.Sums.{δ_le, δ_pos, δ_cases, sum_to_ones, sum_to_add, sum_to-δ}
use Rattle.card_layout.specs.Super.{blocks}
use Rattle.card_layout.specs.Inode.{kind}
use Rattle.card_rules.specs.View.{entry, kids, kid}
use Rattle.card_rules.specs.Whole.{Reached, root, down, Whole}
use Rattle.card_rules.proofs.Views.{kids_dir}
use Rattle.card_rules.proofs.Owners.{inode_below}
use Rattle.card_rules.proofs.Tree.{reached_listed, unnamed_root}
use Rattle.dir_move.specs.Move.{climbs}
use Rattle.law_tree.proofs.TreeMove.{Above, top, next}

-- ---- one step of the test

module _ (img : List ℕ) (c t b : ℕ) where
  climbs_met : t ≡ c → climbs img c t (suc b) ≡ true
  unfolding climbs
  climbs_met e = rw (eq-eqb t c e)

  climbs_root : t ≢ c → t ≡ 1 → climbs img c t (suc b) ≡ false
  unfolding climbs
  climbs_root d e = rw (ne_eqb t c d, eq-eqb t 1 e)

  climbs_on : t ≢ c → t ≢ 1 → climbs img c t (suc b) ≡ climbs img c (entry img t 1) b
  unfolding climbs
  climbs_on d e = rw (ne_eqb t c d, ne_eqb t 1 e)

climbs_none : (img : List ℕ) (c t : ℕ) → climbs img c t 0 ≡ false
unfolding climbs
climbs_none img c t = refl

-- ---- it answers true only where it meets c

module _ (img : List ℕ) (c : ℕ) where
  pub climbs_true : (t b : ℕ) → climbs img c t b ≡ true → Above img c t → ⊥
  climbs_true t zero e a = false≢true (sym (climbs_none img c t) ∙ e)
  climbs_true t (suc b) e (top d) = false≢true (sym (climbs_root img c 1 b d refl) ∙ e)
  climbs_true t (suc b) e (next d a) = go (climbs_true (entry img t 1) b) (ℕ_discrete t 1)
    where
      go : (climbs img c (entry img t 1) b ≡ true → Above img c (entry img t 1) → ⊥) → Dec (t ≡ 1) → ⊥
      go f (yes q) = false≢true (sym (climbs_root img c t b d q) ∙ e)
      go f (no q) = f (sym (climbs_on img c t b d q) ∙ e) a

-- ---- the way up

-- from x it is d steps to the root, by numbers below n
pub data Way (img : List ℕ) (n : ℕ) : ℕ → ℕ → Type 0 where
  here : Way img n 1 0
  step : {x d : ℕ} → x ≢ 1 → x < n → Way img n (entry img x 1) d → Way img n x (suc d)

module _ (img : List ℕ) (n : ℕ) where
  -- x has one way, so it stands on it once
  pub way_same : (x d e : ℕ) → Way img n x d → Way img n x e → d ≡ e
  way_same x d e here here = refl
  way_same x d e here (step q l w) = absurd (q refl)
  way_same x d e (step q l w) here = absurd (q refl)
  way_same x d e (step {d = i} q l w) (step {d = j} r m v) = ap suc (way_same (entry img x 1) i j w v)

  -- the root alone is its own parent
  way_loop : (x d : ℕ) → Way img n x d → entry img x 1 ≡ x → x ≡ 1
  way_loop x d here e = refl
  way_loop x d (step {d = i} q l w) e =
      absurd (omega (arith, way_same x i (suc i) (subst (λ (y : ℕ). Way img n y i) e w) (step q l w)))

  -- how often each number is on the way: once at most
  record Steps (d : ℕ) : Type 0 where
    pub times : ℕ → ℕ
    pub once : (b : ℕ) → times b ≤ 1
    pub total : sum_to times n ≡ suc d
    pub met : (b : ℕ) → 0 < times b → (e : ℕ) × (e ≤ d) × Way img n b e

  way_steps : 1 < n → (x d : ℕ) → Way img n x d → Steps d
  way_steps big x d here =
      record {
        times = δ 1;
        once = λ b. δ_le 1 b;
        total = sum_to-δ 1 n big;
        met = λ b h. (0, omega arith, subst (λ (y : ℕ). Way img n y 0) (δ_pos 1 b h) here);
      }
  way_steps big x d (step {d = i} q l w) = more (way_steps big (entry img x 1) i w)
    where
      more : Steps i → Steps (suc i)
      more s =
          record {
            times = λ b. s.times b + δ x b;
            once = λ b. ⊎_elim (λ e. new b e.0 e.1) (λ e. omega (arith, s.once b, e.1)) (δ_cases x b);
            total = omega (arith, sum_to_add s.times (δ x) (λ b. s.times b + δ x b) n (λ b h. refl), sum_to-δ x n l, s.total);
            met = λ b h. old b h (dec_lt 0 (s.times b));
          }
        where
          new : (b : ℕ) → x ≡ b → δ x b ≡ 1 → s.times b + δ x b ≤ 1
          new b e z = go (dec_lt 0 (s.times b))
            where
              go : Dec (0 < s.times b) → s.times b + δ x b ≤ 1
              go (yes h) =
                  let m = s.met b h in
                  absurd (omega (arith, m.1, way_same b m.0 (suc i) m.2 (subst (λ (y : ℕ). Way img n y (suc i)) e (step q l w))))
              go (no h) = omega arith

          old : (b : ℕ) → 0 < s.times b + δ x b → Dec (0 < s.times b) → (e : ℕ) × (e ≤ suc i) × Way img n b e
          old b h (yes g) = let m = s.met b g in (m.0, omega (arith, m.1), m.2)
          old b h (no g) = (suc i, omega arith, subst (λ (y : ℕ). Way img n y (suc i)) (δ_pos x b (omega arith)) (step q l w))

  pub way_short : 1 < n → (x d : ℕ) → Way img n x d → d < n
  way_short big x d w = let s = way_steps big x d w in omega (arith, s.total, sum_to_ones s.times n s.once)

  -- with as many steps as it takes, an answer false means that c was not met
  pub climbs_false : (c x d b : ℕ) → Way img n x d → d < b → climbs img c x b ≡ false → Above img c x
  climbs_false c x d zero w l e = absurd (omega arith)
  climbs_false c x d (suc b) here l e = top (λ q. false≢true (sym e ∙ climbs_met img c 1 b q))
  climbs_false c x d (suc b) (step {d = i} q m w) l e =
      let a : x ≢ c = λ z. false≢true (sym e ∙ climbs_met img c x b z) in
      next a (climbs_false c (entry img x 1) i b w (omega arith) (sym (climbs_on img c x b a q) ∙ e))

-- ---- on a whole card

module _ {img : List ℕ} (w : Whole img) where
  reached_below : (x : ℕ) → Reached img x → x < blocks img
  reached_below x r = inode_below img w.inodes w.sound x (reached_listed img w x r)

  pub dir_way : (x : ℕ) → Reached img x → kind img x ≡ 2 → (d : ℕ) × Way img (blocks img) x d
  dir_way x root k = (0, here)
  dir_way x (down {n} m j r b e) k = go (dir_way n r (kids_dir img n j b).0)
    where
      up : entry img x 1 ≡ n
      up = ap (λ (y : ℕ). entry img y 1) (sym e) ∙ w.tree.up n j r b (ap (kind img) e ∙ k)

      go : (d : ℕ) × Way img (blocks img) n d → (d : ℕ) × Way img (blocks img) x d
      go (d, v) = (
        suc d,
        step (λ q. unnamed_root img w n j r b (e ∙ q)) (reached_below x (down m j r b e))
            (subst (λ (y : ℕ). Way img (blocks img) y d) (sym up) v),
      )

  -- no directory is its own child
  pub not_own_child : (n j : ℕ) → Reached img n → j < kids img n → kid img n j ≢ n
  not_own_child n j r b e = go (dir_way n r (kids_dir img n j b).0)
    where
      up : entry img n 1 ≡ n
      up = ap (λ (y : ℕ). entry img y 1) (sym e) ∙ w.tree.up n j r b (ap (kind img) e ∙ (kids_dir img n j b).0)

      go : (d : ℕ) × Way img (blocks img) n d → ⊥
      go (d, v) = unnamed_root img w n j r b (e ∙ way_loop img (blocks img) n d v up)

  module _ (c t : ℕ) (r : Reached img t) (k : kind img t ≡ 2) where
    -- "a directory moved into itself or below": not so where it answers false, and so where it answers true
    pub climb_clear : climbs img c t (blocks img) ≡ false → Above img c t
    climb_clear = let v = dir_way t r k in
        climbs_false img (blocks img) c t v.0 (blocks img) v.1
        (way_short img (blocks img) (omega (arith, w.sound.sized.few)) t v.0 v.1)

    pub climb_meets : climbs img c t (blocks img) ≡ true → Above img c t → ⊥
    climb_meets = climbs_true img c t (blocks img)

-- who is not at or below c is not c
pub above_not : {img : List ℕ} {c t : ℕ} → Above img c t → t ≢ c
above_not (top d) = d
above_not (next d a) = d
