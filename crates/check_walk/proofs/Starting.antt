-- The walk's beginning: in the scratch that `start` leaves of an all-zero one the root alone is queued, and the superblock and the map are in use.
-- Assumes nothing.
use mathlib.Core.Path.{◌≡◌, refl, sym, ap, ◌∙◌, subst}
use mathlib.Core.List.{List, [], ◌∷◌}
use mathlib.Core.Logic.{◌⊎◌, ⊎_elim}
use Prim.Native.Nat.{ℕ, ◌+◌, ◌-◌, ◌*◌, ◌≤◌, ◌<◌}
use native.Mathlib.Omega.{arith}
use native.Mathlib.Decide.{dec_lt}
use lib.ListN.{length, get_or, set, take, replicate, length-set, length-replicate, get_or-replicate}
use borrow.Rule.Slice.PartMut.{put_mid}
use Rattle.std.proofs.lemmas.Slice.{put_mid-paste}
use lib.Seq.{get_or-set_same, get_or-set_other, take-suc}
use Rattle.words.specs.Sums.{δ, sum_to, sum_on, cnt}
use Rattle.words.specs.Runs.{puts}
use Rattle.words.proofs.Sums.{δ_cases, δ_same, δ_other, δ_comm, δ_pos, sum_to_cong, sum_to_point, sum_to_none, sum_to-δ, sum_on_nil, sum_on_cons}
use Rattle.words.proofs.Runs.{length-puts, byte-puts_off, byte-puts_in, puts_is, puts_paste}
use Rattle.card_layout.specs.Super.{maps}
use Rattle.card_rules.specs.View.{times_named, owns}
use Rattle.card_rules.specs.Whole.{Reached, root}
use Rattle.card_rules.proofs.Views.{uses_parts}
use Rattle.check_walk.specs.Inner.{pos, seen_at, own_at, Zero, started, Space, Progress}

-- how often b is among 2 .. 1 + f
maps_in : (f k b : ℕ) → k < f → b ≡ 2 + k → sum_to (λ i. δ (2 + i) b) f ≡ 1
maps_in f k b l e =
    sum_to_cong (λ i. δ (2 + i) b) (δ k) f
    (λ i _.
    ⊎_elim
    (λ w. δ_same (2 + i) b (omega (arith, w.0)) ∙ sym w.1)
    (λ w. δ_other (2 + i) b (λ q. w.0 (omega arith)) ∙ sym w.1)
    (δ_cases k i))
    ∙ sum_to-δ k f l

maps_out : (f b : ℕ) → ((k : ℕ) → k < f → b ≡ 2 + k → ⊥) → sum_to (λ i. δ (2 + i) b) f ≡ 0
maps_out f b h = sum_to_none (λ i. δ (2 + i) b) f (λ i l. δ_other (2 + i) b (λ q. h i l (sym q)))

pos-δ : (m : ℕ) → pos (δ 1 m) ≡ δ 1 m
pos-δ m = ⊎_elim (λ w. ap pos w.1 ∙ sym w.1) (λ w. ap pos w.1 ∙ sym w.1) (δ_cases 1 m)

module _ (s : List ℕ) (nb f : ℕ) (few : 16 ≤ nb) (fit : 2 + f ≤ nb) (long : length s ≡ 4 * nb) where
  abbrev s₁ : List ℕ
  s₁ = set s (3 * nb) 1

  abbrev s₂ : List ℕ
  s₂ = puts s₁ (λ i. 3 * nb + (2 + i)) (λ i. 1) f

  abbrev s₃ : List ℕ
  s₃ = set s₂ 0 1

  long₁ : length s₁ ≡ 4 * nb
  long₁ = length-set s (3 * nb) 1 ∙ long

  long₂ : length s₂ ≡ 4 * nb
  long₂ = length-puts s₁ (λ i. 3 * nb + (2 + i)) (λ i. 1) f ∙ long₁

  long₃ : length s₃ ≡ 4 * nb
  long₃ = length-set s₂ 0 1 ∙ long₂

  pub started-long : length (started s nb f) ≡ 4 * nb
  unfolding started
  started-long = length-set s₃ (2 * nb + 1) 1 ∙ long₃

  at_0 : get_or (started s nb f) 0 0 ≡ 1
  unfolding started
  at_0 = get_or-set_other s₃ (2 * nb + 1) 0 1 0 (λ e. omega arith) ∙ get_or-set_same s₂ 0 1 0 (omega (arith, long₂))

  at_root : get_or (started s nb f) (2 * nb + 1) 0 ≡ 1
  unfolding started
  at_root = get_or-set_same s₃ (2 * nb + 1) 1 0 (omega (arith, long₃))

  -- the marks are those that the loop left
  at_mark : (b : ℕ) → get_or (started s nb f) (3 * nb + b) 0 ≡ get_or s₂ (3 * nb + b) 0
  unfolding started
  at_mark b = get_or-set_other s₃ (2 * nb + 1) (3 * nb + b) 1 0 (λ e. omega arith) ∙ get_or-set_other s₂ 0 (3 * nb + b) 1 0 (λ e. omega arith)

  at_map : (k : ℕ) → k < f → own_at (started s nb f) nb (2 + k) ≡ 1
  at_map k l = at_mark (2 + k) ∙ byte-puts_in s₁ (λ i. 3 * nb + (2 + i)) (λ i. 1) f k l (omega (arith, long₁)) (λ j lj m e. omega arith)

  off_map : (b : ℕ) → ((k : ℕ) → k < f → b ≡ 2 + k → ⊥) → own_at (started s nb f) nb b ≡ get_or s₁ (3 * nb + b) 0
  off_map b h = at_mark b ∙ byte-puts_off s₁ (λ i. 3 * nb + (2 + i)) (λ i. 1) f (3 * nb + b) (λ k l e. h k l (omega arith))

  module _ (z : Zero s) where
    seen_other : (m : ℕ) → m < nb → (m ≡ 1 → ⊥) → seen_at (started s nb f) nb m ≡ 0
    unfolding started
    seen_other m l d =
        get_or-set_other s₃ (2 * nb + 1) (2 * nb + m) 1 0 (λ e. d (omega arith))
        ∙ get_or-set_other s₂ 0 (2 * nb + m) 1 0 (λ e. omega arith)
        ∙ byte-puts_off s₁ (λ i. 3 * nb + (2 + i)) (λ i. 1) f (2 * nb + m) (λ k b e. omega arith)
        ∙ get_or-set_other s (3 * nb) (2 * nb + m) 1 0 (λ e. omega arith)
        ∙ z.all (2 * nb + m)

    seen₀ : (m : ℕ) → m < nb → seen_at (started s nb f) nb m ≡ δ 1 m
    seen₀ m l =
        ⊎_elim
        (λ w. subst (λ (x : ℕ). seen_at (started s nb f) nb x ≡ δ 1 x) w.0 (at_root ∙ sym (δ_same 1 1 refl)))
        (λ w. seen_other m l (λ e. w.0 (sym e)) ∙ sym w.1)
        (δ_cases 1 m)

    own_super : own_at (started s nb f) nb 0 ≡ 1
    own_super =
        off_map 0 (λ k l e. omega arith)
        ∙ ap (λ (i : ℕ). get_or s₁ i 0) (let e : 3 * nb + 0 ≡ 3 * nb = omega arith in e)
        ∙ get_or-set_same s (3 * nb) 1 0 (omega arith)

    own_other : (b : ℕ) → (0 ≡ b → ⊥) → ((k : ℕ) → k < f → b ≡ 2 + k → ⊥) → own_at (started s nb f) nb b ≡ 0
    own_other b d h = off_map b h ∙ get_or-set_other s (3 * nb) (3 * nb + b) 1 0 (λ e. d (omega arith)) ∙ z.all (3 * nb + b)

    own₀ : (b : ℕ) → own_at (started s nb f) nb b ≡ δ 0 b + sum_to (λ i. δ (2 + i) b) f
    own₀ b = go (δ_cases 0 b) (dec_lt b 2) (dec_lt b (2 + f))
      where
        go : ((0 ≡ b) × (δ 0 b ≡ 1)) ⊎ ((0 ≡ b → ⊥) × (δ 0 b ≡ 0)) → Dec (b < 2) → Dec (b < 2 + f)
            → own_at (started s nb f) nb b ≡ δ 0 b + sum_to (λ i. δ (2 + i) b) f
        go (◌⊎◌.inl w) p q =
            let e : own_at (started s nb f) nb b ≡ 1 = subst (λ (x : ℕ). own_at (started s nb f) nb x ≡ 1) w.0 own_super in
            omega (arith, e, w.1, maps_out f b (λ k l r. omega (arith, w.0)))
        go (◌⊎◌.inr w) (yes p) q =
            omega (arith, own_other b w.0 (λ k l r. omega arith), w.1, maps_out f b (λ k l r. omega arith))
        go (◌⊎◌.inr w) (no p) (yes q) =
            let r : b ≡ 2 + (b - 2) = omega arith in
            let e : own_at (started s nb f) nb b ≡ 1 = subst (λ (x : ℕ). own_at (started s nb f) nb x ≡ 1) (sym r) (at_map (b - 2) (omega arith)) in
            omega (arith, e, w.1, maps_in f (b - 2) b (omega arith) r)
        go (◌⊎◌.inr w) (no p) (no q) =
            omega (arith, own_other b w.0 (λ k l r. omega arith), w.1, maps_out f b (λ k l r. omega arith))

    q₀ : take 1 (started s nb f) ≡ 1 ∷ []
    q₀ = take-suc (started s nb f) 0 0 (omega (arith, started-long)) ∙ ap (λ (x : ℕ). x ∷ []) at_0

    cnt₀ : (m : ℕ) → cnt m (take 1 (started s nb f)) ≡ δ 1 m
    cnt₀ m = omega (arith, ap (cnt m) q₀, sum_on_cons (δ m) 1 [], sum_on_nil (δ m), δ_comm m 1)

    nil₀ : (g : ℕ → ℕ) → sum_on g (take 0 (started s nb f)) ≡ 0
    nil₀ g = sum_on_nil g

    pub begun : (img : List ℕ) → f ≡ maps img → Progress img (started s nb f) nb 0 1
    begun img ef =
        record {
          queue = record {
            reached = λ m h. subst (Reached img) (δ_pos 1 m (omega (arith, cnt₀ m))) root;
            inside = λ m h. omega (arith, δ_pos 1 m (omega (arith, cnt₀ m)));
            listed = λ m l. cnt₀ m ∙ sym (pos-δ m) ∙ ap pos (sym (seen₀ m l));
            filled = omega (
              arith,
              sum_to_none (λ x. 0) nb (λ i l. refl),
              δ_same 1 1 refl,
              sum_to_point (λ x. 0) (λ x. pos (seen_at (started s nb f) nb x)) nb 1 (omega arith)
                  (λ i l d. ap pos (seen₀ i l ∙ δ_other 1 i (λ e. d (sym e)))),
              ap pos (seen₀ 1 (omega arith)),
              pos-δ 1,
            );
          };
          head = omega arith;
          seen = λ m l. omega (arith, seen₀ m l, nil₀ (λ n. times_named img n m));
          own = λ b l.
              omega (
                arith,
                own₀ b,
                uses_parts img (take 0 (started s nb f)) b,
                ap (sum_to (λ i. δ (2 + i) b)) ef,
                nil₀ (λ n. owns img n b),
              );
          past = λ b l.
              omega (
                arith,
                uses_parts img (take 0 (started s nb f)) b,
                nil₀ (λ n. owns img n b),
                δ_other 0 b (λ e. omega arith),
                maps_out (maps img) b (λ k p e. omega arith),
              );
          good = λ m h. absurd (omega (arith, nil₀ (δ m)));
          kids_below = λ m h. absurd (omega (arith, nil₀ (δ m)));
        }

-- what `walk` asks of the scratch that `start` leaves
pub begins : (img s t : List ℕ) (nb f : ℕ) → Space img s nb → f ≡ maps img → 2 + f ≤ nb → Zero s → t ≡ started s nb f
    → Space img t nb × Progress img t nb 0 1
begins img s t nb f space ef fit z e =
    subst (λ (x : List ℕ). Space img x nb × Progress img x nb 0 1) (sym e) (
      record { few = space.few; many = space.many; card = space.card; words = started-long s nb f space.few fit space.words },
      begun s nb f space.few fit space.words z img ef,
    )

-- the marks of the map's blocks as one fill
pub filled : (d : List ℕ) (nb f m : ℕ) → 3 * nb + 2 + f ≤ length d → m ≡ f
    → put_mid (3 * nb + 2) (3 * nb + 2 + f - (3 * nb + 2)) d (replicate m 1) ≡ puts d (λ i. 3 * nb + (2 + i)) (λ i. 1) f
filled d nb f m l e =
    let k : f ≡ 3 * nb + 2 + f - (3 * nb + 2) = omega arith in
    let long : length (replicate {A = ℕ} m 1) ≡ f = length-replicate m 1 ∙ e in
    put_mid-paste (3 * nb + 2) (3 * nb + 2 + f - (3 * nb + 2)) d (replicate m 1) (replicate m 1) f refl k (sym long)
    ∙ sym (puts_paste d (3 * nb + 2) (λ k. 1) (replicate m 1) f l (omega (arith, long)) (λ i h. sym (get_or-replicate m i 1 0 (omega arith))))
    ∙ puts_is d (λ i. 3 * nb + 2 + i) (λ i. 1) (λ i. 3 * nb + (2 + i)) (λ i. 1) f (λ i h. omega arith) (λ i h. refl)
