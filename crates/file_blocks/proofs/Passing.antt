-- Laws of the walk over the slots of a file's blocks: what each run keeps the walk keeps, and a walk on states that stand for others. Assumes nothing.
use mathlib.Core.Path.{◌≡◌, refl, sym, ap, ◌∙◌}
use mathlib.Core.Bool.{Bool, true, false}
use mathlib.Core.List.{List}
use Prim.Native.Nat.{ℕ, zero, suc, ◌+◌, ◌-◌, ◌*◌, ◌≤◌, ◌<◌}
use lib.Dec.{ltb}
use Rattle.words.specs.Words.{pick, word}
use Rattle.words.specs.Runs.{turns}
use Rattle.card_layout.specs.Inode.{indirect, double}
use Rattle.file_blocks.specs.Ranges.{parts_from, parts_to, in_record, in_indirect, in_second}
use Rattle.file_blocks.specs.Inner.{in_double, by_indirect, by_double, in_file}
use Rattle.words.proofs.Runs.{turns_more}
use Rattle.file_blocks.proofs.Picks.{pick-both, pick_yes}

-- ---- what each run keeps

module _ {A : Type 0} (run : ℕ → ℕ → ℕ → A → A) (P : A → Type 0) (keeps : (at j k : ℕ) (x : A) → P x → P (run at j k x)) (nb : ℕ) where
  pub indirect_keeps : (p i e : ℕ) (x : A) → P x → P (in_indirect run nb p i e x)
  indirect_keeps p i e x h = pick-both P (ltb p nb) _ x (keeps _ _ _ x h) h

  pub second_keeps : (s q i e : ℕ) (x : A) → P x → P (in_second run nb s q i e x)
  second_keeps s q i e x h = pick-both P (ltb s nb) _ x (keeps _ _ _ x h) h

-- ---- the second level, block by block

module _ {A : Type 0} (card : A → List ℕ) (run : ℕ → ℕ → ℕ → A → A) (nb d i e : ℕ) (x₀ : A) where
  abbrev pub levels : ℕ → ℕ → A
  levels q k = turns (λ j y. in_second run nb (word (card y) (4096 * d + 4 * j)) j i e y) q k x₀

  pub levels_more : (m s q₀ q : ℕ) (x out : A) → out ≡ in_second run m s q i e x → m ≡ nb → s ≡ word (card x) (4096 * d + 4 * q) → q₀ ≤ q
      → x ≡ levels q₀ (q - q₀) → out ≡ levels q₀ (q + 1 - q₀)
  levels_more m s q₀ q x out o f w h t = o ∙ rw (f, w, t) (turns_more _ _ _ q h)

  pub levels_all : d < nb → (q₀ q₁ q : ℕ) (x : A) → x ≡ levels q₀ (q - q₀) → q₀ ≡ parts_from i → q₁ ≡ parts_to e → q - q₀ ≡ q₁ - q₀
      → x ≡ in_double card run nb d i e x₀
  levels_all l q₀ q₁ q x t p p₁ r = t ∙ rw (r, p₁, p) (sym (pick_yes d nb _ x₀ l))

-- ---- the state f a stands for a: a walk on one is the walk on the other

pub pick_through : {A B : Type 0} (f : A → B) (t : Bool) (x y : A) → pick t (f x) (f y) ≡ f (pick t x y)
pick_through f true x y = refl
pick_through f false x y = refl

pub turns_through : {A B : Type 0} (f : A → B) (g : ℕ → A → A) (h : ℕ → B → B) → ((j : ℕ) (a : A) → h j (f a) ≡ f (g j a)) → (i k : ℕ) (a : A)
    → turns h i k (f a) ≡ f (turns g i k a)
unfolding turns
turns_through f g h e i zero a = refl
turns_through f g h e i (suc k) a = ap (h (i + k)) (turns_through f g h e i k a) ∙ e (i + k) (turns g i k a)

module _
    {A B : Type 0}
    (f : A → B)
    (card : B → List ℕ)
    (ran : ℕ → ℕ → ℕ → A → A)
    (run : ℕ → ℕ → ℕ → B → B)
    (same : (at i e : ℕ) (a : A) → run at i e (f a) ≡ f (ran at i e a))
    (nb : ℕ)
  where
    pub indirect_through : (p i e : ℕ) (a : A) → in_indirect run nb p i e (f a) ≡ f (in_indirect ran nb p i e a)
    indirect_through p i e a = ap (λ (y : B). pick (ltb p nb) y (f a)) (same _ _ _ a) ∙ pick_through f (ltb p nb) _ a

    pub second_through : (s q i e : ℕ) (a : A) → in_second run nb s q i e (f a) ≡ f (in_second ran nb s q i e a)
    second_through s q i e a = ap (λ (y : B). pick (ltb s nb) y (f a)) (same _ _ _ a) ∙ pick_through f (ltb s nb) _ a

    pub double_through : (d i e : ℕ) (a : A) → in_double card run nb d i e (f a) ≡ f (in_double (λ x. card (f x)) ran nb d i e a)
    double_through d i e a =
        ap (λ (y : B). pick (ltb d nb) y (f a))
        (turns_through f (λ q x. in_second ran nb (word (card (f x)) (4096 * d + 4 * q)) q i e x)
        (λ q y. in_second run nb (word (card y) (4096 * d + 4 * q)) q i e y)
        (λ q x. second_through (word (card (f x)) (4096 * d + 4 * q)) q i e x) (parts_from i) (parts_to e - parts_from i) a)
        ∙ pick_through f (ltb d nb) _ a

    pub file_through : (n i e : ℕ) (a : A) → in_file card run nb n i e (f a) ≡ f (in_file (λ x. card (f x)) ran nb n i e a)
    file_through n i e a =
        let a₁ = in_record ran n i e a in
        let a₂ = by_indirect (λ x. card (f x)) ran nb n i e a₁ in
        ap (λ (y : B). by_double card run nb n i e (by_indirect card run nb n i e y)) (same _ _ _ a)
        ∙ ap (λ (y : B). by_double card run nb n i e y) (indirect_through (indirect (card (f a₁)) n) i e a₁)
        ∙ double_through (double (card (f a₂)) n) i e a₂
