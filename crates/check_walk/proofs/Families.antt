-- A directory's children: how many there are by its head, and counting the subdirectories among them. Assumes nothing.
use mathlib.Core.Path.{◌≡◌, sym, ap, ◌∙◌, subst}
use mathlib.Core.List.{List}
use Prim.Native.Nat.{ℕ, ◌+◌, ◌*◌, ◌≤◌, ◌<◌}
use native.Mathlib.Omega.{arith}
use native.Mathlib.Numerals.{add-one}
use borrow.Author.Count.{below_more}
use lib.Dec.{eqb}
use Rattle.words.specs.Inner.{When}
use Rattle.words.specs.Sums.{δ, sum_to}
use Rattle.words.proofs.Sums.{δ_same, δ_other, δ_le, sum_to_suc, sum_to_zero, sum_to_ones}
use Rattle.card_layout.specs.Inode.{kind, links, count}
use Rattle.card_rules.specs.View.{entry, kids, kid}
use Rattle.card_rules.specs.Whole.{Inode}
use Rattle.card_rules.proofs.Views.{kids_dir}
use Rattle.words.proofs.Answers.{when-eqb}
use Rattle.check_walk.specs.Inner.{Kept, Tally}

-- a child's entry lies within the directory's blocks
pub kid_inside : (img : List ℕ) (n j : ℕ) → Inode img n → j < kids img n → 260 * (2 + j) + 260 ≤ 4096 * count img n
kid_inside img n j i l = omega (arith, i.shape.counted, (kids_dir img n j l).1)

-- ---- the first j children

abbrev pub subs_to : List ℕ → ℕ → ℕ → ℕ
subs_to img n j = sum_to (λ i. δ (kind img (kid img n i)) 2) j

-- the first j children of n have c directories among them, whose parent is n
pub record First (img : List ℕ) (n j c : ℕ) : Type 0 where
  pub count : c ≡ subs_to img n j
  pub few : c ≤ j
  pub ups : (i : ℕ) → i < j → kind img (kid img n i) ≡ 2 → entry img (kid img n i) 1 ≡ n

module _ (img : List ℕ) (n : ℕ) where
  pub first_none : First img n 0 0
  first_none = record { count = sym (sum_to_zero (λ i. δ (kind img (kid img n i)) 2)); few = omega arith; ups = λ i l. absurd (omega arith) }

  pub first_all : (c : ℕ) → First img n (kids img n) c → Kept img n c
  first_all c k = record { subs = k.count; ups = record { up = k.ups } }

  module _ (j c m : ℕ) (k : First img n j c) (e : m ≡ kid img n j) where
    more : subs_to img n (j + 1) ≡ subs_to img n j + δ (kind img m) 2
    more = rw (add-one, e) (sum_to_suc (λ i. δ (kind img (kid img n i)) 2) j)

    pub first_dir : kind img m ≡ 2 → entry img m 1 ≡ n → First img n (j + 1) (c + 1)
    first_dir d u =
        record {
          count = omega (arith, more, k.count, δ_same (kind img m) 2 d);
          few = omega (arith, k.few);
          ups = below_more _ j k.ups (λ d. subst (λ (x : ℕ). entry img x 1 ≡ n) e u);
        }

    pub first_other : (kind img m ≡ 2 → ⊥) → First img n (j + 1) c
    first_other d =
        record {
          count = omega (arith, more, k.count, δ_other (kind img m) 2 d);
          few = omega (arith, k.few);
          ups = below_more _ j k.ups (λ q. absurd (d (ap (kind img) e ∙ q)));
        }

-- ---- links of an inode that is no directory: its entries alone

pub other_links : (img : List ℕ) (n v l : ℕ) → (kind img n ≡ 2 → ⊥) → l ≡ links img n → When (eqb l v) (Tally img n v) (Tally img n v → ⊥)
other_links img n v l d e =
    when-eqb l v (Tally img n v) (Tally img n v → ⊥)
    (λ q. record { dir_seen = λ k. absurd (d k); dir_links = λ k. absurd (d k); dir_ups = λ k. absurd (d k); file_links = λ k. sym e ∙ q })
    (λ f t. f (e ∙ t.file_links d))

-- and of a directory that was named once, with c subdirectories
pub dir_tally : (img : List ℕ) (n v l c : ℕ) → kind img n ≡ 2 → v ≡ 1 → l ≡ links img n → Kept img n c
    → When (eqb l (2 + c)) (Tally img n v) (Tally img n v → ⊥)
dir_tally img n v l c d o e k =
    when-eqb l (2 + c) (Tally img n v) (Tally img n v → ⊥)
    (λ q. record { dir_seen = λ _. o; dir_links = λ _. omega (arith, k.subs); dir_ups = λ _. k.ups; file_links = λ f. absurd (f d) })
    (λ f t. f (omega (arith, k.subs, t.dir_links d)))

-- no more subdirectories than children
pub kept_few : (img : List ℕ) (n c : ℕ) → Kept img n c → c ≤ kids img n
kept_few img n c k = omega (arith, k.subs, sum_to_ones (λ j. δ (kind img (kid img n j)) 2) (kids img n) (λ j. δ_le (kind img (kid img n j)) 2))
