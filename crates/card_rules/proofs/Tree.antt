-- What the rules on the tree say of a whole card: which inodes are listed, and which entries name them. Assumes nothing.
use mathlib.Core.Path.{◌≡◌, refl, sym, ap, ◌∙◌, subst}
use mathlib.Core.List.{List}
use mathlib.Core.Logic.{◌⊎◌}
use Prim.Native.Nat.{ℕ, ◌≤◌, ◌<◌}
use native.Mathlib.Omega.{arith}
use native.Mathlib.Decide.{dec_lt, ℕ_discrete}
use Rattle.words.specs.Sums.{δ, sum_on, cnt}
use Rattle.words.proofs.Sums.{δ_same, δ_pos, sum_to_term, sum_to_apart, sum_to_pos, sum_on_term, sum_on_pos, sum_on_two, sum_on_sub}
use Rattle.card_layout.specs.Inode.{kind}
use Rattle.card_rules.specs.View.{kids, kid, times_named, naming}
use Rattle.card_rules.specs.Whole.{Reached, root, down, Whole}

-- an entry of n for m is counted
pub names_some : (img : List ℕ) (n m j : ℕ) → j < kids img n → kid img n j ≡ m → 0 < times_named img n m
names_some img n m j l e = omega (arith, sum_to_term (λ i. δ (kid img n i) m) (kids img n) j l, δ_same (kid img n j) m e)

module _ (img : List ℕ) (w : Whole img) where
  -- ---- the listed inodes are the reached ones

  pub reached_listed : (n : ℕ) → Reached img n → 0 < cnt n w.inodes
  reached_listed n r = omega (arith, w.tree.all n r)

  pub reached_once : (n : ℕ) → Reached img n → cnt n w.inodes ≡ 1
  reached_once n r = w.tree.all n r

  pub listed_reached : (n : ℕ) → 0 < cnt n w.inodes → Reached img n
  listed_reached n h = w.tree.only n h

  pub unreached_unlisted : (n : ℕ) → (Reached img n → ⊥) → cnt n w.inodes ≡ 0
  unreached_unlisted n d = go (dec_lt 0 (cnt n w.inodes))
    where
      go : Dec (0 < cnt n w.inodes) → cnt n w.inodes ≡ 0
      go (yes h) = absurd (d (listed_reached n h))
      go (no h) = omega arith

  pub root_listed : 0 < cnt 1 w.inodes
  root_listed = reached_listed 1 root

  -- a child is listed too
  pub kid_listed : (n j : ℕ) → 0 < cnt n w.inodes → j < kids img n → 0 < cnt (kid img n j) w.inodes
  kid_listed n j h l = reached_listed (kid img n j) (down (kid img n j) j (listed_reached n h) l refl)

  -- ---- which entries name an inode

  -- what an entry names is named
  pub named_some : (n m j : ℕ) → Reached img n → j < kids img n → kid img n j ≡ m → 0 < naming img w.inodes m
  named_some n m j r l e =
      omega (arith, names_some img n m j l e, sum_on_term (λ x. times_named img x m) n w.inodes (reached_listed n r))

  -- and what is named is reached; all that are reached are so, but the root
  pub naming_reached : (m : ℕ) → 0 < naming img w.inodes m → Reached img m
  naming_reached m h =
      let a = sum_on_pos (λ n. times_named img n m) w.inodes h in
      let b = sum_to_pos (λ j. δ (kid img a.0 j) m) (kids img a.0) a.2 in
      down m b.0 (listed_reached a.0 a.1) b.1 (δ_pos (kid img a.0 b.0) m b.2)

  pub reached_named : (m : ℕ) → Reached img m → (m ≡ 1) ⊎ (0 < naming img w.inodes m)
  reached_named m root = ◌⊎◌.inl refl
  reached_named m (down {n} k j r l e) = ◌⊎◌.inr (named_some n m j r l e)

  -- "one entry at most names a given directory"
  pub dir_named : (m : ℕ) → Reached img m → kind img m ≡ 2 → naming img w.inodes m ≤ 1
  dir_named m r d = omega (arith, w.tree.named m r d)

  pub dir_one_parent : (n k m j i : ℕ) → Reached img n → Reached img k → j < kids img n → i < kids img k → kid img n j ≡ m → kid img k i ≡ m
      → kind img m ≡ 2 → (n ≡ k) × (j ≡ i)
  dir_one_parent n k m j i rn rk lj li ej ei d = (parent, place)
    where
      one : naming img w.inodes m ≤ 1
      one = dir_named m (down m j rn lj ej) d

      parent : n ≡ k
      parent = go (ℕ_discrete n k)
        where
          go : Dec (n ≡ k) → n ≡ k
          go (yes e) = e
          go (no f) =
              absurd (omega (
                arith,
                one,
                names_some img n m j lj ej,
                names_some img k m i li ei,
                sum_on_two (λ x. times_named img x m) w.inodes n k f (reached_listed n rn) (reached_listed k rk),
              ))

      place : j ≡ i
      place = go (ℕ_discrete j i)
        where
          lj' : j < kids img k
          lj' = subst (λ (x : ℕ). j < kids img x) parent lj

          go : Dec (j ≡ i) → j ≡ i
          go (yes e) = e
          go (no f) =
              absurd (omega (
                arith,
                one,
                sum_to_apart (λ x. δ (kid img k x) m) (kids img k) j i f lj' li,
                δ_same (kid img k j) m (ap (λ (x : ℕ). kid img x j) (sym parent) ∙ ej),
                δ_same (kid img k i) m ei,
                sum_on_term (λ x. times_named img x m) k w.inodes (reached_listed k rk),
              ))

  -- "and none names the root"
  pub unnamed_root : (n j : ℕ) → Reached img n → j < kids img n → kid img n j ≡ 1 → ⊥
  unnamed_root n j r l e = omega (arith, w.tree.named 1 root w.tree.root_dir, δ_same 1 1 refl, named_some n 1 j r l e)

-- ---- a card has one listing, but for its order

module _ (img : List ℕ) (w v : Whole img) where
  pub listing_unique : (n : ℕ) → cnt n w.inodes ≡ cnt n v.inodes
  listing_unique n = go (dec_lt 0 (cnt n w.inodes))
    where
      go : Dec (0 < cnt n w.inodes) → cnt n w.inodes ≡ cnt n v.inodes
      go (yes h) = reached_once img w n (listed_reached img w n h) ∙ sym (reached_once img v n (listed_reached img w n h))
      go (no h) =
          let z : cnt n w.inodes ≡ 0 = omega arith in
          z ∙ sym (unreached_unlisted img v n (λ r. omega (arith, reached_listed img w n r)))

  -- so every sum over it is the same
  pub listing_sums : (f : ℕ → ℕ) → sum_on f w.inodes ≡ sum_on f v.inodes
  listing_sums f =
      omega (
        arith,
        sum_on_sub f w.inodes v.inodes (λ m. omega (arith, listing_unique m)),
        sum_on_sub f v.inodes w.inodes (λ m. omega (arith, listing_unique m)),
      )
