-- The tree of directories by counts: `names img n m`, how many children of n are m, says all that the rules ask of n's entries, whatever their order.
-- Assumes nothing.
use mathlib.Core.Path.{◌≡◌, refl, sym, ap, ◌∙◌}
use mathlib.Core.List.{List}
use mathlib.Core.Logic.{◌⊎◌, ⊎_elim, ◌≢◌}
use Prim.Native.Nat.{ℕ, ◌+◌, ◌≤◌, ◌<◌}
use native.Mathlib.Omega.{arith}
use native.Mathlib.Decide.{dec_lt, ℕ_discrete}
use borrow.Author.Tests.{eq-eqb, ne_eqb}
use lib.Dec.{eqb}
use Rattle.words.specs.Words.{pick}
use Rattle.words.specs.Sums.{δ, sum_to, cnt}
use Rattle.words.proofs.Sums.{
  δ_same,
  δ_other,
  δ_cases,
  δ_pos,
  sum_to_zero,
  sum_to_term,
  sum_to_cong,
  sum_to_none,
  sum_to_point,
  sum_to_pos,
  sum_to_swap,
  sum_to-δ,
  sum_on_pos,
}
use Rattle.card_layout.specs.Inode.{kind, links}
use Rattle.card_rules.specs.View.{entry, kids, kid, times_named, subs, naming}
use Rattle.card_rules.specs.Whole.{Reached, root, down, Dir, Tree}
use Rattle.card_rules.proofs.Views.{kids_dir}
use Rattle.card_rules.proofs.Tree.{names_some}

-- ---- who is reached, by counts

module _ (img : List ℕ) (n : ℕ) where
  pub names_pos : (m : ℕ) → 0 < times_named img n m → (j : ℕ) × (j < kids img n) × (kid img n j ≡ m)
  names_pos m h =
      let a = sum_to_pos (λ j. δ (kid img n j) m) (kids img n) h in
      (a.0, a.1, δ_pos (kid img n a.0) m a.2)

  -- who has a child is a directory
  pub names_dir : (m : ℕ) → 0 < times_named img n m → kind img n ≡ 2
  names_dir m h = let a = names_pos m h in (kids_dir img n a.0 a.1).0

  pub names_none : kids img n ≡ 0 → (m : ℕ) → times_named img n m ≡ 0
  names_none e m = ap (sum_to (λ j. δ (kid img n j) m)) e ∙ sum_to_zero (λ j. δ (kid img n j) m)

  pub subs_none : kids img n ≡ 0 → subs img n ≡ 0
  subs_none e = ap (sum_to (λ j. δ (kind img (kid img n j)) 2)) e ∙ sum_to_zero (λ j. δ (kind img (kid img n j)) 2)

pub reached_names : {img : List ℕ} {n : ℕ} (m : ℕ) → Reached img n → 0 < times_named img n m → Reached img m
reached_names {img} {n} m r h = let a = names_pos img n m h in down m a.0 r a.1 a.2

pub reached_cases : {img : List ℕ} (m : ℕ) → Reached img m → (m ≡ 1) ⊎ ((n : ℕ) × Reached img n × (0 < times_named img n m))
reached_cases m root = ◌⊎◌.inl refl
reached_cases {img} m (down {n} k j r b e) = ◌⊎◌.inr (n, r, names_some img n m j b e)

-- ---- a directory's subdirectories, by counts

-- x for a directory, else 0
abbrev pub if_dir : ℕ → ℕ → ℕ
if_dir k x = pick (eqb k 2) x 0

pub dir_counts : (k x : ℕ) → k ≡ 2 → if_dir k x ≡ x
dir_counts k x e = simp (eq-eqb k 2 e)

pub other_none : (k x : ℕ) → k ≢ 2 → if_dir k x ≡ 0
other_none k x d = simp (ne_eqb k 2 d)

pub none_none : (k x : ℕ) → x ≡ 0 → if_dir k x ≡ 0
none_none k x z = go (ℕ_discrete k 2)
  where
    go : Dec (k ≡ 2) → if_dir k x ≡ 0
    go (yes e) = dir_counts k x e ∙ z
    go (no d) = other_none k x d

-- a sum over a's values is one over all numbers, by how often each is a value
module _ (k : ℕ → ℕ) (N : ℕ) where
  one_value : (x : ℕ) → x < N → sum_to (λ m. if_dir (k m) (δ x m)) N ≡ δ (k x) 2
  one_value x l = go (ℕ_discrete (k x) 2)
    where
      go : Dec (k x ≡ 2) → sum_to (λ m. if_dir (k m) (δ x m)) N ≡ δ (k x) 2
      go (yes e) = sum_to_cong (λ m. if_dir (k m) (δ x m)) (δ x) N (λ m b. each m) ∙ sum_to-δ x N l ∙ sym (δ_same (k x) 2 e)
        where
          each : (m : ℕ) → if_dir (k m) (δ x m) ≡ δ x m
          each m = ⊎_elim (λ w. dir_counts (k m) (δ x m) (ap k (sym w.0) ∙ e)) (λ w. none_none (k m) (δ x m) w.1 ∙ sym w.1) (δ_cases x m)
      go (no d) = sum_to_none (λ m. if_dir (k m) (δ x m)) N (λ m b. each m) ∙ sym (δ_other (k x) 2 d)
        where
          each : (m : ℕ) → if_dir (k m) (δ x m) ≡ 0
          each m = ⊎_elim (λ w. other_none (k m) (δ x m) (λ e. d (ap k w.0 ∙ e))) (λ w. none_none (k m) (δ x m) w.1) (δ_cases x m)

  dir_sum : (c : ℕ) (f : ℕ → ℕ) (K : ℕ) → if_dir c (sum_to f K) ≡ sum_to (λ j. if_dir c (f j)) K
  dir_sum c f K = go (ℕ_discrete c 2)
    where
      go : Dec (c ≡ 2) → if_dir c (sum_to f K) ≡ sum_to (λ j. if_dir c (f j)) K
      go (yes e) = dir_counts c (sum_to f K) e ∙ sum_to_cong f (λ j. if_dir c (f j)) K (λ j l. sym (dir_counts c (f j) e))
      go (no d) = other_none c (sum_to f K) d ∙ sym (sum_to_none (λ j. if_dir c (f j)) K (λ j l. other_none c (f j) d))

  by_values : (a : ℕ → ℕ) (K : ℕ) → ((j : ℕ) → j < K → a j < N)
      → sum_to (λ j. δ (k (a j)) 2) K ≡ sum_to (λ m. if_dir (k m) (sum_to (λ j. δ (a j) m) K)) N
  by_values a K h =
      sum_to_cong (λ j. δ (k (a j)) 2) (λ j. sum_to (λ m. if_dir (k m) (δ (a j) m)) N) K (λ j l. sym (one_value (a j) (h j l)))
      ∙ sum_to_swap (λ j m. if_dir (k m) (δ (a j) m)) K N
      ∙ sum_to_cong (λ m. sum_to (λ j. if_dir (k m) (δ (a j) m)) K) (λ m. if_dir (k m) (sum_to (λ j. δ (a j) m) K)) N
      (λ m l. sym (dir_sum (k m) (λ j. δ (a j) m) K))

-- the children of n but c are as many as they were, and of the same kinds: so subdirectories change as c does
module _ (img out : List ℕ) (n c : ℕ) (same : (m : ℕ) → m ≢ c → times_named out n m ≡ times_named img n m)
    (kinds : (m : ℕ) → m ≢ c → 0 < times_named img n m → kind out m ≡ kind img m) where
  -- past every child, and c
  abbrev N : ℕ
  N = 1 + c + sum_to (kid img n) (kids img n) + sum_to (kid out n) (kids out n)

  pub subs_change : subs out n + if_dir (kind img c) (times_named img n c) ≡ subs img n + if_dir (kind out c) (times_named out n c)
  subs_change =
      omega (
        arith,
        by_values (kind img) N (kid img n) (kids img n) (λ j l. omega (arith, sum_to_term (kid img n) (kids img n) j l)),
        by_values (kind out) N (kid out n) (kids out n) (λ j l. omega (arith, sum_to_term (kid out n) (kids out n) j l)),
        sum_to_point (λ m. if_dir (kind img m) (times_named img n m)) (λ m. if_dir (kind out m) (times_named out n m)) N c (omega arith) (λ m l d. each m d),
      )
    where
      each : (m : ℕ) → m ≢ c → if_dir (kind out m) (times_named out n m) ≡ if_dir (kind img m) (times_named img n m)
      each m d = go (dec_lt 0 (times_named img n m))
        where
          go : Dec (0 < times_named img n m) → if_dir (kind out m) (times_named out n m) ≡ if_dir (kind img m) (times_named img n m)
          go (yes l) = rw (kinds m d l, same m d)
          go (no l) =
              none_none (kind out m) (times_named out n m) (omega (arith, same m d))
              ∙ sym (none_none (kind img m) (times_named img n m) (omega arith))

-- ---- the rules on the tree by counts, over the listing

pub record TreeBy (img : List ℕ) (l : List ℕ) : Type 0 where
  pub once : (n : ℕ) → cnt n l ≤ 1
  pub root_in : 0 < cnt 1 l
  pub closed : (n m : ℕ) → 0 < cnt n l → 0 < times_named img n m → 0 < cnt m l
  pub only : (n : ℕ) → 0 < cnt n l → Reached img n
  pub root_dir : kind img 1 ≡ 2
  pub dir : (n : ℕ) → 0 < cnt n l → kind img n ≡ 2 → Dir img n
  pub root_up : entry img 1 1 ≡ 1
  pub up : (n m : ℕ) → 0 < cnt n l → 0 < times_named img n m → kind img m ≡ 2 → entry img m 1 ≡ n
  pub named : (n : ℕ) → 0 < cnt n l → kind img n ≡ 2 → δ 1 n + naming img l n ≡ 1
  pub file_links : (n : ℕ) → 0 < cnt n l → kind img n ≢ 2 → links img n ≡ naming img l n
  pub dir_links : (n : ℕ) → 0 < cnt n l → kind img n ≡ 2 → links img n ≡ 2 + subs img n

module _ {img l : List ℕ} (t : Tree img l) where
  listed : (n : ℕ) → Reached img n → 0 < cnt n l
  listed n r = omega (arith, t.all n r)

  pub tree_to : TreeBy img l
  tree_to =
      record {
        once = λ n. one n (dec_lt 0 (cnt n l));
        root_in = listed 1 root;
        closed = λ n m h e. listed m (reached_names m (t.only n h) e);
        only = t.only;
        root_dir = t.root_dir;
        dir = λ n h. t.dir n (t.only n h);
        root_up = t.root_up;
        up = λ n m h e d. above n m h (names_pos img n m e) d;
        named = λ n h. t.named n (t.only n h);
        file_links = λ n h. t.file_links n (t.only n h);
        dir_links = λ n h. t.dir_links n (t.only n h);
      }
    where
      one : (n : ℕ) → Dec (0 < cnt n l) → cnt n l ≤ 1
      one n (yes h) = omega (arith, t.all n (t.only n h))
      one n (no h) = omega arith

      above : (n m : ℕ) → 0 < cnt n l → (j : ℕ) × (j < kids img n) × (kid img n j ≡ m) → kind img m ≡ 2 → entry img m 1 ≡ n
      above n m h (j, b, e) d = ap (λ (x : ℕ). entry img x 1) (sym e) ∙ t.up n j (t.only n h) b (ap (kind img) e ∙ d)

module _ {img l : List ℕ} (b : TreeBy img l) where
  pub reached_in : (n : ℕ) → Reached img n → 0 < cnt n l
  reached_in n root = b.root_in
  reached_in m (down {n} k j r h e) = b.closed n m (reached_in n r) (names_some img n m j h e)

  -- who is not listed has no name
  pub unlisted_unnamed : (n m : ℕ) → cnt m l ≡ 0 → 0 < cnt n l → times_named img n m ≡ 0
  unlisted_unnamed n m z h = go (dec_lt 0 (times_named img n m))
    where
      go : Dec (0 < times_named img n m) → times_named img n m ≡ 0
      go (yes e) = absurd (omega (arith, b.closed n m h e))
      go (no e) = omega arith

  pub tree_from : Tree img l
  tree_from =
      record {
        all = λ n r. omega (arith, reached_in n r, b.once n);
        only = b.only;
        root_dir = b.root_dir;
        dir = λ n r. b.dir n (reached_in n r);
        root_up = b.root_up;
        up = λ n j r h. b.up n (kid img n j) (reached_in n r) (names_some img n (kid img n j) j h refl);
        named = λ n r. b.named n (reached_in n r);
        file_links = λ n r. b.file_links n (reached_in n r);
        dir_links = λ n r. b.dir_links n (reached_in n r);
      }

-- where none names m, it is named by none
pub naming_none : (img l : List ℕ) (m : ℕ) → ((n : ℕ) → 0 < cnt n l → times_named img n m ≡ 0) → naming img l m ≡ 0
naming_none img l m h = go (dec_lt 0 (naming img l m))
  where
    go : Dec (0 < naming img l m) → naming img l m ≡ 0
    go (yes q) = let a = sum_on_pos (λ n. times_named img n m) l q in absurd (omega (arith, h a.0 a.1, a.2))
    go (no q) = omega arith
