-- A change of one directory's entries takes a tree to a tree: the general step. `img` is the card before, `out` the card after, l the inodes before, c the
-- inode whose names come and go. All is by counts, so it does not matter where in a directory an entry is put. Assumes nothing.
use mathlib.Core.Path.{◌≡◌, refl, sym, ap, ◌∙◌, subst}
use mathlib.Core.List.{List}
use mathlib.Core.Logic.{◌⊎◌, ⊎_elim, ◌≢◌}
use Prim.Native.Nat.{ℕ, ◌+◌, ◌≤◌, ◌<◌}
use native.Mathlib.Omega.{arith}
use native.Mathlib.Decide.{ℕ_discrete}
use Rattle.words.specs.Sums.{δ, cnt}
use Rattle.words.proofs.Sums.{δ_same, δ_other, sum_on_term, sum_on_cong, sum_on_point, sum_on_pos}
use Rattle.card_layout.specs.Inode.{kind, links}
use Rattle.card_rules.specs.View.{entry, times_named, subs, naming}
use Rattle.card_rules.specs.Whole.{Reached, root, down, Inode, Dir, Tree}
use Rattle.card_rules.proofs.Views.{kids_of_other}
use Rattle.card_rules.specs.Same.{SameFile}
use Rattle.card_rules.proofs.Frames.{kind_is, links_is, entry_is, dir_is, names_is}
use Rattle.card_rules.proofs.Tree.{names_some}
use Rattle.law_tree.proofs.Counts.{TreeBy, tree_to, tree_from, reached_in, reached_names, names_none, if_dir, dir_counts, other_none, none_none, subs_change}

-- ---- the general step

-- what the rules on an inode n need, where children other than c stay
pub record Stays (img out : List ℕ) (c n : ℕ) : Type 0 where
  pub kind_same : kind out n ≡ kind img n
  pub names_same : (m : ℕ) → m ≢ c → times_named out n m ≡ times_named img n m
  pub dir : kind img n ≡ 2 → Dir out n
  pub up : kind img n ≡ 2 → entry out n 1 ≡ entry img n 1
  pub file_links : kind img n ≢ 2 → links out n ≡ links img n
  pub dir_links : kind img n ≡ 2 → links out n + if_dir (kind img c) (times_named img n c) ≡ links img n + if_dir (kind out c) (times_named out n c)

-- the rules on c itself, on the card after
pub record Sits (out l : List ℕ) (c : ℕ) : Type 0 where
  pub reached : Reached out c
  pub dir : kind out c ≡ 2 → Dir out c
  pub up : (n : ℕ) → 0 < cnt n l → 0 < times_named out n c → kind out c ≡ 2 → entry out c 1 ≡ n
  pub named : kind out c ≡ 2 → δ 1 c + naming out l c ≡ 1
  pub file_links : kind out c ≢ 2 → links out c ≡ naming out l c
  pub dir_links : kind out c ≡ 2 → links out c ≡ 2 + subs out c

module _ {img out l : List ℕ} {c : ℕ} (b : TreeBy img l) (stays : (n : ℕ) → 0 < cnt n l → n ≢ c → Stays img out c n)
    (through : (m : ℕ) → 0 < cnt c l → 0 < times_named img c m → Reached out c × (0 < times_named out c m)) where
  -- who was reached is reached, where c is too if a way led through it
  pub reach : (m : ℕ) → m ≢ c → Reached img m → Reached out m
  reach m d root = root
  reach m d (down {n} k j r h e) = go (λ q. reach n q r) (ℕ_discrete n c)
    where
      some : 0 < times_named img n m
      some = names_some img n m j h e

      go : (n ≢ c → Reached out n) → Dec (n ≡ c) → Reached out m
      go w (yes q) =
          let a = through m (subst (λ (x : ℕ). 0 < cnt x l) q (reached_in b n r)) (subst (λ (x : ℕ). 0 < times_named img x m) q some) in
          reached_names m a.0 a.1
      go w (no q) = reached_names m (w q) (omega (arith, some, (stays n (reached_in b n r) q).names_same m d))

-- l is the listing before, k the one after: they are the same but for c
module _ {img out l k : List ℕ} {c : ℕ} (b : TreeBy img l) (root-not : 1 ≢ c) (listed : (n : ℕ) → n ≢ c → cnt n k ≡ cnt n l) (once : cnt c k ≤ 1)
    (stays : (n : ℕ) → 0 < cnt n l → n ≢ c → Stays img out c n)
    (through : (m : ℕ) → 0 < cnt c l → 0 < times_named img c m → Reached out c × (0 < times_named out c m))
    (row : (m : ℕ) → 0 < cnt c k → 0 < times_named out c m → (0 < cnt c l) × (0 < times_named img c m))
    (kept : (m : ℕ) → m ≢ c → naming out k m ≡ naming img l m)
    (inside : (n : ℕ) → 0 < cnt n k → 0 < times_named out n c → 0 < cnt c k) (sits : 0 < cnt c k → Sits out k c) where
  -- one listed after is c, or was listed
  either : (P : ℕ → Type 0) (n : ℕ) → 0 < cnt n k → (0 < cnt c k → P c) → (n ≢ c → 0 < cnt n l → P n) → P n
  either P n h f g = go (ℕ_discrete n c)
    where
      go : Dec (n ≡ c) → P n
      go (yes q) = subst P (sym q) (f (subst (λ (x : ℕ). 0 < cnt x k) q h))
      go (no q) = g q (omega (arith, listed n q))

  -- a child other than c was one
  edge : (n m : ℕ) → m ≢ c → 0 < cnt n k → 0 < times_named out n m → (0 < cnt n l) × (0 < times_named img n m)
  edge n m d h =
      either (λ (x : ℕ). 0 < times_named out x m → (0 < cnt x l) × (0 < times_named img x m)) n h (row m)
      (λ q i e. (i, omega (arith, (stays n i q).names_same m d)))

  kind_was : (n : ℕ) → n ≢ c → 0 < cnt n l → kind out n ≡ 2 → kind img n ≡ 2
  kind_was n d i e = sym (stays n i d).kind_same ∙ e

  pub tree_step : Tree out k
  tree_step =
      tree_from
      record {
        once = λ n. one n (ℕ_discrete n c);
        root_in = omega (arith, listed 1 root-not, b.root_in);
        closed = λ n m h e. closed n m h e (ℕ_discrete m c);
        only = λ n h. either (Reached out) n h (λ i. (sits i).reached) (λ d i. reach b stays through n d (b.only n i));
        root_dir = (stays 1 b.root_in root-not).kind_same ∙ b.root_dir;
        dir = λ n h.
            either (λ (x : ℕ). kind out x ≡ 2 → Dir out x) n h (λ i. (sits i).dir) (λ d i e. (stays n i d).dir (kind_was n d i e));
        root_up = (stays 1 b.root_in root-not).up b.root_dir ∙ b.root_up;
        up = λ n m h e z. up n m h e z (ℕ_discrete m c);
        named = λ n h.
            either (λ (x : ℕ). kind out x ≡ 2 → δ 1 x + naming out k x ≡ 1) n h (λ i. (sits i).named)
            (λ d i e. rw (kept n d) (b.named n i (kind_was n d i e)));
        file_links = λ n h.
            either (λ (x : ℕ). kind out x ≢ 2 → links out x ≡ naming out k x) n h (λ i. (sits i).file_links)
            (λ d i e.
            let f : kind img n ≢ 2 = λ q. e ((stays n i d).kind_same ∙ q) in
            (stays n i d).file_links f ∙ b.file_links n i f ∙ sym (kept n d));
        dir_links = λ n h.
            either (λ (x : ℕ). kind out x ≡ 2 → links out x ≡ 2 + subs out x) n h (λ i. (sits i).dir_links)
            (λ d i e. dir_links n d i (kind_was n d i e));
      }
    where
      one : (n : ℕ) → Dec (n ≡ c) → cnt n k ≤ 1
      one n (yes q) = subst (λ (x : ℕ). cnt x k ≤ 1) (sym q) once
      one n (no q) = omega (arith, listed n q, b.once n)

      closed : (n m : ℕ) → 0 < cnt n k → 0 < times_named out n m → Dec (m ≡ c) → 0 < cnt m k
      closed n m h e (yes q) = subst (λ (x : ℕ). 0 < cnt x k) (sym q) (inside n h (subst (λ (x : ℕ). 0 < times_named out n x) q e))
      closed n m h e (no q) = let a = edge n m q h e in omega (arith, listed m q, b.closed n m a.0 a.1)

      up : (n m : ℕ) → 0 < cnt n k → 0 < times_named out n m → kind out m ≡ 2 → Dec (m ≡ c) → entry out m 1 ≡ n
      up n m h e z (yes q) =
          let e' : 0 < times_named out n c = subst (λ (x : ℕ). 0 < times_named out n x) q e in
          ap (λ (x : ℕ). entry out x 1) q ∙ (sits (inside n h e')).up n h e' (ap (kind out) (sym q) ∙ z)
      up n m h e z (no q) =
          let a = edge n m q h e in
          let i : 0 < cnt m l = b.closed n m a.0 a.1 in
          (stays m i q).up (kind_was m q i z) ∙ b.up n m a.0 a.1 (kind_was m q i z)

      dir_links : (n : ℕ) → n ≢ c → 0 < cnt n l → kind img n ≡ 2 → links out n ≡ 2 + subs out n
      dir_links n d i e =
          omega (
            arith,
            (stays n i d).dir_links e,
            b.dir_links n i e,
            subs_change img out n c (stays n i d).names_same (λ m f g. (stays m (b.closed n m i g) f).kind_same),
          )

-- ---- what a call says of the inodes that it touches, and of the others

-- a directory whose children change
pub record Parent (img out : List ℕ) (p : ℕ) : Type 0 where
  pub was : kind img p ≡ 2
  pub still : kind out p ≡ 2
  pub dir : Dir out p
  pub up : entry out p 1 ≡ entry img p 1

pub stays_parent : {img out : List ℕ} {p c : ℕ} → Parent img out p → ((m : ℕ) → m ≢ c → times_named out p m ≡ times_named img p m)
    → links out p + if_dir (kind img c) (times_named img p c) ≡ links img p + if_dir (kind out c) (times_named out p c) → Stays img out c p
stays_parent a e f =
    record {
      kind_same = a.still ∙ sym a.was;
      names_same = e;
      dir = λ _. a.dir;
      up = λ _. a.up;
      file_links = λ d. absurd (d a.was);
      dir_links = λ _. f;
    }

module _ {img out l : List ℕ} (b : TreeBy img l) (inode : (n : ℕ) → 0 < cnt n l → Inode img n) where
  -- an inode that is not touched, where c has no name in it or is of its old kind
  stays_file : (n c : ℕ) → 0 < cnt n l → SameFile img out n → (times_named img n c ≡ 0) ⊎ (kind out c ≡ kind img c) → Stays img out c n
  stays_file n c h s e =
      record {
        kind_same = kind_is s.slots.rec;
        names_same = λ m _. names_is s (inode n h) m;
        dir = λ k. dir_is s (inode n h) (b.dir n h k);
        up = λ k. entry_is s (inode n h) 1 (omega (arith, (b.dir n h k).least));
        file_links = λ _. links_is s.slots.rec;
        dir_links = λ _. omega (arith, links_is s.slots.rec, ap (if_dir (kind out c)) (names_is s (inode n h) c), balance);
      }
    where
      balance : if_dir (kind img c) (times_named img n c) ≡ if_dir (kind out c) (times_named img n c)
      balance =
          ⊎_elim
          (λ z. none_none (kind img c) (times_named img n c) z ∙ sym (none_none (kind out c) (times_named img n c) z))
          (λ q. ap (λ (x : ℕ). if_dir x (times_named img n c)) (sym q))
          e

  -- all but c, where p and t alone are touched
  module _ {p t c : ℕ} (p_stays : Stays img out c p) (t-stays : Stays img out c t)
      (others : (n : ℕ) → 0 < cnt n l → n ≢ p → n ≢ t → n ≢ c → SameFile img out n)
      (quiet : (n : ℕ) → 0 < cnt n l → n ≢ p → n ≢ t → (times_named img n c ≡ 0) ⊎ (kind out c ≡ kind img c)) where
    pub all_stay : (n : ℕ) → 0 < cnt n l → n ≢ c → Stays img out c n
    all_stay n h d = go (ℕ_discrete n p) (ℕ_discrete n t)
      where
        go : Dec (n ≡ p) → Dec (n ≡ t) → Stays img out c n
        go (yes q) r = subst (Stays img out c) (sym q) p_stays
        go (no q) (yes r) = subst (Stays img out c) (sym r) t-stays
        go (no q) (no r) = stays_file n c h (others n h q r d) (quiet n h q r)

-- one more or one less c leaves the others
pub same_more : (m c x y : ℕ) → m ≢ c → x ≡ y + δ c m → x ≡ y
same_more m c x y d e = omega (arith, δ_other c m (λ q. d (sym q)))

pub same_less : (m c x y : ℕ) → m ≢ c → x + δ c m ≡ y → x ≡ y
same_less m c x y d e = omega (arith, δ_other c m (λ q. d (sym q)))

pub one_more : (c x y : ℕ) → x ≡ y + δ c c → x ≡ y + 1
one_more c x y e = omega (arith, δ_same c c refl)

pub one_less : (c x y : ℕ) → x + δ c c ≡ y → x + 1 ≡ y
one_less c x y e = omega (arith, δ_same c c refl)

pub apart_listed : (l : List ℕ) (c : ℕ) → cnt c l ≡ 0 → (n : ℕ) → 0 < cnt n l → n ≢ c
apart_listed l c z n h = λ q. omega (arith, ap (λ (x : ℕ). cnt x l) q)

-- links u and v that follow the names x and y of a directory
pub by_kind : (k x y u v : ℕ) → (k ≡ 2 → u + x ≡ v + y) → (k ≢ 2 → u ≡ v) → u + if_dir k x ≡ v + if_dir k y
by_kind k x y u v f g = go (ℕ_discrete k 2)
  where
    go : Dec (k ≡ 2) → u + if_dir k x ≡ v + if_dir k y
    go (yes e) = omega (arith, f e, dir_counts k x e, dir_counts k y e)
    go (no d) = omega (arith, g d, other_none k x d, other_none k y d)

-- none names the root
pub named_not_root : {img l : List ℕ} → TreeBy img l → (n c : ℕ) → 0 < cnt n l → 0 < times_named img n c → 1 ≢ c
named_not_root {img} {l} b n c h e = λ q.
    omega (
      arith,
      b.named 1 b.root_in b.root_dir,
      δ_same 1 1 refl,
      sum_on_term (λ x. times_named img x 1) n l h,
      ap (times_named img n) q,
    )

-- ---- a name more, or less, for what is no directory

-- c is no directory before and after, and has names left: the rest is by its count
module _ {img out l : List ℕ} {c : ℕ} (tree : Tree img l) (c_in : 0 < cnt c l) (was : kind img c ≢ 2) (still : kind out c ≢ 2)
    (stays : (n : ℕ) → 0 < cnt n l → n ≢ c → Stays img out c n) (linked : links out c ≡ naming out l c) (left : 0 < naming out l c) where
  leaf_by : TreeBy img l
  leaf_by = tree_to tree

  none_out : (m : ℕ) → times_named out c m ≡ 0
  none_out m = names_none out c (kids_of_other out c still) m

  none_img : (m : ℕ) → times_named img c m ≡ 0
  none_img m = names_none img c (kids_of_other img c was) m

  leaf_through : (m : ℕ) → 0 < cnt c l → 0 < times_named img c m → Reached out c × (0 < times_named out c m)
  leaf_through m h e = absurd (omega (arith, none_img m))

  leaf_reached : Reached out c
  leaf_reached = go (sum_on_pos (λ n. times_named out n c) l left)
    where
      go : (n : ℕ) × (0 < cnt n l) × (0 < times_named out n c) → Reached out c
      go (n, h, e) =
          reached_names c
          (reach leaf_by stays leaf_through n (λ q. omega (arith, e, none_out c, ap (λ (x : ℕ). times_named out x c) q)) (tree.only n h)) e

  pub tree_leaf : Tree out l
  tree_leaf =
      tree_step leaf_by (λ q. was (ap (kind img) (sym q) ∙ tree.root_dir)) (λ n d. refl) (leaf_by.once c) stays leaf_through
      (λ m h e. absurd (omega (arith, none_out m)))
      (λ m d. sum_on_cong (λ n. times_named out n m) (λ n. times_named img n m) l (λ n h. each n m h d (ℕ_discrete n c)))
      (λ n h e. c_in)
      (λ h.
      record {
        reached = leaf_reached;
        dir = λ e. absurd (still e);
        up = λ n i e k. absurd (still k);
        named = λ e. absurd (still e);
        file_links = λ d. linked;
        dir_links = λ e. absurd (still e);
      })
    where
      each : (n m : ℕ) → 0 < cnt n l → m ≢ c → Dec (n ≡ c) → times_named out n m ≡ times_named img n m
      each n m h d (yes q) = subst (λ (x : ℕ). times_named out x m ≡ times_named img x m) (sym q) (none_out m ∙ sym (none_img m))
      each n m h d (no q) = (stays n h q).names_same m d

-- c, of which directory p has a name more or less
pub record Linking (img out l : List ℕ) (p c : ℕ) : Type 0 where
  pub p_in : 0 < cnt p l
  pub c_in : 0 < cnt c l
  pub parent : Parent img out p
  pub parent_links : links out p ≡ links img p
  pub no_dir : kind img c ≢ 2
  pub kind_same : kind out c ≡ kind img c
  pub others : (n : ℕ) → 0 < cnt n l → n ≢ p → n ≢ c → SameFile img out n

module _ {img out l : List ℕ} {p c : ℕ} (tree : Tree img l) (inode : (n : ℕ) → 0 < cnt n l → Inode img n) where
  pub tree_linking : Linking img out l p c → ((m : ℕ) → m ≢ c → times_named out p m ≡ times_named img p m)
      → links out c + times_named img p c ≡ links img c + times_named out p c → 0 < links out c → Tree out l
  tree_linking a same change left = tree_leaf tree a.c_in a.no_dir now stays linked (omega (arith, linked, left))
    where
      b : TreeBy img l
      b = tree_to tree

      now : kind out c ≢ 2
      now = λ e. a.no_dir (sym a.kind_same ∙ e)

      p_stays : Stays img out c p
      p_stays =
          stays_parent a.parent same
          (rw a.kind_same
          (by_kind (kind img c) (times_named img p c) (times_named out p c) (links out p) (links img p) (λ e. absurd (a.no_dir e)) (λ d. a.parent_links)))

      stays : (n : ℕ) → 0 < cnt n l → n ≢ c → Stays img out c n
      stays = all_stay b inode p_stays p_stays (λ n h d _ e. a.others n h d e) (λ n h _ _. ◌⊎◌.inr a.kind_same)

      each : (n : ℕ) → 0 < cnt n l → n ≢ p → Dec (n ≡ c) → times_named out n c ≡ times_named img n c
      each n h d (yes q) =
          subst (λ (x : ℕ). times_named out x c ≡ times_named img x c) (sym q)
          (names_none out c (kids_of_other out c now) c ∙ sym (names_none img c (kids_of_other img c a.no_dir) c))
      each n h d (no q) = names_is (a.others n h d q) (inode n h) c

      linked : links out c ≡ naming out l c
      linked =
          omega (
            arith,
            change,
            b.file_links c a.c_in a.no_dir,
            sum_on_point (λ n. times_named img n c) (λ n. times_named out n c) l p (omega (arith, b.once p, a.p_in))
                (λ n h d. each n h d (ℕ_discrete n c)),
          )
