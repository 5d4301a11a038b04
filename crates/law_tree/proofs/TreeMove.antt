-- Another name in the same place, and a move to another directory, take a tree to a tree (`TreeStep` has the letters). Assumes nothing.
use mathlib.Core.Path.{◌≡◌, refl, sym, ◌∙◌, subst}
use mathlib.Core.List.{List}
use mathlib.Core.Logic.{◌⊎◌, ◌≢◌}
use Prim.Native.Nat.{ℕ, suc, ◌+◌, ◌<◌}
use native.Mathlib.Omega.{arith}
use native.Mathlib.Decide.{dec_lt, ℕ_discrete}
use Rattle.words.specs.Sums.{δ, sum_on, cnt}
use Rattle.words.proofs.Sums.{δ_same, δ_other, sum_on_term, sum_on_cong, sum_on_two, sum_on_add}
use Rattle.card_layout.specs.Inode.{kind, links}
use Rattle.card_rules.specs.View.{entry, times_named, subs, naming}
use Rattle.card_rules.specs.Whole.{Reached, root, Inode, Dir, Tree}
use Rattle.card_rules.specs.Same.{SameFile}
use Rattle.card_rules.proofs.Frames.{kind_is, links_is, names_is}
use Rattle.law_tree.proofs.Counts.{TreeBy, tree_to, reached_in, reached_names, reached_cases, names_dir, dir_counts, none_none, subs_change, unlisted_unnamed}
use Rattle.law_tree.proofs.TreeStep.{Stays, Parent, tree_step, stays_parent, all_stay, same_more, same_less, one_more, one_less, apart_listed, by_kind, named_not_root, tree_leaf}

-- ---- another name in the same place

pub record Rename (img out l : List ℕ) (p : ℕ) : Type 0 where
  pub p_in : 0 < cnt p l
  pub parent : Parent img out p
  pub parent_links : links out p ≡ links img p
  pub same : (m : ℕ) → times_named out p m ≡ times_named img p m
  pub others : (n : ℕ) → 0 < cnt n l → n ≢ p → SameFile img out n

module _ {img out l : List ℕ} {p : ℕ} (tree : Tree img l) (inode : (n : ℕ) → 0 < cnt n l → Inode img n) (a : Rename img out l p) where
  -- no c: a number past all that are listed
  past : ℕ
  past = suc (sum_on (λ x. x) l)

  past_not : cnt past l ≡ 0
  unfolding past
  past_not = go (dec_lt 0 (cnt (suc (sum_on (λ x. x) l)) l))
    where
      go : Dec (0 < cnt (suc (sum_on (λ x. x) l)) l) → cnt (suc (sum_on (λ x. x) l)) l ≡ 0
      go (yes h) = absurd (omega (arith, sum_on_term (λ x. x) (suc (sum_on (λ x. x) l)) l h))
      go (no h) = omega arith

  keeps_by : TreeBy img l
  keeps_by = tree_to tree

  none_past : (n : ℕ) → 0 < cnt n l → times_named img n past ≡ 0
  none_past n h = unlisted_unnamed keeps_by n past past_not h

  none_past_after : (n : ℕ) → 0 < cnt n l → Dec (n ≡ p) → times_named out n past ≡ 0
  none_past_after n h (yes q) = subst (λ (x : ℕ). times_named out x past ≡ times_named img x past) (sym q) (a.same past) ∙ none_past n h
  none_past_after n h (no q) = names_is (a.others n h q) (inode n h) past ∙ none_past n h

  keeps_parent : Stays img out past p
  keeps_parent =
      stays_parent a.parent (λ m d. a.same m)
      (omega (
        arith,
        a.parent_links,
        none_none (kind img past) (times_named img p past) (none_past p a.p_in),
        none_none (kind out past) (times_named out p past) (none_past_after p a.p_in (yes refl)),
      ))

  keeps : (n : ℕ) → 0 < cnt n l → n ≢ past → Stays img out past n
  keeps = all_stay keeps_by inode keeps_parent keeps_parent (λ n h d _ _. a.others n h d) (λ n h _ _. ◌⊎◌.inl (none_past n h))

  pub tree_rename : Tree out l
  tree_rename =
      tree_step keeps_by (apart_listed l past past_not 1 keeps_by.root_in) (λ n d. refl) (keeps_by.once past) keeps
      (λ m h. absurd (omega (arith, past_not)))
      (λ m h. absurd (omega (arith, past_not)))
      (λ m d.
      sum_on_cong (λ n. times_named out n m) (λ n. times_named img n m) l (λ n h. (keeps n h (apart_listed l past past_not n h)).names_same m d))
      (λ n h e. absurd (omega (arith, none_past_after n h (ℕ_discrete n p)))) (λ h. absurd (omega (arith, past_not)))

-- ---- a name from one directory to another

-- the way up from a directory by ".." does not meet c
pub data Above (img : List ℕ) (c : ℕ) : ℕ → Type 0 where
  top : 1 ≢ c → Above img c 1
  next : {x : ℕ} → x ≢ c → Above img c (entry img x 1) → Above img c x

pub record MovedFile (img out : List ℕ) (p t c : ℕ) : Type 0 where
  pub same : SameFile img out c
  pub from-links : links out p ≡ links img p
  pub to_links : links out t ≡ links img t

pub record MovedDir (img out : List ℕ) (p t c : ℕ) : Type 0 where
  pub kind_same : kind out c ≡ kind img c
  pub links_same : links out c ≡ links img c
  pub names_same : (m : ℕ) → times_named out c m ≡ times_named img c m
  pub dir : Dir out c
  pub up : entry out c 1 ≡ t
  pub from-links : links out p + 1 ≡ links img p
  pub to_links : links out t ≡ links img t + 1
  pub away : Above img c t

pub record Move (img out l : List ℕ) (p t c : ℕ) : Type 0 where
  pub p_in : 0 < cnt p l
  pub t_in : 0 < cnt t l
  pub c_in : 0 < cnt c l
  pub p_not_t : p ≢ t
  pub c_not_p : c ≢ p
  pub c_not_t : c ≢ t
  pub from : Parent img out p
  pub to : Parent img out t
  pub less : (m : ℕ) → times_named out p m + δ c m ≡ times_named img p m
  pub more : (m : ℕ) → times_named out t m ≡ times_named img t m + δ c m
  pub others : (n : ℕ) → 0 < cnt n l → n ≢ p → n ≢ t → n ≢ c → SameFile img out n
  pub file : kind img c ≢ 2 → MovedFile img out p t c
  pub dir : kind img c ≡ 2 → MovedDir img out p t c

module _ {img out l : List ℕ} {p t c : ℕ} (tree : Tree img l) (inode : (n : ℕ) → 0 < cnt n l → Inode img n) (a : Move img out l p t c) where
  move_by : TreeBy img l
  move_by = tree_to tree

  gave : times_named out p c + 1 ≡ times_named img p c
  gave = one_less c (times_named out p c) (times_named img p c) (a.less c)

  got : times_named out t c ≡ times_named img t c + 1
  got = one_more c (times_named out t c) (times_named img t c) (a.more c)

  -- file or directory, c is of its old kind and has its old children
  move_kind : kind out c ≡ kind img c
  move_kind = go (ℕ_discrete (kind img c) 2)
    where
      go : Dec (kind img c ≡ 2) → kind out c ≡ kind img c
      go (yes e) = (a.dir e).kind_same
      go (no d) = kind_is (a.file d).same.slots.rec

  move_names : (m : ℕ) → times_named out c m ≡ times_named img c m
  move_names = go (ℕ_discrete (kind img c) 2)
    where
      go : Dec (kind img c ≡ 2) → (m : ℕ) → times_named out c m ≡ times_named img c m
      go (yes e) = (a.dir e).names_same
      go (no d) = names_is (a.file d).same (inode c a.c_in)

  -- it is named as often
  each_name : (n : ℕ) → 0 < cnt n l → times_named out n c + δ p n ≡ times_named img n c + δ t n
  each_name n h = go (ℕ_discrete n p) (ℕ_discrete n t) (ℕ_discrete n c)
    where
      go : Dec (n ≡ p) → Dec (n ≡ t) → Dec (n ≡ c) → times_named out n c + δ p n ≡ times_named img n c + δ t n
      go (yes q) r s =
          subst (λ (x : ℕ). times_named out x c + δ p x ≡ times_named img x c + δ t x) (sym q)
          (omega (arith, gave, δ_same p p refl, δ_other t p (λ e. a.p_not_t (sym e))))
      go (no q) (yes r) s =
          subst (λ (x : ℕ). times_named out x c + δ p x ≡ times_named img x c + δ t x) (sym r)
          (omega (arith, got, δ_other p t a.p_not_t, δ_same t t refl))
      go (no q) (no r) (yes s) =
          subst (λ (x : ℕ). times_named out x c + δ p x ≡ times_named img x c + δ t x) (sym s)
          (omega (arith, move_names c, δ_other p c (λ e. a.c_not_p (sym e)), δ_other t c (λ e. a.c_not_t (sym e))))
      go (no q) (no r) (no s) =
          omega (arith, names_is (a.others n h q r s) (inode n h) c, δ_other p n (λ e. q (sym e)), δ_other t n (λ e. r (sym e)))

  move_naming : naming out l c ≡ naming img l c
  move_naming =
      omega (
        arith,
        sum_on_cong (λ n. times_named out n c + δ p n) (λ n. times_named img n c + δ t n) l each_name,
        sum_on_add (λ n. times_named out n c) (δ p) (λ n. times_named out n c + δ p n) l (λ n. refl),
        sum_on_add (λ n. times_named img n c) (δ t) (λ n. times_named img n c + δ t n) l (λ n. refl),
        tree.all p (tree.only p a.p_in),
        tree.all t (tree.only t a.t_in),
      )

  move_from : Stays img out c p
  move_from =
      stays_parent a.from (λ m d. same_less m c (times_named out p m) (times_named img p m) d (a.less m))
      (rw move_kind
      (by_kind (kind img c) (times_named img p c) (times_named out p c) (links out p) (links img p) (λ e. omega (arith, (a.dir e).from-links, gave))
      (λ d. (a.file d).from-links)))

  move_to : Stays img out c t
  move_to =
      stays_parent a.to (λ m d. same_more m c (times_named out t m) (times_named img t m) d (a.more m))
      (rw move_kind
      (by_kind (kind img c) (times_named img t c) (times_named out t c) (links out t) (links img t) (λ e. omega (arith, (a.dir e).to_links, got))
      (λ d. (a.file d).to_links)))

  move_stays : (n : ℕ) → 0 < cnt n l → n ≢ c → Stays img out c n
  move_stays = all_stay move_by inode move_from move_to a.others (λ n h _ _. ◌⊎◌.inr move_kind)

  -- children other than c are where they were
  move_rows : (n m : ℕ) → 0 < cnt n l → m ≢ c → times_named out n m ≡ times_named img n m
  move_rows n m h d = go (ℕ_discrete n c)
    where
      go : Dec (n ≡ c) → times_named out n m ≡ times_named img n m
      go (yes q) = subst (λ (x : ℕ). times_named out x m ≡ times_named img x m) (sym q) (move_names m)
      go (no q) = (move_stays n h q).names_same m d

  -- who is not below c is reached without it
  above_reached : (x : ℕ) → Above img c x → 0 < cnt x l → kind img x ≡ 2 → Reached out x
  above_reached x (top d) h k = root
  above_reached x (next d w) h k = go (above_reached (entry img x 1) w) (reached_cases x (tree.only x h))
    where
      go : (0 < cnt (entry img x 1) l → kind img (entry img x 1) ≡ 2 → Reached out (entry img x 1))
          → (x ≡ 1) ⊎ ((n : ℕ) × Reached img n × (0 < times_named img n x)) → Reached out x
      go f (◌⊎◌.inl e) = subst (Reached out) (sym e) root
      go f (◌⊎◌.inr (n, r, s)) =
          let i : 0 < cnt n l = reached_in move_by n r in
          let e : n ≡ entry img x 1 = sym (move_by.up n x i s k) in
          let y : Reached out n =
          subst (Reached out) (sym e) (f (subst (λ (z : ℕ). 0 < cnt z l) e i) (subst (λ (z : ℕ). kind img z ≡ 2) e (names_dir img n x s))) in
          reached_names x y (omega (arith, s, move_rows n x i d))

  module _ (k : kind img c ≡ 2) where
    moved_reached : Reached out c
    moved_reached = reached_names c (above_reached t (a.dir k).away a.t_in a.to.was) (omega (arith, got))

    moved_not_root : 1 ≢ c
    moved_not_root = named_not_root move_by p c a.p_in (omega (arith, gave))

    -- t alone names it
    moved_up : (n : ℕ) → 0 < cnt n l → 0 < times_named out n c → t ≡ n
    moved_up n h e = go (ℕ_discrete t n)
      where
        go : Dec (t ≡ n) → t ≡ n
        go (yes q) = q
        go (no q) =
            absurd (omega (
              arith,
              sum_on_two (λ x. times_named out x c) l t n q a.t_in h,
              got,
              e,
              move_naming,
              move_by.named c a.c_in k,
            ))

    moved_subs : subs out c ≡ subs img c
    moved_subs =
        omega (
          arith,
          subs_change img out c c (λ m d. move_names m) (λ m d g. (move_stays m (move_by.closed c m a.c_in g) d).kind_same),
          dir_counts (kind img c) (times_named img c c) k,
          dir_counts (kind out c) (times_named out c c) (move_kind ∙ k),
          move_names c,
        )

    tree_move_dir : Tree out l
    tree_move_dir =
        tree_step move_by moved_not_root (λ n d. refl) (move_by.once c) move_stays
        (λ m h e. (moved_reached, omega (arith, e, move_names m)))
        (λ m h e. (h, omega (arith, e, move_names m)))
        (λ m d. sum_on_cong (λ n. times_named out n m) (λ n. times_named img n m) l (λ n h. move_rows n m h d))
        (λ n h e. a.c_in)
        (λ h.
        record {
          reached = moved_reached;
          dir = λ e. (a.dir k).dir;
          up = λ n i e z. (a.dir k).up ∙ moved_up n i e;
          named = λ e. omega (arith, move_naming, move_by.named c a.c_in k);
          file_links = λ d. absurd (d (move_kind ∙ k));
          dir_links = λ e. omega (arith, (a.dir k).links_same, move_by.dir_links c a.c_in k, moved_subs);
        })

  pub tree_move : Tree out l
  tree_move = go (ℕ_discrete (kind img c) 2)
    where
      go : Dec (kind img c ≡ 2) → Tree out l
      go (yes e) = tree_move_dir e
      go (no d) =
          tree_leaf tree a.c_in d (λ e. d (sym move_kind ∙ e)) move_stays
          (links_is (a.file d).same.slots.rec ∙ move_by.file_links c a.c_in d ∙ sym move_naming)
          (omega (arith, sum_on_term (λ n. times_named out n c) t l a.t_in, got))
