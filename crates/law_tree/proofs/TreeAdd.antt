-- A name for a new inode, and one more name for what is no directory, take a tree to a tree (`TreeStep` has the letters). Assumes nothing.
use mathlib.Core.Path.{◌≡◌, refl, sym, ap, ◌∙◌}
use mathlib.Core.List.{List, ◌∷◌}
use mathlib.Core.Logic.{◌⊎◌, ◌≢◌}
use Prim.Native.Nat.{ℕ, ◌+◌, ◌<◌}
use native.Mathlib.Omega.{arith}
use native.Mathlib.Decide.{ℕ_discrete}
use Rattle.words.specs.Sums.{δ, cnt}
use Rattle.words.proofs.Sums.{δ_same, δ_other, sum_on_cons, sum_on_cong, sum_on_point}
use Rattle.card_layout.specs.Inode.{kind, links}
use Rattle.card_rules.specs.View.{entry, entries, kids, times_named, naming}
use Rattle.card_rules.specs.Whole.{Inode, Dir, Tree}
use Rattle.card_rules.proofs.Views.{kids_of_dir, kids_of_other}
use Rattle.card_rules.specs.Same.{SameFile}
use Rattle.card_rules.proofs.Frames.{names_is}
use Rattle.law_tree.proofs.Counts.{TreeBy, tree_to, reached_names, names_none, subs_none, if_dir, dir_counts, other_none, none_none, unlisted_unnamed, naming_none}
use Rattle.law_tree.proofs.TreeStep.{Stays, Sits, Parent, Linking, reach, tree_step, stays_parent, all_stay, same_more, one_more, apart_listed, tree_linking}

-- ---- a name for a new inode

pub record NewFile (img out : List ℕ) (p c : ℕ) : Type 0 where
  pub one_link : links out c ≡ 1
  pub parent_links : links out p ≡ links img p

pub record NewDir (img out : List ℕ) (p c : ℕ) : Type 0 where
  pub dir : Dir out c
  pub bare : entries out c ≡ 2
  pub up : entry out c 1 ≡ p
  pub two_links : links out c ≡ 2
  pub parent_links : links out p ≡ links img p + 1

pub record AddNew (img out l : List ℕ) (p c : ℕ) : Type 0 where
  pub fresh : cnt c l ≡ 0
  pub p_in : 0 < cnt p l
  pub parent : Parent img out p
  pub more : (m : ℕ) → times_named out p m ≡ times_named img p m + δ c m
  pub others : (n : ℕ) → 0 < cnt n l → n ≢ p → SameFile img out n
  pub file : kind out c ≢ 2 → NewFile img out p c
  pub dir : kind out c ≡ 2 → NewDir img out p c

module _ {img out l : List ℕ} {p c : ℕ} (tree : Tree img l) (inode : (n : ℕ) → 0 < cnt n l → Inode img n) (a : AddNew img out l p c) where
  new_by : TreeBy img l
  new_by = tree_to tree

  no_name : (n : ℕ) → 0 < cnt n l → times_named img n c ≡ 0
  no_name n h = unlisted_unnamed new_by n c a.fresh h

  no_kids : kids out c ≡ 0
  no_kids = go (ℕ_discrete (kind out c) 2)
    where
      go : Dec (kind out c ≡ 2) → kids out c ≡ 0
      go (yes e) = omega (arith, kids_of_dir out c e, (a.dir e).bare)
      go (no d) = kids_of_other out c d

  new_name_lem : times_named out p c ≡ 1
  new_name_lem = omega (arith, one_more c (times_named out p c) (times_named img p c) (a.more c), no_name p a.p_in)

  new_parent : Stays img out c p
  new_parent =
      stays_parent a.parent (λ m d. same_more m c (times_named out p m) (times_named img p m) d (a.more m))
      (go (none_none (kind img c) (times_named img p c) (no_name p a.p_in)) (ℕ_discrete (kind out c) 2))
    where
      go : if_dir (kind img c) (times_named img p c) ≡ 0 → Dec (kind out c ≡ 2)
          → links out p + if_dir (kind img c) (times_named img p c) ≡ links img p + if_dir (kind out c) (times_named out p c)
      go z (yes e) = omega (arith, (a.dir e).parent_links, dir_counts (kind out c) (times_named out p c) e, new_name_lem)
      go z (no d) = omega (arith, (a.file d).parent_links, other_none (kind out c) (times_named out p c) d)

  new_stays : (n : ℕ) → 0 < cnt n l → n ≢ c → Stays img out c n
  new_stays = all_stay new_by inode new_parent new_parent (λ n h d _ _. a.others n h d) (λ n h _ _. ◌⊎◌.inl (no_name n h))

  new_naming : (m : ℕ) → naming out (c ∷ l) m ≡ naming out l m
  new_naming m = omega (arith, sum_on_cons (λ n. times_named out n m) c l, names_none out c no_kids m)

  one_name : naming out (c ∷ l) c ≡ 1
  one_name =
      omega (
        arith,
        new_naming c,
        sum_on_point (λ n. times_named img n c) (λ n. times_named out n c) l p (omega (arith, new_by.once p, a.p_in))
            (λ n h d. names_is (a.others n h d) (inode n h) c),
        naming_none img l c no_name,
        new_name_lem,
        no_name p a.p_in,
      )

  was_in : (n : ℕ) → 0 < cnt n (c ∷ l) → n ≢ c → 0 < cnt n l
  was_in n h d = omega (arith, sum_on_cons (δ n) c l, δ_other n c d)

  new_up : (n : ℕ) → 0 < cnt n (c ∷ l) → 0 < times_named out n c → p ≡ n
  new_up n h e = go (ℕ_discrete n p) (ℕ_discrete n c)
    where
      go : Dec (n ≡ p) → Dec (n ≡ c) → p ≡ n
      go (yes q) r = sym q
      go (no q) (yes r) = absurd (omega (arith, names_none out c no_kids c, ap (λ (x : ℕ). times_named out x c) r))
      go (no q) (no r) =
          let i : 0 < cnt n l = was_in n h r in
          absurd (omega (arith, names_is (a.others n i q) (inode n i) c, no_name n i))

  new_sits : Sits out (c ∷ l) c
  new_sits =
      record {
        reached =
            reached_names c
            (reach new_by new_stays (λ m h. absurd (omega (arith, a.fresh))) p (apart_listed l c a.fresh p a.p_in) (tree.only p a.p_in))
            (omega (arith, new_name_lem));
        dir = λ e. (a.dir e).dir;
        up = λ n h e k. (a.dir k).up ∙ new_up n h e;
        named = λ e. omega (arith, one_name, δ_other 1 c (apart_listed l c a.fresh 1 new_by.root_in));
        file_links = λ d. (a.file d).one_link ∙ sym one_name;
        dir_links = λ e. omega (arith, (a.dir e).two_links, subs_none out c no_kids);
      }

  pub tree_add_new : Tree out (c ∷ l)
  tree_add_new =
      tree_step new_by (apart_listed l c a.fresh 1 new_by.root_in)
      (λ n d. omega (arith, sum_on_cons (δ n) c l, δ_other n c d))
      (omega (arith, here, a.fresh))
      new_stays
      (λ m h. absurd (omega (arith, a.fresh)))
      (λ m h e. absurd (omega (arith, names_none out c no_kids m)))
      (λ m d. new_naming m
      ∙ sum_on_cong (λ n. times_named out n m) (λ n. times_named img n m) l
      (λ n h. (new_stays n h (apart_listed l c a.fresh n h)).names_same m d))
      (λ n h e. omega (arith, here)) (λ h. new_sits)
    where
      here : cnt c (c ∷ l) ≡ 1 + cnt c l
      here = omega (arith, sum_on_cons (δ c) c l, δ_same c c refl)

-- ---- one more name for what is no directory

pub record AddName (img out l : List ℕ) (p c : ℕ) : Type 0 where
  pub linking : Linking img out l p c
  pub more : (m : ℕ) → times_named out p m ≡ times_named img p m + δ c m
  pub links-more : links out c ≡ links img c + 1

module _ {img out l : List ℕ} {p c : ℕ} (tree : Tree img l) (inode : (n : ℕ) → 0 < cnt n l → Inode img n) where
  pub tree_add_name : AddName img out l p c → Tree out l
  tree_add_name a =
      tree_linking tree inode a.linking (λ m d. same_more m c (times_named out p m) (times_named img p m) d (a.more m))
      (omega (arith, one_more c (times_named out p c) (times_named img p c) (a.more c), a.links-more)) (omega (arith, a.links-more))
