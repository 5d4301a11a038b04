-- One name less, and the last name of an inode and the inode with it, take a tree to a tree (`TreeStep` has the letters). Assumes nothing.
use mathlib.Core.Path.{◌≡◌, refl, sym, ap, ◌∙◌}
use mathlib.Core.List.{List}
use mathlib.Core.Logic.{◌⊎◌, ◌≢◌}
use Prim.Native.Nat.{ℕ, ◌+◌, ◌<◌}
use native.Mathlib.Omega.{arith}
use native.Mathlib.Decide.{ℕ_discrete}
use Rattle.words.specs.Sums.{δ, cnt, without}
use Rattle.words.proofs.Sums.{δ_same, δ_other, sum_on-without, sum_on_term, sum_on_cong, sum_on_two}
use Rattle.card_layout.specs.Inode.{kind, links}
use Rattle.card_rules.specs.View.{kids, times_named, naming}
use Rattle.card_rules.specs.Whole.{Inode, Tree}
use Rattle.card_rules.proofs.Views.{kids_of_other}
use Rattle.card_rules.specs.Same.{SameFile}
use Rattle.card_rules.proofs.Frames.{names_is}
use Rattle.law_tree.proofs.Counts.{TreeBy, tree_to, names_none, if_dir, dir_counts, other_none, none_none}
use Rattle.law_tree.proofs.TreeStep.{Stays, Parent, Linking, tree_step, stays_parent, all_stay, same_less, one_less, apart_listed, named_not_root, tree_linking}

-- ---- one name less for what is no directory

pub record DropName (img out l : List ℕ) (p c : ℕ) : Type 0 where
  pub linking : Linking img out l p c
  pub less : (m : ℕ) → times_named out p m + δ c m ≡ times_named img p m
  pub links_less : links out c + 1 ≡ links img c
  pub left : 0 < links out c

module _ {img out l : List ℕ} {p c : ℕ} (tree : Tree img l) (inode : (n : ℕ) → 0 < cnt n l → Inode img n) where
  pub tree_drop_name : DropName img out l p c → Tree out l
  tree_drop_name a =
      tree_linking tree inode a.linking (λ m d. same_less m c (times_named out p m) (times_named img p m) d (a.less m))
      (omega (arith, one_less c (times_named out p c) (times_named img p c) (a.less c), a.links_less)) a.left

-- ---- the last name of an inode, and the inode

pub record GoneFile (img out : List ℕ) (p c : ℕ) : Type 0 where
  pub one_link : links img c ≡ 1
  pub parent_links : links out p ≡ links img p

pub record GoneDir (img out : List ℕ) (p c : ℕ) : Type 0 where
  pub bare : kids img c ≡ 0
  pub parent_links : links out p + 1 ≡ links img p

pub record Drop (img out l : List ℕ) (p c : ℕ) : Type 0 where
  pub p_in : 0 < cnt p l
  pub c_in : 0 < cnt c l
  pub parent : Parent img out p
  pub less : (m : ℕ) → times_named out p m + δ c m ≡ times_named img p m
  pub others : (n : ℕ) → 0 < cnt n l → n ≢ p → n ≢ c → SameFile img out n
  pub file : kind img c ≢ 2 → GoneFile img out p c
  pub dir : kind img c ≡ 2 → GoneDir img out p c

module _ {img out l : List ℕ} {p c : ℕ} (tree : Tree img l) (inode : (n : ℕ) → 0 < cnt n l → Inode img n) (a : Drop img out l p c) where
  gone_by : TreeBy img l
  gone_by = tree_to tree

  had : times_named out p c + 1 ≡ times_named img p c
  had = one_less c (times_named out p c) (times_named img p c) (a.less c)

  not_root : 1 ≢ c
  not_root = named_not_root gone_by p c a.p_in (omega (arith, had))

  childless : kids img c ≡ 0
  childless = go (ℕ_discrete (kind img c) 2)
    where
      go : Dec (kind img c ≡ 2) → kids img c ≡ 0
      go (yes e) = (a.dir e).bare
      go (no d) = kids_of_other img c d

  p_apart : p ≢ c
  p_apart = λ q. omega (arith, had, names_none img c childless c, ap (λ (x : ℕ). times_named img x c) q)

  last : naming img l c ≡ 1
  last = go (ℕ_discrete (kind img c) 2)
    where
      go : Dec (kind img c ≡ 2) → naming img l c ≡ 1
      go (yes e) = omega (arith, gone_by.named c a.c_in e, δ_other 1 c not_root)
      go (no d) = sym (gone_by.file_links c a.c_in d) ∙ (a.file d).one_link

  -- p alone named it, and does no more
  p_alone : (n : ℕ) → 0 < cnt n l → n ≢ p → times_named img n c ≡ 0
  p_alone n h d = omega (arith, sum_on_two (λ x. times_named img x c) l n p d h a.p_in, last, had)

  p_no_more : times_named out p c ≡ 0
  p_no_more = omega (arith, sum_on_term (λ x. times_named img x c) p l a.p_in, last, had)

  gone_parent : Stays img out c p
  gone_parent =
      stays_parent a.parent (λ m d. same_less m c (times_named out p m) (times_named img p m) d (a.less m))
      (go (none_none (kind out c) (times_named out p c) p_no_more) (ℕ_discrete (kind img c) 2))
    where
      go : if_dir (kind out c) (times_named out p c) ≡ 0 → Dec (kind img c ≡ 2)
          → links out p + if_dir (kind img c) (times_named img p c) ≡ links img p + if_dir (kind out c) (times_named out p c)
      go z (yes e) = omega (arith, (a.dir e).parent_links, dir_counts (kind img c) (times_named img p c) e, had, p_no_more)
      go z (no d) = omega (arith, (a.file d).parent_links, other_none (kind img c) (times_named img p c) d)

  gone_stays : (n : ℕ) → 0 < cnt n l → n ≢ c → Stays img out c n
  gone_stays = all_stay gone_by inode gone_parent gone_parent (λ n h d _ e. a.others n h d e) (λ n h d _. ◌⊎◌.inl (p_alone n h d))

  gone_out : cnt c (without c l) ≡ 0
  gone_out = omega (arith, sum_on-without (δ c) c l a.c_in, δ_same c c refl, gone_by.once c)

  others_in : (n : ℕ) → n ≢ c → cnt n (without c l) ≡ cnt n l
  others_in n d = omega (arith, sum_on-without (δ n) c l a.c_in, δ_other n c d)

  others_are : (n : ℕ) → 0 < cnt n (without c l) → (0 < cnt n l) × (n ≢ c)
  others_are n h = let d = apart_listed (without c l) c gone_out n h in (omega (arith, others_in n d), d)

  unnamed : (n : ℕ) → 0 < cnt n (without c l) → times_named out n c ≡ 0
  unnamed n h = go (others_are n h) (ℕ_discrete n p)
    where
      go : (0 < cnt n l) × (n ≢ c) → Dec (n ≡ p) → times_named out n c ≡ 0
      go w (yes q) = ap (λ (x : ℕ). times_named out x c) q ∙ p_no_more
      go w (no q) = names_is (a.others n w.0 q w.1) (inode n w.0) c ∙ p_alone n w.0 q

  pub tree_drop : Tree out (without c l)
  tree_drop =
      tree_step gone_by not_root others_in (omega (arith, gone_out)) gone_stays
      (λ m h e. absurd (omega (arith, names_none img c childless m)))
      (λ m h e. absurd (omega (arith, gone_out)))
      (λ m d.
      omega (
        arith,
        sum_on-without (λ n. times_named img n m) c l a.c_in,
        names_none img c childless m,
        sum_on_cong (λ n. times_named out n m) (λ n. times_named img n m) (without c l)
            (λ n h. let w = others_are n h in (gone_stays n w.0 w.1).names_same m d),
      ))
      (λ n h e. absurd (omega (arith, unnamed n h))) (λ h. absurd (omega (arith, gone_out)))
