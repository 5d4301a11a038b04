-- Cards whose tree is the root alone, with its two entries, as format leaves it: all rules on the tree hold. Assumes nothing.
use mathlib.Core.Path.{◌≡◌, sym, ap, subst, ◌∙◌}
use mathlib.Core.List.{List, [], ◌∷◌}
use Prim.Native.Nat.{ℕ, zero, suc, ◌+◌, ◌/◌, ◌%◌, ◌<◌}
use native.Mathlib.Omega.{arith}
use lib.Dec.{lit≤}
use lib.ListN.{length}
use Rattle.words.specs.Words.{byte}
use Rattle.words.specs.Sums.{δ, sum_to, cnt}
use Rattle.words.proofs.Sums.{δ_same, δ_other, δ_pos, sum_on_cons, sum_on_nil, sum_to_zero}
use Rattle.card_layout.specs.Super.{maps}
use Rattle.card_layout.specs.Inode.{size, kind, links, count, direct, indirect, double}
use Rattle.card_layout.specs.Entry.{Name}
use Rattle.card_rules.specs.View.{entry, name, kids, times_named, naming, subs, owns, uses}
use Rattle.card_rules.specs.Whole.{Reached, root, Inode, Dir, Tree}
use Rattle.card_rules.proofs.Small.{only_root, owns_one, uses_small}

-- the root's record, with block 3 for its data, and its two entries
pub record Bare (img : List ℕ) : Type 0 where
  pub bytes : size img 1 ≡ 520
  pub dir : kind img 1 ≡ 2
  pub linked : links img 1 ≡ 2
  pub counted : count img 1 ≡ 1
  pub slot : direct img 1 0 ≡ 3
  pub no_indirect : indirect img 1 ≡ 0
  pub no_double : double img 1 ≡ 0
  pub self : entry img 1 0 ≡ 1
  pub parent : entry img 1 1 ≡ 1
  pub dot : name img 1 0 ≡ 46 ∷ []
  pub dots : name img 1 1 ≡ 46 ∷ 46 ∷ []

-- the listing of the inodes
abbrev pub one : List ℕ
one = 1 ∷ []

pub listed_one : (n : ℕ) → 0 < cnt n one → n ≡ 1
listed_one n h = δ_pos n 1 (omega (arith, sum_on_cons (δ n) 1 [], sum_on_nil (δ n)))

dot-name : Name (46 ∷ [])
dot-name = record { low = lit≤ tt; high = lit≤ tt; no_nul = go }
  where
    go : (k : ℕ) → k < 1 → byte (46 ∷ []) k ≡ 0 → ⊥
    go zero l e = omega arith
    go (suc k) l e = omega arith

dots-name : Name (46 ∷ 46 ∷ [])
dots-name = record { low = lit≤ tt; high = lit≤ tt; no_nul = go }
  where
    go : (k : ℕ) → k < 2 → byte (46 ∷ 46 ∷ []) k ≡ 0 → ⊥
    go zero l e = omega arith
    go (suc zero) l e = omega arith
    go (suc (suc k)) l e = omega arith

module _ (img : List ℕ) (g : Bare img) where
  -- ---- the root

  bare_kids : kids img 1 ≡ 0
  unfolding kids
  bare_kids = rw (g.dir, g.bytes)

  pub bare_reached : (n : ℕ) → Reached img n → n ≡ 1
  bare_reached = only_root img bare_kids

  pub bare_inode : Inode img 1
  bare_inode =
      record {
        kind_low = omega arith;
        kind_high = omega arith;
        shape = record { counted = g.counted ∙ sym (ap (λ (s : ℕ). (s + 4095) / 4096) g.bytes); single = record { from = λ h. absurd (omega arith); to = λ h. g.no_indirect }; twofold = record { from = λ h. absurd (omega arith); to = λ h. g.no_double } };
      }

  named : (k : ℕ) → k < 2 → Name (name img 1 k)
  named zero l = rw g.dot dot-name
  named (suc zero) l = rw g.dots dots-name
  named (suc (suc k)) l = absurd (omega arith)

  differ : (i k : ℕ) → i < k → k < 2 → name img 1 i ≡ name img 1 k → ⊥
  differ zero (suc zero) l m e =
      let n : ◌≡◌ {A = ℕ} 1 2 = ap length (sym g.dot ∙ e ∙ g.dots) in
      omega arith
  differ i zero l m e = omega arith
  differ (suc i) (suc zero) l m e = omega arith
  differ i (suc (suc k)) l m e = omega arith

  bare_dir_lem : Dir img 1
  bare_dir_lem =
      let two : size img 1 / 260 ≡ 2 = ap (λ (s : ℕ). s / 260) g.bytes in
      record {
        even = ap (λ (s : ℕ). s % 260) g.bytes;
        least = omega arith;
        first = record { dot = g.dot; self = g.self; dots = g.dots };
        names = record { named = λ k l. named k (omega arith); differ = λ i k l m. differ i k l (omega arith) };
      }

  -- ---- no entry names anything

  childless : (n j : ℕ) → Reached img n → j < kids img n → ⊥
  childless n j r l = omega (arith, bare_kids, ap (λ (x : ℕ). kids img x) (bare_reached n r))

  unnamed : (m : ℕ) → naming img one m ≡ 0
  unnamed m =
      omega (
        arith,
        sum_on_cons (λ n. times_named img n m) 1 [],
        sum_on_nil (λ n. times_named img n m),
        ap (λ (k : ℕ). sum_to (λ j. δ (entry img 1 (2 + j)) m) k) bare_kids,
        sum_to_zero (λ j. δ (entry img 1 (2 + j)) m),
      )

  no_subs : subs img 1 ≡ 0
  no_subs =
      ap (λ (k : ℕ). sum_to (λ j. δ (kind img (entry img 1 (2 + j))) 2) k) bare_kids
      ∙ sum_to_zero (λ j. δ (kind img (entry img 1 (2 + j))) 2)

  pub bare_tree : Tree img one
  bare_tree =
      record {
        all = λ n r. omega (arith, δ_same n 1 (bare_reached n r), sum_on_cons (δ n) 1 [], sum_on_nil (δ n));
        only = λ n h. subst (Reached img) (sym (listed_one n h)) root;
        root_dir = g.dir;
        dir = λ n r k. subst (Dir img) (sym (bare_reached n r)) bare_dir_lem;
        root_up = g.parent;
        up = λ n j r l k. absurd (childless n j r l);
        named = λ n r k. omega (arith, δ_same 1 n (sym (bare_reached n r)), unnamed n);
        file_links = λ n r h. absurd (h (ap (kind img) (bare_reached n r) ∙ g.dir));
        dir_links = λ n r k. subst (λ (x : ℕ). links img x ≡ 2 + subs img x) (sym (bare_reached n r)) (omega (arith, no_subs));
      }

  -- ---- the blocks in use, where there is one map block

  pub bare_uses : maps img ≡ 1 → (b : ℕ) → uses img one b ≡ δ 0 b + δ 2 b + (δ 1 b + δ 3 b)
  bare_uses m b =
      omega (
        arith,
        uses_small img one b m,
        sum_on_cons (λ n. owns img n b) 1 [],
        sum_on_nil (λ n. owns img n b),
        owns_one img 1 b g.counted,
        ap (λ (s : ℕ). δ s b) g.slot,
      )

  -- no inode owns a block past 3
  pub bare_owns : (b : ℕ) → 3 < b → (n : ℕ) → Reached img n → owns img n b ≡ 0
  bare_owns b l n r =
      subst (λ (x : ℕ). owns img x b ≡ 0) (sym (bare_reached n r))
      (omega (arith, owns_one img 1 b g.counted, δ_other 1 b (λ e. omega arith), δ_other (direct img 1 0) b (λ e. omega arith)))
