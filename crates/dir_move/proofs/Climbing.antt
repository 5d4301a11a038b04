-- Climbing from directory to parent, step by step. Assumes nothing.
use mathlib.Core.Path.{◌≡◌, sym, ap, ◌∙◌, subst}
use lib.Dec.{eqb}
use mathlib.Core.Bool.{true, false}
use mathlib.Core.List.{List}
use Prim.Native.Nat.{ℕ, suc, ◌+◌, ◌-◌, ◌<◌}
use native.Mathlib.Omega.{arith}
use borrow.Author.Tests.{eq-eqb, ne_eqb}
use Rattle.card_layout.specs.Inode.{kind}
use Rattle.card_rules.specs.View.{entry}
use Rattle.card_rules.specs.Whole.{Reached, root, down, Whole}
use Rattle.card_rules.proofs.Views.{kids_dir}
use Rattle.check_names.specs.InnerReading.{EntryIn}
use Rattle.dir_move.specs.Move.{climbs}
use Rattle.dir_answers.proofs.Ready.{counted_ready, dir_ready, readable_ready, parent_reached}
use Rattle.dir_answers.proofs.Refused.{held, failed}

-- the climb in the steps that are left of n, after i of them
module _ (img : List ℕ) (c t n i : ℕ) (l : i < n) where
  left : n - i ≡ suc (n - (i + 1))
  left = omega arith

  pub climbs_here : eqb t c ≡ true → climbs img c t (n - i) ≡ true
  unfolding climbs
  climbs_here e = rw left (held _ _ _ e)

  module _ (d : eqb t c ≡ false) where
    pub climbs_root : t ≡ 1 → climbs img c t (n - i) ≡ false
    unfolding climbs
    climbs_root e = rw left (failed _ _ _ d ∙ held _ _ _ (eq-eqb t 1 e))

    pub climbs_on : (t ≡ 1 → ⊥) → climbs img c (entry img t 1) (n - (i + 1)) ≡ climbs img c t (n - i)
    unfolding climbs
    climbs_on e = rw left (sym (failed _ _ _ d ∙ failed _ _ _ (ne_eqb t 1 e)))

-- ".." of a directory names a directory
pub up_dir : (img : List ℕ) → Whole img → (m : ℕ) → Reached img m → kind img m ≡ 2 → kind img (entry img m 1) ≡ 2
up_dir img w m root d = ap (kind img) w.tree.root_up ∙ d
up_dir img w m (down {n} x j r l e) d =
    let u : entry img m 1 ≡ n = subst (λ (y : ℕ). entry img y 1 ≡ n) e (w.tree.up n j r l (ap (kind img) e ∙ d)) in
    ap (kind img) u ∙ (kids_dir img n j l).0

-- and can be read
pub up_ready : (img : List ℕ) (w : Whole img) (n : ℕ) (r : Reached img n) → kind img n ≡ 2 → EntryIn img n 1
up_ready img w n r d = (readable_ready img w n r, omega (arith, (dir_ready img w n r d).least, counted_ready img w n r))

pub ruleset climbing = (climbs_here, climbs_root, climbs_on, up_dir, up_ready, parent_reached)
