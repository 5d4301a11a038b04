-- Move says the number of the first test whose cause holds, on any image and with any scratch: on a whole card, climbing ".." from a directory meets c exactly
-- where the directory is c or below it. Assumes nothing.
use mathlib.Core.Path.{◌≡◌, refl, sym, ap, ◌∙◌, subst}
use mathlib.Core.Logic.{◌≢◌, ◌⊎◌}
use mathlib.Core.List.{List}
use Prim.Native.Nat.{ℕ, ◌<◌}
use native.Mathlib.Omega.{arith}
use native.Mathlib.Decide.{ℕ_discrete}
use Rattle.card_layout.specs.Sizes.{full_links}
use Rattle.card_layout.specs.Super.{blocks, unused}
use Rattle.card_layout.specs.Inode.{kind, links}
use Rattle.card_rules.specs.View.{entry, kids, kid}
use Rattle.card_rules.specs.Whole.{Reached, root, down, Whole}
use Rattle.card_rules.proofs.Views.{kids_dir}
use Rattle.card_rules.proofs.Tree.{unnamed_root}
use Rattle.dir_answers.specs.Answers.{named_by}
use Rattle.dir_move.specs.Move.{move_answer}
use Rattle.call_dirs.specs.DirCalls.{Moved}
use Rattle.law_tree.proofs.TreeMove.{Above, top, next}
use Rattle.law_dirs.proofs.UnlinkTests.{has_where, has_child}
use Rattle.law_dirs.proofs.Climb.{above_not}
use Rattle.law_dirs.proofs.MoveTests.{Source, CanMove, MoveTests, move_6, move_7, move_target_6, move_8}
use Rattle.law_dirs.proofs.MoveTests.{move_9, move_10, move_12, move_13, move_14, move_done, move_tests_lem}
use Rattle.law_calls.specs.Tests.{Tests, fine, test, First, Has, Dotted, entry_takes, Below, itself, under, move_tests}
use Rattle.law_calls.proofs.FirstOpen.{first_said}
use Rattle.law_calls.proofs.FirstDirs.{has_not, not_dotted, is_dotted, name_on, name_6, name_8, name_9, name_on_lem}
use Rattle.call_said.specs.Said.{Said, plain}
use Rattle.refusals.specs.Refusals.{answer_no}
use Rattle.refusals.specs.declared.Refusal.{Refusal}
use Rattle.refusals.proofs.Refused.{giving_no}
use Rattle.std.specs.Prelude.{Result}

-- ---- at or below c

-- the parent of child j of n, if it is a directory
up : {img : List ℕ} (w : Whole img) {n : ℕ} (t j : ℕ) → Reached img n → j < kids img n → kid img n j ≡ t → kind img t ≡ 2 → entry img t 1 ≡ n
up {img} w {n} t j r l e k = ap (λ (y : ℕ). entry img y 1) (sym e) ∙ w.tree.up n j r l (ap (kind img) e ∙ k)

module _ {img : List ℕ} (w : Whole img) {c : ℕ} where
  below_reached : {t : ℕ} → Reached img c → Below img c t → Reached img t
  below_reached r itself = r
  below_reached r (under t j b l e) = down t j (below_reached r b) l e

  -- who is at or below c meets it
  pub above_below : {t : ℕ} → Reached img c → kind img t ≡ 2 → Above img c t → Below img c t → ⊥
  above_below r k a itself = above_not a refl
  above_below r k (top d) (under {n} t j b l e) = unnamed_root img w n j (below_reached r b) l e
  above_below r k (next d a) (under {n} t j b l e) =
      above_below r (kids_dir img n j l).0 (subst (Above img c) (up w t j (below_reached r b) l e k) a) b

  -- and who meets it is so
  pub meets_below : {t : ℕ} → Reached img t → kind img t ≡ 2 → (Above img c t → ⊥) → Below img c t
  meets_below root k n = go (ℕ_discrete 1 c)
    where
      go : Dec (1 ≡ c) → Below img c 1
      go (yes e) = subst (Below img c) (sym e) itself
      go (no d) = absurd (n (top d))
  meets_below (down {n = m} t j r l e) k n = go (ℕ_discrete t c) (meets_below r (kids_dir img m j l).0)
    where
      go : Dec (t ≡ c) → ((Above img c m → ⊥) → Below img c m) → Below img c t
      go (yes q) h = subst (Below img c) (sym q) itself
      go (no d) h = under t j (h (λ a. n (next d (subst (Above img c) (sym (up w t j r l e k)) a)))) l e

-- ---- the tests of move's own

-- 12, 13 and 14 for inode c
abbrev room_on : List ℕ → ℕ → ℕ → ℕ → Tests
room_on img p t c =
    test 12 (((p ≢ t) × (kind img c ≡ 2)) × Below img c t)
    (test 13 (((p ≢ t) × (kind img c ≡ 2)) × (links img t ≡ full_links))
    (test 14 ((p ≢ t) × (unused img < entry_takes img t)) fine))

-- from 10 on
abbrev old_on : List ℕ → ℕ → List ℕ → ℕ → Tests
old_on img p old t = test 10 (Has img p old → ⊥) (room_on img p t (named_by img p old))

abbrev pub move_own : List ℕ → ℕ → List ℕ → ℕ → List ℕ → Tests
move_own img p old t new = test 6 (kind img p ≢ 2) (test 7 (Dotted old) (name_on img t new (old_on img p old t)))

module _ {img : List ℕ} (w : Whole img) (p : ℕ) (rp : Reached img p) (old : List ℕ) (t : ℕ) (rt : Reached img t) (new : List ℕ) where
  source_on : (k : ℕ) → Source img p old → First (name_on img t new (old_on img p old t)) k → First (move_own img p old t new) k
  source_on k s f = ◌⊎◌.inr (λ q. q s.dir, ◌⊎◌.inr (not_dotted old s.plain, f))

  room_on_lem : (k j : ℕ) → CanMove img p old t new j → First (room_on img p t (entry img p j)) k → First (move_own img p old t new) k
  room_on_lem k j m f =
      source_on k (record { dir = m.from.parent; plain = m.from.plain })
      (name_on_lem img t new (old_on img p old t) k m.to
      (◌⊎◌.inr (λ q. q (j, m.from.there, m.from.named), rw (has_where w rp m.from) f)))

  module _ (j : ℕ) (m : CanMove img p old t new j) where
    -- 12 is not so
    away : (kind img (entry img p j) ≡ 2 → Above img (entry img p j) t) → ((p ≢ t) × (kind img (entry img p j) ≡ 2)) × Below img (entry img p j) t → ⊥
    away u q = above_below w (has_child w rp m.from) m.to.dir (u q.0.1) q.1

  move_own_lem : {a : Result Unit Refusal} → MoveTests img p old t new a → First (move_own img p old t new) (answer_no a)
  move_own_lem (move_6 d e) = ◌⊎◌.inl (d, ap answer_no e)
  move_own_lem (move_7 d h e) = ◌⊎◌.inr (λ q. q d, ◌⊎◌.inl (is_dotted old h, ap answer_no e))
  move_own_lem {a} (move_target_6 s d e) = source_on (answer_no a) s (name_6 img t new (old_on img p old t) (answer_no a) d (ap answer_no e))
  move_own_lem {a} (move_8 s d n e) = source_on (answer_no a) s (name_8 img t new (old_on img p old t) (answer_no a) d n (ap answer_no e))
  move_own_lem {a} (move_9 s d n j b q e) = source_on (answer_no a) s (name_9 img t new (old_on img p old t) (answer_no a) d n (j, b, q) (ap answer_no e))
  move_own_lem {a} (move_10 s c n e) =
      source_on (answer_no a) s (name_on_lem img t new (old_on img p old t) (answer_no a) c (◌⊎◌.inl (has_not img p old n, ap answer_no e)))
  move_own_lem {a} (move_12 j m d k n e) = room_on_lem (answer_no a) j m (◌⊎◌.inl (((d, k), meets_below w rt m.to.dir n), ap answer_no e))
  move_own_lem {a} (move_13 j m d k u f e) =
      room_on_lem (answer_no a) j m (◌⊎◌.inr (away j m (λ _. u), ◌⊎◌.inl (((d, k), f), ap answer_no e)))
  move_own_lem {a} (move_14 j m d u v q e) =
      room_on_lem (answer_no a) j m (◌⊎◌.inr (away j m u, ◌⊎◌.inr (λ x. v x.0.1 x.1, ◌⊎◌.inl ((d, q), ap answer_no e))))
  move_own_lem {a} (move_done j m f e) =
      room_on_lem (answer_no a) j m
      (◌⊎◌.inr (
        λ x. away j m (f x.0.0).away x,
        ◌⊎◌.inr (
          λ x. (f x.0.0).links_left_lem x.0.1 x.1,
          ◌⊎◌.inr (λ x. omega (arith, (f x.0).room, x.1), ap answer_no e),
        ),
      ))

pub move_first : {img img' s s' : List ℕ} {p : ℕ} {old : List ℕ} {t : ℕ} {new : List ℕ} {r : Said} → Moved img img' s s' p old t new r
    → First (move_tests img s p old t new) (answer_no r)
move_first {img} {img'} {s} {s'} {p} {old} {t} {new} c =
    first_said (move_own img p old t new) c.opening (plain (move_answer (blocks img) img p old t new)) (giving_no (move_answer (blocks img) img p old t new) 0)
    c.said
    (λ w y z. move_own_lem w p y old t z new (move_tests_lem w p y old t z new))
