-- What `Opening` says to a reader: it leaves one answer and one scratch, status 0 of a check is that the card is whole, and each of the statuses
-- 1 to 4 has its cause and no other. Assumes nothing.
use mathlib.Core.Path.{◌≡◌, refl, sym, ap, ◌∙◌}
use mathlib.Core.List.{List}
use Prim.Native.Nat.{ℕ, ◌*◌, ◌≤◌, ◌<◌}
use native.Mathlib.Omega.{arith}
use lib.ListN.{length}
use Rattle.card_layout.specs.Super.{right_magic, magic, blocks}
use Rattle.card_rules.specs.Whole.{Sized, Reached, root, Whole}
use Rattle.check_walk.specs.Opening.{counts_at, cleared, Opening, whole, no_inode, damaged, scratch_short, wrong_fs, unsized, Opened}
use Rattle.refusals.specs.Refusals.{answer_no}
use Rattle.refusals.specs.declared.Refusal.TheVariants.{ScratchShort, WrongFs, Damaged, NoInode}
use Rattle.std.specs.Prelude.{Ok, Err}

both : {r q : Opened} {s t : List ℕ} (k : Opened) (u : List ℕ) → r ≡ k → q ≡ k → s ≡ u → t ≡ u → (r ≡ q) × (s ≡ t)
both k u a b c d = (a ∙ sym b, c ∙ sym d)

module _ {img s : List ℕ} {a b : ℕ} where
  -- two programs that meet the statement agree
  pub agree : {s₁ s₂ : List ℕ} {r₁ r₂ : Opened} → Opening img s s₁ a b r₁ → Opening img s s₂ a b r₂ → (r₁ ≡ r₂) × (s₁ ≡ s₂)
  agree (whole l w x y e f) (whole m v p q g h) = both _ _ e g f h
  agree (whole l w x y e f) (no_inode m v p g h) = absurd (p x y)
  agree (whole l w x y e f) (damaged z m v g h) = absurd (v w)
  agree (whole l w x y e f) (scratch_short z m g h) = absurd (omega arith)
  agree (whole l w x y e f) (wrong_fs m v g h) = absurd (v w.sound.sized.magic_right)
  agree (whole l w x y e f) (unsized m v g h) = absurd (v w.sound.sized)
  agree (no_inode l w x e f) (whole m v p q g h) = absurd (x p q)
  agree (no_inode l w x e f) (no_inode m v p g h) = both _ _ e g f h
  agree (no_inode l w x e f) (damaged z m v g h) = absurd (v w)
  agree (no_inode l w x e f) (scratch_short z m g h) = absurd (omega arith)
  agree (no_inode l w x e f) (wrong_fs m v g h) = absurd (v w.sound.sized.magic_right)
  agree (no_inode l w x e f) (unsized m v g h) = absurd (v w.sound.sized)
  agree (damaged z l w e f) (whole m v p q g h) = absurd (w v)
  agree (damaged z l w e f) (no_inode m v p g h) = absurd (w v)
  agree (damaged z l w e f) (damaged y m v g h) = both _ _ e g f h
  agree (damaged z l w e f) (scratch_short y m g h) = absurd (omega arith)
  agree (damaged z l w e f) (wrong_fs m v g h) = absurd (v z.magic_right)
  agree (damaged z l w e f) (unsized m v g h) = absurd (v z)
  agree (scratch_short z l e f) (whole m v p q g h) = absurd (omega arith)
  agree (scratch_short z l e f) (no_inode m v p g h) = absurd (omega arith)
  agree (scratch_short z l e f) (damaged y m v g h) = absurd (omega arith)
  agree (scratch_short z l e f) (scratch_short y m g h) = both _ _ e g f h
  agree (scratch_short z l e f) (wrong_fs m v g h) = absurd (v z.magic_right)
  agree (scratch_short z l e f) (unsized m v g h) = absurd (v z)
  agree (wrong_fs l w e f) (whole m v p q g h) = absurd (w v.sound.sized.magic_right)
  agree (wrong_fs l w e f) (no_inode m v p g h) = absurd (w v.sound.sized.magic_right)
  agree (wrong_fs l w e f) (damaged y m v g h) = absurd (w y.magic_right)
  agree (wrong_fs l w e f) (scratch_short y m g h) = absurd (w y.magic_right)
  agree (wrong_fs l w e f) (wrong_fs m v g h) = both _ _ e g f h
  agree (wrong_fs l w e f) (unsized m v g h) = absurd (w (m l))
  agree (unsized l w e f) (whole m v p q g h) = absurd (w v.sound.sized)
  agree (unsized l w e f) (no_inode m v p g h) = absurd (w v.sound.sized)
  agree (unsized l w e f) (damaged y m v g h) = absurd (w y)
  agree (unsized l w e f) (scratch_short y m g h) = absurd (w y)
  agree (unsized l w e f) (wrong_fs m v g h) = absurd (v (l m))
  agree (unsized l w e f) (unsized m v g h) = both _ _ e g f h

-- why a card is damaged: it is too short for a superblock or of wrong sizes, though not of another file system; or its sizes are right, the
-- scratch is long enough, and the card is not whole
pub data Broken (img s : List ℕ) : Type 0 where
  sizes : (4096 ≤ length img → magic img ≡ right_magic) → (Sized img → ⊥) → Broken img s
  rules : Sized img → 4 * blocks img ≤ length s → (Whole img → ⊥) → Broken img s

module _ {img s s' : List ℕ} {a b : ℕ} {r : Opened} where
  -- ---- what each status says

  status_0 : Opening img s s' a b r → answer_no r ≡ 0 → (4 * blocks img ≤ length s) × Whole img × Reached img a × Reached img b
  status_0 (whole l w x y e f) k = (l, w, x, y)
  status_0 (no_inode l w x e f) k = absurd (omega (arith, ap answer_no e))
  status_0 (damaged z l w e f) k = absurd (omega (arith, ap answer_no e))
  status_0 (scratch_short z l e f) k = absurd (omega (arith, ap answer_no e))
  status_0 (wrong_fs l w e f) k = absurd (omega (arith, ap answer_no e))
  status_0 (unsized l w e f) k = absurd (omega (arith, ap answer_no e))

  status_1 : Opening img s s' a b r → answer_no r ≡ 1 → Sized img × (length s < 4 * blocks img)
  status_1 (whole l w x y e f) k = absurd (omega (arith, ap answer_no e))
  status_1 (no_inode l w x e f) k = absurd (omega (arith, ap answer_no e))
  status_1 (damaged z l w e f) k = absurd (omega (arith, ap answer_no e))
  status_1 (scratch_short z l e f) k = (z, l)
  status_1 (wrong_fs l w e f) k = absurd (omega (arith, ap answer_no e))
  status_1 (unsized l w e f) k = absurd (omega (arith, ap answer_no e))

  status_2 : Opening img s s' a b r → answer_no r ≡ 2 → (4096 ≤ length img) × (magic img ≡ right_magic → ⊥)
  status_2 (whole l w x y e f) k = absurd (omega (arith, ap answer_no e))
  status_2 (no_inode l w x e f) k = absurd (omega (arith, ap answer_no e))
  status_2 (damaged z l w e f) k = absurd (omega (arith, ap answer_no e))
  status_2 (scratch_short z l e f) k = absurd (omega (arith, ap answer_no e))
  status_2 (wrong_fs l w e f) k = (l, w)
  status_2 (unsized l w e f) k = absurd (omega (arith, ap answer_no e))

  status_3 : Opening img s s' a b r → answer_no r ≡ 3 → Broken img s
  status_3 (whole l w x y e f) k = absurd (omega (arith, ap answer_no e))
  status_3 (no_inode l w x e f) k = absurd (omega (arith, ap answer_no e))
  status_3 (damaged z l w e f) k = rules z l w
  status_3 (scratch_short z l e f) k = absurd (omega (arith, ap answer_no e))
  status_3 (wrong_fs l w e f) k = absurd (omega (arith, ap answer_no e))
  status_3 (unsized l w e f) k = sizes l w

  status_4 : Opening img s s' a b r → answer_no r ≡ 4 → (4 * blocks img ≤ length s) × Whole img × (Reached img a → Reached img b → ⊥)
  status_4 (whole l w x y e f) k = absurd (omega (arith, ap answer_no e))
  status_4 (no_inode l w x e f) k = (l, w, x)
  status_4 (damaged z l w e f) k = absurd (omega (arith, ap answer_no e))
  status_4 (scratch_short z l e f) k = absurd (omega (arith, ap answer_no e))
  status_4 (wrong_fs l w e f) k = absurd (omega (arith, ap answer_no e))
  status_4 (unsized l w e f) k = absurd (omega (arith, ap answer_no e))

  -- ---- each status exactly for its cause: the way back is `agree` with the case that has the cause

  module _ (o : Opening img s s' a b r) where
    -- the answer is that of any case that applies
    same : {x : List ℕ} (q : Opened) → Opening img s x a b q → answer_no r ≡ answer_no q
    same q p = ap answer_no (agree o p).0

    pub opened : (answer_no r ≡ 0 → (4 * blocks img ≤ length s) × Whole img × Reached img a × Reached img b)
        × (4 * blocks img ≤ length s → Whole img → Reached img a → Reached img b → (r ≡ Ok (counts_at img)) × (s' ≡ cleared img s))
    opened = (status_0 o, λ l w x y. agree o (whole l w x y refl refl))

    pub scratch_short_cause : (answer_no r ≡ 1 → Sized img × (length s < 4 * blocks img)) × (Sized img → length s < 4 * blocks img → answer_no r ≡ 1)
    scratch_short_cause = (status_1 o, λ z l. same (Err ScratchShort) (scratch_short z l refl refl))

    pub wrong_fs_cause : (answer_no r ≡ 2 → (4096 ≤ length img) × (magic img ≡ right_magic → ⊥))
        × (4096 ≤ length img → (magic img ≡ right_magic → ⊥) → answer_no r ≡ 2)
    wrong_fs_cause = (status_2 o, λ l w. same (Err WrongFs) (wrong_fs l w refl refl))

    broken_damaged : Broken img s → answer_no r ≡ 3
    broken_damaged (sizes l w) = same (Err Damaged) (unsized l w refl refl)
    broken_damaged (rules z l w) = same (Err Damaged) (damaged z l w refl refl)

    pub damaged_cause : (answer_no r ≡ 3 → Broken img s) × (Broken img s → answer_no r ≡ 3)
    damaged_cause = (status_3 o, broken_damaged)

    pub no_inode_cause : (answer_no r ≡ 4 → (4 * blocks img ≤ length s) × Whole img × (Reached img a → Reached img b → ⊥))
        × (4 * blocks img ≤ length s → Whole img → (Reached img a → Reached img b → ⊥) → answer_no r ≡ 4)
    no_inode_cause = (status_4 o, λ l w x. same (Err NoInode) (no_inode l w x refl refl))

-- ---- the check, which opens a card for the root

module _ {img s s' : List ℕ} {r : Opened} (o : Opening img s s' 1 1 r) where
  pub check_whole : (answer_no r ≡ 0 → Whole img) × (Whole img → 4 * blocks img ≤ length s → answer_no r ≡ 0)
  check_whole =
      (λ k. (status_0 o k).1, λ w l. ap answer_no ((opened o).1 l w root root).0)

  pub never_no_inode : r ≡ (Err NoInode) → ⊥
  never_no_inode e = (status_4 o (ap answer_no e)).2 root root
