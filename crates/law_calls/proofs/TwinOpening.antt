-- "Bytes past its last block are never read" (RULES), of opening a card: what it answers for one of two images with the same blocks, and the scratch that it
-- leaves, is what it does for the other. Assumes nothing.
use mathlib.Core.Path.{◌≡◌, refl}
use mathlib.Core.Logic.{◌≢◌}
use mathlib.Core.List.{List}
use Prim.Native.Nat.{ℕ, ◌*◌, ◌≤◌, ◌<◌}
use native.Mathlib.Omega.{arith}
use lib.ListN.{length, replicate, length-replicate}
use Rattle.std.proofs.lemmas.Grind.{common_steps}
use Rattle.card_layout.specs.Super.{blocks}
use Rattle.card_rules.proofs.Kept.{SameSuper, magic_is, blocks_is, unused_is}
use Rattle.check_walk.specs.Opening.{counts_at, cleared, Opening, whole, no_inode, damaged, scratch_short, wrong_fs, unsized, Opened}
use Rattle.check_walk.proofs.Agree.{agree}
use Rattle.law_calls.specs.Tail.{Twin}
use Rattle.law_calls.proofs.TwinReads.{twin_sym, twin_super, sized_twin, whole_twin, reached_back}
use Rattle.refusals.specs.declared.Refusal.TheVariants.{ScratchShort}
use Rattle.std.specs.Prelude.{Err}

-- ---- another scratch: an answer goes by whether it is long enough

module _ {img s s' : List ℕ} {a b : ℕ} {o : Opened} (v : List ℕ) where
  other_scratch : (4 * blocks img ≤ length s → 4 * blocks img ≤ length v) → (length s < 4 * blocks img → o ≡ Err ScratchShort → length v < 4 * blocks img)
      → Opening img s s' a b o → (u : List ℕ) × Opening img v u a b o
  other_scratch f g (whole l w x y e _) = (cleared img v, whole (f l) w x y e refl)
  other_scratch f g (no_inode l w x e _) = (cleared img v, no_inode (f l) w x e refl)
  other_scratch f g (damaged z l w e _) = (cleared img v, damaged z (f l) w e refl)
  other_scratch f g (scratch_short z l e _) = (v, scratch_short z (g l e) e refl)
  other_scratch f g (wrong_fs l w e _) = (v, wrong_fs l w e refl)
  other_scratch f g (unsized l w e _) = (v, unsized l w e refl)

  -- one of the same length
  as_long : length v ≡ length s → Opening img s s' a b o → (u : List ℕ) × Opening img v u a b o
  as_long e = other_scratch (λ l. omega (arith, e)) (λ l _. omega (arith, e))

  -- one that is long enough, as that was
  long : 4 * blocks img ≤ length v → o ≢ Err ScratchShort → Opening img s s' a b o → (u : List ℕ) × Opening img v u a b o
  long h d = other_scratch (λ l. h) (λ l e. absurd (d e))

-- ---- another image, which has the same superblock and is whole where that is

module _ {img out : List ℕ} (some : 0 < blocks img) (t : Twin (blocks img) img out) where
  same : SameSuper img out
  same = twin_super t some

  blocks_same : blocks out ≡ blocks img
  blocks_same = blocks_is same

  counts_same : counts_at out ≡ counts_at img
  counts_same = rw (blocks_same, unused_is same)

  back : Twin (blocks out) out img
  back = rw blocks_same (twin_sym t)

  other_image : {s s' : List ℕ} {a b : ℕ} {o : Opened} → Opening out s s' a b o → Opening img s s' a b o
  other_image t₁ = grind (arith, common_steps, whole_twin, back, counts_same, reached_back, sized_twin, magic_is, same)

  module _ {s s' u' : List ℕ} {a b : ℕ} {o o' : Opened} (p : Opening img s s' a b o) where
    -- with one scratch for both: one answer, and one scratch afterwards
    pub opening_same : Opening out s u' a b o' → (o ≡ o') × (s' ≡ u')
    opening_same q = agree p (other_image q)

    -- with scratches of one length
    pub opening_even : {u : List ℕ} → length s ≡ length u → Opening out u u' a b o' → o ≡ o'
    opening_even e q = (agree p (as_long s e (other_image q)).1).0

    -- with scratches of any length, neither of them too short: both answer as with a scratch that is just long enough
    pub opening_twin : {u : List ℕ} → o ≢ Err ScratchShort → o' ≢ (Err ScratchShort) → Opening out u u' a b o' → o ≡ o'
    opening_twin d d' q = (agree (long ample enough d p).1 (long ample enough d' (other_image q)).1).0
      where
        ample : List ℕ
        ample = replicate (4 * blocks img) 0

        enough : 4 * blocks img ≤ length ample
        enough = omega (arith, length-replicate {A = ℕ} (4 * blocks img) 0)
