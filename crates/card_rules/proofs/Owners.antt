-- What the rules on blocks (`Sound`) say of owners: a block has one owner and one place, a free block none; numbers in use are below the block
-- count, and are neither 0 nor the map's; the bits of the reserved blocks are clear. Assumes nothing.
use mathlib.Core.Path.{◌≡◌, refl, sym, ap, ◌∙◌, subst}
use mathlib.Core.List.{List}
use Prim.Native.Nat.{ℕ, ◌+◌, ◌≤◌, ◌<◌}
use native.Mathlib.Omega.{arith}
use native.Mathlib.Decide.{dec_lt, ℕ_discrete}
use Rattle.words.specs.Sums.{δ, sum_to, cnt, without}
use Rattle.words.proofs.Sums.{δ_same, sum_to_term, sum_on_term, sum_on_two, sum_on-without}
use Rattle.card_layout.specs.Sizes.{maps_for}
use Rattle.card_layout.specs.Super.{blocks, maps}
use Rattle.card_layout.specs.Inode.{count}
use Rattle.card_map.specs.Bits.{map_bit}
use Rattle.card_rules.specs.View.{owns, uses}
use Rattle.card_rules.specs.Whole.{Sized, Sound}
use Rattle.card_rules.specs.Places.{Place, at_data, held, InUse}
use Rattle.card_rules.proofs.Views.{data_past, owns_own, uses_parts}
use Rattle.card_rules.proofs.Cells.{held-owned, two_places, place_eq}

-- the map's blocks are on the card
pub map_below : (img : List ℕ) → Sized img → (i : ℕ) → i < maps img → 2 + i < blocks img
unfolding maps_for
map_below img z i l = omega (arith, z.mapped, z.few)

module _ (img : List ℕ) (l : List ℕ) (s : Sound img l) where
  -- ---- in use at most once

  pub uses_le : (b : ℕ) → uses img l b ≤ 1
  uses_le b = go (dec_lt b (blocks img))
    where
      go : Dec (b < blocks img) → uses img l b ≤ 1
      go (yes h) = omega (arith, s.once b h)
      go (no h) = omega (arith, s.below b (omega arith))

  -- an inode that was listed twice would use its own block twice
  pub listed_once : (n : ℕ) → 0 < cnt n l → cnt n l ≡ 1
  listed_once n h = go (dec_lt 0 (cnt n (without n l)))
    where
      again : cnt n l ≡ 1 + cnt n (without n l)
      again = omega (arith, sum_on-without (δ n) n l h, δ_same n n refl)

      go : Dec (0 < cnt n (without n l)) → cnt n l ≡ 1
      go (yes q) =
          absurd (omega (
            arith,
            sum_on-without (λ k. owns img k n) n l h,
            sum_on_term (λ k. owns img k n) n (without n l) q,
            owns_own img n,
            uses_parts img l n,
            uses_le n,
          ))
      go (no q) = omega (arith, again)

  -- what a listed inode uses is in use; that is: beside the superblock, the map and the other inodes
  pub owns-uses : (n b : ℕ) → 0 < cnt n l → δ 0 b + sum_to (λ i. δ (2 + i) b) (maps img) + owns img n b ≤ uses img l b
  owns-uses n b h = omega (arith, uses_parts img l b, sum_on_term (λ k. owns img k b) n l h)

  pub owns_le : (n b : ℕ) → 0 < cnt n l → owns img n b ≤ 1
  owns_le n b h = omega (arith, owns-uses n b h, uses_le b)

  -- two inodes that use one block are the same
  pub one_owner : (n k b : ℕ) → 0 < cnt n l → 0 < cnt k l → 0 < owns img n b → 0 < owns img k b → n ≡ k
  one_owner n k b hn hk a c = go (ℕ_discrete n k)
    where
      go : Dec (n ≡ k) → n ≡ k
      go (yes e) = e
      go (no d) = absurd (omega (arith, sum_on_two (λ x. owns img x b) l n k d hn hk, uses_parts img l b, uses_le b))

  -- ---- below the block count

  pub used_below : (n b : ℕ) → 0 < cnt n l → 0 < owns img n b → b < blocks img
  used_below n b h o = go (dec_lt b (blocks img))
    where
      go : Dec (b < blocks img) → b < blocks img
      go (yes q) = q
      go (no q) = absurd (omega (arith, s.below b (omega arith), owns-uses n b h))

  pub inode_below : (n : ℕ) → 0 < cnt n l → n < blocks img
  inode_below n h = used_below n n h (owns_own img n)

  pub held_below : (n : ℕ) (p : Place) → 0 < cnt n l → InUse img n p → held img n p < blocks img
  held_below n p h u = used_below n (held img n p) h (held-owned img n p u)

  -- ---- in use or free, never both

  pub owned_taken : (n b : ℕ) → 0 < cnt n l → 0 < owns img n b → map_bit img b ≡ 0
  owned_taken n b h o = omega (arith, owns-uses n b h, s.once b (used_below n b h o))

  module _ (b : ℕ) (q : b < blocks img) (f : map_bit img b ≡ 1) where
    pub free_unowned : uses img l b ≡ 0
    free_unowned = omega (arith, s.once b q)

    pub free_owns : (n : ℕ) → 0 < cnt n l → owns img n b ≡ 0
    free_owns n h = omega (arith, free_unowned, owns-uses n b h)

    pub free_no_inode : 0 < cnt b l → ⊥
    free_no_inode h = omega (arith, free_owns b h, owns_own img b)

    pub free_not_held : (n : ℕ) (p : Place) → 0 < cnt n l → InUse img n p → held img n p ≡ b → ⊥
    free_not_held n p h u e = omega (arith, free_owns n h, subst (λ (x : ℕ). 0 < owns img n x) e (held-owned img n p u))

    pub free_not_zero : b ≡ 0 → ⊥
    free_not_zero e = omega (arith, free_unowned, uses_parts img l b, δ_same 0 b (sym e))

    pub free_not_map : (i : ℕ) → i < maps img → b ≡ 2 + i → ⊥
    free_not_map i h e =
        omega (arith, free_unowned, uses_parts img l b, δ_same (2 + i) b (sym e), sum_to_term (λ x. δ (2 + x) b) (maps img) i h)

  -- ---- a block has one place

  -- two places in use, of one or of two inodes, never share a block: else it would be in use twice
  pub places_differ : (n m : ℕ) (p q : Place) → 0 < cnt n l → 0 < cnt m l → InUse img n p → InUse img m q → held img n p ≡ held img m q
      → (n ≡ m) × (p ≡ q)
  places_differ n m p q hn hm u v e = (owner, go (place_eq p q))
    where
      owner : n ≡ m
      owner = one_owner n m (held img m q) hn hm (subst (λ (x : ℕ). 0 < owns img n x) e (held-owned img n p u)) (held-owned img m q v)

      go : Dec (p ≡ q) → p ≡ q
      go (yes x) = x
      go (no d) =
          let b : ℕ = held img m q in
          absurd (omega (
            arith,
            two_places img m p q b d (subst (λ (x : ℕ). InUse img x p) owner u) v,
            δ_same (held img m p) b (ap (λ (x : ℕ). held img x p) (sym owner) ∙ e),
            δ_same b b refl,
            owns_le m b hm,
          ))

  -- ---- reserved blocks

  -- block 0 and the map's are no inode's
  module _ (n : ℕ) (p : Place) (h : 0 < cnt n l) (u : InUse img n p) where
    pub not_zero : held img n p ≡ 0 → ⊥
    not_zero e =
        omega (
          arith,
          subst (λ (x : ℕ). 0 < owns img n x) e (held-owned img n p u),
          owns-uses n 0 h,
          uses_le 0,
          δ_same 0 0 refl,
        )

    pub not_map : (i : ℕ) → i < maps img → held img n p ≡ 2 + i → ⊥
    not_map i b e =
        omega (
          arith,
          subst (λ (x : ℕ). 0 < owns img n x) e (held-owned img n p u),
          owns-uses n (2 + i) h,
          uses_le (2 + i),
          δ_same (2 + i) (2 + i) refl,
          sum_to_term (λ x. δ (2 + x) (2 + i)) (maps img) i b,
        )

  pub not_reserved : (n : ℕ) (p : Place) → 0 < cnt n l → InUse img n p → (held img n p ≡ 0 → ⊥) × ((i : ℕ) → i < maps img → held img n p ≡ 2 + i → ⊥)
  not_reserved n p h u = (not_zero n p h u, not_map n p h u)

  -- so a file has no more blocks than it has slots
  pub count_slots : (n : ℕ) → 0 < cnt n l → count img n ≤ 1049612
  count_slots n h = go (dec_lt 1049612 (count img n))
    where
      go : Dec (1049612 < count img n) → count img n ≤ 1049612
      go (yes q) = absurd (not_zero n (at_data 1049612) h q (data_past img n 1049612 (omega arith)))
      go (no q) = omega arith

  -- their bits are clear, which the definition need not say: they are in use, and so not free
  pub reserved_zero : map_bit img 0 ≡ 0
  reserved_zero = omega (arith, s.once 0 (omega (arith, s.sized.few)), uses_parts img l 0, δ_same 0 0 refl)

  pub reserved_root : 0 < cnt 1 l → map_bit img 1 ≡ 0
  reserved_root h = owned_taken 1 1 h (owns_own img 1)

  pub reserved_map : (i : ℕ) → i < maps img → map_bit img (2 + i) ≡ 0
  reserved_map i h =
      omega (
        arith,
        s.once (2 + i) (map_below img s.sized i h),
        uses_parts img l (2 + i),
        δ_same (2 + i) (2 + i) refl,
        sum_to_term (λ x. δ (2 + x) (2 + i)) (maps img) i h,
      )

  -- rule 2: "Map bits .. of blocks 0, 1 and the map, are clear"
  pub reserved : (map_bit img 0 ≡ 0) × (0 < cnt 1 l → map_bit img 1 ≡ 0) × ((i : ℕ) → i < maps img → map_bit img (2 + i) ≡ 0)
  reserved = (reserved_zero, reserved_root, reserved_map)
