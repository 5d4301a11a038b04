-- What the code has after the steps of a length change, said as `Resizing`. Assumes nothing.
use mathlib.Core.Path.{◌≡◌, refl, ap, ◌∙◌}
use mathlib.Core.List.{List}
use Prim.Native.Nat.{ℕ, ◌≤◌, ◌<◌}
use native.Mathlib.Omega.{arith}
use Rattle.card_layout.specs.Sizes.{blocks_for}
use Rattle.card_layout.specs.Inode.{with_size, encoded}
use Rattle.card_layout.specs.declared.inode.DiskINode.{DiskINode}
use Rattle.file_grow.specs.declared.Took.{Took}
use Rattle.file_blocks.specs.Taking.{grown, shrunk, less_indirect, less_double}
use Rattle.file_grow.specs.Inner.{growing_at, Grew}
use Rattle.file_blocks.proofs.Picks.{pick_yes, pick_no}
use Rattle.file_requests.specs.Resizing.{of_length, lengthened, cleaned, most_blocks, file_blocks, shorter, fitted, new_zero, resized}
use Rattle.file_requests.specs.Requests.{reaching}

-- the record from which growth begins
abbrev pub begun : DiskINode → Took
begun d = record { inode = d; from = record { 0 = 0 } }

module _ (nb n : ℕ) (d : DiskINode) (len : ℕ) (img : List ℕ) where
  pub lengthened_by : (b : ℕ) (i₁ i₂ : List ℕ) (r : Took) (e : DiskINode) → b ≡ blocks_for len
      → Grew (grown nb d.head.blocks b (growing_at img (begun d))) i₁ r → e ≡ of_length r.inode len → i₂ ≡ encoded i₁ n e
      → i₂ ≡ lengthened nb n d len img
  unfolding lengthened
  lengthened_by b i₁ i₂ r e p g q s = rw (s, q, g.img_is, g.inode_is, p)

  pub shorter_by : (a b : ℕ) (i₁ i₂ : List ℕ) (e f g : DiskINode) → a ≡ file_blocks d → b ≡ blocks_for len → i₁ ≡ shrunk nb n d b a img
      → e ≡ less_indirect b a d → f ≡ less_double b a e → g ≡ of_length f len → i₂ ≡ encoded i₁ n g → i₂ ≡ shorter nb n d len img
  unfolding shorter
  shorter_by a b i₁ i₂ e f g o p s q₁ q₂ q₃ t = rw (t, q₃, q₂, q₁, s, o, p)

  -- with rule 4 of the record
  pub shorter_is : d.head.blocks ≤ most_blocks
      → shorter nb n d len img
      ≡ encoded
      (shrunk nb n d (blocks_for len) d.head.blocks img)
      n
      (of_length (less_double (blocks_for len) d.head.blocks (less_indirect (blocks_for len) d.head.blocks d)) len)
  unfolding shorter
  shorter_is h =
      let e : file_blocks d ≡ d.head.blocks = omega arith in
      ap (λ (a : ℕ). encoded (shrunk nb n d (blocks_for len) a img) n (of_length (less_double (blocks_for len) a (less_indirect (blocks_for len) a d)) len)) e

  -- the three cases
  pub fitted_up : d.head.blocks < blocks_for len → fitted nb n d len img ≡ lengthened nb n d len img
  unfolding fitted
  fitted_up h = pick_yes d.head.blocks (blocks_for len) _ _ h

  pub fitted_down : blocks_for len < d.head.blocks → fitted nb n d len img ≡ shorter nb n d len img
  unfolding fitted
  fitted_down h = pick_no d.head.blocks (blocks_for len) _ _ (omega arith) ∙ pick_yes (blocks_for len) d.head.blocks _ _ h

  pub fitted_within : blocks_for len ≡ d.head.blocks → fitted nb n d len img ≡ encoded img n (with_size d len)
  unfolding fitted
  fitted_within h = pick_no d.head.blocks (blocks_for len) _ _ (omega arith) ∙ pick_no (blocks_for len) d.head.blocks _ _ (omega arith)

  -- new bytes, where there are some
  pub new_some : d.head.size < len → new_zero nb n d len img ≡ cleaned nb n d.head.size len img
  new_some h = pick_yes d.head.size len _ _ h

  pub new_none : len ≤ d.head.size → new_zero nb n d len img ≡ img
  new_none h = pick_no d.head.size len _ _ h

  pub resized_by : (i₁ i₂ : List ℕ) → i₁ ≡ fitted nb n d len img → i₂ ≡ new_zero nb n d len i₁ → i₂ ≡ resized nb n d len img
  unfolding resized
  resized_by i₁ i₂ p q = rw (q, p)

  pub resized_is : resized nb n d len img ≡ new_zero nb n d len (fitted nb n d len img)
  unfolding resized
  resized_is = refl

  -- a file that is to reach the byte before len
  pub reaching_past : (off : ℕ) → d.head.size < len → reaching nb n d off len img ≡ new_zero nb n d off (fitted nb n d len img)
  unfolding reaching
  reaching_past off h = pick_yes d.head.size len _ _ h

  pub reaching_in : (off : ℕ) → len ≤ d.head.size → reaching nb n d off len img ≡ img
  unfolding reaching
  reaching_in off h = pick_no d.head.size len _ _ h
