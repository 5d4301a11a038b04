-- The laws of the superblock: each field is there after encoding, decoding and encoding are inverse, and encoding touches its own 48 bytes alone.
-- Assumes nothing.
use Prim.Native.Nat.{ℕ, ◌+◌, ◌^◌, ◌<◌, ◌≤◌}
use mathlib.Core.Path.{◌≡◌, sym, ap, ◌∙◌}
use mathlib.Core.List.{List}
use native.Mathlib.Omega.{arith}
use lib.ListN.{length, take, drop, length-take, length-drop}
use lib.Seq.{ext_get_or, get_or-take, get_or-drop}
use Rattle.words.specs.Words.{byte, num, put_word, Bytes}
use Rattle.words.specs.Inner.{Apart}
use Rattle.words.specs.Runs.{copied}
use Rattle.words.proofs.Numbers.{length-put, num_out, num_frame, num_same, byte_out, bytes_put, put_num_lem}
use Rattle.words.proofs.Runs.{length-copied, byte-copied_off, byte-copied_in, copied_same, bytes_copied}
use Rattle.card_layout.specs.declared.superblock.SuperBlock.{SuperBlock}
use Rattle.card_layout.specs.Super.{magic, blocks, unused, maps, super_put}
use Rattle.card_layout.specs.Inner.{super_at}

-- what holds of each superblock that code has
pub record SuperFits (s : SuperBlock) : Type 0 where
  pub magic : s.magic < 2 ^ 32
  pub blocks : s.blocks < 2 ^ 32
  pub unused : s.unused_blocks < 2 ^ 32
  pub maps : s.freemap_blocks < 2 ^ 32
  pub info : length s.info ≡ 32

-- a number outside a run of copied bytes
num-copied_off : (m : ℕ) (d : List ℕ) (at : ℕ) (s : List ℕ) (from n b : ℕ) → Apart b m at n → num m (copied d at s from n) b ≡ num m d b
num-copied_off m d at s from n b h =
    num_frame m _ d b (λ k p q. byte-copied_off d at s from n k (λ x y. h (omega arith) (omega arith)))

module _ (img : List ℕ) (s : SuperBlock) (l : 48 ≤ length img) (f : SuperFits s) where
  pub length_super : length (super_put img s) ≡ length img
  unfolding super_put
  length_super = simp (length-put, length-copied)

  pub magic_super : magic (super_put img s) ≡ s.magic
  unfolding super_put
  magic_super =
      num_out 4 4 _ 0 44 _ (omega arith)
      ∙ num-copied_off 4 _ 12 s.info 0 32 0 (omega arith)
      ∙ num_out 4 4 _ 0 8 _ (omega arith)
      ∙ num_out 4 4 _ 0 4 _ (omega arith)
      ∙ num_same 4 img 0 s.magic (omega arith) f.magic

  pub blocks_super : blocks (super_put img s) ≡ s.blocks
  unfolding super_put
  blocks_super =
      num_out 4 4 _ 4 44 _ (omega arith)
      ∙ num-copied_off 4 _ 12 s.info 0 32 4 (omega arith)
      ∙ num_out 4 4 _ 4 8 _ (omega arith)
      ∙ num_same 4 _ 4 s.blocks (simp length-put (omega arith)) f.blocks

  pub unused_super : unused (super_put img s) ≡ s.unused_blocks
  unfolding super_put
  unused_super =
      num_out 4 4 _ 8 44 _ (omega arith)
      ∙ num-copied_off 4 _ 12 s.info 0 32 8 (omega arith)
      ∙ num_same 4 _ 8 s.unused_blocks (simp length-put (omega arith)) f.unused

  pub maps_super : maps (super_put img s) ≡ s.freemap_blocks
  unfolding super_put
  maps_super = num_same 4 _ 44 s.freemap_blocks (simp (length-put, length-copied) (omega arith)) f.maps

  pub info_super : take 32 (drop 12 (super_put img s)) ≡ s.info
  unfolding super_put
  info_super =
      let y = put_word (put_word (put_word img 0 s.magic) 4 s.blocks) 8 s.unused_blocks in
      let z = copied y 12 s.info 0 32 in
      let x = put_word z 44 s.freemap_blocks in
      let e : length (take 32 (drop 12 x)) ≡ 32 = simp (length-take, length-drop, length-put, length-copied) (omega arith) in
      ext_get_or 0 (take 32 (drop 12 x)) s.info (e ∙ sym f.info)
      (λ k h. let b : k < 32 = omega arith in
      get_or-take 32 (drop 12 x) k 0 b
      ∙ get_or-drop 12 x k 0
      ∙ byte_out 4 z 44 s.freemap_blocks (12 + k) (omega arith)
      ∙ byte-copied_in y 12 s.info 0 32 k (simp length-put (omega arith)) b
      ∙ ap (byte s.info) (omega arith))

  -- decoding what was encoded gives it back
  pub super_back : super_at (super_put img s) ≡ s
  super_back = rw (magic_super, blocks_super, unused_super, info_super, maps_super)

  pub byte_super_off : (k : ℕ) → 48 ≤ k → byte (super_put img s) k ≡ byte img k
  unfolding super_put
  byte_super_off k h =
      byte_out 4 _ 44 _ k (omega arith)
      ∙ byte-copied_off _ 12 s.info 0 32 k (omega arith)
      ∙ byte_out 4 _ 8 _ k (omega arith)
      ∙ byte_out 4 _ 4 _ k (omega arith)
      ∙ byte_out 4 img 0 _ k (omega arith)

pub bytes_super : (img : List ℕ) (s : SuperBlock) → Bytes img → Bytes s.info → Bytes (super_put img s)
unfolding super_put
bytes_super img s h i = bytes_put 4 _ _ _ (bytes_copied _ 12 s.info 0 32 (bytes_put 4 _ _ _ (bytes_put 4 _ _ _ (bytes_put 4 _ _ _ h))) i)

-- encoding what was decoded changes nothing
pub super_same : (img : List ℕ) → 48 ≤ length img → Bytes img → super_put img (super_at img) ≡ img
unfolding super_put
super_same img l h =
    rw (
      put_num_lem 4 img 0 h,
      put_num_lem 4 img 4 h,
      put_num_lem 4 img 8 h,
      copied_same img 12 (take 32 (drop 12 img)) 0 32 (omega arith) (λ k b. get_or-take 32 (drop 12 img) (0 + k) 0 (omega arith) ∙ get_or-drop 12 img (0 + k) 0 ∙ ap (byte img) (omega arith)),
      put_num_lem 4 img 44 h,
    )
