-- The padding and the device number of a record whose length and links change: "A new record has zero padding; a later edit keeps it". `img` is the card
-- before, `out` the card after. Assumes nothing.
use mathlib.Core.Path.{◌≡◌, refl, ap, ◌∙◌}
use mathlib.Core.List.{List}
use Prim.Native.Nat.{ℕ, ◌+◌, ◌*◌, ◌≤◌, ◌<◌, ◌^◌}
use native.Mathlib.Omega.{arith}
use lib.ListN.{length}
use Rattle.std.proofs.lemmas.Grind.{common_steps}
use Rattle.words.specs.Words.{put_word, Bytes}
use Rattle.words.proofs.Numbers.{length-put, num_out, num_same, num_lt}
use Rattle.card_layout.specs.Sizes.{blocks_for}
use Rattle.card_layout.specs.Inode.{count, padding, device, with_size, put_words, put_front, put_back, encoded}
use Rattle.card_layout.specs.declared.inode.FileType.{FileType}
use Rattle.card_layout.specs.declared.inode.Head.{Head}
use Rattle.card_layout.specs.declared.inode.DiskINode.{DiskINode}
use Rattle.card_layout.proofs.Words.{length-put_words}
use Rattle.card_layout.proofs.InodeLaws.{inode_at, length_front}
use Rattle.card_rules.specs.Same.{SameRecord}
use Rattle.card_rules.proofs.Frames.{padding_is, device_is}
use Rattle.file_blocks.specs.Taking.{Growing, grow_indirect, grow_double}
use Rattle.file_blocks.specs.Taking.{grown, shrunk, less_indirect, less_double}
use Rattle.file_blocks.proofs.Growth.{inode_grow_level, inode_grow_single, inode_grow_twofold, head_grow_direct}
use Rattle.file_requests.specs.Resizing.{of_length, growth, lengthened, file_blocks, shorter}
use Rattle.law_files.proofs.Losses.{less_both}
use Rattle.law_dirs.proofs.LinkBytes.{relinked}

-- the last 12 bytes of a record, as numbers
pub record SameTail (img out : List ℕ) (n : ℕ) : Type 0 where
  pub padding_same : padding out n ≡ padding img n
  pub device_same : device out n ≡ device img n

pub tail_trans : {img mid out : List ℕ} {n : ℕ} → SameTail img mid n → SameTail mid out n → SameTail img out n
tail_trans x y = record { padding_same = y.padding_same ∙ x.padding_same; device_same = y.device_same ∙ x.device_same }

pub tail_record : {img out : List ℕ} {n : ℕ} → SameRecord img out n → SameTail img out n
tail_record s = record { padding_same = padding_is s; device_same = device_is s }

-- ---- a record written

pub encoded-length : (x : List ℕ) (n : ℕ) (d : DiskINode) → length (encoded x n d) ≡ length x
unfolding encoded put_front put_back
encoded-length x n d = simp (length-put_words, length-put)

-- the two fields of a record of any other contents, once its links are put
module _ (x : List ℕ) (n : ℕ) (d : DiskINode) (v : ℕ) (room : 4096 * n + 80 ≤ length x) where
  abbrev front : List ℕ
  front = put_words (put_front x (4096 * n) d.head) (4096 * n + 12) d.direct

  abbrev pointers : List ℕ
  pointers = put_word (put_word front (4096 * n + 60) d.head.indirect.0) (4096 * n + 64) d.head.db_indirect.0

  long : length pointers ≡ length x
  long = grind (arith, common_steps, length-put, length-put_words, length_front)

  padding_put : d.head.padding < 2 ^ 32 → padding (relinked (encoded x n d) n v) n ≡ d.head.padding
  unfolding encoded put_back
  padding_put h = grind (arith, common_steps, num_out, num_same, long)

  device_put : d.head.device_inode_id < 2 ^ 64 → device (relinked (encoded x n d) n v) n ≡ d.head.device_inode_id
  unfolding encoded put_back
  device_put h = grind (arith, common_steps, num_out, num_same, length-put, long)

  pub tail_encoded : {img : List ℕ} → Bytes img → d.head.padding ≡ padding img n → d.head.device_inode_id ≡ device img n
      → SameTail img (relinked (encoded x n d) n v) n
  tail_encoded {img} bytes p q = grind (arith, common_steps, padding_put, num_lt, device_put)

-- ---- growth keeps them

abbrev Ended : Head → Head → Type 0
Ended h k = (k.padding ≡ h.padding) × (k.device_inode_id ≡ h.device_inode_id)

module _ (nb a b : ℕ) (g : Growing) where
  ended_indirect : Ended g.inode.head (grow_indirect nb a b g).inode.head
  unfolding grow_indirect
  ended_indirect = grind (arith, common_steps)

  ended_double : Ended g.inode.head (grow_double nb a b g).inode.head
  unfolding grow_double
  ended_double = grind (arith, common_steps)

pub ended_grown : (nb a b : ℕ) (g : Growing) → Ended g.inode.head (grown nb a b g).inode.head
unfolding grown
ended_grown nb a b g = grind (arith, common_steps, inode_grow_twofold, inode_grow_single, head_grow_direct, inode_grow_level, ended_indirect, ended_double)

-- ---- a length change, with other links

module _ (img : List ℕ) (bytes : Bytes img) (n : ℕ) (k : FileType) (v len : ℕ) where
  pub tail_lengthened : (nb : ℕ) → 4096 * n + 80 ≤ length (lengthened nb n (inode_at img n k) len img)
      → SameTail img (relinked (lengthened nb n (inode_at img n k) len img) n v) n
  unfolding lengthened
  tail_lengthened nb room =
      let d = inode_at img n k in
      let e = ended_grown nb (count img n) (blocks_for len) (record { cur = record { img = img; from = 0 }; inode = d }) in
      let x : DiskINode = of_length (growth nb d len img).inode len in
      tail_encoded (growth nb d len img).cur.img n x v (omega (arith, encoded-length (growth nb d len img).cur.img n x)) bytes e.0 e.1

  pub tail_shorter : (nb : ℕ) → 4096 * n + 80 ≤ length (shorter nb n (inode_at img n k) len img)
      → SameTail img (relinked (shorter nb n (inode_at img n k) len img) n v) n
  unfolding shorter
  tail_shorter nb room =
      let d = inode_at img n k in
      let b : ℕ = blocks_for len in
      let a : ℕ = file_blocks d in
      let x : DiskINode = of_length (less_double b a (less_indirect b a d)) len in
      tail_encoded (shrunk nb n d b a img) n x v (omega (arith, encoded-length (shrunk nb n d b a img) n x)) bytes
      (ap (λ (x : DiskINode). x.head.padding) (less_both b a d)) (ap (λ (x : DiskINode). x.head.device_inode_id) (less_both b a d))

  pub tail_size : 4096 * n + 80 ≤ length img → SameTail img (relinked (encoded img n (with_size (inode_at img n k) len)) n v) n
  tail_size room = tail_encoded img n (with_size (inode_at img n k) len) v room bytes refl refl
