-- The laws of the inode record: each field is there after encoding, decoding and encoding are inverse, and encoding touches its own 80 bytes alone.
-- Assumes nothing.
use Prim.Native.Nat.{ℕ, ◌+◌, ◌*◌, ◌^◌, ◌<◌, ◌≤◌}
use mathlib.Core.Path.{◌≡◌, refl, sym, ap, ◌∙◌}
use mathlib.Core.List.{List}
use mathlib.Core.Logic.{⊎_elim}
use native.Mathlib.Omega.{arith}
use lib.Dec.{T, leb, leb→le}
use lib.ListN.{length, replicate, get_or-replicate, get_or-eq_default}
use native.Mathlib.Decide.{dec_lt}
use Rattle.words.specs.Words.{byte, num, put_num, Bytes}
use Rattle.words.specs.Inner.{Apart}
use Rattle.words.proofs.Numbers.{length-put, num_out, num_same, byte_out, bytes_put, put_num_lem, num_lt, apart, apart_cases, field_out, field_same, first_out, past_first}
use Rattle.card_layout.specs.declared.BlockId.{BlockId}
use Rattle.card_layout.specs.declared.inode.FileType.{FileType}
use Rattle.card_layout.specs.declared.inode.FileType.TheVariants.{File, Dir, SymLink}
use Rattle.card_layout.specs.declared.inode.Head.{Head}
use Rattle.card_layout.specs.declared.inode.DiskINode.{DiskINode}
use Rattle.std.specs.Prelude.{Some}
use Rattle.card_layout.specs.Inode.{size, kind, links, count, direct, indirect, double, padding, device, kind_no, block_id, head_at, head_by, decoded, put_words, number_at, directs, put_front, put_back, encoded, Fitting, new_inode, with_size, with_links, with_blocks, with_indirect, with_double, with_direct}
use Rattle.card_layout.proofs.Words.{length-words, get_or-words, length-put_words, num_out_words, byte_out_words, words_frame, words_same_of, words_lt, bytes_put_words, put_words_lem}

pub kind_no_lt : (k : FileType) → kind_no k < 65536
kind_no_lt File = omega arith
kind_no_lt Dir = omega arith
kind_no_lt SymLink = omega arith

-- a field of the record outside its direct slots
field_words : (m b : ℕ) (xs : List ℕ) (at a : ℕ) (ws : List BlockId) → length ws ≡ 12 → T (apart b m a 48) → num m (put_words xs (at + a) ws) (at + b) ≡ num m xs (at + b)
field_words m b xs at a ws e t =
    num_out_words m xs (at + b) (at + a) ws
    (λ p q. ⊎_elim (λ (h : b + m ≤ a). omega arith) (λ (h : a + 48 ≤ b). omega arith) (apart_cases b m a 48 t))

first_words : (m : ℕ) (xs : List ℕ) (at a : ℕ) (ws : List BlockId) → T (leb m a) → num m (put_words xs (at + a) ws) at ≡ num m xs at
first_words m xs at a ws t = let k : m ≤ a = leb→le _ _ t in num_out_words m xs at (at + a) ws (λ p q. omega arith)

-- `field_same` at the record's 80 bytes: a rewriting lemma shows all its arguments on its left side
same80 : (m a : ℕ) (xs : List ℕ) (at v : ℕ) → at + 80 ≤ length xs → T (leb (a + m) 80) → v < 256 ^ m → num m (put_num m xs (at + a) v) (at + a) ≡ v
same80 m a xs at v l t h = field_same m a 80 xs at v l t h

first80 : (m : ℕ) (xs : List ℕ) (at v : ℕ) → at + 80 ≤ length xs → T (leb m 80) → v < 256 ^ m → num m (put_num m xs at v) at ≡ v
first80 m xs at v l t h = let k : m ≤ 80 = leb→le _ _ t in num_same m xs at v (omega arith) h

ruleset fields = (tt, field_words, first_words, field_out, first_out, past_first, same80, first80, length-put, length-put_words, kind_no_lt)

pub head_by-kind : (k : FileType) (img : List ℕ) (n : ℕ) → head_by (kind_no k) img n ≡ Some (head_at img n k)
unfolding head_by
head_by-kind File img n = refl
head_by-kind Dir img n = refl
head_by-kind SymLink img n = refl

-- ---- the two parts of scalars

pub length_front : (img : List ℕ) (at : ℕ) (h : Head) → length (put_front img at h) ≡ length img
unfolding put_front
length_front img at h = simp length-put

pub byte_front_off : (img : List ℕ) (at : ℕ) (h : Head) (k : ℕ) → Apart k 1 at 12 → byte (put_front img at h) k ≡ byte img k
unfolding put_front
byte_front_off img at h k a =
    byte_out 4 _ (at + 8) _ k (λ p q. a (omega arith) (omega arith))
    ∙ byte_out 2 _ (at + 6) _ k (λ p q. a (omega arith) (omega arith))
    ∙ byte_out 2 _ (at + 4) _ k (λ p q. a (omega arith) (omega arith))
    ∙ byte_out 4 img at _ k (λ p q. a (omega arith) (omega arith))

pub byte_back_off : (img : List ℕ) (at : ℕ) (h : Head) (k : ℕ) → Apart k 1 (at + 60) 20 → byte (put_back img at h) k ≡ byte img k
unfolding put_back
byte_back_off img at h k a =
    byte_out 8 _ (at + 72) _ k (λ p q. a (omega arith) (omega arith))
    ∙ byte_out 4 _ (at + 68) _ k (λ p q. a (omega arith) (omega arith))
    ∙ byte_out 4 _ (at + 64) _ k (λ p q. a (omega arith) (omega arith))
    ∙ byte_out 4 _ (at + 60) _ k (λ p q. a (omega arith) (omega arith))

-- ---- decoding what was encoded

module _ (img : List ℕ) (n : ℕ) (d : DiskINode) (l : 4096 * n + 80 ≤ length img) (s : Fitting d) where
  pub length-encoded : length (encoded img n d) ≡ length img
  unfolding encoded put_front put_back
  length-encoded = simp (length-put_words, length-put)

  pub size-encoded : size (encoded img n d) n ≡ d.head.size
  unfolding encoded put_front put_back
  size-encoded = search fields

  pub kind-encoded : kind (encoded img n d) n ≡ kind_no d.head.type_
  unfolding encoded put_front put_back
  kind-encoded = search fields

  pub links-encoded : links (encoded img n d) n ≡ d.head.nlinks
  unfolding encoded put_front put_back
  links-encoded = search fields

  pub count-encoded : count (encoded img n d) n ≡ d.head.blocks
  unfolding encoded put_front put_back
  count-encoded = search fields

  pub indirect-encoded : indirect (encoded img n d) n ≡ d.head.indirect.0
  unfolding encoded put_front put_back
  indirect-encoded = search fields

  pub double-encoded : double (encoded img n d) n ≡ d.head.db_indirect.0
  unfolding encoded put_front put_back
  double-encoded = search fields

  pub padding-encoded : padding (encoded img n d) n ≡ d.head.padding
  unfolding encoded put_front put_back
  padding-encoded = search fields

  pub device-encoded : device (encoded img n d) n ≡ d.head.device_inode_id
  unfolding encoded put_front put_back
  device-encoded = search fields

  -- decoding what was encoded gives it back
  pub decoded-encoded : decoded (encoded img n d) n ≡ Some d.head
  decoded-encoded =
      rw (
        kind-encoded,
        head_by-kind d.head.type_ (encoded img n d) n,
        size-encoded,
        links-encoded,
        count-encoded,
        indirect-encoded,
        double-encoded,
        padding-encoded,
        device-encoded,
      )

  pub directs-encoded : directs (encoded img n d) n ≡ d.direct
  unfolding encoded put_back
  directs-encoded =
      words_frame 12 _ (put_words (put_front img (4096 * n) d.head) (4096 * n + 12) d.direct) (4096 * n + 12)
      (λ i h.
      num_out 4 8 _ (4096 * n + 12 + 4 * i) (4096 * n + 72) _ (omega arith)
      ∙ num_out 4 4 _ (4096 * n + 12 + 4 * i) (4096 * n + 68) _ (omega arith)
      ∙ num_out 4 4 _ (4096 * n + 12 + 4 * i) (4096 * n + 64) _ (omega arith)
      ∙ num_out 4 4 _ (4096 * n + 12 + 4 * i) (4096 * n + 60) _ (omega arith))
      ∙ words_same_of 12 _ (4096 * n + 12) d.direct s.twelve (rw (length_front img (4096 * n) d.head) (omega arith)) s.slots

  pub direct-encoded : (i : ℕ) → i < 12 → direct (encoded img n d) n i ≡ number_at d.direct i
  direct-encoded i h = sym (get_or-words 12 (encoded img n d) (4096 * n + 12) i h) ∙ ap (λ (bs : List BlockId). number_at bs i) directs-encoded

  -- encoding touches the record's own 80 bytes alone
  pub byte-encoded_off : (k : ℕ) → Apart k 1 (4096 * n) 80 → byte (encoded img n d) k ≡ byte img k
  unfolding encoded
  byte-encoded_off k h =
      byte_back_off _ (4096 * n) d.head k (λ p q. h (omega arith) (omega arith))
      ∙ byte_out_words _ (4096 * n + 12) d.direct k (λ p q. h (omega (arith, s.twelve)) (omega arith))
      ∙ byte_front_off img (4096 * n) d.head k (λ p q. h (omega arith) (omega arith))

pub bytes_encoded : (img : List ℕ) (n : ℕ) (d : DiskINode) → Bytes img → Bytes (encoded img n d)
unfolding encoded put_front put_back
bytes_encoded img n d h =
    bytes_put 8 _ _ _
    (bytes_put 4 _ _ _
    (bytes_put 4 _ _ _
    (bytes_put 4 _ _ _ (bytes_put_words _ _ _ (bytes_put 4 _ _ _ (bytes_put 2 _ _ _ (bytes_put 2 _ _ _ (bytes_put 4 _ _ _ h))))))))

-- ---- encoding what was decoded changes nothing

-- the record that decoding and the slots give
abbrev pub inode_at : List ℕ → ℕ → FileType → DiskINode
inode_at img n k = record { head = head_at img n k; direct = directs img n }

pub encoded-decoded : (img : List ℕ) (n : ℕ) (k : FileType) → Bytes img → kind img n ≡ kind_no k → encoded img n (inode_at img n k) ≡ img
unfolding encoded put_front put_back
encoded-decoded img n k h e =
    rw (
      put_num_lem 4 img (4096 * n) h,
      ← e,
      put_num_lem 2 img (4096 * n + 4) h,
      put_num_lem 2 img (4096 * n + 6) h,
      put_num_lem 4 img (4096 * n + 8) h,
      put_words_lem 12 img (4096 * n + 12) h,
      put_num_lem 4 img (4096 * n + 60) h,
      put_num_lem 4 img (4096 * n + 64) h,
      put_num_lem 4 img (4096 * n + 68) h,
      put_num_lem 8 img (4096 * n + 72) h,
    )

-- a record read from bytes fits
pub inode_at_fits : (img : List ℕ) (n : ℕ) (k : FileType) → Bytes img → Fitting (inode_at img n k)
inode_at_fits img n k h =
    record {
      size = num_lt 4 img (4096 * n) h;
      nlinks = num_lt 2 img (4096 * n + 6) h;
      blocks = num_lt 4 img (4096 * n + 8) h;
      indirect = num_lt 4 img (4096 * n + 60) h;
      double = num_lt 4 img (4096 * n + 64) h;
      padding = num_lt 4 img (4096 * n + 68) h;
      device = num_lt 8 img (4096 * n + 72) h;
      twelve = length-words 12 img (4096 * n + 12);
      slots = words_lt 12 img (4096 * n + 12) h;
    }

-- ---- new records and edits

pub new_inode_fits : (k : FileType) → Fitting (new_inode k)
new_inode_fits k =
    record {
      size = omega arith;
      nlinks = omega arith;
      blocks = omega arith;
      indirect = omega arith;
      double = omega arith;
      padding = omega arith;
      device = omega arith;
      twelve = refl;
      slots = zeros;
    }
  where
    zeros : (i : ℕ) → number_at (replicate 12 (block_id 0)) i < 2 ^ 32
    zeros i = go (dec_lt i 12)
      where
        go : Dec (i < 12) → number_at (replicate 12 (block_id 0)) i < 2 ^ 32
        go (yes h) = rw (get_or-replicate 12 i (block_id 0) (block_id 0) h) (omega arith)
        go (no h) = rw (get_or-eq_default (replicate 12 (block_id 0)) (block_id 0) {n = i} (omega arith)) (omega arith)

-- "A new record has zero padding; a later edit keeps it": and the device number and the kind likewise
pub new_padding : (k : FileType) → ((new_inode k).head.padding ≡ 0) × ((new_inode k).head.device_inode_id ≡ 100)
new_padding k = (refl, refl)

abbrev pub Kept : DiskINode → DiskINode → Type 0
Kept d e =
    (e.head.padding ≡ d.head.padding) × (e.head.device_inode_id ≡ d.head.device_inode_id) × (e.head.type_ ≡ d.head.type_)

pub edits_keep : (d : DiskINode) (v i : ℕ) → Kept d (with_size d v) × Kept d (with_links d v) × Kept d (with_blocks d v) × Kept d (with_indirect d v) × Kept d (with_double d v) × Kept d (with_direct d i v)
edits_keep d v i = ((refl, refl, refl), (refl, refl, refl), (refl, refl, refl), (refl, refl, refl), (refl, refl, refl), (refl, refl, refl))
