-- A new inode with no blocks on a sound card: the lowest free block taken and a new record written there, as the first step of a creation. `img` is the
-- card before, `out` the card after. Assumes nothing.
use mathlib.Core.Path.{◌≡◌, sym, ap, ◌∙◌, subst}
use mathlib.Core.List.{List, ◌∷◌}
use mathlib.Core.Logic.{◌≢◌, ⊎_elim}
use Prim.Native.Nat.{ℕ, ◌+◌, ◌*◌, ◌/◌, ◌≤◌, ◌<◌}
use native.Mathlib.Omega.{arith}
use lib.ListN.{length}
use Rattle.std.proofs.lemmas.Grind.{common_steps}
use Rattle.words.specs.Words.{byte, num, Bytes}
use Rattle.words.specs.Inner.{Apart}
use Rattle.words.specs.Sums.{δ, cnt}
use Rattle.words.proofs.Numbers.{num_lt, num_frame}
use Rattle.words.proofs.Sums.{δ_other, δ_cases, sum_to_zero}
use Rattle.card_layout.specs.Super.{blocks, unused, maps}
use Rattle.card_layout.specs.Inode.{size, kind, links, count, kind_no, encoded, new_inode, with_links, Fitting}
use Rattle.card_layout.specs.declared.inode.FileType.{FileType}
use Rattle.card_layout.specs.declared.inode.DiskINode.{DiskINode}
use Rattle.card_layout.proofs.InodeLaws.{inode_at, length-encoded, size-encoded, kind-encoded, links-encoded, count-encoded, indirect-encoded, double-encoded, padding-encoded, device-encoded, directs-encoded, byte-encoded_off, bytes_encoded}
use Rattle.card_map.specs.Bits.{map_byte, map_bit, free_bits}
use Rattle.card_map.specs.Free.{lowest, taken_at, taken}
use Rattle.card_map.proofs.Map.{bit_is, bit_below, free_is}
use Rattle.card_map.proofs.Laws.{
  lowest_free,
  lowest_least,
  lowest_on,
  lowest_cong,
  lowest_finds,
  taken_some,
  length-taken_at,
  byte-taken_at_off,
  bytes_taken_at,
  bit_taken_at_same,
  bit_taken_at_other,
  unused-taken_at,
  free_taken_at,
}
use Rattle.card_rules.specs.View.{owns}
use Rattle.card_rules.specs.Whole.{Inode, Sound}
use Rattle.card_rules.proofs.Views.{owns_few}
use Rattle.card_rules.proofs.Owners.{map_below, free_no_inode, free_not_zero, free_not_map}
use Rattle.card_rules.specs.Same.{SameFile}
use Rattle.card_rules.proofs.Frames.{block_from}
use Rattle.card_rules.proofs.Kept.{Steady, bit_of_lem}
use Rattle.card_rules.proofs.Isolation.{Among, Added, listed_same, sound_add}
use Rattle.file_blocks.specs.Taking.{next_free}
use Rattle.file_blocks.proofs.Growth.{next_free_some}
use Rattle.file_grow.proofs.Taken.{nth_free}

-- an inode with no blocks owns its own
pub owns_none : (img : List ℕ) (n b : ℕ) → count img n ≡ 0 → owns img n b ≡ δ n b
owns_none img n b e = grind (arith, common_steps, owns_few, sum_to_zero)

-- what the first step leaves of a card: inode i has the record d, and no listed inode changed
pub record Fresh (l img out : List ℕ) (i : ℕ) (t : FileType) (v : ℕ) : Type 0 where
  -- i was free, and so no inode
  pub below : i < blocks img
  pub was_free : map_bit img i ≡ 1
  pub new : cnt i l ≡ 0
  pub sound : Sound out (i ∷ l)
  pub bytes : Bytes out
  pub same : (m : ℕ) → 0 < cnt m l → SameFile img out m
  pub blocks_is : blocks out ≡ blocks img
  pub takes : unused out + 1 ≡ unused img
  pub balance : (b : ℕ) → b < blocks img → owns out i b + map_bit out b ≡ map_bit img b
  pub size_is : size out i ≡ 0
  pub kind_is : kind out i ≡ kind_no t
  pub links_is : links out i ≡ v
  pub count_is : count out i ≡ 0
  pub record_is : inode_at out i t ≡ with_links (new_inode t) v

kind_known : (t : FileType) → (1 ≤ kind_no t) × (kind_no t ≤ 3)
kind_known t₁ = grind (arith, common_steps)

module _ (img l : List ℕ) (s : Sound img l) (bytes : Bytes img) (i : ℕ) (low : i < blocks img) (free : map_bit img i ≡ 1) (t : FileType) (v : ℕ)
    (small : v < 65536) where
  abbrev new_record : DiskINode
  new_record = with_links (new_inode t) v

  abbrev mid : List ℕ
  mid = taken_at img i

  abbrev out : List ℕ
  out = encoded mid i new_record

  fits : Fitting new_record
  fits = grind (arith, common_steps)

  -- where it is: after block 0, and in no block of the map
  not_zero : i ≢ 0
  not_zero = free_not_zero img l s i low free

  mapped : i / 32768 < maps img
  mapped = omega (arith, bit_of_lem img s.sized i low)

  in_map : map_byte i < length img
  in_map = omega (arith, map_below img s.sized (i / 32768) mapped, s.sized.long)

  room : 4096 * i + 80 ≤ length mid
  room = omega (arith, s.sized.long, length-taken_at img i)

  -- ---- bytes

  byte_far : (k : ℕ) → Apart k 1 (4096 * i) 80 → Apart k 1 8 4 → k ≢ map_byte i → byte out k ≡ byte img k
  byte_far k a b c = byte-encoded_off mid i new_record room fits k a ∙ byte-taken_at_off img i k b c

  other_block : (b k : ℕ) → b ≢ i → b ≢ 0 → b ≢ 2 + i / 32768 → 4096 * b ≤ k → k < 4096 * b + 4096 → byte out k ≡ byte img k
  other_block b k d z m p q =
      byte_far k (λ x y. d (omega arith)) (λ x y. z (omega arith)) (λ e. m (omega arith))

  among : Among img out (λ k. ⊥)
  among =
      record {
        other = λ b q o f z m.
            block_from img out b
            (λ k p r. other_block b k (λ e. omega (arith, ap (map_bit img) e)) z (m (i / 32768) mapped) p r);
      }

  -- a word of the superblock but the unused count
  super_far : (at : ℕ) → at + 4 ≤ 48 → Apart at 4 8 4 → num 4 out at ≡ num 4 img at
  super_far at h a = grind (arith, common_steps, num_frame, byte_far, not_zero)

  unused_same : num 4 out 8 ≡ unused mid
  unused_same =
      num_frame 4 out mid 8
      (λ k p q. byte-encoded_off mid i new_record room fits k (λ x y. not_zero (omega arith)))

  takes_one : 0 < unused img → unused out + 1 ≡ unused img
  takes_one h = omega (arith, unused_same, unused-taken_at img i in_map (num_lt 4 img 8 bytes))

  -- ---- the map: i's bit is clear, the others stay

  bit_out : (b : ℕ) → b < 32768 * maps img → map_bit out b ≡ map_bit mid b
  bit_out b q =
      bit_is mid out b
      (byte-encoded_off mid i new_record room fits (map_byte b)
      (λ x y. free_not_map img l s i low free (b / 32768) (omega arith) (omega arith)))

  bit_other : (b : ℕ) → b < 32768 * maps img → b ≢ i → map_bit out b ≡ map_bit img b
  bit_other b q d = bit_out b q ∙ bit_taken_at_other img i in_map b d

  bit_here : map_bit out i ≡ 0
  bit_here = bit_out i (bit_of_lem img s.sized i low) ∙ bit_taken_at_same img i in_map

  free_out : free_bits out (blocks img) + 1 ≡ unused img
  free_out =
      omega (
        arith,
        free_is mid out (blocks img) (λ b q. bit_out b (bit_of_lem img s.sized b q)),
        free_taken_at img i in_map (blocks img) low,
        free,
        s.free,
      )

  -- ---- what inode i is

  size_new : size out i ≡ 0
  size_new = size-encoded mid i new_record room fits

  kind_new : kind out i ≡ kind_no t
  kind_new = kind-encoded mid i new_record room fits

  links_new : links out i ≡ v
  links_new = links-encoded mid i new_record room fits

  count_new : count out i ≡ 0
  count_new = count-encoded mid i new_record room fits

  record_new : inode_at out i t ≡ new_record
  record_new =
      rw (
        size_new,
        links_new,
        count_new,
        indirect-encoded mid i new_record room fits,
        double-encoded mid i new_record room fits,
        padding-encoded mid i new_record room fits,
        device-encoded mid i new_record room fits,
        directs-encoded mid i new_record room fits,
      )

  owns_new : (b : ℕ) → owns out i b ≡ δ i b
  owns_new b = owns_none out i b count_new

  steady : Steady img out
  steady =
      record {
        length_same = length-encoded mid i new_record room fits ∙ length-taken_at img i;
        magic_same = super_far 0 (omega arith) (omega arith);
        blocks_same = super_far 4 (omega arith) (omega arith);
        maps_same = super_far 44 (omega arith) (omega arith);
        past = λ b a q. bit_other b q (λ e. omega arith);
        free = omega (arith, free_out, takes_one (omega (arith, free_out)));
      }

  inode_new : Inode out i
  inode_new =
      record {
        kind_low = rw kind_new (kind_known t).0;
        kind_high = rw kind_new (kind_known t).1;
        shape = record {
          counted = rw (count_new, size_new) (omega arith);
          single = record { from = λ a. absurd (omega (arith, count_new)); to = λ a. indirect-encoded mid i new_record room fits };
          twofold = record { from = λ a. absurd (omega (arith, count_new)); to = λ a. double-encoded mid i new_record room fits };
        };
      }

  added : Added img out i
  added =
      record {
        steady = steady;
        balance = λ b q.
            ⊎_elim
            (λ w. omega (arith, owns_new b, w.1, bit_here, free, ap (map_bit out) w.0, ap (map_bit img) w.0))
            (λ w. omega (arith, owns_new b, w.1, bit_other b (bit_of_lem img s.sized b q) (λ e. w.0 (sym e))))
            (δ_cases i b);
        below = λ b a. omega (arith, owns_new b, δ_other i b (λ e. omega arith));
        inode = inode_new;
      }

  unlisted : cnt i l ≡ 0
  unlisted = grind (arith, common_steps, free_no_inode)

  pub new_at : Fresh l img out i t v
  new_at =
      record {
        below = low;
        was_free = free;
        new = unlisted;
        sound = sound_add s among i added;
        bytes = bytes_encoded mid i new_record (bytes_taken_at img i bytes);
        same = listed_same s among;
        blocks_is = steady.blocks_same;
        takes = takes_one (omega (arith, free_out));
        balance = added.balance;
        size_is = size_new;
        kind_is = kind_new;
        links_is = links_new;
        count_is = count_new;
        record_is = record_new;
      }

-- at the lowest free block
module _ (img l : List ℕ) (s : Sound img l) (room : 0 < unused img) where
  lowest_below : lowest img 0 (blocks img) < blocks img
  lowest_below = lowest_finds img (blocks img) (omega (arith, s.free))

  pub next_lowest : next_free (blocks img) img 0 ≡ lowest img 0 (blocks img)
  next_lowest = next_free_some (blocks img) img 0 lowest_below

  next_taken : taken img 0 (blocks img) ≡ taken_at img (next_free (blocks img) img 0)
  next_taken = taken_some img 0 (blocks img) lowest_below ∙ ap (taken_at img) (sym next_lowest)

  pub new_inode_lem : (bytes : Bytes img) (t : FileType) (v : ℕ) (small : v < 65536)
      → Fresh l img (encoded (taken img 0 (blocks img)) (next_free (blocks img) img 0) (with_links (new_inode t) v)) (next_free (blocks img) img 0) t v
  new_inode_lem bytes t v small =
      subst (λ (x : List ℕ). Fresh l img (encoded x (next_free (blocks img) img 0) (with_links (new_inode t) v)) (next_free (blocks img) img 0) t v)
      (sym next_taken)
      (new_at img l s bytes (next_free (blocks img) img 0) (rw next_lowest lowest_below)
      (ap (map_bit img) next_lowest ∙ lowest_free img 0 (blocks img) lowest_below) t v small)

-- the block that is then the lowest free one was the second
module _ {l img out : List ℕ} {i v : ℕ} {t : FileType} (f : Fresh l img out i t v) (first : i ≡ lowest img 0 (blocks img)) where
  bit_new : (b : ℕ) → b < blocks img → δ i b + map_bit out b ≡ map_bit img b
  bit_new b q = omega (arith, f.balance b q, owns_none out i b f.count_is)

  none_to : (k : ℕ) → k < i + 1 → map_bit out k ≡ 1 → ⊥
  none_to k q e =
      omega (
        arith,
        bit_new k (omega (arith, f.below)),
        bit_below img k,
        ⊎_elim (λ w. w.1) (λ w. absurd (w.0 (here w))) (δ_cases i k),
      )
    where
      here : ((i ≡ k → ⊥) × (δ i k ≡ 0)) → i ≡ k
      here w =
          omega (
            arith,
            first,
            lowest_least img 0 (blocks img) k (omega arith) (omega (arith, f.below)) (omega (arith, bit_new k (omega (arith, f.below)), w.1)),
          )

  pub second_lowest : nth_free (blocks out) out 0 ≡ nth_free (blocks img) img 1
  unfolding nth_free
  second_lowest =
      ap (lowest out 0) f.blocks_is
      ∙ lowest_on out 0 (i + 1) (blocks img) (omega arith) (omega (arith, f.below)) (λ k p q. none_to k q)
      ∙ lowest_cong img out (i + 1) (blocks img) (λ k p q. omega (arith, bit_new k q, δ_other i k (λ e. omega arith)))
      ∙ ap (λ (b : ℕ). lowest img (b + 1) (blocks img)) first
