-- The bytes that format writes, on a slice of any bytes: the root's record with its two entries, and the map. Assumes nothing.
use mathlib.Core.Path.{◌≡◌, sym, ap, ◌∙◌}
use mathlib.Core.List.{List}
use Prim.Native.Nat.{ℕ, zero, suc, ◌+◌, ◌*◌, ◌/◌, ◌^◌, ◌≤◌, ◌<◌}
use native.Mathlib.Omega.{arith}
use native.Mathlib.Decide.{dec_lt}
use native.Mathlib.Nat.{zero-div}
use lib.Dec.{T, ltb, ltb→lt, lit≤}
use lib.ListN.{length, get_or-replicate, get_or-eq_default}
use lib.Seq.{ext_get_or}
use Rattle.std.proofs.lemmas.Grind.{common_steps}
use Rattle.words.specs.Words.{byte, num, Bytes}
use Rattle.words.specs.Inner.{Apart}
use Rattle.words.specs.Runs.{copied, zeroed, turns}
use Rattle.words.proofs.Numbers.{num_frame, num_moved}
use Rattle.words.proofs.Runs.{
  length-copied,
  byte-copied_off,
  byte-copied_in,
  bytes_copied,
  length-zeroed,
  byte-zeroed_off,
  byte-zeroed_in,
  bytes_zeroed,
  turns_keep,
}
use Rattle.card_layout.specs.Inode.{encoded, new_inode, with_size, with_links, with_blocks, with_direct, direct, number_at, block_id, Fitting}
use Rattle.card_layout.specs.Entry.{Name, entry_of}
use Rattle.card_layout.specs.declared.inode.FileType.TheVariants.{Dir}
use Rattle.card_layout.specs.declared.inode.DiskINode.{DiskINode}
use Rattle.card_layout.specs.declared.BlockId.{BlockId}
use Rattle.card_layout.proofs.InodeLaws.{length-encoded, size-encoded, kind-encoded, links-encoded, count-encoded, indirect-encoded, double-encoded, padding-encoded, device-encoded, direct-encoded, byte-encoded_off, bytes_encoded}
use Rattle.card_layout.proofs.EntryLaws.{entry_number, entry_name_byte, entry_after}
use Rattle.card_layout.proofs.Names.{upto_is}
use Rattle.card_map.specs.Bits.{map_bit, set_bit}
use Rattle.card_map.proofs.Map.{length-set_bit, byte-set_bit_off, bit_set_same, bit_set_other, bytes_set_bit}
use Rattle.card_rules.specs.View.{file_byte, file_bytes, entry, name}
use Rattle.card_rules.proofs.Views.{data_direct, file_byte_at, entry_at, name_at, length-file_bytes, get_or-file_bytes}
use Rattle.card_rules.proofs.Bare.{Bare}
use Rattle.card_rules.proofs.Small.{each_below, each_below_lem}
use Rattle.dir_entries.specs.Names.{dot, dots}
use Rattle.law_dirs.specs.Entries.{entry_in, NewRecord}
use Rattle.law_dirs.proofs.Entry.{entry_of_bytes, entry_of-length}

-- ---- lists that are written out

-- a test of each element
pub bytes_tested : (xs : List ℕ) → T (each_below (λ k. ltb (byte xs k) 256) (length xs)) → Bytes xs
bytes_tested xs t = record { below = λ k. go k (dec_lt k (length xs)) }
  where
    go : (k : ℕ) → Dec (k < length xs) → byte xs k < 256
    go k (yes l) = ltb→lt (byte xs k) 256 (each_below_lem (λ j. ltb (byte xs j) 256) (length xs) t k l)
    go k (no l) = rw (get_or-eq_default xs 0 {n = k} (omega arith)) (omega arith)

pub name_tested : (xs : List ℕ) → 1 ≤ length xs → length xs ≤ 255 → T (each_below (λ k. ltb 0 (byte xs k)) (length xs)) → Name xs
name_tested xs a b t =
    record {
      low = a;
      high = b;
      no_nul = λ k l e. omega (arith, ltb→lt 0 (byte xs k) (each_below_lem (λ j. ltb 0 (byte xs j)) (length xs) t k l));
    }

-- ---- an entry that stands in a file is read back

module _ (img : List ℕ) (n k m : ℕ) (x : List ℕ) (named : Name x) (here : (i : ℕ) → i < 260 → file_byte img n (260 * k + i) ≡ byte (entry_of m x) i) where
  pub entry_there : m < 2 ^ 32 → entry img n k ≡ m
  entry_there h =
      entry_at img n k
      ∙ num_moved 4 (file_bytes img n (260 * k) 4) (entry_of m x) 0 0
      (λ i l.
      get_or-file_bytes img n (260 * k) 4 (0 + i) (omega arith)
      ∙ ap (λ (j : ℕ). file_byte img n (260 * k + j)) (omega arith)
      ∙ here i (omega arith)
      ∙ ap (byte (entry_of m x)) (omega arith))
      ∙ entry_number m x named.high h

  name-byte : (i : ℕ) → i < 256 → byte (file_bytes img n (260 * k + 4) 256) i ≡ byte (entry_of m x) (4 + i)
  name-byte i l = grind (arith, common_steps, get_or-file_bytes)

  pub name_there : name img n k ≡ x
  name_there =
      name_at img n k
      ∙ upto_is (file_bytes img n (260 * k + 4) 256) x (omega (arith, named.high, length-file_bytes img n (260 * k + 4) 256)) named.no_nul
      (λ i l. name-byte i (omega (arith, named.high)) ∙ entry_name_byte m x named.high i l)
      (name-byte (length x) (omega (arith, named.high)) ∙ entry_after m x named.high (4 + length x) (omega arith) (omega (arith, named.high)))

-- ---- the root and its entries, written on a card x

-- the root's record, with block 3 for its data
abbrev pub root_at3 : DiskINode
root_at3 = with_direct (with_blocks (with_size (with_links (new_inode Dir) 2) 520) 1) 0 3

root_fits : Fitting root_at3
root_fits = grind (arith, common_steps)

dot-name : Name dot
dot-name = name_tested dot (lit≤ tt) (lit≤ tt) tt

dots-name : Name dots
dots-name = name_tested dots (lit≤ tt) (lit≤ tt) tt

unfoldable pub rooted : List ℕ → List ℕ
rooted x = copied (copied (encoded x 1 root_at3) 12288 (entry_of 1 dot) 0 260) 12548 (entry_of 1 dots) 0 260

pub bytes_rooted : (x : List ℕ) → Bytes x → Bytes (rooted x)
unfolding rooted
bytes_rooted x h =
    bytes_copied _ 12548 (entry_of 1 dots) 0 260
    (bytes_copied _ 12288 (entry_of 1 dot) 0 260 (bytes_encoded x 1 root_at3 h) (entry_of_bytes 1 dot (bytes_tested dot tt)))
    (entry_of_bytes 1 dots (bytes_tested dots tt))

module _ (x : List ℕ) (long : 65536 ≤ length x) where
  length_record : length (encoded x 1 root_at3) ≡ length x
  length_record = length-encoded x 1 root_at3 (omega arith) root_fits

  pub length-rooted : length (rooted x) ≡ length x
  unfolding rooted
  length-rooted =
      length-copied _ 12548 (entry_of 1 dots) 0 260 ∙ length-copied _ 12288 (entry_of 1 dot) 0 260 ∙ length_record

  before_entries : (k : ℕ) → Apart k 1 12288 520 → byte (rooted x) k ≡ byte (encoded x 1 root_at3) k
  unfolding rooted
  before_entries k h =
      byte-copied_off _ 12548 (entry_of 1 dots) 0 260 k (λ p q. h (omega arith) (omega arith))
      ∙ byte-copied_off _ 12288 (entry_of 1 dot) 0 260 k (λ p q. h (omega arith) (omega arith))

  pub byte-rooted_off : (k : ℕ) → Apart k 1 4096 80 → Apart k 1 12288 520 → byte (rooted x) k ≡ byte x k
  byte-rooted_off k a h =
      before_entries k h ∙ byte-encoded_off x 1 root_at3 (omega arith) root_fits k (λ p q. a (omega arith) (omega arith))

  -- a number of the superblock
  pub num-rooted : (m at : ℕ) → at + m ≤ 4096 → num m (rooted x) at ≡ num m x at
  num-rooted m at h = num_frame m (rooted x) x at (λ k p q. byte-rooted_off k (omega arith) (omega arith))

  field : (m at : ℕ) → at + m ≤ 8192 → num m (rooted x) at ≡ num m (encoded x 1 root_at3) at
  field m at h = num_frame m (rooted x) (encoded x 1 root_at3) at (λ k p q. before_entries k (omega arith))

  root_slot : direct (rooted x) 1 0 ≡ 3
  root_slot = field 4 4108 (omega arith) ∙ direct-encoded x 1 root_at3 (omega arith) root_fits 0 (omega arith)

  root_byte : (o : ℕ) → o < 4096 → file_byte (rooted x) 1 o ≡ byte (rooted x) (12288 + o)
  root_byte o l = grind (arith, common_steps, file_byte_at, data_direct, root_slot)

  dot-byte : (i : ℕ) → i < 260 → file_byte (rooted x) 1 (260 * 0 + i) ≡ byte (entry_of 1 dot) i
  unfolding rooted
  dot-byte i l =
      root_byte (260 * 0 + i) (omega arith)
      ∙ byte-copied_off _ 12548 (entry_of 1 dots) 0 260 (12288 + (260 * 0 + i)) (omega arith)
      ∙ ap (byte (copied (encoded x 1 root_at3) 12288 (entry_of 1 dot) 0 260)) (let e : 12288 + (260 * 0 + i) ≡ 12288 + i = omega arith in e)
      ∙ byte-copied_in (encoded x 1 root_at3) 12288 (entry_of 1 dot) 0 260 i (omega (arith, length_record)) l
      ∙ ap (byte (entry_of 1 dot)) (omega arith)

  dots-byte : (i : ℕ) → i < 260 → file_byte (rooted x) 1 (260 * 1 + i) ≡ byte (entry_of 1 dots) i
  unfolding rooted
  dots-byte i l =
      root_byte (260 * 1 + i) (omega arith)
      ∙ ap (byte (rooted x)) (let e : 12288 + (260 * 1 + i) ≡ 12548 + i = omega arith in e)
      ∙ byte-copied_in (copied (encoded x 1 root_at3) 12288 (entry_of 1 dot) 0 260) 12548 (entry_of 1 dots) 0 260 i
      (omega (arith, length_record, length-copied (encoded x 1 root_at3) 12288 (entry_of 1 dot) 0 260)) l
      ∙ ap (byte (entry_of 1 dots)) (omega arith)

  pub rooted_bare : Bare (rooted x)
  rooted_bare =
      record {
        bytes = field 4 4096 (omega arith) ∙ size-encoded x 1 root_at3 (omega arith) root_fits;
        dir = field 2 4100 (omega arith) ∙ kind-encoded x 1 root_at3 (omega arith) root_fits;
        linked = field 2 4102 (omega arith) ∙ links-encoded x 1 root_at3 (omega arith) root_fits;
        counted = field 4 4104 (omega arith) ∙ count-encoded x 1 root_at3 (omega arith) root_fits;
        slot = root_slot;
        no_indirect = field 4 4156 (omega arith) ∙ indirect-encoded x 1 root_at3 (omega arith) root_fits;
        no_double = field 4 4160 (omega arith) ∙ double-encoded x 1 root_at3 (omega arith) root_fits;
        self = entry_there (rooted x) 1 0 1 dot dot-name dot-byte (omega arith);
        parent = entry_there (rooted x) 1 1 1 dots dots-name dots-byte (omega arith);
        dot = name_there (rooted x) 1 0 1 dot dot-name dot-byte;
        dots = name_there (rooted x) 1 1 1 dots dots-name dots-byte;
      }

  pub rooted_record : NewRecord (rooted x) 1 2 520 2 1
  rooted_record =
      record {
        size_is = rooted_bare.bytes;
        kind_is = rooted_bare.dir;
        links_is = rooted_bare.linked;
        count_is = rooted_bare.counted;
        directs = λ j l h.
            field 4 (4108 + 4 * j) (omega arith) ∙ direct-encoded x 1 root_at3 (omega arith) root_fits j h ∙ past j l h;
        indirect_is = rooted_bare.no_indirect;
        double_is = rooted_bare.no_double;
        padding_is = field 4 4164 (omega arith) ∙ padding-encoded x 1 root_at3 (omega arith) root_fits;
        device_is = field 8 4168 (omega arith) ∙ device-encoded x 1 root_at3 (omega arith) root_fits;
      }
    where
      past : (j : ℕ) → 1 ≤ j → j < 12 → number_at root_at3.direct j ≡ 0
      past zero l h = absurd (omega arith)
      past (suc j) l h = ap (λ (b : BlockId). b.0) (get_or-replicate 12 (suc j) (block_id 0) (block_id 0) h)

  -- the 260 bytes of an entry
  whole_entry : (k : ℕ) (y : List ℕ) → Name y → ((i : ℕ) → i < 260 → file_byte (rooted x) 1 (260 * k + i) ≡ byte (entry_of 1 y) i)
      → entry_in (rooted x) 1 k ≡ entry_of 1 y
  whole_entry k y g h =
      let e = length-file_bytes (rooted x) 1 (260 * k) 260 in
      ext_get_or 0 (entry_in (rooted x) 1 k) (entry_of 1 y) (e ∙ sym (entry_of-length 1 y g))
      (λ i l. let b : i < 260 = omega (arith, e) in get_or-file_bytes (rooted x) 1 (260 * k) 260 i b ∙ h i b)

  pub rooted_self : entry_in (rooted x) 1 0 ≡ entry_of 1 dot
  rooted_self = whole_entry 0 dot dot-name dot-byte

  pub rooted_up : entry_in (rooted x) 1 1 ≡ entry_of 1 dots
  rooted_up = whole_entry 1 dots dots-name dots-byte

-- ---- the map, written on a card x

-- x, after the map has been cleared and n bits from that of block 4 on have been set
pub record Mapped (x : List ℕ) (n : ℕ) (out : List ℕ) : Type 0 where
  pub len : length out ≡ length x
  pub free : (b : ℕ) → 4 ≤ b → b < 4 + n → map_bit out b ≡ 1
  pub taken : (b : ℕ) → b < 32768 → (4 ≤ b → b < 4 + n → ⊥) → map_bit out b ≡ 0
  pub off : (k : ℕ) → Apart k 1 8192 4096 → byte out k ≡ byte x k

clear_map : (x : List ℕ) → 12288 ≤ length x → Mapped x 0 (zeroed x 8192 4096)
unfolding map_bit
clear_map x long =
    record {
      len = length-zeroed x 8192 4096;
      free = λ b l m. absurd (omega arith);
      taken = λ b l h. rw (byte-zeroed_in x 8192 4096 (b / 8) long (omega arith), zero-div);
      off = byte-zeroed_off x 8192 4096;
    }

next_bit : (x : List ℕ) → 12288 ≤ length x → (n : ℕ) (y : List ℕ) → 4 + n < 32768 → Mapped x n y → Mapped x (suc n) (set_bit y (4 + n))
next_bit x long n y small a = grind (arith, common_steps, length-set_bit, bit_set_other, byte-set_bit_off, bit_set_same)

pub mapped_is : (x : List ℕ) → 12288 ≤ length x → (n : ℕ) → 4 + n ≤ 32768 → Mapped x n (turns (λ b y. set_bit y b) 4 n (zeroed x 8192 4096))
mapped_is x long n h =
    turns_keep (λ b y. set_bit y b) 4 (zeroed x 8192 4096) (Mapped x) (clear_map x long) n (λ j y l a. next_bit x long j y (omega arith) a)

pub bytes_mapped : (x : List ℕ) (n : ℕ) → Bytes x → Bytes (turns (λ b y. set_bit y b) 4 n (zeroed x 8192 4096))
bytes_mapped x n h =
    turns_keep (λ b y. set_bit y b) 4 (zeroed x 8192 4096) (λ j y. Bytes y) (bytes_zeroed x 8192 4096 h) n (λ j y l a. bytes_set_bit y (4 + j) a)
