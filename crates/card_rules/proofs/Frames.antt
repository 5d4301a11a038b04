-- What a change of a card leaves alone: an inode whose record, pointer blocks and data are as they were has the same slots, blocks, bytes and
-- entries. `img` is the card before, `out` the card after. Assumes nothing.
use mathlib.Core.Path.{◌≡◌, refl, sym, ap, ◌∙◌, subst}
use mathlib.Core.List.{List}
use mathlib.Core.Logic.{⊎_elim}
use Prim.Native.Nat.{ℕ, zero, suc, ◌+◌, ◌-◌, ◌*◌, ◌/◌, ◌%◌, ◌≤◌, ◌<◌}
use native.Mathlib.Omega.{arith}
use native.Mathlib.Decide.{dec_lt}
use Rattle.words.specs.Words.{byte, num}
use Rattle.words.specs.Sums.{δ, sum_to}
use Rattle.words.proofs.Numbers.{num_frame}
use Rattle.words.proofs.Sums.{sum_to_cong}
use Rattle.card_layout.specs.Inode.{size, kind, links, count, direct, indirect, double, padding, device, words, head_by, decoded, directs}
use Rattle.card_layout.specs.Slots.{seconds}
use Rattle.card_rules.specs.View.{slot, second, data_at, file_byte, file_bytes, entries, entry, name, kids, kid, times_named, subs, owns}
use Rattle.card_rules.specs.Whole.{Inode, Dir}
use Rattle.card_rules.specs.Places.{Place, at_inode, at_indirect, at_double, at_second, at_data, held, InUse}
use Rattle.card_rules.specs.Same.{SameBlock, SameRecord, SameSlots, SameFile}
use Rattle.card_rules.proofs.Views.{
  data_direct,
  data_indirect,
  data_double,
  data_past,
  seconds_some,
  seconds_many,
  seconds_reach,
  ranges,
  own_indirect,
  own_double,
  own_seconds,
  own_data,
  owns_parts,
  kids_dir,
  file_byte_at,
  file_bytes_cong,
  entry_cong,
  name_cong,
}

-- ---- a block

module _ {img out : List ℕ} {b : ℕ} (s : SameBlock img out b) where
  -- a byte of it, by its place on the card
  pub block_byte : (k : ℕ) → 4096 * b ≤ k → k < 4096 * b + 4096 → byte out k ≡ byte img k
  block_byte k a l =
      let e : 4096 * b + (k - 4096 * b) ≡ k = omega arith in
      rw e at (s.bytes (k - 4096 * b) (omega arith))

  -- a number of w bytes in it
  pub block_num : (w at : ℕ) → 4096 * b ≤ at → at + w ≤ 4096 * b + 4096 → num w out at ≡ num w img at
  block_num w at a l = num_frame w out img at (λ k p q. block_byte k (omega arith) (omega arith))

  pub block_slot : (i : ℕ) → i < 1024 → slot out b i ≡ slot img b i
  block_slot i l = block_num 4 (4096 * b + 4 * i) (omega arith) (omega arith)

  -- an inode's own block has its record
  pub block_record : SameRecord img out b
  block_record = record { bytes = λ k l. s.bytes k (omega arith) }

-- from what is known of the card's bytes
pub block_from : (img out : List ℕ) (b : ℕ) → ((k : ℕ) → 4096 * b ≤ k → k < 4096 * b + 4096 → byte out k ≡ byte img k) → SameBlock img out b
block_from img out b h = record { bytes = λ k l. h (4096 * b + k) (omega arith) (omega arith) }

pub record_from : (img out : List ℕ) (n : ℕ) → ((k : ℕ) → 4096 * n ≤ k → k < 4096 * n + 80 → byte out k ≡ byte img k) → SameRecord img out n
record_from img out n h = record { bytes = λ k l. h (4096 * n + k) (omega arith) (omega arith) }

-- ---- a record

module _ {img out : List ℕ} {n : ℕ} (s : SameRecord img out n) where
  pub record_num : (w at : ℕ) → 4096 * n ≤ at → at + w ≤ 4096 * n + 80 → num w out at ≡ num w img at
  record_num w at a l =
      num_frame w out img at
      (λ k p q.
      let e : 4096 * n + (k - 4096 * n) ≡ k = omega arith in
      rw e at (s.bytes (k - 4096 * n) (omega arith)))

  words-from : (c at : ℕ) → 4096 * n ≤ at → at + 4 * c ≤ 4096 * n + 80 → words c out at ≡ words c img at
  unfolding words
  words-from zero at a l = refl
  words-from (suc c) at a l = rw (record_num 4 at a (omega arith), words-from c (at + 4) (omega arith) (omega arith))

  pub size_is : size out n ≡ size img n
  size_is = record_num 4 (4096 * n) (omega arith) (omega arith)

  pub kind_is : kind out n ≡ kind img n
  kind_is = record_num 2 (4096 * n + 4) (omega arith) (omega arith)

  pub links_is : links out n ≡ links img n
  links_is = record_num 2 (4096 * n + 6) (omega arith) (omega arith)

  pub count_is : count out n ≡ count img n
  count_is = record_num 4 (4096 * n + 8) (omega arith) (omega arith)

  pub direct_is : (i : ℕ) → i < 12 → direct out n i ≡ direct img n i
  direct_is i l = record_num 4 (4096 * n + 12 + 4 * i) (omega arith) (omega arith)

  pub indirect_is : indirect out n ≡ indirect img n
  indirect_is = record_num 4 (4096 * n + 60) (omega arith) (omega arith)

  pub double_is : double out n ≡ double img n
  double_is = record_num 4 (4096 * n + 64) (omega arith) (omega arith)

  pub padding_is : padding out n ≡ padding img n
  padding_is = record_num 4 (4096 * n + 68) (omega arith) (omega arith)

  pub device_is : device out n ≡ device img n
  device_is = record_num 8 (4096 * n + 72) (omega arith) (omega arith)

  -- what goes by the record alone
  pub decoded_is : decoded out n ≡ decoded img n
  unfolding head_by
  decoded_is = rw (kind_is, size_is, links_is, count_is, indirect_is, double_is, padding_is, device_is)

  pub directs_is : directs out n ≡ directs img n
  directs_is = words-from 12 (4096 * n + 12) (omega arith) (omega arith)

  pub entries_is : entries out n ≡ entries img n
  entries_is = ap (λ (x : ℕ). x / 260) size_is

  pub kids_is : kids out n ≡ kids img n
  unfolding kids
  kids_is = rw (kind_is, size_is)

  pub inode_is : Inode img n → Inode out n
  inode_is i =
      record {
        kind_low = rw kind_is i.kind_low;
        kind_high = rw kind_is i.kind_high;
        shape = record { counted = rw (count_is, size_is) i.shape.counted; single = record { from = rw (count_is, indirect_is) i.shape.single.from; to = rw (count_is, indirect_is) i.shape.single.to }; twofold = record { from = rw (count_is, double_is) i.shape.twofold.from; to = rw (count_is, double_is) i.shape.twofold.to } };
      }

-- ---- slots

-- the second level is within its one block; at 1,049,612 blocks `seconds` counts one pointer block more than there are slots, so the bound is strict
pub seconds_fit : (c j : ℕ) → c < 1049612 → j < seconds c → j < 1024
seconds_fit c j h l = omega (arith, seconds_some c (seconds_many c (omega arith)))

module _ {img out : List ℕ} {n : ℕ} (s : SameSlots img out n) where
  second-slot : (j : ℕ) → 1036 ≤ count img n → j < 1024 → second out n j ≡ second img n j
  second-slot j a l = ap (λ (b : ℕ). slot out b j) (double_is s.rec) ∙ block_slot (s.double_same a) j l

  pub second_is : count img n < 1049612 → (j : ℕ) → j < seconds (count img n) → second out n j ≡ second img n j
  second_is h j l = second-slot j (seconds_many (count img n) (omega arith)) (seconds_fit (count img n) j h l)

  pub data_is : (i : ℕ) → i < count img n → data_at out n i ≡ data_at img n i
  data_is i l =
      ⊎_elim
      (λ d. data_direct out n i d ∙ direct_is s.rec i d ∙ sym (data_direct img n i d))
      (⊎_elim
      (λ w.
      data_indirect out n i w.0 w.1
      ∙ ap (λ (b : ℕ). slot out b (i - 12)) (indirect_is s.rec)
      ∙ block_slot (s.indirect_same (omega (arith, w.0))) (i - 12) (omega (arith, w.1))
      ∙ sym (data_indirect img n i w.0 w.1))
      (λ a. go a (dec_lt i 1049612)))
      (ranges i)
    where
      go : 1036 ≤ i → Dec (i < 1049612) → data_at out n i ≡ data_at img n i
      go a (yes m) =
          let j : ℕ = (i - 1036) / 1024 in
          data_double out n i a m
          ∙ ap (λ (b : ℕ). slot out b ((i - 1036) % 1024)) (second-slot j (omega arith) (omega arith))
          ∙ block_slot (s.second_same j (seconds_reach (count img n) i l a)) ((i - 1036) % 1024) (omega arith)
          ∙ sym (data_double img n i a m)
      go a (no m) = data_past out n i (omega arith) ∙ sym (data_past img n i (omega arith))

  -- the blocks that the inode uses
  pub owns_is : count img n < 1049612 → (b : ℕ) → owns out n b ≡ owns img n b
  owns_is h b = omega (arith, owns_parts out n b, owns_parts img n b, first, then, level, body)
    where
      first : own_indirect out n b ≡ own_indirect img n b
      first = rw (count_is s.rec, indirect_is s.rec)

      then : own_double out n b ≡ own_double img n b
      then = rw (count_is s.rec, double_is s.rec)

      level : own_seconds out n b ≡ own_seconds img n b
      level =
          ap (λ (c : ℕ). sum_to (λ j. δ (second out n j) b) (seconds c)) (count_is s.rec)
          ∙ sum_to_cong (λ j. δ (second out n j) b) (λ j. δ (second img n j) b) (seconds (count img n))
          (λ j l. ap (λ (x : ℕ). δ x b) (second_is h j l))

      body : own_data out n b ≡ own_data img n b
      body =
          ap (λ (c : ℕ). sum_to (λ i. δ (data_at out n i) b) c) (count_is s.rec)
          ∙ sum_to_cong (λ i. δ (data_at out n i) b) (λ i. δ (data_at img n i) b) (count img n)
          (λ i l. ap (λ (x : ℕ). δ x b) (data_is i l))

-- ---- files

-- a file's bytes are in its blocks
pub inode_room : {img : List ℕ} {n : ℕ} → Inode img n → size img n ≤ 4096 * count img n
inode_room {img} {n} i = omega (arith, i.shape.counted)

module _ {img out : List ℕ} {n : ℕ} (s : SameFile img out n) where
  pub file_byte_is : (o : ℕ) → o < 4096 * count img n → file_byte out n o ≡ file_byte img n o
  file_byte_is o l =
      let q : o / 4096 < count img n = omega arith in
      file_byte_at out n o
      ∙ ap (λ (b : ℕ). byte out (4096 * b + o % 4096)) (data_is s.slots (o / 4096) q)
      ∙ (s.data_same (o / 4096) q).bytes (o % 4096) (omega arith)
      ∙ sym (file_byte_at img n o)

  pub file_bytes_is : (o k : ℕ) → o + k ≤ 4096 * count img n → file_bytes out n o k ≡ file_bytes img n o k
  file_bytes_is o k h = file_bytes_cong out img n n o o k (λ i l. file_byte_is (o + i) (omega arith))

  -- ---- a directory

  module _ (i : Inode img n) where
    pub entry_is : (k : ℕ) → k < entries img n → entry out n k ≡ entry img n k
    entry_is k h = entry_cong out img n n k k (λ x l. file_byte_is (260 * k + x) (omega (arith, inode_room i)))

    pub name_is : (k : ℕ) → k < entries img n → name out n k ≡ name img n k
    name_is k h = name_cong out img n n k k (λ x l. file_byte_is (260 * k + 4 + x) (omega (arith, inode_room i)))

    pub kid_is : (j : ℕ) → j < kids img n → kid out n j ≡ kid img n j
    kid_is j l = entry_is (2 + j) (kids_dir img n j l).1

    pub dir_is : Dir img n → Dir out n
    dir_is d =
        record {
          even = rw (size_is s.slots.rec) d.even;
          least = rw (size_is s.slots.rec) d.least;
          first = record { dot = name_is 0 (omega (arith, d.least)) ∙ d.first.dot; self = entry_is 0 (omega (arith, d.least)) ∙ d.first.self; dots = name_is 1 (omega (arith, d.least)) ∙ d.first.dots };
          names = record {
            named = λ k l. let h : k < entries img n = was k l in rw (name_is k h) (d.names.named k h);
            differ = λ a k l m e.
                let h : k < entries img n = was k m in
                d.names.differ a k l h (sym (name_is a (omega arith)) ∙ e ∙ name_is k h);
          };
        }
      where
        was : (k : ℕ) → k < entries out n → k < entries img n
        was k l = rw (size_is s.slots.rec) at l

-- children that are the same are as many
module _ (img out : List ℕ) (n : ℕ) (k : kids out n ≡ kids img n) (e : (j : ℕ) → j < kids img n → kid out n j ≡ kid img n j) where
  pub names_by : (m : ℕ) → times_named out n m ≡ times_named img n m
  names_by m =
      ap (sum_to (λ j. δ (kid out n j) m)) k
      ∙ sum_to_cong (λ j. δ (kid out n j) m) (λ j. δ (kid img n j) m) (kids img n) (λ j l. ap (λ (x : ℕ). δ x m) (e j l))

  pub subs_by : ((j : ℕ) → j < kids img n → kind out (kid img n j) ≡ kind img (kid img n j)) → subs out n ≡ subs img n
  subs_by h =
      ap (sum_to (λ j. δ (kind out (kid out n j)) 2)) k
      ∙ sum_to_cong (λ j. δ (kind out (kid out n j)) 2) (λ j. δ (kind img (kid img n j)) 2) (kids img n)
      (λ j l. ap (λ (x : ℕ). δ (kind out x) 2) (e j l) ∙ ap (λ (x : ℕ). δ x 2) (h j l))

module _ {img out : List ℕ} {n : ℕ} (s : SameFile img out n) (i : Inode img n) where
  pub names_is : (m : ℕ) → times_named out n m ≡ times_named img n m
  names_is = names_by img out n (kids_is s.slots.rec) (kid_is s i)

  pub subs_is : ((j : ℕ) → j < kids img n → kind out (kid img n j) ≡ kind img (kid img n j)) → subs out n ≡ subs img n
  subs_is = subs_by img out n (kids_is s.slots.rec) (kid_is s i)

-- ---- from its blocks: an inode is the same where all places in use are

module _ (img out : List ℕ) (n : ℕ) where
  pub file_held : ((p : Place) → InUse img n p → SameBlock img out (held img n p)) → SameFile img out n
  file_held h =
      record {
        slots =
            record {
              rec = block_record (h at_inode tt);
              indirect_same = h at_indirect;
              double_same = h at_double;
              second_same = λ j. h (at_second j);
            };
        data_same = λ i. h (at_data i);
      }

-- ---- the four go both ways, and one change after another

pub block_refl : (img : List ℕ) (b : ℕ) → SameBlock img img b
block_refl img b = record { bytes = λ k l. refl }

pub record_refl : (img : List ℕ) (n : ℕ) → SameRecord img img n
record_refl img n = record { bytes = λ k l. refl }

pub file_refl : (img : List ℕ) (n : ℕ) → SameFile img img n
file_refl img n = file_held img img n (λ p u. block_refl img (held img n p))

pub slots_refl : (img : List ℕ) (n : ℕ) → SameSlots img img n
slots_refl img n = (file_refl img n).slots

module _ {img out : List ℕ} where
  pub block_sym : {b : ℕ} → SameBlock img out b → SameBlock out img b
  block_sym {b} s = record { bytes = λ k l. sym (s.bytes k l) }

  pub record_sym : {n : ℕ} → SameRecord img out n → SameRecord out img n
  record_sym {n} s = record { bytes = λ k l. sym (s.bytes k l) }

  module _ {n : ℕ} (h : count img n < 1049612) where
    pub slots_sym : SameSlots img out n → SameSlots out img n
    slots_sym s =
        record {
          rec = record_sym s.rec;
          indirect_same = λ a. rw (indirect_is s.rec) (block_sym (s.indirect_same (rw (count_is s.rec) at a)));
          double_same = λ a. rw (double_is s.rec) (block_sym (s.double_same (rw (count_is s.rec) at a)));
          second_same = λ j l.
              let k : j < seconds (count img n) = rw (count_is s.rec) at l in
              subst (SameBlock out img) (sym (second_is s h j k)) (block_sym (s.second_same j k));
        }

    pub file_sym : SameFile img out n → SameFile out img n
    file_sym s =
        record {
          slots = slots_sym s.slots;
          data_same = λ i l.
              let k : i < count img n = rw (count_is s.slots.rec) at l in
              subst (SameBlock out img) (sym (data_is s.slots i k)) (block_sym (s.data_same i k));
        }

module _ {img mid out : List ℕ} where
  pub block_trans : {b : ℕ} → SameBlock img mid b → SameBlock mid out b → SameBlock img out b
  block_trans {b} s t = record { bytes = λ k l. t.bytes k l ∙ s.bytes k l }

  pub record_trans : {n : ℕ} → SameRecord img mid n → SameRecord mid out n → SameRecord img out n
  record_trans {n} s t = record { bytes = λ k l. t.bytes k l ∙ s.bytes k l }

  module _ {n : ℕ} (h : count img n < 1049612) where
    pub slots_trans : SameSlots img mid n → SameSlots mid out n → SameSlots img out n
    slots_trans s t =
        record {
          rec = record_trans s.rec t.rec;
          indirect_same = λ a. block_trans (s.indirect_same a)
              (rw (indirect_is s.rec) at (t.indirect_same (rw (count_is s.rec) a)));
          double_same = λ a. block_trans (s.double_same a) (rw (double_is s.rec) at (t.double_same (rw (count_is s.rec) a)));
          second_same = λ j l. block_trans (s.second_same j l)
              (subst (SameBlock mid out) (second_is s h j l) (t.second_same j (rw (count_is s.rec) l)));
        }

    pub file_trans : SameFile img mid n → SameFile mid out n → SameFile img out n
    file_trans s t =
        record {
          slots = slots_trans s.slots t.slots;
          data_same = λ i l. block_trans (s.data_same i l)
              (subst (SameBlock mid out) (data_is s.slots i l) (t.data_same i (rw (count_is s.slots.rec) l)));
        }
