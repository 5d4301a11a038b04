-- A shorter file, or one of another length in as many blocks, on a sound card: what it gave up is free, what it kept is as it was, and nothing else
-- changed. Assumes nothing.
use mathlib.Core.Path.{◌≡◌, refl, sym, ap, ◌∙◌, subst}
use mathlib.Core.List.{List}
use mathlib.Core.Logic.{◌≢◌, ⊎_elim}
use Prim.Native.Nat.{ℕ, ◌+◌, ◌-◌, ◌*◌, ◌/◌, ◌%◌, ◌^◌, ◌≤◌, ◌<◌}
use native.Mathlib.Nat.{zero-add}
use native.Mathlib.Omega.{arith}
use lib.Dec.{ltb}
use lib.ListN.{length}
use Rattle.std.proofs.lemmas.Grind.{common_steps}
use Rattle.words.specs.Words.{pick, byte, num, Bytes}
use Rattle.words.specs.Inner.{Apart}
use Rattle.words.specs.Sums.{δ, cnt}
use Rattle.words.proofs.Numbers.{num_frame}
use Rattle.words.proofs.Sums.{sum_to_cong}
use Rattle.card_layout.specs.Sizes.{blocks_for}
use Rattle.card_layout.specs.Super.{blocks, unused}
use Rattle.card_layout.specs.Inode.{
  size,
  kind,
  links,
  count,
  direct,
  indirect,
  double,
  kind_no,
  number_at,
  directs,
  with_size,
  with_blocks,
  with_indirect,
  with_double,
  encoded,
  Fitting,
}
use Rattle.card_layout.specs.Slots.{seconds}
use Rattle.card_layout.specs.declared.BlockId.{BlockId}
use Rattle.card_layout.specs.declared.inode.FileType.{FileType}
use Rattle.card_layout.specs.declared.inode.DiskINode.{DiskINode}
use Rattle.card_layout.proofs.Words.{get_or-words}
use Rattle.card_layout.proofs.InodeLaws.{
  inode_at,
  inode_at_fits,
  length-encoded,
  size-encoded,
  kind-encoded,
  links-encoded,
  count-encoded,
  indirect-encoded,
  double-encoded,
  direct-encoded,
  byte-encoded_off,
  bytes_encoded,
}
use Rattle.card_map.specs.Bits.{map_byte, map_bit}
use Rattle.card_map.proofs.Map.{bit_is, free_is}
use Rattle.card_rules.specs.View.{slot, second, data_at, owns}
use Rattle.card_rules.specs.Whole.{Inode, Sound}
use Rattle.card_rules.specs.Places.{Place, at_inode, at_indirect, at_double, at_second, at_data, held, InUse}
use Rattle.card_rules.proofs.Views.{data_direct, data_indirect, data_double, seconds_many, seconds_reach, ranges, owns_parts, owns_own}
use Rattle.card_rules.proofs.Counting.{count_below}
use Rattle.card_rules.proofs.Cells.{rank}
use Rattle.card_rules.proofs.Owners.{owns-uses, inode_below, places_differ, not_zero, not_map}
use Rattle.card_rules.specs.Same.{SameBlock}
use Rattle.card_rules.proofs.Frames.{block_slot, seconds_fit}
use Rattle.card_rules.proofs.Kept.{Steady, slots_few}
use Rattle.card_rules.proofs.Isolation.{Balanced}
use Rattle.file_blocks.specs.Taking.{shrunk, less_indirect, less_double}
use Rattle.file_grow.proofs.Runs.{Clear}
use Rattle.file_requests.specs.Resizing.{of_length, shorter}
use Rattle.file_requests.proofs.Changes.{shorter_is}
use Rattle.law_files.proofs.Change.{Changed}
use Rattle.law_files.proofs.Plan.{Had, in_use_had}
use Rattle.law_files.proofs.Freed.{Freed, freed_none}
use Rattle.law_files.proofs.Losses.{is_data, is_second, used_by, lost, owns_lost, left, left_needed, left_none, left-low, less_both}
use Rattle.law_files.proofs.GivenUp.{one_map, shrunk_freed}

-- d is the record of inode n of card img with another length, at which it has b blocks, and no pointer blocks that it does not need
pub record Recorded (img : List ℕ) (n len b : ℕ) (d : DiskINode) : Type 0 where
  pub fits : Fitting d
  pub size_to : d.head.size ≡ len
  pub kind_to : kind_no d.head.type_ ≡ kind img n
  pub links_to : d.head.nlinks ≡ links img n
  pub blocks_to : d.head.blocks ≡ b
  pub indirect_to : 12 ≤ b → d.head.indirect.0 ≡ indirect img n
  pub indirect_none : b < 12 → d.head.indirect.0 ≡ 0
  pub double_to : 1036 ≤ b → d.head.db_indirect.0 ≡ double img n
  pub double_none : b < 1036 → d.head.db_indirect.0 ≡ 0
  pub direct_to : d.direct ≡ directs img n

-- once the blocks that n gives up are freed, its record is written
module _ (img l : List ℕ) (s : Sound img l) (n : ℕ) (h : 0 < cnt n l) (len : ℕ) (less : blocks_for len ≤ count img n)
    (gone : ℕ → ℕ) (mid : List ℕ) (f : Freed (blocks img) img gone mid)
    (rest : (x : ℕ) → owns img n x ≡ gone x + used_by img n x (blocks_for len)) (d : DiskINode) (r : Recorded img n len (blocks_for len) d) where
  abbrev out : List ℕ
  out = encoded mid n d

  abbrev b : ℕ
  b = blocks_for len

  room : 4096 * n + 80 ≤ length mid
  room = omega (arith, inode_below img l s n h, s.sized.long, f.len)

  not_two : (p : Place) → InUse img n p → held img n p ≢ 2
  not_two p u e = not_map img l s n p h u 0 (omega (arith, one_map img l s n h)) e

  n_zero : n ≢ 0
  n_zero = not_zero img l s n at_inode h tt

  n_two : n ≢ 2
  n_two = not_two at_inode tt

  -- ---- what is as it was

  far : (p : ℕ) → Clear p 1 → Apart p 1 (4096 * n) 80 → byte out p ≡ byte img p
  far p c a = byte-encoded_off mid n d room r.fits p a ∙ f.kept p c

  block_same : (x : ℕ) → x ≢ 0 → x ≢ 2 → x ≢ n → SameBlock img out x
  block_same x z m o = grind (arith, common_steps, far)

  -- a block at a place of n beside its own
  place_same : (p : Place) → InUse img n p → 0 < rank p → SameBlock img out (held img n p)
  place_same p u k =
      block_same (held img n p) (not_zero img l s n p h u) (not_two p u)
      (λ e. omega (arith, ap rank (places_differ img l s n n p at_inode h h u tt e).1))

  super_same : (at : ℕ) → at + 4 ≤ 4096 → Apart at 4 8 4 → num 4 out at ≡ num 4 img at
  super_same at t a =
      num_frame 4 out img at
      (λ p q v. far p (record { count = λ x y. a (omega arith) (omega arith); map = λ x y. omega arith }) (low p (omega arith)))
    where
      low : (p : ℕ) → p < 4096 → Apart p 1 (4096 * n) 80
      low p q u v = n_zero (omega arith)

  bit_mid : (x : ℕ) → x < 32768 → map_bit out x ≡ map_bit mid x
  bit_mid x q = bit_is mid out x (byte-encoded_off mid n d room r.fits (map_byte x) (off (map_byte x) (omega arith) (omega arith)))
    where
      off : (p : ℕ) → 8192 ≤ p → p < 12288 → Apart p 1 (4096 * n) 80
      off p q t u v = n_two (omega arith)

  unused_mid : unused out ≡ unused mid
  unused_mid =
      num_frame 4 out mid 8 (λ p q v. byte-encoded_off mid n d room r.fits p (λ x y. n_zero (omega arith)))

  steady : Steady img out
  steady =
      record {
        length_same = length-encoded mid n d room r.fits ∙ f.len;
        magic_same = super_same 0 (omega arith) (λ x y. omega arith);
        blocks_same = super_same 4 (omega arith) (λ x y. omega arith);
        maps_same = super_same 44 (omega arith) (λ x y. omega arith);
        past = λ x q t. bit_mid x (omega (arith, one_map img l s n h)) ∙ f.past x q;
        free =
            free_is mid out (blocks img) (λ x q. bit_mid x (omega (arith, s.sized.many)))
            ∙ sym f.free
            ∙ sym unused_mid;
      }

  -- ---- the record, and the slots that are in use

  count_out : count out n ≡ b
  count_out = count-encoded mid n d room r.fits ∙ r.blocks_to

  size_out : size out n ≡ len
  size_out = size-encoded mid n d room r.fits ∙ r.size_to

  kind_out : kind out n ≡ kind img n
  kind_out = kind-encoded mid n d room r.fits ∙ r.kind_to

  links_out : links out n ≡ links img n
  links_out = links-encoded mid n d room r.fits ∙ r.links_to

  indirect_out : 12 ≤ b → indirect out n ≡ indirect img n
  indirect_out a = indirect-encoded mid n d room r.fits ∙ r.indirect_to a

  double_out : 1036 ≤ b → double out n ≡ double img n
  double_out a = double-encoded mid n d room r.fits ∙ r.double_to a

  direct_out : (i : ℕ) → i < 12 → direct out n i ≡ direct img n i
  direct_out i a =
      direct-encoded mid n d room r.fits i a
      ∙ ap (λ (w : List BlockId). number_at w i) r.direct_to
      ∙ get_or-words 12 img (4096 * n + 12) i a

  second_out : (j : ℕ) → 1036 ≤ b → j < 1024 → second out n j ≡ second img n j
  second_out j a q =
      ap (λ (x : ℕ). slot out x j) (double_out a) ∙ block_slot (place_same at_double (omega arith) (omega arith)) j q

  data_out : (i : ℕ) → i < b → data_at out n i ≡ data_at img n i
  data_out i q =
      ⊎_elim
      (λ a. data_direct out n i a ∙ direct_out i a ∙ sym (data_direct img n i a))
      (⊎_elim
      (λ w.
      data_indirect out n i w.0 w.1
      ∙ ap (λ (x : ℕ). slot out x (i - 12)) (indirect_out (omega (arith, w.0)))
      ∙ block_slot (place_same at_indirect (omega (arith, w.0)) (omega arith)) (i - 12) (omega (arith, w.1))
      ∙ sym (data_indirect img n i w.0 w.1))
      (λ a.
      let t : i < 1049612 = omega (arith, slots_few s n h) in
      let j : ℕ = (i - 1036) / 1024 in
      data_double out n i a t
      ∙ ap (λ (x : ℕ). slot out x ((i - 1036) % 1024)) (second_out j (omega arith) (omega arith))
      ∙ block_slot (place_same (at_second j) (seconds_reach (count img n) i (omega arith) a) (omega arith)) ((i - 1036) % 1024) (omega arith)
      ∙ sym (data_double img n i a t)))
      (ranges i)

  -- a place that it has holds what it held
  placed : (p : Place) → Had b p → held out n p ≡ held img n p
  placed at_inode u = refl
  placed at_indirect u = indirect_out u
  placed at_double u = double_out u
  placed (at_second j) u =
      second_out j (seconds_many b (omega arith)) (seconds_fit b j (omega (arith, slots_few s n h)) u)
  placed (at_data i) u = data_out i u

  -- ---- the blocks that it uses

  optional : (m x y z : ℕ) → (m ≤ b → y ≡ z) → pick (ltb b m) 0 (δ y x) ≡ pick (ltb b m) 0 (δ z x)
  optional m x y z e = grind (arith, common_steps)

  owns_out : (x : ℕ) → owns out n x ≡ used_by img n x b
  owns_out x =
      owns_parts out n x
      ∙ ap (used_by out n x) count_out
      ∙ omega (
        arith,
        optional 12 x (indirect out n) (indirect img n) indirect_out,
        optional 1036 x (double out n) (double img n) double_out,
        sum_to_cong (is_second out n x) (is_second img n x) (seconds b) (λ j q. ap (λ (v : ℕ). δ v x) (placed (at_second j) q)),
        sum_to_cong (is_data out n x) (is_data img n x) b (λ i q. ap (λ (v : ℕ). δ v x) (data_out i q)),
      )

  inode_out : Inode out n
  inode_out =
      let w = s.inode n h in
      record {
        kind_low = rw kind_out w.kind_low;
        kind_high = rw kind_out w.kind_high;
        shape = record {
          counted = rw (count_out, size_out) refl;
          single = record {
            from = rw count_out (λ a. rw (indirect_out a) (w.shape.single.from (omega arith)));
            to = rw count_out (λ a. indirect-encoded mid n d room r.fits ∙ r.indirect_none a);
          };
          twofold = record {
            from = rw count_out (λ a. rw (double_out a) (w.shape.twofold.from (omega arith)));
            to = rw count_out (λ a. double-encoded mid n d room r.fits ∙ r.double_none a);
          };
        };
      }

  balanced : Balanced img out n
  balanced =
      record {
        steady = steady;
        balance = λ x q. omega (arith, owns_out x, rest x, bit_mid x (omega (arith, s.sized.many)), f.bits x q);
        below = λ x q. omega (arith, owns_out x, rest x, owns-uses img l s n x h, s.below x q);
        inode = inode_out;
      }

  pub recorded : Changed img out n len
  recorded =
      record {
        within =
            record { other = λ x q o t z m. block_same x z (m 0 (omega (arith, one_map img l s n h))) (λ e. omega (arith, o, own x e)) };
        balanced = balanced;
        bytes = bytes_encoded mid n d f.bytes;
        size_is = size_out;
        kind_is = kind_out;
        links_is = links_out;
        places = λ p u v. placed p (subst (λ (c : ℕ). Had c p) count_out (in_use_had out n p v));
        data_same = λ i q t. place_same (at_data i) q (omega arith);
      }
    where
      own : (x : ℕ) → x ≡ n → 0 < owns img n x
      own x e = subst (λ (y : ℕ). 0 < owns img n y) (sym e) (owns_own img n)

module _ (img l : List ℕ) (s : Sound img l) (bytes : Bytes img) (n : ℕ) (h : 0 < cnt n l) (len : ℕ) (short : len < 2 ^ 32) (k : FileType)
    (kind-as : kind img n ≡ kind_no k) where
  -- the record with v and w as its pointers
  length_recorded : (b v w : ℕ) → b < 2 ^ 32 → v < 2 ^ 32 → w < 2 ^ 32 → (12 ≤ b → v ≡ indirect img n) → (b < 12 → v ≡ 0) → (1036 ≤ b → w ≡ double img n)
      → (b < 1036 → w ≡ 0) → Recorded img n len b (with_double (with_indirect (with_blocks (with_size (inode_at img n k) len) b) v) w)
  length_recorded b v w lb lv lw one one_not two two_not =
      let z = inode_at_fits img n k bytes in
      record {
        fits =
            record {
              size = short;
              nlinks = z.nlinks;
              blocks = lb;
              indirect = lv;
              double = lw;
              padding = z.padding;
              device = z.device;
              twelve = z.twelve;
              slots = z.slots;
            };
        size_to = refl;
        kind_to = sym kind-as;
        links_to = refl;
        blocks_to = refl;
        indirect_to = one;
        indirect_none = one_not;
        double_to = two;
        double_none = two_not;
        direct_to = refl;
      }

  less_recorded : Recorded img n len (blocks_for len)
      (of_length (less_double (blocks_for len) (count img n) (less_indirect (blocks_for len) (count img n) (inode_at img n k))) len)
  less_recorded =
      let b = blocks_for len in
      let a = count img n in
      let z = inode_at_fits img n k bytes in
      rw (less_both b a (inode_at img n k))
      (length_recorded b (left 12 b a (indirect img n)) (left 1036 b a (double img n)) (omega arith)
      (left-low 12 b a (indirect img n) (2 ^ 32) z.indirect) (left-low 1036 b a (double img n) (2 ^ 32) z.double)
      (left_needed 12 b a (indirect img n)) (left_none 12 b a (indirect img n) (s.inode n h).shape.single.to)
      (left_needed 1036 b a (double img n)) (left_none 1036 b a (double img n) (s.inode n h).shape.twofold.to))

  -- the block count gets less
  pub shorter_changed : blocks_for len < count img n → Changed img (shorter (blocks img) n (inode_at img n k) len img) n len
  shorter_changed q =
      let b = blocks_for len in
      let a = count img n in
      let d = inode_at img n k in
      rw (shorter_is (blocks img) n d len img (omega (arith, count_below img l s n h, s.sized.many)))
      (recorded img l s n h len (omega arith) (λ x. lost img n x b) (shrunk (blocks img) n d b a img)
      (shrunk_freed img l s n h b (omega arith) bytes k)
      (λ x. owns_lost img n x b (omega arith))
      (of_length (less_double b a (less_indirect b a d)) len)
      less_recorded)

  -- it stays
  pub same_changed : blocks_for len ≡ count img n → Changed img (encoded img n (with_size (inode_at img n k) len)) n len
  same_changed e =
      let z = inode_at_fits img n k bytes in
      recorded img l s n h len (omega arith) (λ x. 0) img (freed_none (blocks img) img bytes s.free)
      (λ x. rw (e, zero-add) (owns_parts img n x))
      (with_size (inode_at img n k) len)
      (rw e
      (length_recorded (count img n) (indirect img n) (double img n) z.blocks z.indirect z.double (λ q. refl) (s.inode n h).shape.single.to
      (λ q. refl) (s.inode n h).shape.twofold.to))
