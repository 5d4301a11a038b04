-- A growth as a whole: its data blocks are taken and listed, and the record is written. Assumes nothing.
use mathlib.Core.Path.{◌≡◌, refl, sym, ap, ◌∙◌, subst}
use mathlib.Core.Logic.{◌≢◌}
use mathlib.Core.List.{List}
use Prim.Native.Nat.{ℕ, ◌+◌, ◌-◌, ◌*◌, ◌/◌, ◌^◌, ◌≤◌, ◌<◌}
use native.Mathlib.Omega.{arith}
use native.Mathlib.Decide.{dec_lt}
use lib.ListN.{length}
use Rattle.std.proofs.lemmas.Grind.{common_steps}
use Rattle.words.specs.Words.{word, Bytes}
use Rattle.words.specs.Sums.{cnt}
use Rattle.words.proofs.Numbers.{num_frame}
use Rattle.card_layout.specs.Sizes.{most, maps_for, blocks_for}
use Rattle.card_layout.specs.Super.{blocks, unused, maps}
use Rattle.card_layout.specs.Inode.{kind, count, indirect, kind_no, number_at, encoded, Fitting}
use Rattle.card_layout.specs.Slots.{seconds, owned}
use Rattle.card_layout.specs.declared.BlockId.{BlockId}
use Rattle.card_layout.specs.declared.inode.FileType.{FileType}
use Rattle.card_layout.specs.declared.inode.Head.{Head}
use Rattle.card_layout.specs.declared.inode.DiskINode.{DiskINode}
use Rattle.card_layout.proofs.Words.{length-words, get_or-words}
use Rattle.card_layout.proofs.InodeLaws.{
  inode_at,
  inode_at_fits,
  length-encoded,
  size-encoded,
  kind-encoded,
  links-encoded,
  count-encoded,
  indirect-encoded,
  double-encoded,
  bytes_encoded,
}
use Rattle.card_map.specs.Bits.{map_bit, free_bits}
use Rattle.card_rules.specs.View.{second, data_at}
use Rattle.card_rules.specs.Whole.{Sound}
use Rattle.card_rules.specs.Places.{Place, at_indirect, at_double, at_second, at_data}
use Rattle.card_rules.proofs.Cells.{rank}
use Rattle.card_rules.proofs.Views.{data_direct, data_indirect, data_double, seconds_mono, seconds_reach, owned_parts}
use Rattle.file_blocks.specs.Inner.{Sizes}
use Rattle.file_blocks.specs.Taking.{Growing, grow_indirect, grow_double, grow_level, grow_direct, grow_single, grow_twofold, grown}
use Rattle.file_grow.proofs.Taken.{nth_free, nth_below, TookLowest}
use Rattle.file_requests.specs.Resizing.{of_length, lengthened}
use Rattle.law_files.proofs.Plan.{Had, planned, more, Planning, Grown}
use Rattle.law_files.proofs.Pointed.{pointers, Pointed, gap_counts}
use Rattle.law_files.proofs.Tables.{table_of, table_rank, table_second, had_table, clear_in, blocks_apart, Seats, seat_of}
use Rattle.law_files.proofs.Data.{Begun, Ended, data_steps}
use Rattle.law_files.proofs.GrownBytes.{bytes_grown}
use Rattle.law_files.proofs.Written.{inside, bit_off, unused_off, super_off, block_off, places_are}

-- ---- how many blocks are taken

pub total : (a b : ℕ) → a ≤ b → pointers a b + (b - a) ≡ owned b - owned a
total a b h = omega (arith, gap_counts 12 a b h, gap_counts 1036 a b h, owned_parts a, owned_parts b, seconds_mono a b h)

maps_one : (nb : ℕ) → 16 ≤ nb → nb ≤ 32768 → maps_for nb ≡ 1
unfolding maps_for
maps_one nb h l = omega arith

-- ---- the growth

module _ (img l : List ℕ) (s : Sound img l) (bytes : Bytes img) (n : ℕ) (h : 0 < cnt n l) (len : ℕ) (short : len < 2 ^ 32) (up : count img n < blocks_for len)
    (room : owned (blocks_for len) ≤ owned (count img n) + unused img)
    (plan : Planning img n (blocks_for len)) (k : FileType) (kind-as : kind img n ≡ kind_no k)
    (start : Pointed img n (blocks_for len) (inode_at img n k)
    (grow_level (blocks img) (count img n) (blocks_for len)
    (grow_double (blocks img) (count img n) (blocks_for len)
    (grow_indirect (blocks img) (count img n) (blocks_for len) (record { cur = record { img = img; from = 0 }; inode = inode_at img n k }))))) where
  -- names that stay closed: the lemmas below are over any such numbers, and the plan opened is long
  nb : ℕ
  nb = blocks img

  a : ℕ
  a = count img n

  b : ℕ
  b = blocks_for len

  K : ℕ
  K = pointers (count img n) (blocks_for len)

  H : Place → ℕ
  H = planned img n (blocks_for len)

  -- with its pointer blocks, and with its data
  g₃ : Growing
  g₃ =
      grow_level (blocks img) (count img n) (blocks_for len)
      (grow_double (blocks img) (count img n) (blocks_for len)
      (grow_indirect (blocks img) (count img n) (blocks_for len) (record { cur = record { img = img; from = 0 }; inode = inode_at img n k })))

  g₆ : Growing
  g₆ = grow_twofold nb a b (grow_single nb a b (grow_direct nb a b g₃))

  sizes : Sizes img nb
  unfolding nb
  sizes = record { few = s.sized.few; many = s.sized.many; long = s.sized.long }

  exact : unused img ≡ free_bits img nb
  unfolding nb
  exact = sym s.free

  all : K + (b - a) ≡ more img n (blocks_for len)
  unfolding K b a
  all = total (count img n) (blocks_for len) (omega arith)

  seats : Seats nb K a b img H
  unfolding nb K a b H
  seats = grind (arith, common_steps, all)

  start₃ : Pointed img n b (inode_at img n k) g₃
  unfolding b g₃
  start₃ = start

  -- ---- what the file had

  one_old : 12 ≤ a → H at_indirect ≡ indirect img n
  unfolding a H
  one_old u = plan.old at_indirect u

  second_old : (j : ℕ) → j < seconds a → H (at_second j) ≡ second img n j
  unfolding a H
  second_old j u = plan.old (at_second j) u

  data_old : (i : ℕ) → i < a → H (at_data i) ≡ data_at img n i
  unfolding a H
  data_old i u = plan.old (at_data i) u

  word_old : (i : ℕ) → 12 ≤ i → i < a → word img (seat_of H i) ≡ data_at img n i
  word_old i m u = grind (arith, common_steps, one_old, data_indirect, table_second, second_old, seconds_reach, data_double, seats)

  -- its pointer blocks are as they were, but the double one
  word_start : (i : ℕ) → 12 ≤ i → i < a → word g₃.cur.img (seat_of H i) ≡ word img (seat_of H i)
  unfolding b H
  word_start i m u =
      num_frame 4 g₃.cur.img img (seat_of H i)
      (λ p v w.
      start₃.kept p (clear_in (H t) p 1 (seats.clear t had) (omega arith) (omega arith))
      (λ z.
      blocks_apart (H t) (H at_double) p 1 (4096 * H at_double) 4096
      (seats.apart t at_double had z (λ e. (table_rank ((i - 12) / 1024)).2 (ap rank e)))
      (omega arith) (omega arith) (omega arith) (omega arith)))
    where
      t : Place
      t = table_of ((i - 12) / 1024)

      had : Had (blocks_for len) t
      had = had_table b i m (omega (arith, seats.up))

  begun : Begun nb K a b img H g₃
  unfolding nb K a b H
  begun =
      record {
        listed =
            record {
              took = let e : K ≡ K + (a - a) = omega arith in subst (λ (x : ℕ). TookLowest nb img x g₃.cur) e start₃.took;
              table = start₃.table;
              listed = λ i m u. word_start i m u ∙ word_old i m u ∙ sym (data_old i u);
              kept = λ p clear d. start₃.kept p clear (λ z. d at_double z (omega arith) (omega arith));
            };
        one = start₃.one;
        two = start₃.two;
        twelve = ap length start₃.direct_same ∙ length-words 12 img (4096 * n + 12);
        direct_is = λ i m u.
            ap (λ (x : List BlockId). number_at x i) start₃.direct_same
            ∙ get_or-words 12 img (4096 * n + 12) i m
            ∙ sym (data_direct img n i m)
            ∙ sym (data_old i u);
      }

  ended : Ended nb K a b img H g₃ g₆
  unfolding g₆
  ended = data_steps seats sizes exact g₃ begun

  -- ---- the new record

  d : DiskINode
  d = of_length g₆.inode len

  one : 12 ≤ b → d.head.indirect.0 ≡ H at_indirect
  unfolding d
  one u = ap (λ (x : Head). x.indirect.0) ended.head ∙ begun.one u

  two : 1036 ≤ b → d.head.db_indirect.0 ≡ H at_double
  unfolding d
  two u = ap (λ (x : Head). x.db_indirect.0) ended.head ∙ begun.two u

  one_none : b < 12 → d.head.indirect.0 ≡ 0
  unfolding d b
  one_none u = ap (λ (x : Head). x.indirect.0) ended.head ∙ start₃.one_not u

  two_none : b < 1036 → d.head.db_indirect.0 ≡ 0
  unfolding d b
  two_none u = ap (λ (x : Head). x.db_indirect.0) ended.head ∙ start₃.two_not u

  low : (p : Place) → Had b p → H p < 2 ^ 32
  low p u = omega (arith, seats.below p u, sizes.many)

  fits : Fitting d
  unfolding d
  fits =
      record {
        size = short;
        nlinks = rw (ended.head, start₃.head_is) was.nlinks;
        blocks = omega (arith, plan.few);
        indirect = first (dec_lt b 12);
        double = second-one (dec_lt b 1036);
        padding = rw (ended.head, start₃.head_is) was.padding;
        device = rw (ended.head, start₃.head_is) was.device;
        twelve = ended.twelve;
        slots = λ i. slots i (dec_lt i 12) (dec_lt i b);
      }
    where
      was : Fitting (inode_at img n k)
      was = inode_at_fits img n k bytes

      first : Dec (b < 12) → d.head.indirect.0 < 2 ^ 32
      first (yes u) = omega (arith, one_none u)
      first (no u) = omega (arith, one (omega arith), low at_indirect (omega arith))

      second-one : Dec (b < 1036) → d.head.db_indirect.0 < 2 ^ 32
      second-one (yes u) = omega (arith, two_none u)
      second-one (no u) = omega (arith, two (omega arith), low at_double (omega arith))

      rest : (i : ℕ) → (i < 12 → i < b → ⊥) → number_at d.direct i < 2 ^ 32
      rest i u = rw (ended.direct_rest i u, start₃.direct_same) (was.slots i)

      slots : (i : ℕ) → Dec (i < 12) → Dec (i < b) → number_at d.direct i < 2 ^ 32
      slots i (yes u) (yes v) = rw (ended.direct_is i u v) (low (at_data i) v)
      slots i (yes u) (no v) = rest i (λ x y. v y)
      slots i (no u) v = rest i (λ x y. u x)

  -- ---- the card

  written : List ℕ
  written = encoded g₆.cur.img n d

  written_is : lengthened (blocks img) n (inode_at img n k) len img ≡ written
  unfolding lengthened grown written nb a b d g₃ g₆
  written_is = refl

  bytes_after : Bytes g₆.cur.img
  unfolding grown nb a b g₃ g₆
  bytes_after = bytes_grown (blocks img) (count img n) (blocks_for len) (record { cur = record { img = img; from = 0 }; inode = inode_at img n k }) bytes

  X : List ℕ
  X = g₆.cur.img

  took₆ : TookLowest nb img (K + (b - a)) g₆.cur
  took₆ = ended.listed.took

  here : 4096 * n + 80 ≤ length X
  unfolding H X
  here = inside seats sizes ended.listed d fits

  bit_same : (x : ℕ) → x < most → map_bit written x ≡ map_bit X x
  unfolding H X written
  bit_same = bit_off seats sizes ended.listed d fits

  gone_all : (j : ℕ) → j < K + (b - a) → map_bit written (nth_free nb img j) ≡ 0
  unfolding X
  gone_all j u =
      bit_same (nth_free nb img j) (omega (arith, sizes.many, (nth_below nb img j (omega (arith, seats.room))).0)) ∙ took₆.gone j u

  map_not : (x : ℕ) → ((i : ℕ) → i < maps img → x ≢ 2 + i) → x ≢ 2
  unfolding nb
  map_not x m = m 0 (omega (arith, s.sized.mapped, maps_one nb sizes.few sizes.many))

  done : Grown img written n len
  unfolding written nb K a b H X d
  done =
      record {
        len_same = length-encoded X n d here fits ∙ took₆.len;
        bytes = bytes_encoded X n d bytes_after;
        super_same = super_off seats sizes ended.listed d fits;
        gone = λ j u. gone_all j (omega (arith, all));
        others = λ x u e. bit_same x u ∙ took₆.others x u (λ j v. e j (omega (arith, all)));
        left = omega (arith, unused_off seats sizes ended.listed d fits, took₆.left, all);
        size_is = size-encoded X n d here fits;
        kind_is = kind-encoded X n d here fits ∙ ap (λ (x : Head). kind_no x.type_) (ended.head ∙ start₃.head_is) ∙ sym kind-as;
        links_is = links-encoded X n d here fits ∙ ap (λ (x : Head). x.nlinks) (ended.head ∙ start₃.head_is);
        count_is = count-encoded X n d here fits;
        one_not = λ u. indirect-encoded X n d here fits ∙ one_none u;
        two_not = λ u. double-encoded X n d here fits ∙ two_none u;
        placed = places_are seats sizes ended.listed d fits one two ended.direct_is;
        kept = λ x u v m e. block_off seats sizes ended.listed d fits x v (map_not x m) e;
      }

  pub grows : Grown img (lengthened (blocks img) n (inode_at img n k) len img) n len
  grows = rw written_is done
