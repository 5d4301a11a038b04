-- A record written over a card on which all blocks of its file are listed: its places hold them, and nothing else changes. H is the block of each place.
-- Assumes nothing.
use mathlib.Core.Path.{◌≡◌, refl, ap, ◌∙◌}
use mathlib.Core.Logic.{◌≢◌, ⊎_elim}
use mathlib.Core.List.{List}
use Prim.Native.Nat.{ℕ, ◌+◌, ◌-◌, ◌*◌, ◌/◌, ◌%◌, ◌≤◌, ◌<◌}
use native.Mathlib.Omega.{arith}
use lib.ListN.{length}
use Rattle.std.proofs.lemmas.Grind.{common_steps}
use Rattle.words.specs.Words.{byte, word}
use Rattle.words.specs.Inner.{Apart}
use Rattle.words.proofs.Numbers.{num_frame}
use Rattle.card_layout.specs.Sizes.{most}
use Rattle.card_layout.specs.Super.{unused}
use Rattle.card_layout.specs.Inode.{indirect, double, number_at, encoded, Fitting}
use Rattle.card_layout.specs.Slots.{seconds}
use Rattle.card_layout.specs.declared.inode.DiskINode.{DiskINode}
use Rattle.card_layout.proofs.InodeLaws.{indirect-encoded, double-encoded, direct-encoded, byte-encoded_off}
use Rattle.card_map.specs.Bits.{map_byte, map_bit}
use Rattle.card_map.proofs.Map.{bit_is}
use Rattle.card_rules.specs.View.{slot, second, data_at}
use Rattle.card_rules.specs.Places.{Place, at_inode, at_indirect, at_double, at_second, at_data, held}
use Rattle.card_rules.proofs.Cells.{rank}
use Rattle.card_rules.specs.Same.{SameBlock}
use Rattle.card_rules.proofs.Views.{data_direct, data_indirect, data_double, seconds_many, seconds_reach, seconds_some, ranges}
use Rattle.file_blocks.specs.Inner.{Sizes}
use Rattle.file_blocks.specs.Taking.{Cursor}
use Rattle.law_files.proofs.Plan.{Had}
use Rattle.law_files.proofs.Tables.{table_of, table_rank, table_first, table_second, had_table, blocks_apart, Seats, seat_of, Listed}

module _ {nb K a b : ℕ} {img : List ℕ} {H : Place → ℕ} (s : Seats nb K a b img H) (sizes : Sizes img nb) {c : Cursor} (f : Listed nb K a b img H b c)
    (d : DiskINode) (fits : Fitting d) where
  abbrev mid : List ℕ
  mid = encoded c.img (H at_inode) d

  pub inside : 4096 * H at_inode + 80 ≤ length c.img
  inside = omega (arith, s.below at_inode tt, sizes.long, f.took.len)

  off : (k : ℕ) → Apart k 1 (4096 * H at_inode) 80 → byte mid k ≡ byte c.img k
  off = byte-encoded_off c.img (H at_inode) d inside fits

  -- the other blocks of H
  word_off : (p : Place) (o : ℕ) → Had b p → 0 < rank p → o < 1024 → word mid (4096 * H p + 4 * o) ≡ word c.img (4096 * H p + 4 * o)
  word_off p o h r l =
      num_frame 4 mid c.img (4096 * H p + 4 * o)
      (λ k u v.
      off k
      (blocks_apart (H p) (H at_inode) k 1 (4096 * H at_inode) 80
      (s.apart p at_inode h tt (λ e. omega (arith, r, ap rank e)))
      (omega arith) (omega arith) (omega arith) (omega arith)))

  -- the map and the superblock
  pub bit_off : (x : ℕ) → x < most → map_bit mid x ≡ map_bit c.img x
  bit_off x l = bit_is c.img mid x (off (map_byte x) (λ u v. (s.clear at_inode tt).map (omega arith) (omega arith)))

  pub unused_off : unused mid ≡ unused c.img
  unused_off = num_frame 4 mid c.img 8 (λ k u v. off k (λ p q. (s.clear at_inode tt).count (omega arith) (omega arith)))

  pub super_off : (k : ℕ) → k < 48 → Apart k 1 8 4 → byte mid k ≡ byte img k
  super_off k l h = grind (arith, common_steps, off)

  -- blocks that are none of H
  pub block_off : (x : ℕ) → x ≢ 0 → x ≢ 2 → ((p : Place) → Had b p → rank p < 4 → x ≢ H p) → SameBlock img mid x
  block_off x h m e = grind (arith, common_steps, off)

  -- ---- its slots

  module _ (one : 12 ≤ b → d.head.indirect.0 ≡ H at_indirect) (two : 1036 ≤ b → d.head.db_indirect.0 ≡ H at_double)
      (low : (i : ℕ) → i < 12 → i < b → number_at d.direct i ≡ H (at_data i)) where
    at_one : 12 ≤ b → indirect mid (H at_inode) ≡ H at_indirect
    at_one h = indirect-encoded c.img (H at_inode) d inside fits ∙ one h

    at_two : 1036 ≤ b → double mid (H at_inode) ≡ H at_double
    at_two h = double-encoded c.img (H at_inode) d inside fits ∙ two h

    at_table : (j : ℕ) → j < seconds b → second mid (H at_inode) j ≡ H (at_second j)
    at_table j l = grind (arith, common_steps, seconds_many, at_two, word_off, seconds_some)

    at_seat : (i : ℕ) → 12 ≤ i → i < b → word mid (seat_of H i) ≡ H (at_data i)
    at_seat i l u =
        word_off (table_of ((i - 12) / 1024)) ((i - 12) % 1024) (had_table b i l u) (table_rank ((i - 12) / 1024)).0 (omega arith) ∙ f.listed i l u

    at_block : (i : ℕ) → i < b → data_at mid (H at_inode) i ≡ H (at_data i)
    at_block i u =
        ⊎_elim
        (λ l. data_direct mid (H at_inode) i l ∙ direct-encoded c.img (H at_inode) d inside fits i l ∙ low i l u)
        (⊎_elim
        (λ w.
        let e : (i - 12) % 1024 ≡ i - 12 = omega (arith, w.0, w.1) in
        data_indirect mid (H at_inode) i w.0 w.1
        ∙ ap (λ (x : ℕ). slot mid x (i - 12)) (at_one (omega (arith, w.0)))
        ∙ rw (table_first i w.0 w.1, e) at (at_seat i w.0 u))
        (λ l.
        let e : (i - 12) % 1024 ≡ (i - 1036) % 1024 = omega arith in
        data_double mid (H at_inode) i l (omega (arith, s.few))
        ∙ ap (λ (x : ℕ). slot mid x ((i - 1036) % 1024)) (at_table ((i - 1036) / 1024) (seconds_reach b i u l))
        ∙ rw (table_second i l, e) at (at_seat i (omega arith) u)))
        (ranges i)

    pub places_are : (p : Place) → Had b p → held mid (H at_inode) p ≡ H p
    places_are at_inode h = refl
    places_are at_indirect h = at_one h
    places_are at_double h = at_two h
    places_are (at_second j) h = at_table j h
    places_are (at_data i) h = at_block i h
