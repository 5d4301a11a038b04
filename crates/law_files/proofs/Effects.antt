-- Read, write and resize where they are done have their effects (specs/Effects). Assumes nothing.
use mathlib.Core.Path.{◌≡◌, refl, sym, ap, ◌∙◌, subst}
use mathlib.Core.Logic.{◌≢◌, ◌⊎◌, ⊎_elim}
use mathlib.Core.List.{List}
use mathlib.Core.Bool.{false}
use Prim.Native.Nat.{ℕ, ◌+◌, ◌-◌, ◌≤◌, ◌<◌, min}
use native.Mathlib.Omega.{arith}
use native.Mathlib.Decide.{dec_lt, dec_le}
use lib.ListN.{length}
use Rattle.std.proofs.lemmas.Grind.{common_steps}
use Rattle.words.specs.Words.{Bytes}
use Rattle.words.specs.Sums.{δ, sum_to, cnt}
use Rattle.words.proofs.Sums.{sum_on_point}
use Rattle.card_layout.specs.Super.{blocks, unused, maps}
use Rattle.card_layout.specs.Inode.{size, kind, count}
use Rattle.card_layout.specs.Slots.{owned}
use Rattle.card_layout.specs.declared.inode.FileType.TheVariants.{Dir}
use Rattle.card_map.specs.Bits.{map_bit}
use Rattle.card_map.proofs.Map.{bit_below}
use Rattle.card_rules.specs.View.{owns}
use Rattle.card_rules.specs.Places.{Place, held, InUse}
use Rattle.card_rules.specs.Whole.{Reached, Sound, Whole}
use Rattle.card_rules.specs.Same.{SameFile}
use Rattle.card_rules.proofs.Views.{uses_parts}
use Rattle.card_rules.proofs.Frames.{count_is, owns_is}
use Rattle.card_rules.proofs.Kept.{slots_few}
use Rattle.card_rules.proofs.Counting.{set_and_owned}
use Rattle.card_rules.proofs.Cells.{held-owned, owned-held}
use Rattle.card_rules.proofs.Owners.{held_below, places_differ}
use Rattle.file_blocks.specs.Bytes.{filled}
use Rattle.file_requests.specs.Requests.{end_of, resize_answer, resize_card, write_answer, write_card, read_buffer}
use Rattle.law_files.specs.Effects.{ReadEffect, ChangeEffect, Lowest, ResizeEffect, WriteEffect}
use Rattle.law_files.proofs.Requests.{of_kind, resize_dir, resize_done}
use Rattle.law_files.proofs.Only.{Only, only_resized}
use Rattle.law_files.proofs.Lengths.{length_change}
use Rattle.law_files.proofs.Return.{in_use_more}
use Rattle.law_files.proofs.TailShown.{resize_shows}
use Rattle.law_files.proofs.Lowest.{resize_lowest}
use Rattle.law_files.proofs.Writing.{Wrote, refused, reached, wrote, size_wrote, count_wrote, there, elsewhere, stood_wrote, lowest_wrote, only_wrote}
use Rattle.law_files.proofs.Files.{of_file, refused_exactly, read_bytes, read_past, read_length}
use Rattle.refusals.specs.Refusals.{answer_no}

-- ---- one file has changed: what it has less or more is what the map has more or less

module _ {img out : List ℕ} (w : Whole img) (n : ℕ) (h : Reached img n) (sound : Sound out w.inodes) (same : blocks out ≡ blocks img)
    (maps_same : maps out ≡ maps img)
    (others : (m : ℕ) → 0 < cnt m w.inodes → m ≢ n → SameFile img out m) where
  abbrev l : List ℕ
  l = w.inodes

  once : cnt n w.inodes ≡ 1
  once = w.tree.all n h

  takes : unused out + owned (count out n) ≡ unused img + owned (count img n)
  takes =
      omega (
        arith,
        set_and_owned img l w.sound,
        set_and_owned out l sound,
        same,
        maps_same,
        sum_on_point (λ m. 1 + owned (count img m)) (λ m. 1 + owned (count out m)) l n once
            (λ m c d. ap (λ (k : ℕ). 1 + owned k) (count_is (others m c d).slots.rec)),
      )

  balance : (b : ℕ) → b < blocks img → owns out n b + map_bit out b ≡ owns img n b + map_bit img b
  balance b q =
      omega (
        arith,
        w.sound.once b q,
        sound.once b (rw same q),
        uses_parts img l b,
        uses_parts out l b,
        ap (sum_to (λ i. δ (2 + i) b)) maps_same,
        sum_on_point (λ m. owns img m b) (λ m. owns out m b) l n once (λ m c d. owns_is (others m c d).slots (slots_few w.sound m c) b),
      )

  -- a place that is new holds a block that was free
  module _ (places : (p : Place) → InUse img n p → InUse out n p → held out n p ≡ held img n p) (p : Place) (u : InUse out n p) (new : InUse img n p → ⊥) where
    abbrev b : ℕ
    b = held out n p

    listed : 0 < cnt n w.inodes
    listed = omega (arith, once)

    low : b < blocks img
    low = rw same at (held_below out w.inodes sound n p listed u)

    was : map_bit img b < 1 → 0 < owns img n b
    was q = omega (arith, balance b low, held-owned out n p u)

    free : Dec (count img n ≤ count out n) → Dec (map_bit img b < 1) → map_bit img b ≡ 1
    free (no m) q = absurd (new (in_use_more out img n (omega arith) p u))
    free (yes m) (no q) = omega (arith, bit_below img b)
    free (yes m) (yes q) =
        let o = owned-held img n b (was q) in
        let v = in_use_more img out n m o.0 o.1 in
        let e = (places_differ out w.inodes sound n n o.0 p listed listed v u (places o.0 o.1 v ∙ o.2)).1 in
        absurd (new (subst (InUse img n) e o.1))

pub changed : {img out : List ℕ} (w : Whole img) (n : ℕ) → Reached img n → Only w.inodes img out n → Lowest img out n → ChangeEffect img out n
changed {img} {out} w n h x low =
    record {
      kind_is = x.kind_same;
      links_is = x.links_same;
      places = x.places;
      was_free = λ p u new.
          free w n h x.sound x.blocks_same x.maps_same x.others x.places p u new
          (dec_le (count img n) (count out n))
          (dec_lt (map_bit img (held out n p)) 1);
      lowest = low;
      takes = takes w n h x.sound x.blocks_same x.maps_same x.others;
      others = λ m r d. x.others m (omega (arith, w.tree.all m r)) d;
    }

-- ---- read

module _ {img : List ℕ} (w : Whole img) (b : Bytes img) (n : ℕ) (h : Reached img n) (d : kind img n ≢ 2) (off : ℕ) (buf : List ℕ) where
  pub read_effect : ReadEffect img n off buf (read_buffer (blocks img) img n off buf) (min (size img n) (off + length buf) - min (size img n) off)
  read_effect = grind (arith, common_steps, read_bytes, read_past, read_length)

-- ---- resize

module _ {img : List ℕ} (w : Whole img) (b : Bytes img) (n : ℕ) (h : Reached img n) (len : ℕ) (done : answer_no (resize_answer img n len) ≡ 0) where
  listed_in : 0 < cnt n w.inodes
  listed_in = omega (arith, w.tree.all n h)

  pub resize_not_dir : kind img n ≢ 2
  resize_not_dir e = omega (arith, sym done ∙ ap answer_no (resize_dir (of_kind img n Dir e) len))

  pub resize_effect : ResizeEffect img (resize_card (blocks img) img n len) n len
  resize_effect =
      let k = of_file w n h resize_not_dir in
      let a = (refused_exactly w n h resize_not_dir len).0 done in
      let r = length_change img w.inodes w.sound b n listed_in k.0 k.1.number len a.0 (omega (arith, a.1)) in
      let x = only_resized w.sound w.tree b listed_in resize_not_dir r in
      rw (resize_done k.1 k.2 (blocks img) len a.0 (omega (arith, a.1)))
      (record {
        size_is = r.size_is;
        count_is = omega (arith, (x.sound.inode n listed_in).shape.counted, r.size_is);
        changed = changed w n h x (resize_lowest img w.inodes w.sound b n listed_in k.0 k.1.number len a.0 (omega (arith, a.1)));
        kept = r.kept;
        zeros = r.zeros;
        beyond = λ o p q.
            resize_shows img w.inodes w.sound b n listed_in k.0 k.1.number len a.0 (omega (arith, a.1)) o p
            (omega (arith, (x.sound.inode n listed_in).shape.counted, r.size_is));
      })

-- ---- write

module _ {img : List ℕ} (w : Whole img) (b : Bytes img) (n : ℕ) (h : Reached img n) (off : ℕ) (src : List ℕ) (c : Bytes src)
    (done : answer_no (write_answer img n off src) ≡ 0) where
  abbrev out : List ℕ
  out = write_card (blocks img) img n off src

  in_list : 0 < cnt n w.inodes
  in_list = omega (arith, w.tree.all n h)

  pub write_effect : WriteEffect img (write_card (blocks img) img n off src) n off src (length src)
  write_effect = go (wrote w.sound w.tree b n in_list off src)
    where
      go : Wrote w.inodes img n off src → WriteEffect img out n off src (length src)
      go (refused d e) = absurd (d done)
      go (reached mid d x z g low gap beyond y e) =
          rw e
          (record {
            returns = refl;
            size_is = size_wrote b n in_list off src x z;
            count_is = (v.sound.inode n in_list).shape.counted;
            changed = changed w n h v (lowest_wrote b n in_list off src x z low);
            written = there b n in_list off src x z;
            kept = λ o p q. elsewhere b n in_list off src x z o (omega (arith, z)) (outside o q) ∙ g o p;
            gap = λ o p q. elsewhere b n in_list off src x z o (omega (arith, z)) (λ i j. omega arith) ∙ gap o p q;
            beyond = λ o p q.
                stood_wrote b n in_list off src x z o (omega (arith, size_wrote b n in_list off src x z)) (omega (arith, count_wrote b n in_list off src x z))
                (beyond o (omega (arith, size_wrote b n in_list off src x z, z)) (omega (arith, count_wrote b n in_list off src x z)));
          })
        where
          v : Only w.inodes img (filled false src (blocks mid) n off (end_of off src) mid) n
          v = only_wrote b n in_list off src x z w.sound w.tree c d

          outside : (o : ℕ) → (o < off) ⊎ (off + length src ≤ o) → off ≤ o → o < end_of off src → ⊥
          outside o q i j = ⊎_elim (λ f. omega arith) (λ f. omega arith) q
