-- A change of one file alone, as every reader of the card sees it; and one after another. `img` is the card before, `out` the card after, l the inodes of
-- both. Assumes nothing.
use mathlib.Core.Path.{◌≡◌, sym, ◌∙◌}
use native.Mathlib.Omega.{arith}
use mathlib.Core.Logic.{◌≢◌}
use mathlib.Core.List.{List}
use Prim.Native.Nat.{ℕ, ◌<◌}
use lib.ListN.{length}
use Rattle.std.proofs.lemmas.Grind.{common_steps}
use Rattle.words.specs.Words.{Bytes}
use Rattle.words.specs.Sums.{cnt}
use Rattle.card_layout.specs.Super.{blocks, maps}
use Rattle.card_layout.specs.Inode.{kind, links}
use Rattle.card_rules.specs.Whole.{Sound, Tree, Whole}
use Rattle.card_rules.specs.Places.{Place, held, InUse}
use Rattle.card_rules.specs.Same.{SameFile}
use Rattle.card_rules.proofs.Frames.{kind_is, links_is, count_is, file_trans}
use Rattle.card_rules.proofs.Kept.{blocks_is, maps_is, slots_few}
use Rattle.card_rules.proofs.Isolation.{WithinData, others_same, whole_one, whole_data_write, data_slots, data_others, data_super}
use Rattle.law_files.proofs.Resized.{Resized, held_is, in_use_is}

-- nothing but file n changed: every other inode has its record, its blocks and its bytes
pub record Only (l img out : List ℕ) (n : ℕ) : Type 0 where
  pub sound : Sound out l
  pub tree : Tree out l
  pub bytes : Bytes out
  pub blocks_same : blocks out ≡ blocks img
  pub maps_same : maps out ≡ maps img
  pub others : (m : ℕ) → 0 < cnt m l → m ≢ n → SameFile img out m
  pub kind_same : kind out n ≡ kind img n
  pub links_same : links out n ≡ links img n
  pub places : (p : Place) → InUse img n p → InUse out n p → held out n p ≡ held img n p

abbrev pub whole_of : {img l : List ℕ} → Sound img l → Tree img l → Whole img
whole_of {img} {l} s t = record { inodes = l; sound = s; tree = t }

module _ {l img : List ℕ} (s : Sound img l) (t : Tree img l) (b : Bytes img) where
  pub only_refl : (n : ℕ) → Only l img img n
  only_refl n = grind (arith, common_steps)

  pub only_resized : {out : List ℕ} {n len z : ℕ} → 0 < cnt n l → kind img n ≢ 2 → Resized img out n len z → Only l img out n
  only_resized {out} {n} {len} {z} h k r =
      let w = whole_one (whole_of s t) h r.within k r.kind_is r.links_is r.balanced in
      record {
        sound = w.sound;
        tree = w.tree;
        bytes = r.bytes;
        blocks_same = r.balanced.steady.blocks_same;
        maps_same = r.balanced.steady.maps_same;
        others = others_same s h r.within;
        kind_same = r.kind_is;
        links_same = r.links_is;
        places = r.places;
      }

  -- then a write in its data
  pub only_data : {mid out : List ℕ} {n : ℕ} → 0 < cnt n l → kind img n ≢ 2 → Only l img mid n → WithinData mid out n → length out ≡ length mid → Bytes out
      → Only l img out n
  only_data {mid} {out} {n} h k o w len b' =
      let k' : kind mid n ≢ 2 = λ e. k (sym o.kind_same ∙ e) in
      let v = whole_data_write (whole_of o.sound o.tree) h k' w len in
      let slots = data_slots o.sound h w in
      let u = data_super o.sound h w in
      record {
        sound = v.sound;
        tree = v.tree;
        bytes = b';
        blocks_same = blocks_is u ∙ o.blocks_same;
        maps_same = maps_is u ∙ o.maps_same;
        others = λ m c d. file_trans (slots_few s m c) (o.others m c d) (data_others o.sound h w m c d);
        kind_same = kind_is slots.rec ∙ o.kind_same;
        links_same = links_is slots.rec ∙ o.links_same;
        places = λ p x y.
            let y' : InUse mid n p = in_use_is mid out n (count_is slots.rec) p y in
            held_is slots (slots_few o.sound n h) p y' ∙ o.places p x y';
      }
