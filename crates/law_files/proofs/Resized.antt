-- A length change on a sound card, whole: which blocks, which bytes. `img` is the card before, `out` the card after. Assumes nothing.
use mathlib.Core.Path.{◌≡◌, refl, sym, ap, ◌∙◌, subst}
use mathlib.Core.Bool.{true}
use mathlib.Core.List.{List, []}
use Prim.Native.Nat.{ℕ, ◌+◌, ◌-◌, ◌*◌, ◌/◌, ◌%◌, ◌≤◌, ◌<◌}
use native.Mathlib.Omega.{arith}
use lib.ListN.{length}
use Rattle.words.specs.Words.{byte, Bytes}
use Rattle.words.specs.Sums.{cnt}
use Rattle.card_layout.specs.Sizes.{blocks_for}
use Rattle.card_layout.specs.Super.{blocks}
use Rattle.card_layout.specs.Inode.{size, kind, links, count}
use Rattle.card_map.proofs.Map.{free_is}
use Rattle.card_rules.specs.View.{file_byte}
use Rattle.card_rules.specs.Whole.{Sound}
use Rattle.card_rules.specs.Places.{Place, at_inode, at_indirect, at_double, at_second, at_data, held, InUse}
use Rattle.card_rules.proofs.Views.{file_byte_at}
use Rattle.card_rules.specs.Same.{SameSlots}
use Rattle.card_rules.proofs.Frames.{size_is, kind_is, links_is, count_is, indirect_is, double_is, inode_is, second_is, data_is, owns_is, inode_room}
use Rattle.card_rules.proofs.Kept.{Steady, magic_is, blocks_is, unused_is, maps_is, bit_of_lem, slots_few}
use Rattle.card_rules.proofs.Isolation.{Within, Balanced, WithinData, within_trans, sound_one, data_within, data_slots, data_super, data_map}
use Rattle.file_blocks.proofs.Lengths.{length-filled}
use Rattle.file_requests.specs.Resizing.{cleaned}
use Rattle.law_files.proofs.Change.{Changed}
use Rattle.law_files.proofs.Filling.{bytes_filled, filled_within, filled-comes, filled_stays}

-- what a change of inode n's length to len leaves of a card, with its new bytes up to z zero
pub record Resized (img out : List ℕ) (n len z : ℕ) : Type 0 where
  pub within : Within img out n
  pub balanced : Balanced img out n
  pub bytes : Bytes out
  pub size_is : size out n ≡ len
  pub kind_is : kind out n ≡ kind img n
  pub links_is : links out n ≡ links img n
  -- the places that it had and has hold the same blocks
  pub places : (p : Place) → InUse img n p → InUse out n p → held out n p ≡ held img n p
  -- bytes below both lengths stay
  pub kept : (o : ℕ) → o < size img n → o < len → file_byte out n o ≡ file_byte img n o
  -- "every byte from the old size to the new reads zero after any growth"
  pub zeros : (o : ℕ) → size img n ≤ o → o < z → file_byte out n o ≡ 0

-- ---- places by slots

pub held_is : {img out : List ℕ} {n : ℕ} → SameSlots img out n → count img n < 1049612 → (p : Place) → InUse img n p → held out n p ≡ held img n p
held_is s f at_inode u = refl
held_is s f at_indirect u = indirect_is s.rec
held_is s f at_double u = double_is s.rec
held_is s f (at_second j) u = second_is s f j u
held_is s f (at_data i) u = data_is s i u

pub in_use_is : (img out : List ℕ) (n : ℕ) → count out n ≡ count img n → (p : Place) → InUse out n p → InUse img n p
in_use_is img out n e at_inode u = u
in_use_is img out n e at_indirect u = rw e at u
in_use_is img out n e at_double u = rw e at u
in_use_is img out n e (at_second j) u = rw e at u
in_use_is img out n e (at_data i) u = rw e at u

-- ---- a change of the length, then one of the data

module _ {img mid out l : List ℕ} {n : ℕ} (s : Sound mid l) (h : 0 < cnt n l) (w : WithinData mid out n) (len : length out ≡ length mid) where
  steady_then : Steady img mid → Sound img l → Steady img out
  steady_then y z =
      let u = data_super s h w in
      let m = data_map s h w in
      record {
        length_same = len ∙ y.length_same;
        magic_same = magic_is u ∙ y.magic_same;
        blocks_same = blocks_is u ∙ y.blocks_same;
        maps_same = maps_is u ∙ y.maps_same;
        past = λ b a q. m.bits b (rw y.maps_same q) ∙ y.past b a q;
        free =
            free_is mid out (blocks img) (λ b q. m.bits b (rw y.maps_same (bit_of_lem img z.sized b q))) ∙ y.free ∙ sym (unused_is u);
      }

  pub balanced_then : Balanced img mid n → Sound img l → Balanced img out n
  balanced_then x z =
      let e = owns_is (data_slots s h w) (slots_few s n h) in
      record {
        steady = steady_then x.steady z;
        balance = λ b q.
            let m = (data_map s h w).bits b (rw x.steady.maps_same (bit_of_lem img z.sized b q)) in
            omega (arith, e b, m, x.balance b q);
        below = λ b a. e b ∙ x.below b a;
        inode = inode_is (data_slots s h w).rec x.inode;
      }

  pub within_then : Balanced img mid n → Within img mid n → Within img out n
  within_then x v =
      within_trans x.steady.blocks_same x.steady.maps_same (λ b q. omega (arith, x.balance b q)) v (data_within s h w)

-- ---- the bytes that stay

pub changed_byte : {img out : List ℕ} {n len : ℕ} → Changed img out n len → (o : ℕ) → o < 4096 * count img n → o < 4096 * count out n
    → file_byte out n o ≡ file_byte img n o
changed_byte {img} {out} {n} {len} c o a b =
    let i : o / 4096 < count img n = omega arith in
    let j : o / 4096 < count out n = omega arith in
    file_byte_at out n o
    ∙ ap (λ (x : ℕ). byte out (4096 * x + o % 4096)) (c.places (at_data (o / 4096)) i j)
    ∙ (c.data_same (o / 4096) i j).bytes (o % 4096) (omega arith)
    ∙ sym (file_byte_at img n o)

-- nothing is new up to z: nothing is zeroed
pub resized_still : {img out l : List ℕ} {n len z : ℕ} → Sound img l → 0 < cnt n l → z ≤ size img n → Changed img out n len → Resized img out n len z
resized_still {img} {out} {l} {n} {len} {z} s h d c =
    let e : count out n ≡ blocks_for len = c.balanced.inode.shape.counted ∙ ap blocks_for c.size_is in
    record {
      within = c.within;
      balanced = c.balanced;
      bytes = c.bytes;
      size_is = c.size_is;
      kind_is = c.kind_is;
      links_is = c.links_is;
      places = c.places;
      kept = λ o a b. changed_byte c o (omega (arith, inode_room (s.inode n h))) (omega (arith, e));
      zeros = λ o a b. absurd (omega arith);
    }

-- the bytes from the old length up to z are zeroed
pub resized_new : {img mid l : List ℕ} {n len z : ℕ} → Sound img l → 0 < cnt n l → size img n < z → z ≤ len → Changed img mid n len
    → Resized img (cleaned (blocks img) n (size img n) z mid) n len z
resized_new {img} {mid} {l} {n} {len} {z} s h d below c =
    rw (← c.balanced.steady.blocks_same)
    (record {
      within = within_then m h w same c.balanced c.within;
      balanced = balanced_then m h w same c.balanced s;
      bytes = bytes_filled true [] (blocks mid) n (size img n) z mid (record { below = λ k. omega arith }) c.bytes;
      size_is = size_is slots.rec ∙ c.size_is;
      kind_is = kind_is slots.rec ∙ c.kind_is;
      links_is = links_is slots.rec ∙ c.links_is;
      places = λ p u v.
          let v' : InUse mid n p = in_use_is mid (cleaned (blocks mid) n (size img n) z mid) n (count_is slots.rec) p v in
          held_is slots (slots_few m n h) p v' ∙ c.places p u v';
      kept = λ o a b.
          filled_stays m c.bytes n h true [] (size img n) z ordered inside o (omega (arith, counted)) (λ x y. omega arith)
          ∙ changed_byte c o (omega (arith, room)) (omega (arith, counted));
      zeros = λ o a b.
          let x : size img n + (o - size img n) ≡ o = omega arith in
          subst (λ (y : ℕ). file_byte (cleaned (blocks mid) n (size img n) z mid) n y ≡ 0) x
          (filled-comes m c.bytes n h true [] (size img n) z ordered inside (o - size img n) (omega arith));
    })
  where
    m : Sound mid l
    m = sound_one s h c.within c.balanced

    counted : count mid n ≡ blocks_for len
    counted = c.balanced.inode.shape.counted ∙ ap blocks_for c.size_is

    room : size img n ≤ 4096 * count img n
    room = inode_room (s.inode n h)

    ordered : size img n ≤ z
    ordered = omega arith

    inside : z ≤ 4096 * count mid n
    inside = omega (arith, counted)

    w : WithinData mid (cleaned (blocks mid) n (size img n) z mid) n
    w = filled_within m c.bytes n h true [] (size img n) z ordered inside

    same : length (cleaned (blocks mid) n (size img n) z mid) ≡ length mid
    same = length-filled true [] (blocks mid) (size img n) z n mid

    slots : SameSlots mid (cleaned (blocks mid) n (size img n) z mid) n
    slots = data_slots m h w
