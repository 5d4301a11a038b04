-- Edits of one inode of a sound card, one after another: what lies within its blocks and free ones, what it takes and gives up. `img` is the card
-- before, `out` the card after. Assumes nothing.
use mathlib.Core.Path.{◌≡◌, ◌∙◌}
use mathlib.Core.List.{List}
use Prim.Native.Nat.{ℕ, ◌<◌}
use native.Mathlib.Omega.{arith}
use lib.ListN.{length}
use Rattle.std.proofs.lemmas.Grind.{common_steps}
use Rattle.words.specs.Words.{Bytes}
use Rattle.words.specs.Sums.{cnt}
use Rattle.card_layout.specs.Inode.{kind}
use Rattle.card_rules.specs.Whole.{Sound}
use Rattle.card_rules.proofs.Owners.{owns-uses}
use Rattle.card_rules.proofs.Frames.{kind_is, inode_is, owns_is}
use Rattle.card_rules.proofs.Kept.{Steady, bit_of_lem, slots_few, steady_same}
use Rattle.card_rules.proofs.Isolation.{Within, Balanced, WithinData, within_trans, sound_one, data_within, data_slots, data_super, data_map, data_listed}

pub steady_trans : {img mid out : List ℕ} → Steady img mid → Steady mid out → Steady img out
steady_trans x y = grind (arith, common_steps)

pub balanced_trans : {img mid out : List ℕ} {n : ℕ} → Balanced img mid n → Balanced mid out n → Balanced img out n
balanced_trans x y = grind (arith, common_steps)

-- an edit of inode n that keeps its kind
pub record Edited (img out : List ℕ) (n : ℕ) : Type 0 where
  pub within : Within img out n
  pub balanced : Balanced img out n
  pub bytes : Bytes out
  pub kind_is : kind out n ≡ kind img n

pub edited_trans : {img mid out : List ℕ} {n : ℕ} → Edited img mid n → Edited mid out n → Edited img out n
edited_trans {img} {mid} {out} {n} x y =
    record {
      within =
          within_trans x.balanced.steady.blocks_same x.balanced.steady.maps_same
          (λ b q. omega (arith, x.balanced.balance b q)) x.within y.within;
      balanced = balanced_trans x.balanced y.balanced;
      bytes = y.bytes;
      kind_is = y.kind_is ∙ x.kind_is;
    }

module _ {img out l : List ℕ} {n : ℕ} (s : Sound img l) (h : 0 < cnt n l) where
  pub edited_sound : Edited img out n → Sound out l
  edited_sound x = sound_one s h x.within x.balanced

  -- a write in its data
  pub data_edited : WithinData img out n → length out ≡ length img → Bytes out → Edited img out n
  data_edited w len b =
      let e = owns_is (data_slots s h w) (slots_few s n h) in
      record {
        within = data_within s h w;
        balanced =
            record {
              steady = steady_same s len (data_super s h w) (data_map s h w) (data_listed s h w);
              balance = λ x q. omega (arith, e x, (data_map s h w).bits x (bit_of_lem img s.sized x q));
              below = λ x a. omega (arith, e x, owns-uses img l s n x h, s.below x a);
              inode = inode_is (data_slots s h w).rec (s.inode n h);
            };
        bytes = b;
        kind_is = kind_is (data_slots s h w).rec;
      }
