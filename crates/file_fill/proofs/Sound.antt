-- Each inode of a sound card meets what reading and filling its bytes asks for. Assumes nothing.
use Prim.Native.Nat.{ℕ, ◌<◌, ◌*◌}
use mathlib.Core.Path.{◌≡◌}
use mathlib.Core.List.{List}
use native.Mathlib.Omega.{arith}
use Rattle.words.specs.Words.{Bytes}
use Rattle.words.specs.Sums.{cnt}
use Rattle.words.proofs.Numbers.{num_lt}
use Rattle.card_layout.specs.Super.{blocks}
use Rattle.card_rules.specs.Whole.{Sound}
use Rattle.card_rules.specs.Places.{at_inode, at_indirect, at_double, at_second, at_data}
use Rattle.card_rules.proofs.Owners.{held_below, places_differ}
use Rattle.file_blocks.proofs.Walk.{Readable}
use Rattle.file_fill.proofs.FillBytes.{Separate}

module _ (img l : List ℕ) (s : Sound img l) (bytes : Bytes img) (n : ℕ) (listed : 0 < cnt n l) where
  pub sound_readable : Readable img (blocks img) n
  sound_readable =
      record {
        few = omega (arith, (s.inode n listed).shape.counted, num_lt 4 img (4096 * n) bytes);
        one = λ u. held_below img l s n at_indirect listed u;
        two = λ u. held_below img l s n at_double listed u;
        levels = λ j u. held_below img l s n (at_second j) listed u;
        data_blocks = λ i u. held_below img l s n (at_data i) listed u;
      }

  pub sound_separate : Separate img n
  sound_separate =
      record {
        off_own = λ i u e. inode i (places_differ img l s n n (at_data i) at_inode listed listed u tt e).1;
        off_one = λ i u v e. one i (places_differ img l s n n (at_data i) at_indirect listed listed u v e).1;
        off_two = λ i u v e. two i (places_differ img l s n n (at_data i) at_double listed listed u v e).1;
        off_levels = λ i j u v e. level i j (places_differ img l s n n (at_data i) (at_second j) listed listed u v e).1;
        off_others = λ i k u v d e. d (same i k (places_differ img l s n n (at_data i) (at_data k) listed listed u v e).1);
      }
    where
      inode : (i : ℕ) → at_data i ≡ at_inode → ⊥
      inode i e = let z : ◌≡◌ {A = ℕ} 0 1 = cc in omega arith

      one : (i : ℕ) → at_data i ≡ at_indirect → ⊥
      one i e = let z : ◌≡◌ {A = ℕ} 0 1 = cc in omega arith

      two : (i : ℕ) → at_data i ≡ at_double → ⊥
      two i e = let z : ◌≡◌ {A = ℕ} 0 1 = cc in omega arith

      level : (i j : ℕ) → at_data i ≡ at_second j → ⊥
      level i j e = let z : ◌≡◌ {A = ℕ} 0 1 = cc in omega arith

      same : (i k : ℕ) → at_data i ≡ at_data k → i ≡ k
      same i k e = cc
