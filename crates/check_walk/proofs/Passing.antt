-- Bits of the map by groups of 64, one group after the other: what is clear so far, and one group more (`group_clear` of card_map). Assumes nothing.
use mathlib.Core.Path.{◌≡◌}
use mathlib.Core.List.{List}
use Prim.Native.Nat.{ℕ, ◌+◌, ◌*◌, ◌≤◌, ◌<◌}
use native.Mathlib.Omega.{arith}
use native.Mathlib.Decide.{dec_lt}
use Rattle.words.specs.Words.{num}
use Rattle.card_map.specs.Bits.{map_bit}
use Rattle.card_map.proofs.Groups.{group_clear}

-- groups from i on: one more
pub clear_more : (img : List ℕ) (i j : ℕ) → ((b : ℕ) → 64 * i ≤ b → b < 64 * j → map_bit img b ≡ 0) → num 8 img (8192 + 8 * j) ≡ 0
    → (b : ℕ) → 64 * i ≤ b → b < 64 * (j + 1) → map_bit img b ≡ 0
clear_more img i j h e b l m = go (dec_lt b (64 * j))
  where
    go : Dec (b < 64 * j) → map_bit img b ≡ 0
    go (yes p) = h b l p
    go (no p) = group_clear img (8 * j) e b (omega arith) (omega arith)
