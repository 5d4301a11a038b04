-- "Bytes past its last block are never read or changed" (RULES, "Blocks and numbers"): what it is not to change them, and what two images have in common
-- that differ in them alone.
use Rattle.std.specs.Prelude.{ℕ, ◌*◌, ◌≤◌, ◌<◌, ◌≡◌, List, length}
use Rattle.words.specs.Words.{byte}
use Rattle.card_layout.specs.Sizes.{block_size}

-- not changed: y is as long as x, and has its bytes from block nb on
pub record Tailed (nb : ℕ) (x y : List ℕ) : Type 0 where
  pub length_same : length y ≡ length x
  pub past : (j : ℕ) → block_size * nb ≤ j → byte y j ≡ byte x j

-- not read: x and y have nb blocks at least, and the same bytes in them; their lengths may differ
pub record Twin (nb : ℕ) (x y : List ℕ) : Type 0 where
  pub room : block_size * nb ≤ length x
  pub room_too : block_size * nb ≤ length y
  pub below : (j : ℕ) → j < block_size * nb → byte y j ≡ byte x j
