-- What is the same on two cards, the card before a call (img) and the card after (out).
use Rattle.std.specs.Prelude.{ℕ, ◌+◌, ◌*◌, ◌≤◌, ◌<◌, ◌≡◌, List}
use Rattle.words.specs.Words.{byte}
use Rattle.card_layout.specs.Inode.{count, indirect, double}
use Rattle.card_layout.specs.Slots.{seconds}
use Rattle.card_rules.specs.View.{second, data_at}

-- block b
pub record SameBlock (img out : List ℕ) (b : ℕ) : Type 0 where
  pub bytes : (k : ℕ) → k < 4096 → byte out (4096 * b + k) ≡ byte img (4096 * b + k)

-- the record of inode n
pub record SameRecord (img out : List ℕ) (n : ℕ) : Type 0 where
  pub bytes : (k : ℕ) → k < 80 → byte out (4096 * n + k) ≡ byte img (4096 * n + k)

-- its record and its pointer blocks: where its blocks stand
pub record SameSlots (img out : List ℕ) (n : ℕ) : Type 0 where
  pub rec : SameRecord img out n
  pub indirect_same : 12 ≤ count img n → SameBlock img out (indirect img n)
  pub double_same : 1036 ≤ count img n → SameBlock img out (double img n)
  pub second_same : (j : ℕ) → j < seconds (count img n) → SameBlock img out (second img n j)

-- those and its data: all that it has
pub record SameFile (img out : List ℕ) (n : ℕ) : Type 0 where
  pub slots : SameSlots img out n
  pub data_same : (i : ℕ) → i < count img n → SameBlock img out (data_at img n i)
