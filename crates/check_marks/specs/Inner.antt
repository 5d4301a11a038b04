-- Inner: marking the blocks that an inode uses. Word b of the marks u is how often block b was found in use so far; there are as many words as blocks.
use Rattle.std.specs.Prelude.{ℕ, ◌+◌, ◌-◌, ◌*◌, ◌≤◌, ◌<◌, min, ◌≡◌, Bool, List, ltb, length, get_or, set}
use Rattle.words.specs.Words.{pick, word}
use Rattle.words.specs.Inner.{When}
use Rattle.words.specs.Sums.{δ, sum_to}
use Rattle.card_layout.specs.Sizes.{most, block_size}
use Rattle.card_layout.specs.Inode.{Shape, count, indirect, double}
use Rattle.card_layout.specs.Slots.{seconds}
use Rattle.card_layout.specs.declared.inode.Head.{Head}

-- one mark a block, and the card has all those blocks
pub record Room (img u : List ℕ) : Type 0 where
  pub few : length u ≤ most
  pub card : block_size * length u ≤ length img

-- block b is marked: it is a block, and was not in use
pub record Mark (u u' : List ℕ) (b : ℕ) : Type 0 where
  pub inside : b < length u
  pub was : get_or u b 0 ≡ 0
  pub now : u' ≡ set u b 1

pub record NoMark (u u' : List ℕ) (b : ℕ) : Type 0 where
  pub same : u' ≡ u
  pub taken : b < length u → 0 < get_or u b 0

-- each block b is marked f b times more
pub record Marks (u u' : List ℕ) (f : ℕ → ℕ) : Type 0 where
  pub long : length u' ≡ length u
  pub more : (b : ℕ) → b < length u → get_or u' b 0 ≡ get_or u b 0 + f b
  pub below : (b : ℕ) → length u ≤ b → f b ≡ 0

-- a block that f uses and that is past the last, or in use already: nothing but this makes marking fail
pub record Clash (u : List ℕ) (f : ℕ → ℕ) : Type 0 where
  pub at : ℕ
  pub used : 0 < f at
  pub twice : at < length u → 2 ≤ get_or u at 0 + f at

-- what marking all that f uses answers: it is marked, or there is a clash
abbrev pub Marked : Bool → List ℕ → List ℕ → (ℕ → ℕ) → Type 0
Marked r u u' f = When r (Marks u u' f) (Clash u f)

-- ---- what is marked, part by part

-- the c words from byte `at` on
abbrev pub run_use : List ℕ → ℕ → ℕ → ℕ → ℕ
run_use img at c b = sum_to (λ j. δ (word img (at + 4 * j)) b) c

-- the blocks named in inode n's record, of c blocks: its own, its direct slots, its pointers
abbrev pub record_use : List ℕ → ℕ → ℕ → ℕ → ℕ
record_use img n c b =
    δ n b + run_use img (block_size * n + 12) (min c 12) b + run_use img (block_size * n + 60) (pick (ltb c 12) 0 1) b
    + run_use img (block_size * n + 64) (pick (ltb c 1036) 0 1) b

-- how many slots of second-level block j are in use
abbrev pub slots_at : ℕ → ℕ → ℕ
slots_at c j = min (c - (1036 + 1024 * j)) 1024

-- the blocks named in the first k blocks of the second level
abbrev pub level_use : List ℕ → ℕ → ℕ → ℕ → ℕ → ℕ
level_use img d c k b = sum_to (λ j. run_use img (block_size * word img (block_size * d + 4 * j)) (slots_at c j) b) k

-- what marking them asks: the double indirect block d, and the k blocks that it lists, are blocks
abbrev pub LevelAsks : List ℕ → List ℕ → ℕ → ℕ → Type 0
LevelAsks img u d k = Room img u × (k ≤ 1024) × (0 < k → d < length u) × ((j : ℕ) → j < k → word img (block_size * d + 4 * j) < length u)

-- the data blocks that the indirect block p names, for a file of c blocks: none below 12
abbrev pub indirect_use : List ℕ → ℕ → ℕ → ℕ → ℕ
indirect_use img p c b = run_use img (block_size * p) (min c 1036 - 12) b

-- the second level that the double indirect block d names, and the data blocks below it: none below 1,036
abbrev pub double_use : List ℕ → ℕ → ℕ → ℕ → ℕ
double_use img d c b = run_use img (block_size * d) (seconds c) b + level_use img d c (seconds c) b

-- the head is that of record n on the card, as far as blocks go
pub record HeadOf (img : List ℕ) (n : ℕ) (h : Head) : Type 0 where
  pub blocks : h.blocks ≡ count img n
  pub single : h.indirect.0 ≡ indirect img n
  pub twofold : h.db_indirect.0 ≡ double img n

-- ---- rule 4, on a record's head

abbrev pub HeadFits : Head → Type 0
HeadFits h = Shape h.size h.blocks h.indirect.0 h.db_indirect.0
