-- The slots of the cache (request 11): three words each. The first is 0 unused, 1 valid, 2 dirty; the second the block; the third the place in
-- the order of use, less is more recent. Slot i has the 4,096 bytes of data from 4096 * i on.
use Rattle.std.specs.Prelude.{ℕ, ◌+◌, ◌*◌, ◌/◌, ◌%◌, ◌≤◌, ◌<◌, ◌≡◌, ◌≢◌, List, length, get_or}

-- the number of slots in a list of words
abbrev pub slots_in : List ℕ → ℕ
slots_in w = length w / 3

abbrev pub status_at : List ℕ → ℕ → ℕ
status_at w i = get_or w (3 * i) 0

abbrev pub block_at : List ℕ → ℕ → ℕ
block_at w i = get_or w (3 * i + 1) 0

abbrev pub place_at : List ℕ → ℕ → ℕ
place_at w i = get_or w (3 * i + 2) 0

-- block b lies wholly in the device v
abbrev pub Inside : List ℕ → ℕ → Type 0
Inside v b = 4096 * b + 4096 ≤ length v

-- slot i: a status, and where it is used a block of the device
pub record Fits (w v : List ℕ) (i : ℕ) : Type 0 where
  pub status : status_at w i ≤ 2
  pub inside : status_at w i ≢ 0 → Inside v (block_at w i)

-- slots i and j: two places, and where both are used two blocks
pub record Differ (w : List ℕ) (i j : ℕ) : Type 0 where
  pub places : place_at w i ≢ place_at w j
  pub blocks : status_at w i ≢ 0 → status_at w j ≢ 0 → block_at w i ≢ block_at w j

-- 2 to 64 slots of three words, and 4,096 bytes of data for each
pub record Sizes (w d : List ℕ) : Type 0 where
  pub whole : length w ≡ 3 * slots_in w
  pub two : 2 ≤ slots_in w
  pub most : slots_in w ≤ 64
  pub long : length d ≡ 4096 * slots_in w

pub record AllFit (w v : List ℕ) : Type 0 where
  pub each : (i : ℕ) → i < slots_in w → Fits w v i

-- slot j and each before it
pub record Alone (w : List ℕ) (j : ℕ) : Type 0 where
  pub before : (i : ℕ) → i < j → Differ w i j

pub record AllApart (w : List ℕ) : Type 0 where
  pub each : (j : ℕ) → j < slots_in w → Alone w j

-- what no call refuses: the sizes, each slot fit for the device, and no two slots with one place or one block
pub record Sound (w d v : List ℕ) : Type 0 where
  pub sizes : Sizes w d
  pub fits : AllFit w v
  pub apart : AllApart w

-- what a read or a write of block b asks besides: a block of the device and a buffer of 4,096 bytes
pub record Fit (w d v : List ℕ) (b : ℕ) (buf : List ℕ) : Type 0 where
  pub sound : Sound w d v
  pub inside : Inside v b
  pub one : length buf ≡ 4096

-- two tables that have a mark for the place and the block of each slot before j: where an entry is 0 no slot before j has such a place or block
pub record Marked (p b w : List ℕ) (j : ℕ) : Type 0 where
  pub place : (k : ℕ) → k < j → get_or p (place_at w k % 256) 0 ≢ 0
  pub block : (k : ℕ) → k < j → get_or b (block_at w k % 1024) 0 ≢ 0
