-- The three ranges of a file's blocks (RULES, "The card"): "0 to 11 direct, 12 to 1,035 indirect, 1,036 and up through two levels of 1,024 slots".
-- Said once, for every walk over the slots of file blocks i up to e, whatever it makes of its state x: `run at i e` is the walk over those of a range, which
-- stand one after the other from byte `at` on. A pointer block whose number is no block of the card, of nb blocks, is passed over.
use Rattle.std.specs.Prelude.{ℕ, ◌+◌, ◌-◌, ◌*◌, ◌/◌, min, max, List, ltb}
use Rattle.words.specs.Words.{pick, word}
use Rattle.words.specs.Runs.{turns}
use Rattle.card_layout.specs.Sizes.{block_size}

-- x, but no less than lo and no more than hi
abbrev pub within : ℕ → ℕ → ℕ → ℕ
within lo hi x = max lo (min hi x)

-- of blocks i up to e those that second-level block q lists: from, up to
abbrev pub part_from : ℕ → ℕ → ℕ
part_from i q = max i (1036 + 1024 * q)

abbrev pub part_to : ℕ → ℕ → ℕ
part_to e q = min e (1036 + 1024 * q + 1024)

-- the second-level blocks that list them: from, up to
abbrev pub parts_from : ℕ → ℕ
parts_from i = (i - 1036) / 1024

abbrev pub parts_to : ℕ → ℕ
parts_to e = (e - 1036 + 1023) / 1024

-- the direct slots, in the record of inode n
abbrev pub in_record : {A : Type 0} → (ℕ → ℕ → ℕ → A → A) → ℕ → ℕ → ℕ → A → A
in_record run n i e x = run (block_size * n + 12 + 4 * min i 12) (min i 12) (min e 12) x

-- the slots in the indirect block p
abbrev pub in_indirect : {A : Type 0} → (ℕ → ℕ → ℕ → A → A) → ℕ → ℕ → ℕ → ℕ → A → A
in_indirect run nb p i e x =
    pick (ltb p nb) (run (block_size * p + 4 * (within 12 1036 i - 12)) (within 12 1036 i) (within 12 1036 e) x) x

-- the slots in second-level block q, which is block s
abbrev pub in_second : {A : Type 0} → (ℕ → ℕ → ℕ → A → A) → ℕ → ℕ → ℕ → ℕ → ℕ → A → A
in_second run nb s q i e x =
    pick (ltb s nb) (run (block_size * s + 4 * (part_from i q - (1036 + 1024 * q))) (part_from i q) (part_to e q) x) x

-- those below the double indirect block d: `level s q` is the walk over second-level block q, whose number s the card has that belongs to the state
abbrev pub below_double : {A : Type 0} → (A → List ℕ) → (ℕ → ℕ → A → A) → ℕ → ℕ → ℕ → A → A
below_double card level d i e x = turns (λ q y. level (word (card y) (block_size * d + 4 * q)) q y) (parts_from i) (parts_to e - parts_from i) x
