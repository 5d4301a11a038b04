-- Demand 3, return to start: "any run of reads, writes and length changes on files and symbolic links, refused ones included, in which no length falls below
-- its starting one and all end at it, leaves map, free count, directories and block lists as at the start; all along each byte below a file's starting length
-- reads as it was or as last written there in that file. A length change is refused exactly if too long or short of free blocks." The statements, each proved
-- in proofs/Demand3.
use Rattle.std.specs.Prelude.{ℕ, ◌+◌, ◌-◌, ◌*◌, ◌≤◌, ◌<◌, ◌≡◌, ◌≢◌, ◌⊎◌, List, ◌++◌, length}
use Rattle.words.specs.Words.{byte, Bytes}
use Rattle.card_layout.specs.Sizes.{blocks_for}
use Rattle.card_layout.specs.Super.{blocks, unused}
use Rattle.card_layout.specs.Inode.{size, kind, count}
use Rattle.card_layout.specs.Slots.{owned}
use Rattle.card_rules.specs.View.{file_byte}
use Rattle.card_rules.specs.Whole.{Reached, Whole}
use Rattle.file_requests.specs.Requests.{longest}
use Rattle.call_files.specs.FileCalls.{Read, Resized}
use Rattle.law_files.specs.Returned.{Returned}
use Rattle.law_calls.specs.Runs.{Call, Run, last_put}
use Rattle.law_calls.specs.Days.{OfDay, Day}
use Rattle.call_said.specs.Said.{Said}
use Rattle.refusals.specs.Refusals.{answer_no}

-- "and all end at it, leaves map, free count, directories and block lists as at the start"
abbrev pub ReturnToStart : Type 0
ReturnToStart = (start out : List ℕ) (cs : List Call) → Whole start → Bytes start → Day start out cs → ((n : ℕ) → Reached start n → size out n ≡ size start n)
    → Returned start out

-- the card `mid` after the first calls of a day: every file is there, each byte below its starting length, and what a public read gives for that
pub record ReadsAs (start mid : List ℕ) (before : List Call) : Type 0 where
  pub there : (n : ℕ) → Reached start n → Reached mid n
  pub byte_is : (n o : ℕ) → Reached start n → o < size start n → file_byte mid n o ≡ last_put before n o (file_byte start n o)
  pub read_is : (n o : ℕ) → Reached start n → o < size start n → (s s' buf buf' : List ℕ) (off : ℕ) (r : Said) → Read mid s s' buf buf' n off r
      → answer_no r ≡ 0 → off ≤ o → o < off + length buf → byte buf' (o - off) ≡ last_put before n o (file_byte start n o)

-- "all along": after every first part of a day
abbrev pub AllAlong : Type 0
AllAlong = (start out : List ℕ) (before behind : List Call) → Whole start → Bytes start → Day start out (before ++ behind)
    → (mid : List ℕ) × (Run (OfDay start) start mid before) × (Run (OfDay start) mid out behind) × (ReadsAs start mid before)

-- "A length change is refused exactly if too long or short of free blocks": N(new) is above N(old) and the unused blocks together
abbrev pub RefusedExactly : Type 0
RefusedExactly = (img img' s s' : List ℕ) (n len : ℕ) (r : Said) → Whole img → 4 * blocks img ≤ length s → Reached img n → kind img n ≢ 2
    → Resized img img' s s' n len r
    → (answer_no r ≢ 0 → (longest < len) ⊎ (owned (count img n) + unused img < owned (blocks_for len)))
    × ((longest < len) ⊎ (owned (count img n) + unused img < owned (blocks_for len)) → answer_no r ≢ 0)
