-- A day (RULES, demand 3): "any run of reads, writes and length changes on files and symbolic links, refused ones included, in which no length falls below its
-- starting one".
use Rattle.std.specs.Prelude.{ℕ, ◌≤◌, List}
use Rattle.card_layout.specs.Inode.{size}
use Rattle.card_rules.specs.Whole.{Reached}
use Rattle.law_calls.specs.Made.{Asked, file, creating, linking, unlinking, moving, finding, listing, describing, checking}
use Rattle.law_calls.specs.Runs.{Call, Run}

-- a read, a write or a length change
abbrev pub OnFile : Asked → Type 0
OnFile (file q) = Unit
OnFile (creating p x k) = ⊥
OnFile (linking p x c) = ⊥
OnFile (unlinking p x) = ⊥
OnFile (moving p old t new) = ⊥
OnFile (finding p x) = ⊥
OnFile (listing p k) = ⊥
OnFile (describing n) = ⊥
OnFile checking = ⊥

pub record OfDay (start img mid : List ℕ) (c : Call) : Type 0 where
  pub on_file : OnFile c.asked
  pub long : (n : ℕ) → Reached start n → size start n ≤ size mid n

-- from card `start` to card `out`
abbrev pub Day : List ℕ → List ℕ → List Call → Type 0
Day start out cs = Run (OfDay start) start out cs
