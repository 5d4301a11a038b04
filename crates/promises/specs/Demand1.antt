-- Demand 1: "Any bytes as the image, any numbers and names as the request get an answer. A refusal gives the one number of the rules, for that cause and no
-- other, and changes no byte of image or data buffer; scratch is left as the rules say." The statements, each proved in proofs/Demand1. That there is an
-- answer is in the calls: each is a function that returns, whose statement (`Read`, `Written`, ..) holds of its result whatever it is given.
use Rattle.std.specs.Prelude.{ℕ, ◌*◌, ◌≤◌, ◌<◌, ◌≡◌, ◌≢◌, List, length}
use Rattle.card_layout.specs.Super.{blocks}
use Rattle.card_rules.specs.Whole.{Sized}
use Rattle.check_walk.specs.Opening.{blocks_of, unused_of, Opening, cleared, Opened}
use Rattle.dir_look.specs.Look.{no_entry}
use Rattle.call_said.specs.Said.{Said, said_value}
use Rattle.call_files.specs.FileCalls.{Read, Written, Resized}
use Rattle.call_dirs.specs.DirCalls.{Created, Linked, Unlinked, Moved, Formatted}
use Rattle.call_looks.specs.LookCalls.{Found, Listed, Described}
use Rattle.law_calls.specs.Made.{Asked, Made, scratch_of, scratch_after}
use Rattle.law_calls.specs.Tests.{First, read_tests, write_tests, resize_tests, create_tests, link_tests}
use Rattle.law_calls.specs.Tests.{unlink_tests, move_tests, find_tests, entry_tests, look_tests, format_tests}
use Rattle.refusals.specs.Refusals.{answer_no}

-- "the one number of the rules, for that cause and no other": each call says the number of the first of its tests whose cause holds, and 0 where none does
pub record Causes : Type 0 where
  pub read : (img s s' buf buf' : List ℕ) (n off : ℕ) (r : Said) → Read img s s' buf buf' n off r → First (read_tests img s n) (answer_no r)
  pub write : (img img' s s' src : List ℕ) (n off : ℕ) (r : Said) → Written img img' s s' src n off r → First (write_tests img s n off src) (answer_no r)
  pub resize : (img img' s s' : List ℕ) (n len : ℕ) (r : Said) → Resized img img' s s' n len r → First (resize_tests img s n len) (answer_no r)
  pub create : (img img' s s' : List ℕ) (p : ℕ) (x : List ℕ) (k : ℕ) (r : Said) → Created img img' s s' p x k r → First (create_tests img s p x k) (answer_no r)
  pub link : (img img' s s' : List ℕ) (p : ℕ) (x : List ℕ) (c : ℕ) (r : Said) → Linked img img' s s' p x c r → First (link_tests img s p x c) (answer_no r)
  pub unlink : (img img' s s' : List ℕ) (p : ℕ) (x : List ℕ) (r : Said) → Unlinked img img' s s' p x r → First (unlink_tests img s p x) (answer_no r)
  pub move : (img img' s s' : List ℕ) (p : ℕ) (old : List ℕ) (t : ℕ) (new : List ℕ) (r : Said) → Moved img img' s s' p old t new r
      → First (move_tests img s p old t new) (answer_no r)
  pub find : (img s s' : List ℕ) (p : ℕ) (x : List ℕ) (r : Said) → Found img s s' p x r → First (find_tests img s p x) (answer_no r)
  pub entry : (img s s' : List ℕ) (p k : ℕ) (r : Said) (e : List ℕ) → Listed img s s' p k r e → First (entry_tests img s p k) (answer_no r)
  pub metadata : (img s s' : List ℕ) (n : ℕ) (r : Said) (kind' size' blocks' links' : ℕ) → Described img s s' n r kind' size' blocks' links'
      → First (look_tests img s n) (answer_no r)
  pub check : (img s s' : List ℕ) (o : Opened) → Opening img s s' 1 1 o → First (look_tests img s 1) (answer_no o)
  pub format : (img img' : List ℕ) (space : ℕ) (r : Said) → Formatted img img' space r → First (format_tests img space) (answer_no r)

-- "changes no byte of image or data buffer", and "A refusal's other results are 0"
pub record Untouched : Type 0 where
  pub image : (img img' : List ℕ) (q : Asked) (r : Said) → Made img img' q r → answer_no r ≢ 0 → img' ≡ img
  pub format : (img img' : List ℕ) (space : ℕ) (r : Said) → Formatted img img' space r → answer_no r ≢ 0 → img' ≡ img
  pub buffer : (img s s' buf buf' : List ℕ) (n off : ℕ) (r : Said) → Read img s s' buf buf' n off r → answer_no r ≢ 0 → buf' ≡ buf
  pub value : (r : Said) → answer_no r ≢ 0 → said_value r ≡ 0
  pub entry : (img s s' : List ℕ) (p k : ℕ) (r : Said) (e : List ℕ) → Listed img s s' p k r e → answer_no r ≢ 0 → e ≡ no_entry
  pub metadata : (img s s' : List ℕ) (n : ℕ) (r : Said) (kind' size' blocks' links' : ℕ) → Described img s s' n r kind' size' blocks' links' → answer_no r ≢ 0
      → (kind' ≡ 0) × (size' ≡ 0) × (blocks' ≡ 0) × (links' ≡ 0)
  pub check : (o : Opened) → answer_no o ≢ 0 → (blocks_of o ≡ 0) × (unused_of o ≡ 0)

-- "Scratch is 32-bit words: untouched if refused up to the scratch test, otherwise its first 4 a block are zero afterwards", of every call, done or refused;
-- format is given none
abbrev pub Scratch : Type 0
Scratch = (img img' : List ℕ) (q : Asked) (r : Said) (m : Made img img' q r)
    → (Sized img → 4 * blocks img ≤ length (scratch_of m) → scratch_after m ≡ cleared img (scratch_of m))
    × ((Sized img → length (scratch_of m) < 4 * blocks img) → scratch_after m ≡ scratch_of m)

-- "From its statement alone it follows that a second program meeting it agrees": r, x and s are what the two say, leave of the image or buffer, and of the
-- scratch
pub record OneAnswer : Type 0 where
  pub read : (img s s₁ s₂ buf x₁ x₂ : List ℕ) (n off : ℕ) (r₁ r₂ : Said) → Read img s s₁ buf x₁ n off r₁ → Read img s s₂ buf x₂ n off r₂
      → (r₁ ≡ r₂) × (x₁ ≡ x₂) × (s₁ ≡ s₂)
  pub write : (img s s₁ s₂ src x₁ x₂ : List ℕ) (n off : ℕ) (r₁ r₂ : Said) → Written img x₁ s s₁ src n off r₁ → Written img x₂ s s₂ src n off r₂
      → (r₁ ≡ r₂) × (x₁ ≡ x₂) × (s₁ ≡ s₂)
  pub resize : (img s s₁ s₂ x₁ x₂ : List ℕ) (n len : ℕ) (r₁ r₂ : Said) → Resized img x₁ s s₁ n len r₁ → Resized img x₂ s s₂ n len r₂
      → (r₁ ≡ r₂) × (x₁ ≡ x₂) × (s₁ ≡ s₂)
  pub create : (img s s₁ s₂ x₁ x₂ : List ℕ) (p : ℕ) (x : List ℕ) (k : ℕ) (r₁ r₂ : Said) → Created img x₁ s s₁ p x k r₁ → Created img x₂ s s₂ p x k r₂
      → (r₁ ≡ r₂) × (x₁ ≡ x₂) × (s₁ ≡ s₂)
  pub link : (img s s₁ s₂ x₁ x₂ : List ℕ) (p : ℕ) (x : List ℕ) (c : ℕ) (r₁ r₂ : Said) → Linked img x₁ s s₁ p x c r₁ → Linked img x₂ s s₂ p x c r₂
      → (r₁ ≡ r₂) × (x₁ ≡ x₂) × (s₁ ≡ s₂)
  pub unlink : (img s s₁ s₂ x₁ x₂ : List ℕ) (p : ℕ) (x : List ℕ) (r₁ r₂ : Said) → Unlinked img x₁ s s₁ p x r₁ → Unlinked img x₂ s s₂ p x r₂
      → (r₁ ≡ r₂) × (x₁ ≡ x₂) × (s₁ ≡ s₂)
  pub move : (img s s₁ s₂ x₁ x₂ : List ℕ) (p : ℕ) (old : List ℕ) (t : ℕ) (new : List ℕ) (r₁ r₂ : Said) → Moved img x₁ s s₁ p old t new r₁
      → Moved img x₂ s s₂ p old t new r₂ → (r₁ ≡ r₂) × (x₁ ≡ x₂) × (s₁ ≡ s₂)
  pub find : (img s s₁ s₂ : List ℕ) (p : ℕ) (x : List ℕ) (r₁ r₂ : Said) → Found img s s₁ p x r₁ → Found img s s₂ p x r₂ → (r₁ ≡ r₂) × (s₁ ≡ s₂)
  pub entry : (img s s₁ s₂ : List ℕ) (p k : ℕ) (r₁ r₂ : Said) (e₁ e₂ : List ℕ) → Listed img s s₁ p k r₁ e₁ → Listed img s s₂ p k r₂ e₂
      → (r₁ ≡ r₂) × (e₁ ≡ e₂) × (s₁ ≡ s₂)
  pub metadata : (img s s₁ s₂ : List ℕ) (n : ℕ) (r₁ r₂ : Said) (k₁ z₁ b₁ l₁ k₂ z₂ b₂ l₂ : ℕ) → Described img s s₁ n r₁ k₁ z₁ b₁ l₁
      → Described img s s₂ n r₂ k₂ z₂ b₂ l₂ → (r₁ ≡ r₂) × (k₁ ≡ k₂) × (z₁ ≡ z₂) × (b₁ ≡ b₂) × (l₁ ≡ l₂) × (s₁ ≡ s₂)
  pub check : (img s s₁ s₂ : List ℕ) (o₁ o₂ : Opened) → Opening img s s₁ 1 1 o₁ → Opening img s s₂ 1 1 o₂ → (o₁ ≡ o₂) × (s₁ ≡ s₂)
  pub format : (img x₁ x₂ : List ℕ) (space : ℕ) (r₁ r₂ : Said) → Formatted img x₁ space r₁ → Formatted img x₂ space r₂ → (r₁ ≡ r₂) × (x₁ ≡ x₂)
