-- "Five sham versions are checked" (RULES, "What counts as proved here"). A program is what it says to any request on any image with any scratch, and the
-- image that it leaves; none that meets the statements of the calls is one of the shams. (That there is one that meets them is what the crates call_files,
-- call_dirs and call_looks are: their functions do.) The statements, each proved in proofs/Shams.
use Rattle.std.specs.Prelude.{ℕ, ◌+◌, ◌<◌, ◌^◌, ◌≡◌, ◌≢◌, List, length, get_or}
use Rattle.words.specs.Words.{Bytes}
use Rattle.card_layout.specs.Super.{blocks, unused}
use Rattle.card_layout.specs.Inode.{size}
use Rattle.card_map.specs.Bits.{free_bits}
use Rattle.card_rules.specs.Whole.{Whole}
use Rattle.law_files.specs.Requests.{reading, writing, resizing}
use Rattle.law_calls.specs.Made.{Asked, file, creating, linking, unlinking, moving, finding, listing, describing, checking, Made, scratch_of}
use Rattle.call_said.specs.Said.{Said}
use Rattle.refusals.specs.Refusals.{answer_no}

-- image, scratch, request
pub record Program : Type 0 where
  pub said : List ℕ → List ℕ → Asked → Said
  pub card : List ℕ → List ℕ → Asked → List ℕ

-- ---- what a machine can be given: image and names are slices of bytes, scratch is a slice of 32-bit words; inode numbers and kinds have 32 bits, offsets,
-- lengths and indexes 64

pub record Slice (xs : List ℕ) : Type 0 where
  pub bytes : Bytes xs
  pub short : length xs < 2 ^ 64

abbrev pub Fits : Asked → Type 0
Fits (file (reading n off k)) = (n < 2 ^ 32) × (off < 2 ^ 64) × (k < 2 ^ 64)
Fits (file (writing n off src)) = (n < 2 ^ 32) × (off < 2 ^ 64) × Slice src
Fits (file (resizing n len)) = (n < 2 ^ 32) × (len < 2 ^ 64)
Fits (creating p x k) = (p < 2 ^ 32) × Slice x × (k < 2 ^ 32)
Fits (linking p x c) = (p < 2 ^ 32) × Slice x × (c < 2 ^ 32)
Fits (unlinking p x) = (p < 2 ^ 32) × Slice x
Fits (moving p old t new) = (p < 2 ^ 32) × Slice old × (t < 2 ^ 32) × Slice new
Fits (finding p x) = (p < 2 ^ 32) × Slice x
Fits (listing p k) = (p < 2 ^ 32) × (k < 2 ^ 64)
Fits (describing n) = n < 2 ^ 32
Fits checking = Unit

pub record Machine (img s : List ℕ) (q : Asked) : Type 0 where
  pub image : Slice img
  pub scratch : length s < 2 ^ 64
  pub words : (k : ℕ) → get_or s k 0 < 2 ^ 32
  pub request : Fits q

-- ---- the programs that the statements allow

-- to whatever a machine can be given it says and leaves what the statement of the call asks for, with that scratch
abbrev pub Meets : Program → Type 0
Meets p = (img s : List ℕ) (q : Asked) → Machine img s q → (m : Made img (p.card img s q) q (p.said img s q)) × (scratch_of m ≡ s)

-- "One refusing every call"
abbrev pub NotRefusing : Type 0
NotRefusing = (p : Program) → Meets p → ((img s : List ℕ) (q : Asked) → Machine img s q → answer_no (p.said img s q) ≢ 0) → ⊥

-- "One returning a fixed answer": whatever the call, it says the number k, of a refusal or 0
abbrev pub NotFixed : Type 0
NotFixed = (p : Program) (k : ℕ) → Meets p → ((img s : List ℕ) (q : Asked) → Machine img s q → answer_no (p.said img s q) ≡ k) → ⊥

-- "or leaving the card alone and saying done"
abbrev pub NotIdle : Type 0
NotIdle = (p : Program) → Meets p → ((img s : List ℕ) (q : Asked) → Machine img s q → p.card img s q ≡ img) → ⊥

-- "One that grows at the first write and later only claims to": it may store what is written over, but where a file has bytes already, a write past its end
-- takes no block
abbrev pub NotOnce : Type 0
NotOnce = (p : Program) → Meets p
    → ((img s : List ℕ) (n off : ℕ) (src : List ℕ) → Machine img s (file (writing n off src)) → 0 < size img n → size img n < off + length src
    → unused (p.card img s (file (writing n off src))) ≡ unused img)
    → ⊥

-- "One keeping an invented unused count": after every call it is the number of set bits
abbrev pub Counted : Type 0
Counted = (p : Program) → Meets p → (img s : List ℕ) (q : Asked) → Whole img → Machine img s q
    → free_bits (p.card img s q) (blocks (p.card img s q)) ≡ unused (p.card img s q)
