-- Demand 2: "On every whole image each call gives the answer and bytes of the Rust (handles dropped, synced), save the listed differences. Run against the
-- Rust, proved against the rules". What is proved is here: what each call that is done leaves, in the words of RULES, "What calls do", the tried examples,
-- and that bytes past the last block are neither read nor changed. The statements, each proved in proofs/Demand2; that the Rust does the same is run
-- (tests/).
use Rattle.std.specs.Prelude.{ℕ, ◌*◌, ◌≤◌, ◌<◌, ◌≡◌, List, length, Ok}
use Rattle.words.specs.Words.{Bytes}
use Rattle.card_layout.specs.Sizes.{block_size}
use Rattle.card_layout.specs.Super.{blocks}
use Rattle.card_rules.specs.Whole.{Whole}
use Rattle.check_walk.specs.Opening.{counts_at, Opening, Opened}
use Rattle.call_said.specs.Said.{said_value, Said}
use Rattle.call_files.specs.FileCalls.{Read, Written, Resized}
use Rattle.call_dirs.specs.DirCalls.{Created, Linked, Unlinked, Moved, Formatted}
use Rattle.call_looks.specs.LookCalls.{Found, Listed, Described}
use Rattle.dir_answers.specs.Answers.{named_by}
use Rattle.law_files.specs.Effects.{ReadEffect, WriteEffect, ResizeEffect}
use Rattle.law_dirs.specs.Effects.{CreateEffect, LinkEffect, UnlinkEffect, MoveEffect}
use Rattle.law_calls.specs.Made.{Asked, Made, scratch_of, OfBytesAll}
use Rattle.law_calls.specs.LookEffects.{FindEffect, EntryEffect, MetadataEffect, FormatEffect}
use Rattle.law_calls.specs.Tail.{Twin, Tailed}
use Rattle.law_calls.specs.Examples.{Examples}
use Rattle.refusals.specs.Refusals.{answer_no}

-- a call that says 0 has done what RULES says it does
pub record Effects : Type 0 where
  pub read : (img s s' buf buf' : List ℕ) (n off : ℕ) (r : Said) → Bytes img → Read img s s' buf buf' n off r → answer_no r ≡ 0
      → ReadEffect img n off buf buf' (said_value r)
  pub write : (img img' s s' src : List ℕ) (n off : ℕ) (r : Said) → Bytes img → Bytes src → Written img img' s s' src n off r → answer_no r ≡ 0
      → WriteEffect img img' n off src (said_value r)
  pub resize : (img img' s s' : List ℕ) (n len : ℕ) (r : Said) → Bytes img → Resized img img' s s' n len r → answer_no r ≡ 0 → ResizeEffect img img' n len
  pub create : (img img' s s' : List ℕ) (p : ℕ) (x : List ℕ) (k : ℕ) (r : Said) → Bytes img → Bytes x → Created img img' s s' p x k r → answer_no r ≡ 0
      → CreateEffect img img' p x k (said_value r)
  pub link : (img img' s s' : List ℕ) (p : ℕ) (x : List ℕ) (c : ℕ) (r : Said) → Bytes img → Bytes x → Linked img img' s s' p x c r → answer_no r ≡ 0
      → LinkEffect img img' p x c
  pub unlink : (img img' s s' : List ℕ) (p : ℕ) (x : List ℕ) (r : Said) → Bytes img → Unlinked img img' s s' p x r → answer_no r ≡ 0
      → UnlinkEffect img img' p x (named_by img p x)
  pub move : (img img' s s' : List ℕ) (p : ℕ) (old : List ℕ) (t : ℕ) (new : List ℕ) (r : Said) → Bytes img → Bytes new → Moved img img' s s' p old t new r
      → answer_no r ≡ 0 → MoveEffect img img' p old t new
  pub find : (img s s' : List ℕ) (p : ℕ) (x : List ℕ) (r : Said) → Found img s s' p x r → answer_no r ≡ 0 → FindEffect img p x (said_value r)
  pub entry : (img s s' : List ℕ) (p k : ℕ) (r : Said) (e : List ℕ) → Listed img s s' p k r e → answer_no r ≡ 0 → EntryEffect img p k e
  pub metadata : (img s s' : List ℕ) (n : ℕ) (r : Said) (kind' size' blocks' links' : ℕ) → Described img s s' n r kind' size' blocks' links' → answer_no r ≡ 0
      → MetadataEffect img n kind' size' blocks' links'
  pub check : (img s s' : List ℕ) (o : Opened) → Opening img s s' 1 1 o → answer_no o ≡ 0 → Whole img × (o ≡ Ok (counts_at img))
  pub format : (img img' : List ℕ) (space : ℕ) (r : Said) → Formatted img img' space r → answer_no r ≡ 0
      → FormatEffect img img' space × (Bytes img → Bytes img')

-- and but for format it leaves a whole card whole, done or refused
abbrev pub Keeps : Type 0
Keeps = (img img' : List ℕ) (q : Asked) (r : Said) → Whole img → Bytes img → OfBytesAll q → Made img img' q r → Whole img' × Bytes img'

-- "Those with * are proved together, one list with one claim": of any bytes that are long enough
abbrev pub Tried : Type 0
Tried = (img : List ℕ) → block_size * 18 ≤ length img → Bytes img → Examples img

-- "bytes past its last block are never read or changed": two images with the same blocks, whatever follows them, get the same answer, the same blocks and the
-- same bytes, from scratches of one length
pub record Tail : Type 0 where
  pub unchanged : (img img' : List ℕ) (q : Asked) (r : Said) → Made img img' q r → Tailed (blocks img) img img'
  pub unread : (img img' out out' : List ℕ) (q : Asked) (r r' : Said) → 0 < blocks img → Twin (blocks img) img out → (m : Made img img' q r)
      (m' : Made out out' q r') → length (scratch_of m) ≡ length (scratch_of m') → (r ≡ r') × Twin (blocks img) img' out'
  pub read : (img out s s' u u' buf x y : List ℕ) (n off : ℕ) (r r' : Said) → 0 < blocks img → Twin (blocks img) img out → Read img s s' buf x n off r
      → Read out u u' buf y n off r' → length s ≡ length u → x ≡ y
  pub entry : (img out s s' u u' x y : List ℕ) (p k : ℕ) (r r' : Said) → 0 < blocks img → Twin (blocks img) img out → Listed img s s' p k r x
      → Listed out u u' p k r' y → length s ≡ length u → x ≡ y
  pub metadata : (img out s s' u u' : List ℕ) (n : ℕ) (r r' : Said) (k l b v k' l' b' v' : ℕ) → 0 < blocks img → Twin (blocks img) img out
      → Described img s s' n r k l b v → Described out u u' n r' k' l' b' v' → length s ≡ length u → (k ≡ k') × (l ≡ l') × (b ≡ b') × (v ≡ v')
  pub check : (img out s s' u u' : List ℕ) (o o' : Opened) → 0 < blocks img → Twin (blocks img) img out → Opening img s s' 1 1 o → Opening out u u' 1 1 o'
      → length s ≡ length u → o ≡ o'
