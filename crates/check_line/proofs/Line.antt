-- The line of RULES' example, and of each refusal, byte by byte; and that a caller that prints what `check_line` has put prints the line. Assumes nothing.
use mathlib.Core.Path.{◌≡◌, refl, ap, ◌∙◌}
use mathlib.Core.Logic.{◌≢◌}
use mathlib.Core.List.{List, [], ◌∷◌}
use Prim.Native.Nat.{ℕ, ◌-◌, ◌≤◌, ◌<◌}
use native.Mathlib.Omega.{arith}
use borrow.Author.Tests.{le-leb}
use lib.ListN.{length, take, drop, length-append}
use lib.Seq.{take-append_seam}
use Rattle.check_walk.specs.Opening.{blocks_of, unused_of, Opened}
use Rattle.words.specs.Words.{pick}
use Rattle.check_line.specs.Line.{digit, digits, decimal, check_line, line_of, line_room, line_length, lined}
use Rattle.check_line.proofs.Decimal.{length_32}
use Rattle.check_line.proofs.Puts.{put_front}
use Rattle.refusals.specs.Refusals.{refusal_no, answer_no}
use Rattle.refusals.specs.declared.Refusal.{Refusal}
use Rattle.refusals.specs.declared.Refusal.TheVariants.{
  ScratchShort,
  WrongFs,
  Damaged,
  NoInode,
  NotFile,
  NotDir,
  IsDir,
  BadName,
  EntryExist,
  EntryNotFound,
  DirNotEmpty,
  InvalidParam,
  TooManyLinks,
  NoDeviceSpace,
}
use Rattle.std.specs.Prelude.{Ok, Err, ltb}

-- "status 0 blocks 16 free 12"
pub line_fresh : check_line 0 16 12
    ≡ 115 ∷ 116 ∷ 97 ∷ 116 ∷ 117 ∷ 115 ∷ 32 ∷ 48 ∷ 32 ∷ 98 ∷ 108 ∷ 111 ∷ 99 ∷ 107 ∷ 115 ∷ 32 ∷ 49 ∷ 54 ∷ 32 ∷ 102 ∷ 114 ∷ 101 ∷ 101 ∷ 32 ∷ 49 ∷ 50 ∷ 10 ∷ []
unfolding check_line decimal digits
line_fresh = refl

-- "a refusal prints its number and two zeros"
pub line_refused : (r : Opened) → answer_no r ≢ 0 → line_of r ≡ check_line (answer_no r) 0 0
line_refused (Ok c) d = absurd (d refl)
line_refused (Err e) d = refl

-- " blocks 0 free 0" and a newline
abbrev pub refusal_end : List ℕ
refusal_end = 32 ∷ 98 ∷ 108 ∷ 111 ∷ 99 ∷ 107 ∷ 115 ∷ 32 ∷ 48 ∷ 32 ∷ 102 ∷ 114 ∷ 101 ∷ 101 ∷ 32 ∷ 48 ∷ 10 ∷ []

-- "status S blocks 0 free 0" and a newline, where S is one digit, or "1" and one
abbrev pub refusal_line : ℕ → List ℕ
refusal_line s = 115 ∷ 116 ∷ 97 ∷ 116 ∷ 117 ∷ 115 ∷ 32 ∷ pick (ltb s 10) (digit s ∷ refusal_end) (49 ∷ digit (s - 10) ∷ refusal_end)

pub line_refused_bytes : (r : Opened) → answer_no r ≢ 0 → line_of r ≡ refusal_line (answer_no r)
unfolding check_line decimal digits
line_refused_bytes (Ok c) d = absurd (d refl)
line_refused_bytes (Err ScratchShort) d = refl
line_refused_bytes (Err WrongFs) d = refl
line_refused_bytes (Err Damaged) d = refl
line_refused_bytes (Err NoInode) d = refl
line_refused_bytes (Err NotFile) d = refl
line_refused_bytes (Err NotDir) d = refl
line_refused_bytes (Err IsDir) d = refl
line_refused_bytes (Err BadName) d = refl
line_refused_bytes (Err EntryExist) d = refl
line_refused_bytes (Err EntryNotFound) d = refl
line_refused_bytes (Err DirNotEmpty) d = refl
line_refused_bytes (Err InvalidParam) d = refl
line_refused_bytes (Err TooManyLinks) d = refl
line_refused_bytes (Err NoDeviceSpace) d = refl

-- the digit of each: "1", "2", "3", "4"
pub refused_digits : (decimal 1 ≡ 49 ∷ []) × (decimal 2 ≡ 50 ∷ []) × (decimal 3 ≡ 51 ∷ []) × (decimal 4 ≡ 52 ∷ [])
unfolding decimal digits
refused_digits = (refl, refl, refl, refl)

-- ---- what is printed

pub line_short : (s b f : ℕ) → s < 4294967296 → b < 4294967296 → f < 4294967296 → length (check_line s b f) ≤ 52
unfolding check_line
line_short s b f hs hb hf = simp length-append (omega (arith, length_32 s hs, length_32 b hb, length_32 f hf))

refusal_low : (e : Refusal) → refusal_no e ≤ 14
refusal_low ScratchShort = omega arith
refusal_low WrongFs = omega arith
refusal_low Damaged = omega arith
refusal_low NoInode = omega arith
refusal_low NotFile = omega arith
refusal_low NotDir = omega arith
refusal_low IsDir = omega arith
refusal_low BadName = omega arith
refusal_low EntryExist = omega arith
refusal_low EntryNotFound = omega arith
refusal_low DirNotEmpty = omega arith
refusal_low InvalidParam = omega arith
refusal_low TooManyLinks = omega arith
refusal_low NoDeviceSpace = omega arith

status_low : (r : Opened) → answer_no r ≤ 14
status_low (Ok c) = omega arith
status_low (Err e) = refusal_low e

-- as many bytes of the buffer as `check_line` answers are the line
pub printed : (r : Opened) (out : List ℕ) → blocks_of r < 4294967296 → unused_of r < 4294967296 → line_room ≤ length out
    → take (line_length r out) (lined r out) ≡ line_of r
printed r out b u room =
    let short = line_short (answer_no r) (blocks_of r) (unused_of r) (omega (arith, status_low r)) b u in
    rw (le-leb line_room (length out) room)
    (ap (take (length (line_of r))) (put_front out (line_of r) (omega arith)) ∙ take-append_seam (line_of r) (drop (length (line_of r)) out))
