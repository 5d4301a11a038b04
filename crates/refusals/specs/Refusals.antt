-- RULES' refusals and their numbers, and the answer of a call that may refuse.
use Rattle.std.specs.Prelude.{ℕ, Result, Ok, Err}
use Rattle.refusals.specs.declared.Refusal.{Refusal}
use Rattle.refusals.specs.declared.Refusal.TheVariants.{
  ScratchShort,
  WrongFs,
  Damaged,
  NoInode,
  NotFile,
  NotDir,
  IsDir,
  BadName,
  EntryExist,
  EntryNotFound,
  DirNotEmpty,
  InvalidParam,
  TooManyLinks,
  NoDeviceSpace,
}

-- its number
abbrev pub refusal_no : Refusal → ℕ
refusal_no ScratchShort = 1
refusal_no WrongFs = 2
refusal_no Damaged = 3
refusal_no NoInode = 4
refusal_no NotFile = 5
refusal_no NotDir = 6
refusal_no IsDir = 7
refusal_no BadName = 8
refusal_no EntryExist = 9
refusal_no EntryNotFound = 10
refusal_no DirNotEmpty = 11
refusal_no InvalidParam = 12
refusal_no TooManyLinks = 13
refusal_no NoDeviceSpace = 14

-- RULES' number of an answer: 0 where it is done
abbrev pub answer_no : {A : Type 0} → Result A Refusal → ℕ
answer_no (Ok v) = 0
answer_no (Err e) = refusal_no e

-- done, with no value
abbrev pub done : Result Unit Refusal
done = Ok tt

-- the same refusal, or done with v
abbrev pub giving : {A B : Type 0} → Result A Refusal → B → Result B Refusal
giving (Ok x) v = Ok v
giving (Err e) v = Err e

-- x where nothing is refused, else r
abbrev pub if_done : {A B : Type 0} → Result A Refusal → B → B → B
if_done (Ok v) x r = x
if_done (Err e) x r = r
