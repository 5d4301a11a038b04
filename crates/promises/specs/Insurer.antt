-- The insurer's question: "can storing one record change another?" No. The statements, each proved in proofs/Insurer. A run is any number of public calls but
-- format, one after the other, done or refused, with whatever numbers, names, bytes and scratch.
use Rattle.std.specs.Prelude.{ℕ, ◌+◌, ◌-◌, ◌*◌, ◌≤◌, ◌<◌, ◌≡◌, ◌≢◌, false, List, length}
use Rattle.words.specs.Words.{byte, Bytes}
use Rattle.card_layout.specs.Super.{blocks}
use Rattle.card_layout.specs.Inode.{size, kind}
use Rattle.card_rules.specs.View.{file_byte}
use Rattle.card_rules.specs.Same.{SameFile}
use Rattle.card_rules.specs.Whole.{Reached, Whole}
use Rattle.dir_entries.specs.Names.{is_dots}
use Rattle.dir_answers.specs.Answers.{the_inode}
use Rattle.dir_look.specs.Look.{find_answer}
use Rattle.call_said.specs.Said.{said_value, numbered, Said}
use Rattle.call_files.specs.FileCalls.{Read, Written, Resized}
use Rattle.call_dirs.specs.DirCalls.{Created}
use Rattle.call_looks.specs.LookCalls.{Found}
use Rattle.law_calls.specs.SameData.{SameData}
use Rattle.law_calls.specs.Runs.{Call, Run, last_put, last_shown, Unwritten, Unremoved, Unnamed, Unasked}
use Rattle.law_calls.specs.Paths.{Path, OnWay}
use Rattle.refusals.specs.Refusals.{answer_no}

-- ---- the other record

-- no call that is done writes or resizes record m, or removes it
pub record Beside (m : ℕ) (img mid : List ℕ) (c : Call) : Type 0 where
  pub unwritten : Unwritten m c
  pub unremoved : Unremoved m img c

-- A file or symbolic link that no call writes, resizes or removes is on the card still, with its kind, its length, its blocks and every byte in them.
abbrev pub Answer : Type 0
Answer = (img out : List ℕ) (cs : List Call) (m : ℕ) → Whole img → Bytes img → Reached img m → kind img m ≢ 2 → Run (Beside m) img out cs
    → Reached out m × SameData img out m

-- A file or directory that no call removes is on the card still, of the same kind.
abbrev pub Survives : Type 0
Survives = (img out : List ℕ) (cs : List Call) (m : ℕ) → Whole img → Bytes img → Reached img m → Run (λ a b c. Unremoved m a c) img out cs
    → Reached out m × (kind out m ≡ kind img m)

-- A directory, or anything else, that no call names is on the card still, with its whole record, its pointer blocks and every byte of its data.
abbrev pub AnswerUnnamed : Type 0
AnswerUnnamed = (img out : List ℕ) (cs : List Call) (m : ℕ) → Whole img → Bytes img → Reached img m → Run (λ a b c. Unnamed m a c) img out cs
    → Reached out m × SameFile img out m

-- After every call the card is whole: each block belongs to one record or is free, never both and never to two.
abbrev pub StaysWhole : Type 0
StaysWhole = (img out : List ℕ) (cs : List Call) → Whole img → Bytes img → Run (λ a b c. Unit) img out cs → Whole out × Bytes out

-- ---- under its name

-- no call that is done asks about the name x in directory d, or removes d
pub record Quiet (d : ℕ) (x : List ℕ) (img mid : List ℕ) (c : Call) : Type 0 where
  pub unasked : Unasked d x img c
  pub unremoved : Unremoved d img c

-- A name that no call asks about finds what it found, the same number or nothing; and a public find after these calls, with scratch enough, says that.
abbrev pub SameName : Type 0
SameName = (img out : List ℕ) (cs : List Call) (d : ℕ) (x : List ℕ) → Whole img → Bytes img → Reached img d → kind img d ≡ 2 → Run (Quiet d x) img out cs
    → Reached out d × (kind out d ≡ 2) × (find_answer out d x ≡ find_answer img d x)
    × ((s s' : List ℕ) (r : Said) → 4 * blocks out ≤ length s → Found out s s' d x r → r ≡ numbered (find_answer img d x))

-- and none that is done writes or resizes record m
pub record QuietBeside (d : ℕ) (x : List ℕ) (m : ℕ) (img mid : List ℕ) (c : Call) : Type 0 where
  pub quiet : Quiet d x img mid c
  pub unwritten : Unwritten m c

-- A record that no call writes or resizes, found under a name that no call asks about, is found there still and reads as it did, though the directory itself
-- may be moved. That no call removes the record follows: what an unlink removes had no other name.
abbrev pub UnderName : Type 0
UnderName = (img out : List ℕ) (cs : List Call) (d : ℕ) (x : List ℕ) (m : ℕ) → Whole img → Bytes img → Reached img d → kind img d ≡ 2 → is_dots x ≡ false
    → find_answer img d x ≡ the_inode m → kind img m ≢ 2 → Run (QuietBeside d x m) img out cs
    → (find_answer out d x ≡ the_inode m) × Reached out m × SameData img out m

-- no call that is done asks about a name on the way down xs from the root, or writes or resizes record m
pub record OffPath (xs : List (List ℕ)) (m : ℕ) (img mid : List ℕ) (c : Call) : Type 0 where
  pub unasked : (d : ℕ) (x : List ℕ) → OnWay img 1 xs d x → Unasked d x img c
  pub unwritten : Unwritten m c

-- From the root down names that no call asks about stands the same inode; a file or symbolic link there has the same bytes.
abbrev pub SamePath : Type 0
SamePath = (img out : List ℕ) (cs : List Call) (xs : List (List ℕ)) (m : ℕ) → Whole img → Bytes img → Path img 1 xs m → Run (OffPath xs m) img out cs
    → Path out 1 xs m × (kind img m ≢ 2 → SameData img out m)

-- ---- what was written is what is read

-- no call that is done removes m, and after the call m is longer than o
pub record Lasts (m o : ℕ) (img mid : List ℕ) (c : Call) : Type 0 where
  pub unremoved : Unremoved m img c
  pub long : o < size mid m

-- m is on the card, its byte o is v, and a public read that is done and reaches o gives v
abbrev pub Gives : List ℕ → ℕ → ℕ → ℕ → Type 0
Gives out m o v =
    Reached out m × (file_byte out m o ≡ v)
    × ((s s' buf buf' : List ℕ) (off : ℕ) (r : Said) → Read out s s' buf buf' m off r → answer_no r ≡ 0
    → off ≤ o → o < off + length buf → byte buf' (o - off) ≡ v)

-- Byte o of file m, as long as its length stays above o, is what the last done write to m put there, else what it was; and a public read after these calls
-- gives that byte. (So it does anywhere in a run: the calls before it are a run.)
abbrev pub WrittenIsRead : Type 0
WrittenIsRead = (img out : List ℕ) (cs : List Call) (m o : ℕ) → Whole img → Bytes img → Reached img m → kind img m ≢ 2 → o < size img m
    → Run (Lasts m o) img out cs → Gives out m o (last_put cs m o (file_byte img m o))

-- So a byte that was just stored, by a write that is done, is read until a later write puts another there.
abbrev pub StoredIsRead : Type 0
StoredIsRead = (img mid out s s' src : List ℕ) (cs : List Call) (m off o : ℕ) (r : Said) → Bytes img → Bytes src → Written img mid s s' src m off r
    → answer_no r ≡ 0 → off ≤ o → o < off + length src → Run (Lasts m o) mid out cs → Gives out m o (last_put cs m o (byte src (o - off)))

-- ---- a record shows only what was written to it

-- From the making of file m on, whatever is called but what removes it, each byte of it is what the last done write to m put there since its length last rose
-- over that byte, or 0; and a public read gives it. So a read of m never gives a byte of another record, removed ones included.
abbrev pub ShowsOwn : Type 0
ShowsOwn = (img mid out s s' : List ℕ) (p : ℕ) (x : List ℕ) (k : ℕ) (r : Said) (cs : List Call) (o : ℕ) → Bytes img → Bytes x → k ≢ 2
    → Created img mid s s' p x k r → answer_no r ≡ 0 → Run (λ a b c. Unremoved (said_value r) a c) mid out cs → o < size out (said_value r)
    → Gives out (said_value r) o (last_shown cs (said_value r) o 0)

-- What a volunteer asked for: a note shortened to a bytes and then lengthened to b reads zero from a on, whatever stood there.
abbrev pub ShortenedIsGone : Type 0
ShortenedIsGone = (img mid out s s' t t' : List ℕ) (n a b : ℕ) (r q : Said) (o : ℕ) → Bytes img → Resized img mid s s' n a r → answer_no r ≡ 0
    → Resized mid out t t' n b q → answer_no q ≡ 0 → a ≤ o → o < b → Gives out n o 0
