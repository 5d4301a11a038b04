-- Reading, writing and resizing inode n of a card of nb blocks (RULES, "What calls do"): what is answered, and what is left of the card and the
-- buffer. The tests are those after the numbers: "read: 5. write, resize: 5, 12, 14."
use Rattle.std.specs.Prelude.{ℕ, ◌+◌, ◌-◌, min, false, List, ltb, length, Option, Some, None, Result, Ok, Err}
use Rattle.words.specs.Words.{pick}
use Rattle.card_layout.specs.Sizes.{blocks_for}
use Rattle.card_layout.specs.Super.{unused}
use Rattle.card_layout.specs.Inode.{decoded, directs}
use Rattle.card_layout.specs.Slots.{owned}
use Rattle.card_layout.specs.declared.inode.FileType.{FileType}
use Rattle.card_layout.specs.declared.inode.FileType.TheVariants.{File, Dir, SymLink}
use Rattle.card_layout.specs.declared.inode.Head.{Head}
use Rattle.card_layout.specs.declared.inode.DiskINode.{DiskINode}
use Rattle.file_blocks.specs.Bytes.{read_into, filled}
use Rattle.file_requests.specs.Resizing.{fitted, new_zero, resized}
use Rattle.refusals.specs.Refusals.{giving, if_done}
use Rattle.refusals.specs.declared.Refusal.TheVariants.{NotFile, InvalidParam, NoDeviceSpace}
use Rattle.refusals.specs.declared.Refusal.{Refusal}

-- "a file's new length above 4,294,967,295"
abbrev pub longest : ℕ
longest = 4294967295

-- ---- what is asked before anything changes

-- a directory is refused: "NotFile: read, write or resize of a directory"
abbrev pub by_kind : {A : Type 0} → FileType → A → A → A
by_kind File r x = x
by_kind Dir r x = r
by_kind SymLink r x = x

abbrev pub by_file : {A : Type 0} → Option Head → A → (Head → A) → A
by_file None r f = r
by_file (Some h) r f = by_kind h.type_ r (f h)

-- the blocks that a length takes of a card, for a file of b blocks: "N(new) - N(old) in all"
abbrev pub needs : ℕ → ℕ → ℕ
needs b len = owned (blocks_for len) - owned b

-- a new length: 12, then 14, with u blocks unused
unfoldable pub judged : ℕ → Head → ℕ → Result Unit Refusal
judged u h len = pick (ltb longest len) (Err InvalidParam) (pick (ltb u (needs h.blocks len)) (Err NoDeviceSpace) (Ok tt))

-- the record with head h that inode n has
abbrev pub record_with : List ℕ → ℕ → Head → DiskINode
record_with img n h = record { head = h; direct = directs img n }

-- ---- resize

unfoldable pub resize_answer : List ℕ → ℕ → ℕ → Result Unit Refusal
resize_answer img n len = by_file (decoded img n) (Err NotFile) (λ h. judged (unused img) h len)

unfoldable pub resize_card : ℕ → List ℕ → ℕ → ℕ → List ℕ
resize_card nb img n len =
    by_file (decoded img n) img (λ h. if_done (judged (unused img) h len) (resized nb n (record_with img n h) len img) img)

-- ---- write: "first resizes if size is below offset + length, then returns the full length"

-- where the bytes of src end: a sum over whole numbers
abbrev pub end_of : ℕ → List ℕ → ℕ
end_of off src = off + length src

unfoldable pub write_judged : ℕ → Head → ℕ → Result Unit Refusal
write_judged u h end = pick (ltb h.size end) (judged u h end) (Ok tt)

-- the file with at least end bytes, those of the gap up to off zero: what comes after it is about to be written
unfoldable pub reaching : ℕ → ℕ → DiskINode → ℕ → ℕ → List ℕ → List ℕ
reaching nb n d off end img = pick (ltb d.head.size end) (new_zero nb n d off (fitted nb n d end img)) img

unfoldable pub write_answer : List ℕ → ℕ → ℕ → List ℕ → Result ℕ Refusal
write_answer img n off src =
    by_file (decoded img n) (Err NotFile) (λ h. giving (write_judged (unused img) h (end_of off src)) (length src))

-- the bytes of src in a file, with the record d, that first reaches them
abbrev pub stored : ℕ → ℕ → DiskINode → ℕ → List ℕ → List ℕ → List ℕ
stored nb n d off src img = filled false src nb n off (end_of off src) (reaching nb n d off (end_of off src) img)

unfoldable pub write_card : ℕ → List ℕ → ℕ → ℕ → List ℕ → List ℕ
write_card nb img n off src =
    by_file (decoded img n) img
    (λ h.
    if_done (write_judged (unused img) h (end_of off src))
    (stored nb n (record_with img n h) off src img)
    img)

-- ---- read: "returns min(size, offset + length) - min(size, offset), sums over whole numbers; the buffer past that stays"

unfoldable pub read_answer : List ℕ → ℕ → ℕ → ℕ → Result ℕ Refusal
read_answer img n off k = by_file (decoded img n) (Err NotFile) (λ h. Ok (min h.size (off + k) - min h.size off))

unfoldable pub read_buffer : ℕ → List ℕ → ℕ → ℕ → List ℕ → List ℕ
read_buffer nb img n off buf =
    by_file (decoded img n) buf (λ h. read_into img nb n (min h.size off) (min h.size (off + length buf)) buf)
