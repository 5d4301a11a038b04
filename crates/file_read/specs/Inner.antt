-- Inner: what reading asks, and what it leaves of a reader.
use Rattle.std.specs.Prelude.{ℕ, ◌-◌, ◌≤◌, List, length}
use Rattle.file_blocks.specs.Bytes.{piece_read, run_read}
use Rattle.file_blocks.specs.Inner.{PieceAsks, SpanAsks}
use Rattle.file_read.specs.declared.Reader.{Reader}

-- the buffer has room for the bytes that are asked for
abbrev pub Room : Reader → Type 0
Room r = r.end - r.off ≤ length r.buf.now

abbrev pub Piece : Reader → ℕ → Type 0
Piece r j = PieceAsks r.image.now r.nb r.off r.end j (Room r)

abbrev pub Span : ℕ → ℕ → Reader → Type 0
Span i e r = SpanAsks r.image.now r.nb i e r.off r.end (Room r)

-- the reader with another buffer
abbrev pub with_buf : Reader → List ℕ → Reader
with_buf r b = record r { buf = record r.buf { now = b } }

-- that has read the piece of file block j, which is in block b
abbrev pub with_piece : Reader → ℕ → ℕ → Reader
with_piece r b j = with_buf r (piece_read r.image.now r.nb b r.off r.end j r.buf.now)

-- that has gone over file blocks i up to e, whose numbers stand from byte `at` on
abbrev pub over : ℕ → ℕ → ℕ → Reader → Reader
over at i e r = with_buf r (run_read r.image.now r.nb at i e r.off r.end r.buf.now)
