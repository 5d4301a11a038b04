-- Inner: what filling asks, and what it leaves of a filler.
use Rattle.std.specs.Prelude.{ℕ, ◌≡◌, ◌-◌, ◌≤◌, false, List, length}
use Rattle.file_blocks.specs.Bytes.{piece_fill, run_fill}
use Rattle.file_blocks.specs.Inner.{PieceAsks, SpanAsks}
use Rattle.file_fill.specs.Source.{zeros, bytes}
use Rattle.file_fill.specs.declared.Filler.{Filler}

-- the bytes are as many as are asked for
abbrev pub Enough : Filler → Type 0
Enough f = zeros f.src.now ≡ false → f.end - f.off ≤ length (bytes f.src.now)

abbrev pub Piece : Filler → ℕ → Type 0
Piece f j = PieceAsks f.image.now f.nb f.off f.end j (Enough f)

abbrev pub Span : ℕ → ℕ → Filler → Type 0
Span i e f = SpanAsks f.image.now f.nb i e f.off f.end (Enough f)

-- the filler with another card
abbrev pub with_card : Filler → List ℕ → Filler
with_card f img = record f { image = record f.image { now = img } }

-- that has filled the piece of file block j, which is in block b
abbrev pub with_piece : Filler → ℕ → ℕ → Filler
with_piece f b j = with_card f (piece_fill (zeros f.src.now) (bytes f.src.now) f.nb b f.off f.end j f.image.now)

-- that has gone over file blocks i up to e, whose numbers stand from byte `at` on
abbrev pub over : ℕ → ℕ → ℕ → Filler → Filler
over at i e f = with_card f (run_fill (zeros f.src.now) (bytes f.src.now) f.nb at i e f.off f.end f.image.now)
