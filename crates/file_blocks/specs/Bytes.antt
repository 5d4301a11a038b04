-- A file's bytes read and written block by block. On a sound card these are the bytes of `file_byte` (proofs/); on any other bytes a block number past the
-- last block is passed over.
use Rattle.std.specs.Prelude.{ℕ, ◌+◌, ◌-◌, ◌*◌, ◌/◌, min, Bool, true, false, List, ltb}
use Rattle.words.specs.Words.{pick, word}
use Rattle.words.specs.Runs.{copied, zeroed, turns}
use Rattle.card_layout.specs.Sizes.{block_size}
use Rattle.card_layout.specs.Inode.{indirect, double}
use Rattle.file_blocks.specs.Ranges.{in_record, in_indirect, in_second, below_double}

-- ---- where a range of bytes, off to end, falls

-- the file blocks that it touches: from, up to
abbrev pub first_of : ℕ → ℕ
first_of off = off / block_size

abbrev pub after_of : ℕ → ℕ
after_of end = (end + 4095) / block_size

-- the bytes of block j that it has: from, up to
abbrev pub piece_lo : ℕ → ℕ → ℕ
piece_lo off j = off - block_size * j

abbrev pub piece_hi : ℕ → ℕ → ℕ
piece_hi end j = min (end - block_size * j) block_size

-- ---- one block

-- the buffer with the piece of file block j, which is in block b
abbrev pub piece_read : List ℕ → ℕ → ℕ → ℕ → ℕ → ℕ → List ℕ → List ℕ
piece_read img nb b off end j buf =
    pick (ltb b nb) (copied buf (block_size * j + piece_lo off j - off) img (block_size * b + piece_lo off j) (piece_hi end j - piece_lo off j)) buf

-- the card with k bytes at `at` zero, or from src
abbrev pub put : Bool → List ℕ → ℕ → ℕ → ℕ → List ℕ → List ℕ
put true src at k from img = zeroed img at k
put false src at k from img = copied img at src from k

-- the card with the piece of file block j, which is in block b, zero, or from src
abbrev pub piece_fill : Bool → List ℕ → ℕ → ℕ → ℕ → ℕ → ℕ → List ℕ → List ℕ
piece_fill z src nb b off end j img =
    pick (ltb b nb) (put z src (block_size * b + piece_lo off j) (piece_hi end j - piece_lo off j) (block_size * j + piece_lo off j - off) img) img

-- ---- a run of blocks i up to e, whose numbers stand from byte `at` on

unfoldable pub run_read : List ℕ → ℕ → ℕ → ℕ → ℕ → ℕ → ℕ → List ℕ → List ℕ
run_read img nb at i e off end buf = turns (λ j x. piece_read img nb (word img (at + 4 * (j - i))) off end j x) i (e - i) buf

unfoldable pub run_fill : Bool → List ℕ → ℕ → ℕ → ℕ → ℕ → ℕ → ℕ → List ℕ → List ℕ
run_fill z src nb at i e off end img = turns (λ j x. piece_fill z src nb (word x (at + 4 * (j - i))) off end j x) i (e - i) img

-- ---- the three ranges

unfoldable pub direct_read : List ℕ → ℕ → ℕ → ℕ → ℕ → List ℕ → List ℕ
direct_read img nb n off end buf = in_record (λ at i e x. run_read img nb at i e off end x) n (first_of off) (after_of end) buf

unfoldable pub indirect_read : List ℕ → ℕ → ℕ → ℕ → ℕ → List ℕ → List ℕ
indirect_read img nb n off end buf =
    in_indirect (λ at i e x. run_read img nb at i e off end x) nb (indirect img n) (first_of off) (after_of end) buf

unfoldable pub level_read : List ℕ → ℕ → ℕ → ℕ → ℕ → ℕ → List ℕ → List ℕ
level_read img nb s off end q buf = in_second (λ at i e x. run_read img nb at i e off end x) nb s q (first_of off) (after_of end) buf

unfoldable pub double_read : List ℕ → ℕ → ℕ → ℕ → ℕ → List ℕ → List ℕ
double_read img nb n off end buf =
    pick (ltb (double img n) nb)
    (below_double (λ x. img) (λ s q x. level_read img nb s off end q x) (double img n) (first_of off) (after_of end) buf)
    buf

-- what reading the bytes off to end of file n leaves of a buffer
unfoldable pub read_into : List ℕ → ℕ → ℕ → ℕ → ℕ → List ℕ → List ℕ
read_into img nb n off end buf = double_read img nb n off end (indirect_read img nb n off end (direct_read img nb n off end buf))

unfoldable pub direct_fill : Bool → List ℕ → ℕ → ℕ → ℕ → ℕ → List ℕ → List ℕ
direct_fill z src nb n off end img = in_record (λ at i e x. run_fill z src nb at i e off end x) n (first_of off) (after_of end) img

unfoldable pub indirect_fill : Bool → List ℕ → ℕ → ℕ → ℕ → ℕ → List ℕ → List ℕ
indirect_fill z src nb n off end img =
    in_indirect (λ at i e x. run_fill z src nb at i e off end x) nb (indirect img n) (first_of off) (after_of end) img

unfoldable pub level_fill : Bool → List ℕ → ℕ → ℕ → ℕ → ℕ → ℕ → List ℕ → List ℕ
level_fill z src nb s off end q img = in_second (λ at i e x. run_fill z src nb at i e off end x) nb s q (first_of off) (after_of end) img

unfoldable pub double_fill : Bool → List ℕ → ℕ → ℕ → ℕ → ℕ → List ℕ → List ℕ
double_fill z src nb n off end img =
    pick (ltb (double img n) nb)
    (below_double (λ x. x) (λ s q x. level_fill z src nb s off end q x) (double img n) (first_of off) (after_of end) img)
    img

-- the card with the bytes off to end of file n from src, or zeros
unfoldable pub filled : Bool → List ℕ → ℕ → ℕ → ℕ → ℕ → List ℕ → List ℕ
filled z src nb n off end img = double_fill z src nb n off end (indirect_fill z src nb n off end (direct_fill z src nb n off end img))
