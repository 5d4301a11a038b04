-- A reader that goes over a file's blocks: a run piece by piece, and what its buffer is at the end. Assumes nothing.
use mathlib.Core.Path.{◌≡◌, refl, ap, ◌∙◌}
use Prim.Native.Nat.{ℕ, ◌+◌, ◌-◌, ◌*◌, ◌≤◌, ◌<◌}
use native.Mathlib.Omega.{arith}
use Rattle.words.specs.Words.{word}
use Rattle.words.proofs.Runs.{turns_none, turns_more}
use Rattle.file_blocks.specs.Bytes.{first_of, after_of, run_read, direct_read, indirect_read, level_read, double_read, read_into}
use Rattle.file_blocks.specs.Inner.{in_file}
use Rattle.file_blocks.proofs.Lengths.{length-piece_read}
use Rattle.file_blocks.proofs.Passing.{file_through}
use Rattle.file_read.specs.Inner.{Piece, Span, with_buf, with_piece, over}
use Rattle.file_read.specs.declared.Reader.{Reader}

module _ (r : Reader) (at i : ℕ) where
  pub over_none : r ≡ over at i i r
  unfolding run_read
  over_none = ap (with_buf r) (turns_none _ _ _)

  pub over_more : (j b : ℕ) (s out : Reader) → out ≡ with_piece s b j → b ≡ word s.image.now (at + 4 * (j - i)) → s ≡ over at i j r → i ≤ j
      → out ≡ over at i (j + 1) r
  unfolding run_read
  over_more j b s out o w t h = o ∙ rw (w, t) (ap (with_buf r) (turns_more _ _ _ j h))

  pub over_all : (j e : ℕ) (s : Reader) → s ≡ over at i j r → j - i ≡ e - i → s ≡ over at i e r
  unfolding run_read
  over_all j e s t d = t ∙ rw d

pub piece_in : (r : Reader) (i e j : ℕ) → Span i e r → i ≤ j → j < e → Piece r j
piece_in r i e j s l m =
    let p = s.1 (omega arith) in
    (s.0, omega (arith, s.3), omega arith, omega arith, s.2, s.4)

pub span_piece : (r out : Reader) (i e b j : ℕ) → out ≡ with_piece r b j → Span i e r → Span i e out
span_piece r out i e b j o s = rw o (s.0, s.1, s.2, s.3, omega (arith, s.4, length-piece_read r.image.now r.nb r.off r.end b j r.buf.now))

all_read : (r : Reader) (n : ℕ)
    → in_file (λ x. x.image.now) over r.nb n (first_of r.off) (after_of r.end) r
    ≡ with_buf r (read_into r.image.now r.nb n r.off r.end r.buf.now)
unfolding direct_read indirect_read level_read double_read read_into
all_read r n =
    file_through (with_buf r) (λ x. x.image.now) (λ at i e x. run_read r.image.now r.nb at i e r.off r.end x) over (λ at i e x. refl) r.nb n
    (first_of r.off) (after_of r.end) r.buf.now

pub reads : (r w : Reader) (n i e : ℕ) → w ≡ in_file (λ x. x.image.now) over r.nb n i e r → i ≡ first_of r.off → e ≡ after_of r.end
    → w ≡ with_buf r (read_into r.image.now r.nb n r.off r.end r.buf.now)
reads r w n i e o p q =
    o
    ∙ ap (λ (x : ℕ). in_file (λ y. y.image.now) over r.nb n x e r) p
    ∙ ap (λ (x : ℕ). in_file (λ y. y.image.now) over r.nb n (first_of r.off) x r) q
    ∙ all_read r n
