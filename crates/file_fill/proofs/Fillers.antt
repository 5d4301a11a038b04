-- A filler that goes over a file's blocks: a run piece by piece, and what the card is at the end. Assumes nothing.
use mathlib.Core.Path.{◌≡◌, refl, ap, ◌∙◌}
use Prim.Native.Nat.{ℕ, ◌+◌, ◌-◌, ◌*◌, ◌≤◌, ◌<◌}
use native.Mathlib.Omega.{arith}
use lib.ListN.{length}
use Rattle.words.specs.Words.{word}
use Rattle.words.proofs.Runs.{turns_none, turns_more}
use Rattle.file_blocks.specs.Bytes.{first_of, after_of, run_fill, direct_fill, indirect_fill, level_fill, double_fill, filled}
use Rattle.file_blocks.specs.Inner.{in_file}
use Rattle.file_blocks.proofs.Lengths.{length-piece_fill}
use Rattle.file_blocks.proofs.Passing.{file_through}
use Rattle.file_fill.specs.Source.{zeros, bytes}
use Rattle.file_fill.specs.Inner.{Piece, Span, with_card, with_piece, over}
use Rattle.file_fill.specs.declared.Filler.{Filler}

module _ (f : Filler) (at i : ℕ) where
  pub over_none : f ≡ over at i i f
  unfolding run_fill
  over_none = ap (with_card f) (turns_none _ _ _)

  pub over_more : (j b : ℕ) (s out : Filler) → out ≡ with_piece s b j → b ≡ word s.image.now (at + 4 * (j - i)) → s ≡ over at i j f → i ≤ j
      → out ≡ over at i (j + 1) f
  unfolding run_fill
  over_more j b s out o w t h = o ∙ rw (w, t) (ap (with_card f) (turns_more _ _ _ j h))

  pub over_all : (j e : ℕ) (s : Filler) → s ≡ over at i j f → j - i ≡ e - i → s ≡ over at i e f
  unfolding run_fill
  over_all j e s t d = t ∙ rw d

pub piece_in : (f : Filler) (i e j : ℕ) → Span i e f → i ≤ j → j < e → Piece f j
piece_in f i e j s l m =
    let p = s.1 (omega arith) in
    (s.0, omega (arith, s.3), omega arith, omega arith, s.2, s.4)

pub piece_long : (f out : Filler) (b j : ℕ) → out ≡ with_piece f b j → length out.image.now ≡ length f.image.now
piece_long f out b j o = rw o (length-piece_fill (zeros f.src.now) (bytes f.src.now) f.nb f.off f.end b j f.image.now)

pub span_piece : (f out : Filler) (i e b j : ℕ) → out ≡ with_piece f b j → Span i e f → Span i e out
span_piece f out i e b j o s =
    rw o (omega (arith, s.0, length-piece_fill (zeros f.src.now) (bytes f.src.now) f.nb f.off f.end b j f.image.now), s.1, s.2, s.3, s.4)

all_filled : (f : Filler) (n : ℕ)
    → in_file (λ x. x.image.now) over f.nb n (first_of f.off) (after_of f.end) f
    ≡ with_card f (filled (zeros f.src.now) (bytes f.src.now) f.nb n f.off f.end f.image.now)
unfolding direct_fill indirect_fill level_fill double_fill filled
all_filled f n =
    file_through (with_card f) (λ x. x.image.now) (λ at i e x. run_fill (zeros f.src.now) (bytes f.src.now) f.nb at i e f.off f.end x) over
    (λ at i e x. refl) f.nb n (first_of f.off) (after_of f.end) f.image.now

pub fills : (f w : Filler) (n i e : ℕ) → w ≡ in_file (λ x. x.image.now) over f.nb n i e f → i ≡ first_of f.off → e ≡ after_of f.end
    → w ≡ with_card f (filled (zeros f.src.now) (bytes f.src.now) f.nb n f.off f.end f.image.now)
fills f w n i e o p q =
    o
    ∙ ap (λ (x : ℕ). in_file (λ y. y.image.now) over f.nb n x e f) p
    ∙ ap (λ (x : ℕ). in_file (λ y. y.image.now) over f.nb n (first_of f.off) x f) q
    ∙ all_filled f n
