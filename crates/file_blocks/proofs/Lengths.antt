-- Reading keeps the length of the buffer, and filling that of the card. Assumes nothing.
use Prim.Native.Nat.{ℕ, ◌+◌, ◌-◌, ◌*◌}
use mathlib.Core.Path.{◌≡◌, refl, ◌∙◌}
use mathlib.Core.Bool.{Bool, true, false}
use mathlib.Core.List.{List}
use lib.Dec.{ltb}
use lib.ListN.{length}
use Rattle.words.specs.Words.{pick, word}
use Rattle.words.specs.Runs.{turns}
use Rattle.words.proofs.Runs.{length-copied, length-zeroed, turns_keep}
use Rattle.card_layout.specs.Inode.{indirect, double}
use Rattle.card_map.specs.Free.{freed}
use Rattle.card_map.proofs.Laws.{length-freed}
use Rattle.file_blocks.specs.Taking.{freed_in, free_run}
use Rattle.file_blocks.specs.Bytes.{
  put,
  piece_read,
  piece_fill,
  run_read,
  run_fill,
  direct_read,
  direct_fill,
  indirect_read,
  indirect_fill,
  level_read,
  level_fill,
  double_read,
  double_fill,
  read_into,
  filled,
}

length-pick : (b : Bool) (x y : List ℕ) → length x ≡ length y → length (pick b x y) ≡ length y
length-pick true x y h = h
length-pick false x y h = refl

length-turns : (f : ℕ → List ℕ → List ℕ) (i k : ℕ) (x : List ℕ) → ((j : ℕ) (y : List ℕ) → length (f j y) ≡ length y)
    → length (turns f i k x) ≡ length x
length-turns f i k x h = turns_keep f i x (λ j y. length y ≡ length x) refl k (λ j y l e. h (i + j) y ∙ e)

-- ---- reading

module _ (img : List ℕ) (nb off end : ℕ) where
  pub length-piece_read : (b j : ℕ) (buf : List ℕ) → length (piece_read img nb b off end j buf) ≡ length buf
  length-piece_read b j buf = length-pick (ltb b nb) _ buf (length-copied buf _ img _ _)

  pub length-run_read : (at i e : ℕ) (buf : List ℕ) → length (run_read img nb at i e off end buf) ≡ length buf
  unfolding run_read
  length-run_read at i e buf = length-turns _ i (e - i) buf (λ j y. length-piece_read (word img (at + 4 * (j - i))) j y)

  pub length-level_read : (s q : ℕ) (buf : List ℕ) → length (level_read img nb s off end q buf) ≡ length buf
  unfolding level_read
  length-level_read s q buf = length-pick (ltb s nb) _ buf (length-run_read _ _ _ buf)

  module _ (n : ℕ) (buf : List ℕ) where
    pub length-direct_read : length (direct_read img nb n off end buf) ≡ length buf
    unfolding direct_read
    length-direct_read = length-run_read _ _ _ buf

    pub length-indirect_read : length (indirect_read img nb n off end buf) ≡ length buf
    unfolding indirect_read
    length-indirect_read = length-pick (ltb (indirect img n) nb) _ buf (length-run_read _ _ _ buf)

    pub length-double_read : length (double_read img nb n off end buf) ≡ length buf
    unfolding double_read
    length-double_read =
        length-pick (ltb (double img n) nb) _ buf
        (length-turns _ _ _ buf (λ q y. length-level_read (word img (4096 * double img n + 4 * q)) q y))

  pub length-read_into : (n : ℕ) (buf : List ℕ) → length (read_into img nb n off end buf) ≡ length buf
  unfolding read_into
  length-read_into n buf =
      length-double_read n (indirect_read img nb n off end (direct_read img nb n off end buf))
      ∙ length-indirect_read n (direct_read img nb n off end buf)
      ∙ length-direct_read n buf

-- ---- filling

pub length-put : (z : Bool) (src : List ℕ) (at k from : ℕ) (img : List ℕ) → length (put z src at k from img) ≡ length img
length-put true src at k from img = length-zeroed img at k
length-put false src at k from img = length-copied img at src from k

module _ (z : Bool) (src : List ℕ) (nb off end : ℕ) where
  pub length-piece_fill : (b j : ℕ) (img : List ℕ) → length (piece_fill z src nb b off end j img) ≡ length img
  length-piece_fill b j img = length-pick (ltb b nb) _ img (length-put z src _ _ _ img)

  pub length-run_fill : (at i e : ℕ) (img : List ℕ) → length (run_fill z src nb at i e off end img) ≡ length img
  unfolding run_fill
  length-run_fill at i e img = length-turns _ i (e - i) img (λ j y. length-piece_fill (word y (at + 4 * (j - i))) j y)

  pub length-level_fill : (s q : ℕ) (img : List ℕ) → length (level_fill z src nb s off end q img) ≡ length img
  unfolding level_fill
  length-level_fill s q img = length-pick (ltb s nb) _ img (length-run_fill _ _ _ img)

  module _ (n : ℕ) (img : List ℕ) where
    pub length-direct_fill : length (direct_fill z src nb n off end img) ≡ length img
    unfolding direct_fill
    length-direct_fill = length-run_fill _ _ _ img

    pub length-indirect_fill : length (indirect_fill z src nb n off end img) ≡ length img
    unfolding indirect_fill
    length-indirect_fill = length-pick (ltb (indirect img n) nb) _ img (length-run_fill _ _ _ img)

    pub length-double_fill : length (double_fill z src nb n off end img) ≡ length img
    unfolding double_fill
    length-double_fill =
        length-pick (ltb (double img n) nb) _ img
        (length-turns _ _ _ img (λ q y. length-level_fill (word y (4096 * double img n + 4 * q)) q y))

  pub length-filled : (n : ℕ) (img : List ℕ) → length (filled z src nb n off end img) ≡ length img
  unfolding filled
  length-filled n img =
      length-double_fill n (indirect_fill z src nb n off end (direct_fill z src nb n off end img))
      ∙ length-indirect_fill n (direct_fill z src nb n off end img)
      ∙ length-direct_fill n img

-- ---- freeing

pub length-freed_in : (nb b : ℕ) (img : List ℕ) → length (freed_in nb b img) ≡ length img
length-freed_in nb b img = length-pick (ltb b nb) (freed img b) img (length-freed img b)

pub length-free_run : (nb at k : ℕ) (img : List ℕ) → length (free_run nb at k img) ≡ length img
unfolding free_run
length-free_run nb at k img = length-turns _ 0 k img (λ j x. length-freed_in nb (word x (at + 4 * j)) x)
