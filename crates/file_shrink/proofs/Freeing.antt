-- The laws of shrinking: by which tests its steps go. Assumes nothing.
use mathlib.Core.Path.{◌≡◌, refl}
use mathlib.Core.List.{List}
use Prim.Native.Nat.{ℕ, ◌+◌, ◌-◌, ◌*◌, ◌≤◌, ◌<◌}
use native.Mathlib.Nat.{zero-add}
use native.Mathlib.Numerals.{add-one}
use Rattle.words.specs.Words.{word}
use Rattle.words.specs.Runs.{turns}
use Rattle.card_layout.specs.Slots.{seconds}
use Rattle.card_layout.specs.declared.inode.DiskINode.{DiskINode}
use Rattle.card_map.specs.Free.{freed}
use Rattle.file_blocks.specs.Ranges.{within, part_from, part_to, parts_from, parts_to}
use Rattle.file_blocks.specs.Taking.{freed_in, free_run, free_single, free_part, free_twofold, free_level}
use Rattle.file_blocks.proofs.Picks.{pick_yes, pick_no}

-- ---- one block, and a run

pub freed_in_in : (nb b : ℕ) (img : List ℕ) → b < nb → freed_in nb b img ≡ freed img b
freed_in_in nb b img h = pick_yes b nb (freed img b) img h

pub free_run_none : (nb at : ℕ) (img : List ℕ) → img ≡ free_run nb at 0 img
unfolding free_run turns
free_run_none nb at img = refl

pub free_run_more : (nb at j : ℕ) (img : List ℕ) → freed_in nb (word (free_run nb at j img) (at + 4 * j)) (free_run nb at j img) ≡ free_run nb at (j + 1) img
unfolding free_run turns
free_run_more nb at j img = rw (add-one j, zero-add j)

-- ---- the runs of the steps

abbrev pub single_free : ℕ → DiskINode → ℕ → ℕ → List ℕ → List ℕ
single_free nb d b a img =
    free_run nb (4096 * d.head.indirect.0 + 4 * (within 12 1036 b - 12)) (within 12 1036 a - within 12 1036 b) img

abbrev pub part_free : ℕ → ℕ → ℕ → ℕ → ℕ → List ℕ → List ℕ
part_free nb s b a q img = free_run nb (4096 * s + 4 * (part_from b q - (1036 + 1024 * q))) (part_to a q - part_from b q) img

-- a turn of the loop over the second level, whose blocks are listed by block p
abbrev pub twofold_free : ℕ → ℕ → ℕ → ℕ → ℕ → List ℕ → List ℕ
twofold_free nb p b a q x = free_part nb (word x (4096 * p + 4 * q)) b a q x

abbrev pub twofold_frees : ℕ → DiskINode → ℕ → ℕ → List ℕ → List ℕ
twofold_frees nb d b a img = turns (λ q x. twofold_free nb d.head.db_indirect.0 b a q x) (parts_from b) (parts_to a - parts_from b) img

abbrev pub level_free : ℕ → DiskINode → ℕ → ℕ → List ℕ → List ℕ
level_free nb d b a img = free_run nb (4096 * d.head.db_indirect.0 + 4 * seconds b) (seconds a - seconds b) img

-- ---- by which tests the steps go

module _ (nb : ℕ) (d : DiskINode) (b a : ℕ) (img : List ℕ) where
  pub free_single_in : d.head.indirect.0 < nb → free_single nb d b a img ≡ single_free nb d b a img
  unfolding free_single
  free_single_in h = pick_yes d.head.indirect.0 nb (single_free nb d b a img) img h

  pub free_twofold_in : d.head.db_indirect.0 < nb → free_twofold nb d b a img ≡ twofold_frees nb d b a img
  unfolding free_twofold
  free_twofold_in h = pick_yes d.head.db_indirect.0 nb (twofold_frees nb d b a img) img h

  pub free_level_in : d.head.db_indirect.0 < nb → free_level nb d b a img ≡ level_free nb d b a img
  unfolding free_level
  free_level_in h = pick_yes d.head.db_indirect.0 nb (level_free nb d b a img) img h

  pub free_level_out : nb ≤ d.head.db_indirect.0 → free_level nb d b a img ≡ img
  unfolding free_level
  free_level_out h = pick_no d.head.db_indirect.0 nb (level_free nb d b a img) img h

module _ (nb s b a q : ℕ) (img : List ℕ) where
  pub free_part_in : s < nb → free_part nb s b a q img ≡ part_free nb s b a q img
  unfolding free_part
  free_part_in h = pick_yes s nb (part_free nb s b a q img) img h
