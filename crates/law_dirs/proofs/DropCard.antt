-- An inode and all that it owns freed, on a sound card: "frees the inode and all it owns; the dead record keeps its fields". `img` is the card before,
-- `out` the card after. Assumes nothing.
use mathlib.Core.Path.{◌≡◌, ap, ◌∙◌}
use mathlib.Core.List.{List}
use mathlib.Core.Logic.{◌≢◌}
use Prim.Native.Nat.{ℕ, ◌+◌, ◌<◌}
use native.Mathlib.Omega.{arith}
use Rattle.std.proofs.lemmas.Grind.{common_steps}
use Rattle.words.specs.Words.{byte, word, Bytes}
use Rattle.words.specs.Sums.{δ, sum_to, cnt, without}
use Rattle.words.proofs.Sums.{sum_to_zero, sum_to_add}
use Rattle.card_layout.specs.Super.{blocks, unused}
use Rattle.card_layout.specs.Inode.{count, indirect, double}
use Rattle.card_layout.specs.Slots.{seconds, owned}
use Rattle.card_layout.specs.declared.inode.FileType.TheVariants.{File}
use Rattle.card_layout.specs.declared.inode.DiskINode.{DiskINode}
use Rattle.card_layout.proofs.InodeLaws.{inode_at}
use Rattle.card_map.specs.Bits.{map_bit}
use Rattle.card_map.specs.Free.{freed}
use Rattle.card_map.proofs.Map.{bit_below}
use Rattle.card_rules.specs.View.{owns}
use Rattle.card_rules.specs.Whole.{Sound}
use Rattle.card_rules.specs.Places.{Place, held, InUse}
use Rattle.card_rules.proofs.Views.{seconds_none}
use Rattle.card_rules.proofs.Cells.{held-owned}
use Rattle.card_rules.proofs.Owners.{inode_below, held_below, not_zero, not_map}
use Rattle.card_rules.proofs.Counting.{count_below, owns_total}
use Rattle.card_rules.specs.Same.{SameBlock, SameFile}
use Rattle.card_rules.proofs.Frames.{block_from, file_held}
use Rattle.card_rules.proofs.Kept.{Steady}
use Rattle.card_rules.proofs.Isolation.{Within, Dropped, others_same, sound_drop}
use Rattle.file_blocks.specs.Taking.{free_single, free_twofold, free_indirect, free_level, free_double, shrunk}
use Rattle.file_grow.proofs.Runs.{Clear}
use Rattle.dir_unlink.specs.Unlink.{dropped}
use Rattle.law_files.proofs.Freed.{Freed, freed_is, num_kept, freed_one}
use Rattle.law_files.proofs.Losses.{is_data, is_second, lost, owns_lost}
use Rattle.law_files.proofs.Tables.{block_clear, clear_in}
use Rattle.law_files.proofs.GivenUp.{sound_sizes, one_map, once_owned, shrunk_freed}

-- what is left of a card of which inode n was taken away
pub record DroppedCard (l img out : List ℕ) (n : ℕ) : Type 0 where
  pub within : Within img out n
  pub dropped : Dropped img out n
  pub sound : Sound out (without n l)
  pub bytes : Bytes out
  pub others : (m : ℕ) → 0 < cnt m l → m ≢ n → SameFile img out m
  -- map and unused count alone change: "the dead record keeps its fields", and its blocks their bytes
  pub kept : (p : ℕ) → Clear p 1 → byte out p ≡ byte img p
  pub file : SameFile img out n
  pub free : (p : Place) → InUse img n p → map_bit out (held img n p) ≡ 1
  pub unused_is : unused out ≡ unused img + 1 + owned (count img n)

-- shrinking reads the two pointers of a record alone
pub shrunk_reads : (nb n : ℕ) (d e : DiskINode) (b a : ℕ) (img : List ℕ) → d.head.indirect.0 ≡ e.head.indirect.0
    → d.head.db_indirect.0 ≡ e.head.db_indirect.0 → shrunk nb n d b a img ≡ shrunk nb n e b a img
unfolding shrunk free_single free_twofold free_indirect free_level free_double
shrunk_reads nb n d e b a img p q = rw (p, q)

module _ (img l : List ℕ) (s : Sound img l) (bytes : Bytes img) (n : ℕ) (h : 0 < cnt n l) where
  abbrev gone : List ℕ
  gone = freed (shrunk (blocks img) n (inode_at img n File) 0 (count img n) img) n

  -- with no blocks it uses its own alone
  lost_all : (x : ℕ) → owns img n x ≡ lost img n x 0 + δ n x
  lost_all x =
      let none : sum_to (is_second img n x) (seconds 0) ≡ 0
      = ap (sum_to (is_second img n x)) (seconds_none 0 (omega arith)) ∙ sum_to_zero (is_second img n x) in
      omega (arith, owns_lost img n x 0 (omega arith), none, sum_to_zero (is_data img n x))

  freed_all : Freed (blocks img) img (owns img n) gone
  freed_all =
      freed_is (blocks img) img (λ x. lost img n x 0 + δ n x) (owns img n) gone lost_all
      (freed_one (blocks img) img (sound_sizes img l s n h) (λ x. lost img n x 0) (shrunk (blocks img) n (inode_at img n File) 0 (count img n) img)
      (shrunk_freed img l s n h 0 (omega arith) bytes File) n (inode_below img l s n h)
      (omega (arith, lost_all n, (once_owned img l s n h).most n (inode_below img l s n h))))

  -- a word apart from map and unused count
  word_kept : (at : ℕ) → Clear at 4 → word gone at ≡ word img at
  word_kept at c = num_kept (blocks img) img (owns img n) gone 4 at freed_all c

  steady : Steady img gone
  steady = grind (arith, common_steps, freed_all, word_kept)

  block_kept : (b : ℕ) → b ≢ 0 → b ≢ 2 → SameBlock img gone b
  block_kept b z m = block_from img gone b (λ p q t. freed_all.kept p (clear_in b p 1 (block_clear b z m) q (omega arith)))

  within_own : Within img gone n
  within_own = record { other = λ b q o f z m. block_kept b z (m 0 (omega (arith, one_map img l s n h))) }

  all_free : Dropped img gone n
  all_free = record { steady = steady; balance = λ b q. omega (arith, freed_all.bits b q) }

  -- "frees the inode and all it owns"
  dropped_card : DroppedCard l img gone n
  dropped_card =
      record {
        within = within_own;
        dropped = all_free;
        sound = sound_drop s h within_own all_free;
        bytes = freed_all.bytes;
        others = others_same s h within_own;
        kept = freed_all.kept;
        file =
            file_held img gone n
            (λ p u. block_kept (held img n p) (not_zero img l s n p h u) (λ e. not_map img l s n p h u 0 (omega (arith, one_map img l s n h)) e));
        free = λ p u.
            omega (arith, bit_below gone (held img n p), held-owned img n p u, freed_all.bits (held img n p) (held_below img l s n p h u));
        unused_is =
            omega (
              arith,
              freed_all.free,
              s.free,
              owns_total img l s n h,
              sum_to_add (map_bit img) (owns img n) (map_bit gone) (blocks img) freed_all.bits,
            );
      }

  -- e is any record with its block count and pointers
  pub drop_inode : (e : DiskINode) → e.head.blocks ≡ count img n → e.head.indirect.0 ≡ indirect img n → e.head.db_indirect.0 ≡ double img n
      → DroppedCard l img (dropped (blocks img) n e img) n
  unfolding dropped
  drop_inode e a p q = grind (arith, common_steps, shrunk_reads, dropped_card, count_below)
