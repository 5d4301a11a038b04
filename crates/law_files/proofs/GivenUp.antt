-- Shrinking frees the blocks that the inode does not use with the new block count, and changes nothing else. Assumes nothing.
use mathlib.Core.Path.{◌≡◌, sym, ap, ◌∙◌, subst}
use mathlib.Core.List.{List}
use Prim.Native.Nat.{ℕ, suc, ◌+◌, ◌-◌, ◌*◌, ◌/◌, ◌%◌, ◌≤◌, ◌<◌, min, max}
use native.Mathlib.Nat.{zero-add, add-zero, add-suc}
use native.Mathlib.Omega.{arith}
use native.Mathlib.Decide.{dec_lt}
use lib.Dec.{ltb}
use Rattle.std.proofs.lemmas.Grind.{common_steps}
use Rattle.words.specs.Words.{word, Bytes}
use Rattle.words.specs.Sums.{cnt}
use Rattle.words.specs.Runs.{turns}
use Rattle.words.proofs.Runs.{turns_keep}
use Rattle.card_layout.specs.Sizes.{maps_for}
use Rattle.card_layout.specs.Super.{blocks, maps}
use Rattle.card_layout.specs.Inode.{count, indirect, double}
use Rattle.card_layout.specs.Slots.{seconds}
use Rattle.card_layout.specs.declared.inode.FileType.{FileType}
use Rattle.card_layout.proofs.InodeLaws.{inode_at}
use Rattle.card_rules.specs.View.{slot, second, data_at, owns}
use Rattle.card_rules.specs.Whole.{Sound}
use Rattle.card_rules.specs.Places.{Place, at_inode, at_indirect, at_double, at_second, at_data, held, InUse}
use Rattle.card_rules.proofs.Views.{data_direct, data_indirect, data_double, seconds_some, seconds_many}
use Rattle.card_rules.proofs.Owners.{owns-uses, held_below, not_zero, not_map}
use Rattle.card_rules.proofs.Counting.{count_below}
use Rattle.card_rules.proofs.Frames.{seconds_fit}
use Rattle.file_blocks.specs.Ranges.{within, part_from, part_to, parts_from, parts_to}
use Rattle.file_blocks.specs.Inner.{Sizes}
use Rattle.file_blocks.specs.Taking.{free_run, free_direct, free_single, free_twofold, free_indirect, free_level, free_double, shrunk}
use Rattle.file_shrink.proofs.Freeing.{twofold_free, free_single_in, free_twofold_in, free_level_in, free_part_in}
use Rattle.file_grow.proofs.Runs.{Clear}
use Rattle.law_files.proofs.Tables.{block_clear, clear_in}
use Rattle.law_files.proofs.Freed.{Freed, Listed, Once, span, span_sum, span-most, span_join, freed_none, freed_is, num_kept, freed_run, freed_gap}
use Rattle.law_files.proofs.Losses.{up_to, parts_some, up_to_last, up_to-low, part_some, up_to_here, up_to_next, is_data, lost_direct, lost_single, lost_twofold, lost_indirect, lost_level, lost_double, lost, owns_lost}

module _ (img l : List ℕ) (s : Sound img l) (n : ℕ) (h : 0 < cnt n l) where
  pub sound_sizes : Sizes img (blocks img)
  sound_sizes = record { few = s.sized.few; many = s.sized.many; long = s.sized.long }

  -- the map is block 2
  pub one_map : maps img ≡ 1
  unfolding maps_for
  one_map = omega (arith, s.sized.mapped, s.sized.few, s.sized.many)

  pub place_clear : (p : Place) → InUse img n p → (at w : ℕ) → 4096 * held img n p ≤ at → at + w ≤ 4096 * held img n p + 4096 → Clear at w
  place_clear p u at w =
      clear_in (held img n p) at w (block_clear (held img n p) (not_zero img l s n p h u) (λ e. not_map img l s n p h u 0 (omega (arith, one_map)) e))

  -- where there is no pointer block, its number is 0
  pub indirect_below : indirect img n < blocks img
  indirect_below = go (dec_lt (count img n) 12)
    where
      go : Dec (count img n < 12) → indirect img n < blocks img
      go (yes q) = omega (arith, (s.inode n h).shape.single.to q, s.sized.few)
      go (no q) = held_below img l s n at_indirect h (omega arith)

  pub double_below : double img n < blocks img
  double_below = go (dec_lt (count img n) 1036)
    where
      go : Dec (count img n < 1036) → double img n < blocks img
      go (yes q) = omega (arith, (s.inode n h).shape.twofold.to q, s.sized.few)
      go (no q) = held_below img l s n at_double h (omega arith)

  few : count img n < 32768
  few = omega (arith, count_below img l s n h, s.sized.many)

  -- no block is free and n's, or n's twice
  pub once_owned : Once (blocks img) img (owns img n)
  once_owned = record { most = λ x q. omega (arith, owns-uses img l s n x h, s.once x q) }

  -- the words of a run of data blocks
  data_listed : (at i e : ℕ) → ((j : ℕ) → j < e - i → i + j < count img n) → ((j : ℕ) → j < e - i → Clear (at + 4 * j) 4)
      → ((j : ℕ) → j < e - i → word img (at + 4 * j) ≡ data_at img n (i + j)) → Listed (blocks img) img at (e - i) (λ j. data_at img n (i + j))
  data_listed at i e u c w = record { clear = c; lists = w; below = λ j q. held_below img l s n (at_data (i + j)) h (u j q) }

  -- those of the indirect block, from file block i up to e
  indirect_listed : (i e : ℕ) → 12 ≤ i → e ≤ 1036 → ((j : ℕ) → j < e - i → i + j < count img n)
      → Listed (blocks img) img (4096 * indirect img n + 4 * (i - 12)) (e - i) (λ j. data_at img n (i + j))
  indirect_listed i e a t u =
      data_listed (4096 * indirect img n + 4 * (i - 12)) i e u
      (λ j q. place_clear at_indirect (omega (arith, u j q)) (4096 * indirect img n + 4 * (i - 12) + 4 * j) 4 (omega arith) (omega arith))
      (λ j q.
      ap (word img) (let o : 4096 * indirect img n + 4 * (i - 12) + 4 * j ≡ 4096 * indirect img n + 4 * (i + j - 12) = omega arith in o)
      ∙ sym (data_indirect img n (i + j) (omega arith) (omega arith)))

  module _ (b : ℕ) (less : b ≤ count img n) where
    direct_listed : Listed (blocks img) img (4096 * n + 12 + 4 * min b 12) (min (count img n) 12 - min b 12) (λ j. data_at img n (min b 12 + j))
    direct_listed =
        data_listed (4096 * n + 12 + 4 * min b 12) (min b 12) (min (count img n) 12) (λ j q. omega arith)
        (λ j q. place_clear at_inode tt (4096 * n + 12 + 4 * min b 12 + 4 * j) 4 (omega arith) (omega arith))
        (λ j q.
        ap (word img) (let e : 4096 * n + 12 + 4 * min b 12 + 4 * j ≡ 4096 * n + 12 + 4 * (min b 12 + j) = omega arith in e)
        ∙ sym (data_direct img n (min b 12 + j) (omega arith)))

    single_listed : Listed (blocks img) img (4096 * indirect img n + 4 * (within 12 1036 b - 12)) (within 12 1036 (count img n) - within 12 1036 b)
        (λ j. data_at img n (within 12 1036 b + j))
    single_listed = indirect_listed (within 12 1036 b) (within 12 1036 (count img n)) (omega arith) (omega arith) (λ j q. omega arith)

    -- those of second-level block q
    part_listed : (q : ℕ) → 1036 + 1024 * q < count img n
        → Listed (blocks img) img (4096 * second img n q + 4 * (part_from b q - (1036 + 1024 * q))) (part_to (count img n) q - part_from b q)
        (λ j. data_at img n (part_from b q + j))
    part_listed q low =
        data_listed at (part_from b q) (part_to (count img n) q) (λ j r. omega arith)
        (λ j r. place_clear (at_second q) used (at + 4 * j) 4 (omega arith) (omega arith))
        (λ j r.
        let i : ℕ = part_from b q + j in
        let e : (i - 1036) / 1024 ≡ q = omega arith in
        let o : at + 4 * j ≡ 4096 * second img n q + 4 * ((i - 1036) % 1024) = omega arith in
        ap (word img) o
        ∙ ap (λ (x : ℕ). slot img (second img n x) ((i - 1036) % 1024)) (sym e)
        ∙ sym (data_double img n i (omega arith) (omega (arith, few))))
      where
        at : ℕ
        at = 4096 * second img n q + 4 * (part_from b q - (1036 + 1024 * q))

        used : q < seconds (count img n)
        used = omega (arith, seconds_some (count img n) (omega arith))

    level_listed : Listed (blocks img) img (4096 * double img n + 4 * seconds b) (seconds (count img n) - seconds b) (λ j. second img n (seconds b + j))
    level_listed =
        record {
          clear = λ j q.
              let t = seconds_fit (count img n) (seconds b + j) (omega (arith, few)) (omega arith) in
              place_clear at_double (seconds_many (count img n) (omega arith)) (4096 * double img n + 4 * seconds b + 4 * j) 4 (omega arith) (omega arith);
          lists = λ j q.
              ap (word img) (let e : 4096 * double img n + 4 * seconds b + 4 * j ≡ 4096 * double img n + 4 * (seconds b + j) = omega arith in e);
          below = λ j q. held_below img l s n (at_second (seconds b + j)) h (omega arith);
        }

    -- each step frees what it is to free
    module _ (gone : ℕ → ℕ) (cur : List ℕ) (f : Freed (blocks img) img gone cur) where
      step_direct : Once (blocks img) img (λ x. gone x + lost_direct img n x b)
          → Freed (blocks img) img (λ x. gone x + lost_direct img n x b) (free_direct (blocks img) n b (count img n) cur)
      unfolding free_direct
      step_direct o =
          freed_run (blocks img) img sound_sizes gone cur f (4096 * n + 12 + 4 * min b 12) (min (count img n) 12 - min b 12)
          (λ j. data_at img n (min b 12 + j)) direct_listed o

      module _ (k : FileType) where
        step_single : Once (blocks img) img (λ x. gone x + lost_single img n x b)
            → Freed (blocks img) img (λ x. gone x + lost_single img n x b) (free_single (blocks img) (inode_at img n k) b (count img n) cur)
        step_single o =
            rw (free_single_in (blocks img) (inode_at img n k) b (count img n) cur indirect_below)
            (freed_run (blocks img) img sound_sizes gone cur f (4096 * indirect img n + 4 * (within 12 1036 b - 12))
            (within 12 1036 (count img n) - within 12 1036 b) (λ j. data_at img n (within 12 1036 b + j)) single_listed o)

        step_level : Once (blocks img) img (λ x. gone x + lost_level img n x b)
            → Freed (blocks img) img (λ x. gone x + lost_level img n x b) (free_level (blocks img) (inode_at img n k) b (count img n) cur)
        step_level o =
            rw (free_level_in (blocks img) (inode_at img n k) b (count img n) cur double_below)
            (freed_run (blocks img) img sound_sizes gone cur f (4096 * double img n + 4 * seconds b) (seconds (count img n) - seconds b)
            (λ j. second img n (seconds b + j)) level_listed o)

        step_indirect : Once (blocks img) img (λ x. gone x + lost_indirect img n x b)
            → Freed (blocks img) img (λ x. gone x + lost_indirect img n x b) (free_indirect (blocks img) (inode_at img n k) b (count img n) cur)
        unfolding free_indirect
        step_indirect o = freed_gap (blocks img) img sound_sizes gone cur f (indirect img n) indirect_below (ltb b 12) (ltb (count img n) 12) o

        step_double : Once (blocks img) img (λ x. gone x + lost_double img n x b)
            → Freed (blocks img) img (λ x. gone x + lost_double img n x b) (free_double (blocks img) (inode_at img n k) b (count img n) cur)
        unfolding free_double
        step_double o = freed_gap (blocks img) img sound_sizes gone cur f (double img n) double_below (ltb b 1036) (ltb (count img n) 1036) o

    -- how often x is among the data of the second level that has been freed before its block q
    abbrev partly : ℕ → ℕ → ℕ
    partly x q = span (is_data img n x) (max b 1036) (up_to (count img n) b q)

    partly_next : (x q : ℕ) → parts_from b ≤ q → 1036 + 1024 * q < count img n
        → partly x (suc q) ≡ partly x q + span (is_data img n x) (part_from b q) (part_to (count img n) q)
    partly_next x q from low =
        let a = count img n in
        span_join (is_data img n x) (max b 1036) (up_to a b q) (part_from b q) (up_to a b (suc q)) (part_to a q) (up_to-low a b less q)
        (up_to_here a b less q from low) (up_to_next a b less q from low) (part_some a b less q from low)

    partly_most : (x q : ℕ) → partly x q ≤ lost_twofold img n x b
    partly_most x q = grind (arith, common_steps, span-most)

    partly_first : (x q : ℕ) → q ≡ parts_from b → partly x q ≡ 0
    partly_first x q e = grind (arith, common_steps, span_sum)

    partly_last : (x q : ℕ) → q ≡ parts_to (count img n) → partly x q ≡ lost_twofold img n x b
    partly_last x q e =
        ap (span (is_data img n x) (max b 1036)) (ap (up_to (count img n) b) e ∙ up_to_last (count img n) b less)

    -- a turn over the second level
    module _ (k : FileType) (gone : ℕ → ℕ) (o : Once (blocks img) img (λ x. gone x + lost_twofold img n x b)) where
      turn : (q : ℕ) (cur : List ℕ) → parts_from b ≤ q → q < parts_to (count img n) → Freed (blocks img) img (λ x. gone x + partly x q) cur
          → Freed (blocks img) img (λ x. gone x + partly x (suc q)) (twofold_free (blocks img) (double img n) b (count img n) q cur)
      turn q cur from to f =
          let a = count img n in
          let low : 1036 + 1024 * q < a = omega arith in
          let used : q < seconds a = omega (arith, seconds_some a (omega arith)) in
          let c = place_clear at_double (omega arith) (4096 * double img n + 4 * q) 4 (omega arith) (omega (arith, few)) in
          let g : ℕ → ℕ = λ x. gone x + partly x q in
          rw (
            num_kept (blocks img) img g cur 4 (4096 * double img n + 4 * q) f c,
            free_part_in (blocks img) (second img n q) b a q cur (held_below img l s n (at_second q) h used),
          )
          (freed_is (blocks img) img (λ x. g x + span (is_data img n x) (part_from b q) (part_to a q)) (λ x. gone x + partly x (suc q))
          (free_run (blocks img) (4096 * second img n q + 4 * (part_from b q - (1036 + 1024 * q))) (part_to a q - part_from b q) cur)
          (λ x. omega (arith, partly_next x q from low))
          (freed_run (blocks img) img sound_sizes g cur f (4096 * second img n q + 4 * (part_from b q - (1036 + 1024 * q)))
          (part_to a q - part_from b q) (λ j. data_at img n (part_from b q + j)) (part_listed q low)
          (record { most = λ x r. omega (arith, o.most x r, partly_next x q from low, partly_most x (suc q)) })))

      step_twofold : (cur : List ℕ) → Freed (blocks img) img gone cur
          → Freed (blocks img) img (λ x. gone x + lost_twofold img n x b) (free_twofold (blocks img) (inode_at img n k) b (count img n) cur)
      step_twofold cur f =
          let a = count img n in
          let i = parts_from b in
          let t : ℕ → List ℕ → List ℕ = λ q y. twofold_free (blocks img) (double img n) b a q y in
          let end : i + (parts_to a - i) ≡ parts_to a = omega (arith, parts_some a b less) in
          rw (free_twofold_in (blocks img) (inode_at img n k) b a cur double_below)
          (freed_is (blocks img) img (λ x. gone x + partly x (i + (parts_to a - i))) (λ x. gone x + lost_twofold img n x b) (turns t i (parts_to a - i) cur)
          (λ x. omega (arith, partly_last x (i + (parts_to a - i)) end))
          (turns_keep t i cur (λ j y. Freed (blocks img) img (λ x. gone x + partly x (i + j)) y)
          (freed_is (blocks img) img gone (λ x. gone x + partly x (i + 0)) cur (λ x. omega (arith, partly_first x (i + 0) (add-zero i))) f)
          (parts_to a - i)
          (λ j y r g.
          subst (λ (q : ℕ). Freed (blocks img) img (λ x. gone x + partly x q) (t (i + j) y)) (sym (add-suc i j))
          (turn (i + j) y (omega arith) (omega arith) g))))

    -- all that n does not use with b blocks
    pub shrunk_freed : Bytes img → (k : FileType)
        → Freed (blocks img) img (λ x. lost img n x b) (shrunk (blocks img) n (inode_at img n k) b (count img n) img)
    unfolding shrunk
    shrunk_freed bytes k =
        let a = count img n in
        let nb = blocks img in
        let d = inode_at img n k in
        let x₁ = free_direct nb n b a img in
        let x₂ = free_single nb d b a x₁ in
        let x₃ = free_twofold nb d b a x₂ in
        let x₄ = free_indirect nb d b a x₃ in
        let x₅ = free_level nb d b a x₄ in
        let g₁ : ℕ → ℕ = λ x. lost_direct img n x b in
        let g₂ : ℕ → ℕ = λ x. g₁ x + lost_single img n x b in
        let g₃ : ℕ → ℕ = λ x. g₂ x + lost_twofold img n x b in
        let g₄ : ℕ → ℕ = λ x. g₃ x + lost_indirect img n x b in
        let g₅ : ℕ → ℕ = λ x. g₄ x + lost_level img n x b in
        let f₁ : Freed nb img g₁ x₁
        = freed_is nb img (λ x. 0 + g₁ x) g₁ x₁ (λ x. sym (zero-add (g₁ x)))
        (step_direct (λ x. 0) img (freed_none nb img bytes s.free) (some (λ x. 0 + g₁ x) (λ x. omega arith))) in
        let f₂ : Freed nb img g₂ x₂ = step_single g₁ x₁ f₁ k (some g₂ (λ x. omega arith)) in
        let f₃ : Freed nb img g₃ x₃ = step_twofold k g₂ (some g₃ (λ x. omega arith)) x₂ f₂ in
        let f₄ : Freed nb img g₄ x₄ = step_indirect g₃ x₃ f₃ k (some g₄ (λ x. omega arith)) in
        let f₅ : Freed nb img g₅ x₅ = step_level g₄ x₄ f₄ k (some g₅ (λ x. omega arith)) in
        step_double g₅ x₅ f₅ k (some (λ x. lost img n x b) (λ x. omega arith))
      where
        some : (g : ℕ → ℕ) → ((x : ℕ) → g x ≤ lost img n x b) → Once (blocks img) img g
        some g le = record { most = λ x q. omega (arith, le x, owns_lost img n x b less, once_owned.most x q) }
