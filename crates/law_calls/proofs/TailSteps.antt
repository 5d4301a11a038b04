-- "Bytes past its last block are never .. changed" (RULES): the steps of growth, shrinking and filling, on any bytes. Each lemma says that what leaves the
-- bytes past the blocks still does so after one more step; a step needs no more of the card than that the definitions test its numbers. Assumes nothing.
use mathlib.Core.Path.{◌≡◌, refl, ◌∙◌}
use mathlib.Core.Bool.{Bool}
use mathlib.Core.List.{List}
use Prim.Native.Nat.{ℕ, ◌+◌, ◌-◌, ◌*◌, ◌≤◌, ◌<◌, min}
use native.Mathlib.Omega.{arith}
use lib.Dec.{ltb}
use lib.ListN.{length, length-set}
use Rattle.std.proofs.lemmas.Grind.{common_steps}
use Rattle.words.specs.Words.{pick, word, put_word}
use Rattle.words.specs.Runs.{turns}
use Rattle.words.proofs.Numbers.{length-put, byte_out}
use Rattle.words.proofs.Runs.{byte-copied_off, byte-zeroed_off, turns_keep}
use Rattle.card_layout.specs.Sizes.{fewest}
use Rattle.card_layout.specs.Inode.{indirect, encoded, put_front, put_back}
use Rattle.card_layout.specs.Slots.{seconds}
use Rattle.card_layout.specs.declared.inode.DiskINode.{DiskINode}
use Rattle.card_layout.proofs.Words.{length-put_words, byte_out_words}
use Rattle.card_layout.proofs.InodeLaws.{byte_front_off, byte_back_off}
use Rattle.card_map.specs.Free.{taken, freed}
use Rattle.card_map.proofs.Laws.{length-taken_at, length-freed, byte-taken_at_off, byte-freed_off}
use Rattle.file_blocks.specs.Bytes.{put, piece_fill, run_fill, direct_fill, indirect_fill, level_fill, double_fill, filled}
use Rattle.file_blocks.specs.Taking.{Cursor, Growing, next_of, into_word, into_direct, moved, grow_run}
use Rattle.file_blocks.specs.Taking.{grow_indirect, grow_double, grow_level, grow_direct, grow_single, grow_part, grow_twofold, grown, freed_in}
use Rattle.file_blocks.specs.Taking.{free_run, free_direct, free_single, free_part, free_twofold, free_indirect, free_level, free_double, shrunk}
use Rattle.file_blocks.specs.Ranges.{parts_from, parts_to}
use Rattle.file_blocks.proofs.Picks.{pick-both}
use Rattle.file_blocks.proofs.Lengths.{length-put as length-piece}
use Rattle.file_blocks.proofs.Growth.{seconds_up, twofold_turn, twofold_run}
use Rattle.law_calls.specs.Tail.{Tailed}
use Rattle.law_calls.proofs.Both.{both_below}

pub tailed_refl : (nb : ℕ) (img : List ℕ) → Tailed nb img img
tailed_refl nb img = record { length_same = refl; past = λ j a. refl }

pub tailed_trans : {nb : ℕ} {img mid out : List ℕ} → Tailed nb img mid → Tailed nb mid out → Tailed nb img out
tailed_trans t u = record { length_same = u.length_same ∙ t.length_same; past = λ j a. u.past j a ∙ t.past j a }

-- one of two, where the test is known to hold for the first
pub below_keeps : {A : Type 0} (P : A → Type 0) (a b : ℕ) (x y : A) → (a < b → P x) → P y → P (pick (ltb a b) x y)
below_keeps P a b x y p q = both_below (λ x _. P x) a b x x y y p q

-- a pointer block lists no more than its 1,024 slots
pub seconds-few : (b : ℕ) → b < 1049612 → seconds b ≤ 1024
unfolding seconds
seconds-few b h = seconds_up b 1049611 (omega arith)

module _ (nb : ℕ) (few : fewest ≤ nb) (img : List ℕ) where
  -- ---- single stores

  tail_word : (at v : ℕ) (x : List ℕ) → at + 4 ≤ 4096 * nb → Tailed nb img x → Tailed nb img (put_word x at v)
  tail_word at v x l t =
      record { length_same = length-put 4 x at v ∙ t.length_same; past = λ j a. byte_out 4 x at v j (λ p q. omega arith) ∙ t.past j a }

  pub tail_encoded : (n : ℕ) (d : DiskINode) (x : List ℕ) → n < nb → length d.direct ≡ 12 → Tailed nb img x → Tailed nb img (encoded x n d)
  unfolding encoded put_front put_back
  tail_encoded n d x l e t = grind (arith, common_steps, length-put_words, length-put, byte_back_off, byte_out_words, byte_front_off)

  -- the unused count is in block 0, and the bit of a block of the card in the map
  pub tail_taken : (i : ℕ) (x : List ℕ) → Tailed nb img x → Tailed nb img (taken x i nb)
  unfolding taken
  tail_taken i x t = grind (arith, common_steps, length-taken_at, byte-taken_at_off)

  pub tail_freed : (b : ℕ) (x : List ℕ) → b < nb → Tailed nb img x → Tailed nb img (freed x b)
  tail_freed b x l t = grind (arith, common_steps, length-freed, byte-freed_off)

  tail_freed_in : (b : ℕ) (x : List ℕ) → Tailed nb img x → Tailed nb img (freed_in nb b x)
  tail_freed_in b x t = below_keeps (Tailed nb img) b nb (freed x b) x (λ l. tail_freed b x l t) t

  loop_keeps : (f : ℕ → List ℕ → List ℕ) (i k : ℕ) (x : List ℕ) → ((j : ℕ) (y : List ℕ) → Tailed nb img y → Tailed nb img (f j y)) → Tailed nb img x
      → Tailed nb img (turns f i k x)
  loop_keeps f i k x h t = turns_keep f i x (λ j y. Tailed nb img y) t k (λ j y l u. h (i + j) y u)

  -- ---- shrinking: frees blocks, and changes nothing else

  tail_free_run : (at k : ℕ) (x : List ℕ) → Tailed nb img x → Tailed nb img (free_run nb at k x)
  unfolding free_run
  tail_free_run at k x t = loop_keeps (λ j y. freed_in nb (word y (at + 4 * j)) y) 0 k x (λ j y u. tail_freed_in (word y (at + 4 * j)) y u) t

  tail_free_part : (s b a q : ℕ) (x : List ℕ) → Tailed nb img x → Tailed nb img (free_part nb s b a q x)
  unfolding free_part
  tail_free_part s b a q x t = pick-both (Tailed nb img) (ltb s nb) _ x (tail_free_run _ _ x t) t

  module _ (n : ℕ) (d : DiskINode) (b a : ℕ) (x : List ℕ) (t : Tailed nb img x) where
    tail_free_direct : Tailed nb img (free_direct nb n b a x)
    unfolding free_direct
    tail_free_direct = tail_free_run _ _ x t

    tail_free_single : Tailed nb img (free_single nb d b a x)
    unfolding free_single
    tail_free_single = pick-both (Tailed nb img) (ltb d.head.indirect.0 nb) _ x (tail_free_run _ _ x t) t

    tail_free_twofold : Tailed nb img (free_twofold nb d b a x)
    unfolding free_twofold
    tail_free_twofold = grind (arith, common_steps, loop_keeps, tail_free_part)

    tail_free_indirect : Tailed nb img (free_indirect nb d b a x)
    unfolding free_indirect
    tail_free_indirect =
        pick-both (Tailed nb img) (ltb b 12) _ x (pick-both (Tailed nb img) (ltb a 12) x _ t (tail_freed_in d.head.indirect.0 x t)) t

    tail_free_level : Tailed nb img (free_level nb d b a x)
    unfolding free_level
    tail_free_level = pick-both (Tailed nb img) (ltb d.head.db_indirect.0 nb) _ x (tail_free_run _ _ x t) t

    tail_free_double : Tailed nb img (free_double nb d b a x)
    unfolding free_double
    tail_free_double =
        pick-both (Tailed nb img) (ltb b 1036) _ x (pick-both (Tailed nb img) (ltb a 1036) x _ t (tail_freed_in d.head.db_indirect.0 x t)) t

  pub tail_shrunk : (n : ℕ) (d : DiskINode) (b a : ℕ) (x : List ℕ) → Tailed nb img x → Tailed nb img (shrunk nb n d b a x)
  unfolding shrunk
  tail_shrunk n d b a x t = grind (arith, common_steps, tail_free_double, tail_free_level, tail_free_indirect, tail_free_twofold, tail_free_single, tail_free_direct)

  -- ---- filling: a piece ends with its block

  tail_put : (z : Bool) (src : List ℕ) (at k from : ℕ) (x : List ℕ) → (0 < k → at + k ≤ 4096 * nb) → Tailed nb img x → Tailed nb img (put z src at k from x)
  tail_put z src at k from x l t = grind (arith, common_steps, length-piece, byte-zeroed_off, byte-copied_off)

  module _ (z : Bool) (src : List ℕ) (off end : ℕ) where
    tail_piece : (b j : ℕ) (x : List ℕ) → Tailed nb img x → Tailed nb img (piece_fill z src nb b off end j x)
    tail_piece b j x t = below_keeps (Tailed nb img) b nb _ x (λ l. tail_put z src _ _ _ x (λ p. omega arith) t) t

    tail_run : (at i e : ℕ) (x : List ℕ) → Tailed nb img x → Tailed nb img (run_fill z src nb at i e off end x)
    unfolding run_fill
    tail_run at i e x t = loop_keeps _ i (e - i) x (λ j y u. tail_piece (word y (at + 4 * (j - i))) j y u) t

    tail_level : (s q : ℕ) (x : List ℕ) → Tailed nb img x → Tailed nb img (level_fill z src nb s off end q x)
    unfolding level_fill
    tail_level s q x t = pick-both (Tailed nb img) (ltb s nb) _ x (tail_run _ _ _ x t) t

    tail_single : (n : ℕ) (x : List ℕ) → Tailed nb img x → Tailed nb img (indirect_fill z src nb n off end x)
    unfolding indirect_fill
    tail_single n x t = pick-both (Tailed nb img) (ltb (indirect x n) nb) _ x (tail_run _ _ _ x t) t

    tail_twofold : (n : ℕ) (x : List ℕ) → Tailed nb img x → Tailed nb img (double_fill z src nb n off end x)
    unfolding double_fill
    tail_twofold n x t = grind (arith, common_steps, loop_keeps, tail_level)

    pub tail_filled : (n : ℕ) (x : List ℕ) → Tailed nb img x → Tailed nb img (filled z src nb n off end x)
    unfolding filled direct_fill
    tail_filled n x t = tail_twofold n _ (tail_single n _ (tail_run _ _ _ x t))

  -- ---- growth: the blocks it takes, and the words of pointer blocks, which are of the card

  tail_into_word : (at : ℕ) (c : Cursor) → at + 4 ≤ 4096 * nb → Tailed nb img c.img → Tailed nb img (into_word nb at c).img
  tail_into_word at c l t = tail_word at (next_of nb c) (taken c.img c.from nb) l (tail_taken c.from c.img t)

  tail_grow_run : (at k : ℕ) (c : Cursor) → (0 < k → at + 4 * k ≤ 4096 * nb) → Tailed nb img c.img → Tailed nb img (grow_run nb at k c).img
  unfolding grow_run
  tail_grow_run at k c l t =
      turns_keep (λ j y. into_word nb (at + 4 * j) y) 0 c (λ j y. Tailed nb img y.img) t k
      (λ j y m u. tail_into_word (at + 4 * (0 + j)) y (omega (arith, l (omega arith))) u)

  tail_grow_part : (s a b q : ℕ) (c : Cursor) → Tailed nb img c.img → Tailed nb img (grow_part nb s a b q c).img
  unfolding grow_part
  tail_grow_part s a b q c t = grind (arith, common_steps, tail_grow_run)

  -- the card, and the record, which has twelve direct slots
  pub record Growable (g : Growing) : Type 0 where
    pub card : Tailed nb img g.cur.img
    pub twelve : length g.inode.direct ≡ 12

  module _ (a b : ℕ) (g : Growing) (t : Growable g) where
    card-taken : Tailed nb img (taken g.cur.img g.cur.from nb)
    card-taken = tail_taken g.cur.from g.cur.img t.card

    tail_grow_indirect : Growable (grow_indirect nb a b g)
    unfolding grow_indirect
    tail_grow_indirect = grind (arith, common_steps, card-taken)

    tail_grow_double : Growable (grow_double nb a b g)
    unfolding grow_double
    tail_grow_double = grind (arith, common_steps, card-taken)

    tail_grow_level : b < 1049612 → Growable (grow_level nb a b g)
    unfolding grow_level
    tail_grow_level h = grind (arith, common_steps, tail_grow_run, seconds-few)

    tail_grow_direct : Growable (grow_direct nb a b g)
    unfolding grow_direct
    tail_grow_direct =
        turns_keep (λ i x. into_direct nb i x) (min a 12) g (λ j x. Growable x) t (min b 12 - min a 12)
        (λ j x l u.
        record {
          card = tail_taken x.cur.from x.cur.img u.card;
          twelve = length-set x.inode.direct (min a 12 + j) _ ∙ u.twelve;
        })

    tail_grow_single : Growable (grow_single nb a b g)
    unfolding grow_single
    tail_grow_single = grind (arith, common_steps, tail_grow_run)

    tail_grow_twofold : Growable (grow_twofold nb a b g)
    unfolding grow_twofold
    tail_grow_twofold =
        let p = g.inode.head.db_indirect.0 in
        pick-both Growable (ltb p nb) (moved g (twofold_run nb a b g)) g
        (record {
          card =
              turns_keep (λ q x. twofold_turn nb p a b q x) (parts_from a) g.cur (λ j x. Tailed nb img x.img) t.card (parts_to b - parts_from a)
              (λ j x l u. tail_grow_part (word x.img (4096 * p + 4 * (parts_from a + j))) a b (parts_from a + j) x u);
          twelve = t.twelve;
        })
        t

  pub tail_grown : (a b : ℕ) (g : Growing) → b < 1049612 → Growable g → Growable (grown nb a b g)
  unfolding grown
  tail_grown a b g h t =
      tail_grow_twofold a b _
      (tail_grow_single a b _ (tail_grow_direct a b _ (tail_grow_level a b _ (tail_grow_double a b _ (tail_grow_indirect a b g t)) h)))
