-- "Bytes past its last block are never read" (RULES): the steps of growth, shrinking and filling, on two cards with the same blocks. Each lemma says that the
-- same step leaves the blocks of both the same. A store needs nothing for that; a read must be of the blocks, which the definitions' own tests give, once
-- no range of slots goes past the last one. Assumes nothing.
use mathlib.Core.Path.{◌≡◌, refl, sym, ap}
use mathlib.Core.Bool.{Bool, true, false}
use mathlib.Core.List.{List, [], ◌∷◌}
use Prim.Native.Nat.{ℕ, zero, suc, ◌+◌, ◌-◌, ◌*◌, ◌/◌, ◌%◌, ◌≤◌, ◌<◌, min}
use native.Mathlib.Omega.{arith}
use lib.Dec.{ltb}
use lib.ListN.{set}
use Rattle.std.proofs.lemmas.Grind.{common_steps}
use Rattle.words.specs.Words.{pick, byte, num, word, put_num, put_word}
use Rattle.words.specs.Runs.{puts, copied, zeroed}
use Rattle.words.proofs.Numbers.{num_frame}
use Rattle.card_layout.specs.Sizes.{fewest}
use Rattle.card_layout.specs.Super.{unused}
use Rattle.card_layout.specs.declared.BlockId.{BlockId}
use Rattle.card_layout.specs.Inode.{indirect, double, directs, put_words, encoded, put_front, put_back, with_direct, with_indirect, with_double}
use Rattle.card_layout.specs.declared.inode.DiskINode.{DiskINode}
use Rattle.card_layout.proofs.Words.{words_frame}
use Rattle.card_map.specs.Bits.{map_byte, map_bit, clear_bit, set_bit}
use Rattle.card_map.specs.Free.{lowest, taken_at, taken, freed}
use Rattle.card_map.proofs.Map.{bit_is}
use Rattle.card_map.proofs.Laws.{lowest_cong}
use Rattle.file_blocks.specs.Bytes.{put, after_of, piece_fill, run_fill, direct_fill, indirect_fill, level_fill, double_fill, filled}
use Rattle.file_blocks.specs.Inner.{levels_from, levels_to}
use Rattle.file_blocks.specs.Taking.{Cursor, Growing, next_free, next_of, took_next, into_word, into_direct, into_indirect, into_double, moved}
use Rattle.file_blocks.specs.Taking.{grow_run, grow_indirect, grow_double, grow_level, grow_direct, grow_single, grow_part, grow_twofold, grown, freed_in}
use Rattle.file_blocks.specs.Taking.{free_run, free_direct, free_single, free_part, free_twofold, free_indirect, free_level, free_double, shrunk}
use Rattle.file_blocks.specs.Ranges.{parts_from, parts_to}
use Rattle.file_blocks.proofs.Growth.{part_run, twofold_turn}
use Rattle.law_calls.specs.Tail.{Twin}
use Rattle.law_calls.proofs.Both.{both_below, both_pick, both_turns}
use Rattle.law_calls.proofs.TailSteps.{seconds-few}

-- ---- stores: the same bytes at the same place, wherever that is; in the blocks it is a place of both

module _ {nb : ℕ} where
  twin_set : (at v : ℕ) {x y : List ℕ} → Twin nb x y → Twin nb (set x at v) (set y at v)
  twin_set at v {x} {y} t = grind (arith, common_steps)

  twin_num : (n at v : ℕ) {x y : List ℕ} → Twin nb x y → Twin nb (put_num n x at v) (put_num n y at v)
  unfolding put_num
  twin_num zero at v t = t
  twin_num (suc n) at v t = twin_num n (at + 1) (v / 256) (twin_set at (v % 256) t)

  twin_put_word : (at v : ℕ) {x y : List ℕ} → Twin nb x y → Twin nb (put_word x at v) (put_word y at v)
  twin_put_word at v t = twin_num 4 at v t

  twin_put_words : (at : ℕ) (ws : List BlockId) {x y : List ℕ} → Twin nb x y → Twin nb (put_words x at ws) (put_words y at ws)
  unfolding put_words
  twin_put_words at [] t = t
  twin_put_words at (w ∷ ws) t = twin_put_words (at + 4) ws (twin_put_word at w.0 t)

  twin_puts : (addr f : ℕ → ℕ) (n : ℕ) {x y : List ℕ} → Twin nb x y → Twin nb (puts x addr f n) (puts y addr f n)
  unfolding puts
  twin_puts addr f zero t = t
  twin_puts addr f (suc n) t = twin_set (addr n) (f n) (twin_puts addr f n t)

  twin_put : (z : Bool) (src : List ℕ) (at k from : ℕ) {x y : List ℕ} → Twin nb x y → Twin nb (put z src at k from x) (put z src at k from y)
  unfolding copied zeroed
  twin_put true src at k from t = twin_puts (λ j. at + j) (λ j. 0) k t
  twin_put false src at k from t = twin_puts (λ j. at + j) (λ j. byte src (from + j)) k t

  pub twin_encoded : (n : ℕ) (d : DiskINode) {x y : List ℕ} → Twin nb x y → Twin nb (encoded x n d) (encoded y n d)
  unfolding encoded put_front put_back
  twin_encoded n d t =
      twin_num 8 _ _ (twin_num 4 _ _ (twin_num 4 _ _ (twin_num 4 _ _
      (twin_put_words _ d.direct (twin_num 4 _ _ (twin_num 2 _ _ (twin_num 2 _ _ (twin_num 4 _ _ t))))))))

module _ (nb : ℕ) (few : fewest ≤ nb) where
  -- ---- reads, of the blocks

  num_twin : (n at : ℕ) {x y : List ℕ} → at + n ≤ 4096 * nb → Twin nb x y → num n x at ≡ num n y at
  num_twin n at {x} {y} l t = num_frame n x y at (λ k p q. sym (t.below k (omega arith)))

  pub word_twin : (at : ℕ) {x y : List ℕ} → at + 4 ≤ 4096 * nb → Twin nb x y → word x at ≡ word y at
  word_twin at l t = num_twin 4 at l t

  -- slot k of block p
  pub slot_twin : (p k : ℕ) {x y : List ℕ} → p < nb → k < 1024 → Twin nb x y → word x (4096 * p + 4 * k) ≡ word y (4096 * p + 4 * k)
  slot_twin p k l m t = word_twin (4096 * p + 4 * k) (omega arith) t

  pub indirect_twin : (n : ℕ) {x y : List ℕ} → n < nb → Twin nb x y → indirect x n ≡ indirect y n
  indirect_twin n l t = word_twin (4096 * n + 60) (omega arith) t

  pub double_twin : (n : ℕ) {x y : List ℕ} → n < nb → Twin nb x y → double x n ≡ double y n
  double_twin n l t = word_twin (4096 * n + 64) (omega arith) t

  pub directs_twin : (n : ℕ) {x y : List ℕ} → n < nb → Twin nb x y → directs x n ≡ directs y n
  directs_twin n {x} {y} l t = words_frame 12 x y (4096 * n + 12) (λ i m. word_twin (4096 * n + 12 + 4 * i) (omega arith) t)

  pub unused_twin : {x y : List ℕ} → Twin nb x y → unused x ≡ unused y
  unused_twin t = word_twin 8 (omega arith) t

  -- the map's bits of the card are in its blocks
  map_byte_twin : (b : ℕ) {x y : List ℕ} → b < nb → Twin nb x y → byte y (map_byte b) ≡ byte x (map_byte b)
  map_byte_twin b l t = t.below (map_byte b) (omega arith)

  bit_twin : (b : ℕ) {x y : List ℕ} → b < nb → Twin nb x y → map_bit x b ≡ map_bit y b
  bit_twin b {x} {y} l t = bit_is y x b (sym (map_byte_twin b l t))

  lowest_twin : (i : ℕ) {x y : List ℕ} → Twin nb x y → lowest x i nb ≡ lowest y i nb
  lowest_twin i {x} {y} t = lowest_cong y x i nb (λ k p l. bit_twin k l t)

  pub next_free_twin : (i : ℕ) {x y : List ℕ} → Twin nb x y → next_free nb x i ≡ next_free nb y i
  unfolding next_free
  next_free_twin i t = ap (λ (b : ℕ). pick (ltb b nb) b 0) (lowest_twin i t)

  -- ---- taking and freeing

  twin_taken_at : (b : ℕ) {x y : List ℕ} → b < nb → Twin nb x y → Twin nb (taken_at x b) (taken_at y b)
  unfolding taken_at clear_bit
  twin_taken_at b l t =
      rw (← unused_twin t, ← bit_twin b l t, map_byte_twin b l t) (twin_put_word _ _ (twin_set _ _ t))

  pub twin_taken : (i : ℕ) {x y : List ℕ} → Twin nb x y → Twin nb (taken x i nb) (taken y i nb)
  unfolding taken
  twin_taken i {x} {y} t =
      rw (← lowest_twin i t) (both_below (Twin nb) (lowest x i nb) nb _ _ x y (λ l. twin_taken_at (lowest x i nb) l t) t)

  pub twin_freed : (b : ℕ) {x y : List ℕ} → b < nb → Twin nb x y → Twin nb (freed x b) (freed y b)
  unfolding freed set_bit
  twin_freed b l t =
      rw (← unused_twin t, ← bit_twin b l t, map_byte_twin b l t) (twin_put_word _ _ (twin_set _ _ t))

  twin_freed_in : (b : ℕ) {x y : List ℕ} → Twin nb x y → Twin nb (freed_in nb b x) (freed_in nb b y)
  twin_freed_in b {x} {y} t = both_below (Twin nb) b nb (freed x b) (freed y b) x y (λ l. twin_freed b l t) t

  -- ---- shrinking

  twin_free_run : (at k : ℕ) {x y : List ℕ} → (0 < k → at + 4 * k ≤ 4096 * nb) → Twin nb x y → Twin nb (free_run nb at k x) (free_run nb at k y)
  unfolding free_run
  twin_free_run at k {x} {y} l t =
      both_turns (Twin nb) _ _ 0 x y t k
      (λ j u v m r.
      rw (← word_twin (at + 4 * (0 + j)) (omega (arith, l (omega arith))) r) (twin_freed_in (word u (at + 4 * (0 + j))) r))

  twin_free_part : (s b a q : ℕ) {x y : List ℕ} → Twin nb x y → Twin nb (free_part nb s b a q x) (free_part nb s b a q y)
  unfolding free_part
  twin_free_part s b a q {x} {y} t = both_below (Twin nb) s nb _ _ x y (λ l. twin_free_run _ _ (λ p. omega arith) t) t

  module _ (n : ℕ) (d : DiskINode) (b a : ℕ) {x y : List ℕ} (t : Twin nb x y) where
    twin_free_direct : n < nb → Twin nb (free_direct nb n b a x) (free_direct nb n b a y)
    unfolding free_direct
    twin_free_direct l = twin_free_run _ _ (λ p. omega arith) t

    twin_free_single : Twin nb (free_single nb d b a x) (free_single nb d b a y)
    unfolding free_single
    twin_free_single = both_below (Twin nb) d.head.indirect.0 nb _ _ x y (λ l. twin_free_run _ _ (λ p. omega arith) t) t

    twin_free_twofold : a < 1049612 → Twin nb (free_twofold nb d b a x) (free_twofold nb d b a y)
    unfolding free_twofold
    twin_free_twofold h =
        let p = d.head.db_indirect.0 in
        both_below (Twin nb) p nb _ _ x y
        (λ l.
        both_turns (Twin nb) _ _ (parts_from b) x y t (parts_to a - parts_from b)
        (λ j u v m r.
        rw (← slot_twin p (parts_from b + j) l (omega arith) r) (twin_free_part (word u (4096 * p + 4 * (parts_from b + j))) b a (parts_from b + j) r)))
        t

    twin_free_indirect : Twin nb (free_indirect nb d b a x) (free_indirect nb d b a y)
    unfolding free_indirect
    twin_free_indirect = both_pick (Twin nb) (ltb b 12) _ _ x y (both_pick (Twin nb) (ltb a 12) x y _ _ t (twin_freed_in d.head.indirect.0 t)) t

    twin_free_level : a < 1049612 → Twin nb (free_level nb d b a x) (free_level nb d b a y)
    unfolding free_level
    twin_free_level h =
        both_below (Twin nb) d.head.db_indirect.0 nb _ _ x y (λ l. twin_free_run _ _ (λ p. omega (arith, seconds-few a h)) t) t

    twin_free_double : Twin nb (free_double nb d b a x) (free_double nb d b a y)
    unfolding free_double
    twin_free_double =
        both_pick (Twin nb) (ltb b 1036) _ _ x y (both_pick (Twin nb) (ltb a 1036) x y _ _ t (twin_freed_in d.head.db_indirect.0 t)) t

  pub twin_shrunk : (n : ℕ) (d : DiskINode) (b a : ℕ) {x y : List ℕ} → n < nb → a < 1049612 → Twin nb x y → Twin nb (shrunk nb n d b a x) (shrunk nb n d b a y)
  unfolding shrunk
  twin_shrunk n d b a l h t = grind (arith, common_steps, twin_free_double, twin_free_level, twin_free_indirect, twin_free_twofold, twin_free_single, twin_free_direct)

  -- ---- filling

  module _ (z : Bool) (src : List ℕ) (off end : ℕ) where
    twin_piece : (b j : ℕ) {x y : List ℕ} → Twin nb x y → Twin nb (piece_fill z src nb b off end j x) (piece_fill z src nb b off end j y)
    twin_piece b j {x} {y} t = both_below (Twin nb) b nb _ _ x y (λ l. twin_put z src _ _ _ t) t

    twin_run : (at i e : ℕ) {x y : List ℕ} → (0 < e - i → at + 4 * (e - i) ≤ 4096 * nb) → Twin nb x y
        → Twin nb (run_fill z src nb at i e off end x) (run_fill z src nb at i e off end y)
    unfolding run_fill
    twin_run at i e {x} {y} l t =
        both_turns (Twin nb) _ _ i x y t (e - i)
        (λ j u v m r.
        rw (← word_twin (at + 4 * (i + j - i)) (omega (arith, l (omega arith))) r) (twin_piece (word u (at + 4 * (i + j - i))) (i + j) r))

    twin_level : (s q : ℕ) {x y : List ℕ} → Twin nb x y → Twin nb (level_fill z src nb s off end q x) (level_fill z src nb s off end q y)
    unfolding level_fill
    twin_level s q {x} {y} t = both_below (Twin nb) s nb _ _ x y (λ l. twin_run _ _ _ (λ p. omega arith) t) t

    twin_direct : (n : ℕ) {x y : List ℕ} → n < nb → Twin nb x y → Twin nb (direct_fill z src nb n off end x) (direct_fill z src nb n off end y)
    unfolding direct_fill
    twin_direct n l t = twin_run _ _ _ (λ p. omega arith) t

    twin_single : (n : ℕ) {x y : List ℕ} → n < nb → Twin nb x y → Twin nb (indirect_fill z src nb n off end x) (indirect_fill z src nb n off end y)
    unfolding indirect_fill
    twin_single n {x} {y} l t =
        rw (← indirect_twin n l t) (both_below (Twin nb) (indirect x n) nb _ _ x y (λ m. twin_run _ _ _ (λ p. omega arith) t) t)

    twin_twofold : (n : ℕ) {x y : List ℕ} → n < nb → after_of end ≤ 1049612 → Twin nb x y
        → Twin nb (double_fill z src nb n off end x) (double_fill z src nb n off end y)
    unfolding double_fill
    twin_twofold n {x} {y} l h t =
        let p = double x n in
        rw (← double_twin n l t)
        (both_below (Twin nb) p nb _ _ x y
        (λ m.
        both_turns (Twin nb) _ _ (levels_from off) x y t (levels_to end - levels_from off)
        (λ j u v k r.
        rw (← slot_twin p (levels_from off + j) m (omega arith) r)
        (twin_level (word u (4096 * p + 4 * (levels_from off + j))) (levels_from off + j) r)))
        t)

    -- the premise: that no block past a file's last slot is filled
    pub twin_filled : (n : ℕ) {x y : List ℕ} → n < nb → after_of end ≤ 1049612 → Twin nb x y
        → Twin nb (filled z src nb n off end x) (filled z src nb n off end y)
    unfolding filled
    twin_filled n l h t = twin_twofold n l h (twin_single n l (twin_direct n l t))

  -- ---- growth

  pub record TwinCursors (c c' : Cursor) : Type 0 where
    pub cards : Twin nb c.img c'.img
    pub starts : c.from ≡ c'.from

  pub record TwinGrowing (g g' : Growing) : Type 0 where
    pub cursors : TwinCursors g.cur g'.cur
    pub records : g.inode ≡ g'.inode

  next_same : (c c' : Cursor) → TwinCursors c c' → next_of nb c ≡ next_of nb c'
  next_same c c' t = rw (← t.starts) (next_free_twin c.from t.cards)

  took_same : (c c' : Cursor) → TwinCursors c c' → Twin nb (taken c.img c.from nb) (taken c'.img c'.from nb)
  took_same c c' t = rw (← t.starts) (twin_taken c.from t.cards)

  twin_took_next : (c c' : Cursor) → TwinCursors c c' → TwinCursors (took_next nb c) (took_next nb c')
  twin_took_next c c' t = record { cards = took_same c c' t; starts = ap (λ (b : ℕ). b + 1) (next_same c c' t) }

  twin_into_word : (at : ℕ) (c c' : Cursor) → TwinCursors c c' → TwinCursors (into_word nb at c) (into_word nb at c')
  twin_into_word at c c' t =
      record {
        cards = rw (← next_same c c' t) (twin_put_word at (next_of nb c) (took_same c c' t));
        starts = ap (λ (b : ℕ). b + 1) (next_same c c' t);
      }

  twin_grow_run : (at k : ℕ) (c c' : Cursor) → TwinCursors c c' → TwinCursors (grow_run nb at k c) (grow_run nb at k c')
  unfolding grow_run
  twin_grow_run at k c c' t = both_turns TwinCursors _ _ 0 c c' t k (λ j u v l r. twin_into_word (at + 4 * (0 + j)) u v r)

  twin_grow_part : (s a b q : ℕ) (c c' : Cursor) → TwinCursors c c' → TwinCursors (grow_part nb s a b q c) (grow_part nb s a b q c')
  unfolding grow_part
  twin_grow_part s a b q c c' t =
      both_pick TwinCursors (ltb s nb) (part_run nb s a b q c) (part_run nb s a b q c') c c' (twin_grow_run _ _ c c' t) t

  module _ (g g' : Growing) (t : TwinGrowing g g') where
    -- with one record for both
    onward : {c c' : Cursor} → TwinCursors c c' → TwinGrowing (moved g c) (moved g c')
    onward r = record { cursors = r; records = refl }

    -- the record with the block that is taken next
    with_next : (f : DiskINode → ℕ → DiskINode) → f g.inode (next_of nb g.cur) ≡ f g'.inode (next_of nb g'.cur)
    with_next f = rw (← t.records, next_same _ _ t.cursors)

  module _ (a b : ℕ) (g g' : Growing) (t : TwinGrowing g g') where
    twin_grow_indirect : TwinGrowing (grow_indirect nb a b g) (grow_indirect nb a b g')
    unfolding grow_indirect
    twin_grow_indirect =
        both_pick TwinGrowing (ltb a 12) _ _ g g'
        (both_pick TwinGrowing (ltb b 12) g g' (into_indirect nb g) (into_indirect nb g') t
        (record { cursors = twin_took_next _ _ t.cursors; records = with_next g g' t with_indirect }))
        t

    twin_grow_double : TwinGrowing (grow_double nb a b g) (grow_double nb a b g')
    unfolding grow_double
    twin_grow_double =
        both_pick TwinGrowing (ltb a 1036) _ _ g g'
        (both_pick TwinGrowing (ltb b 1036) g g' (into_double nb g) (into_double nb g') t
        (record { cursors = twin_took_next _ _ t.cursors; records = with_next g g' t with_double }))
        t

    twin_grow_level : TwinGrowing (grow_level nb a b g) (grow_level nb a b g')
    unfolding grow_level
    twin_grow_level =
        rw (← t.records)
        (both_pick TwinGrowing (ltb g.inode.head.db_indirect.0 nb) _ _ g (moved g g'.cur)
        (onward g g' t (twin_grow_run _ _ _ _ t.cursors)) (onward g g' t t.cursors))

    twin_grow_direct : TwinGrowing (grow_direct nb a b g) (grow_direct nb a b g')
    unfolding grow_direct
    twin_grow_direct =
        both_turns TwinGrowing (λ i x. into_direct nb i x) (λ i x. into_direct nb i x) (min a 12) g g' t (min b 12 - min a 12)
        (λ j u v l r.
        record { cursors = twin_took_next _ _ r.cursors; records = with_next u v r (λ d w. with_direct d (min a 12 + j) w) })

    twin_grow_single : TwinGrowing (grow_single nb a b g) (grow_single nb a b g')
    unfolding grow_single
    twin_grow_single =
        rw (← t.records)
        (both_pick TwinGrowing (ltb g.inode.head.indirect.0 nb) _ _ g (moved g g'.cur)
        (onward g g' t (twin_grow_run _ _ _ _ t.cursors)) (onward g g' t t.cursors))

    twin_grow_twofold : b < 1049612 → TwinGrowing (grow_twofold nb a b g) (grow_twofold nb a b g')
    unfolding grow_twofold
    twin_grow_twofold h =
        let p = g.inode.head.db_indirect.0 in
        rw (← t.records)
        (both_below TwinGrowing p nb _ _ g (moved g g'.cur)
        (λ l.
        onward g g' t
        (both_turns TwinCursors (λ q x. twofold_turn nb p a b q x) (λ q x. twofold_turn nb p a b q x) (parts_from a) g.cur g'.cur t.cursors
        (parts_to b - parts_from a)
        (λ j u v m r.
        rw (← slot_twin p (parts_from a + j) l (omega arith) r.cards)
        (twin_grow_part (word u.img (4096 * p + 4 * (parts_from a + j))) a b (parts_from a + j) u v r))))
        (onward g g' t t.cursors))

  pub twin_grown : (a b : ℕ) (g g' : Growing) → b < 1049612 → TwinGrowing g g' → TwinGrowing (grown nb a b g) (grown nb a b g')
  unfolding grown
  twin_grown a b g g' h t =
      twin_grow_twofold a b _ _
      (twin_grow_single a b _ _ (twin_grow_direct a b _ _ (twin_grow_level a b _ _ (twin_grow_double a b _ _ (twin_grow_indirect a b g g' t)))))
      h
