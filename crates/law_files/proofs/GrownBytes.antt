-- A growth leaves a card of bytes one of bytes. Assumes nothing.
use Prim.Native.Nat.{ℕ, ◌+◌, ◌-◌, ◌*◌, min}
use native.Mathlib.Omega.{arith}
use lib.Dec.{ltb}
use Rattle.std.proofs.lemmas.Grind.{common_steps}
use Rattle.words.specs.Words.{pick, word, Bytes}
use Rattle.words.proofs.Numbers.{bytes_put}
use Rattle.words.proofs.Runs.{turns_keep}
use Rattle.card_map.proofs.Laws.{bytes_taken}
use Rattle.file_blocks.specs.Taking.{Cursor, Growing, next_of, took_next, into_word, into_direct, into_indirect, into_double, moved}
use Rattle.file_blocks.specs.Taking.{grow_run, grow_indirect, grow_double, grow_level, grow_direct, grow_single, grow_part, grow_twofold, grown}
use Rattle.file_blocks.specs.Ranges.{parts_from, parts_to}
use Rattle.file_blocks.proofs.Picks.{pick-both}
use Rattle.file_blocks.proofs.Growth.{level_run, single_run, twofold_turn, twofold_run}

module _ (nb : ℕ) where
  bytes_into_word : (at : ℕ) (c : Cursor) → Bytes c.img → Bytes (into_word nb at c).img
  bytes_into_word at c h = bytes_put 4 _ at (next_of nb c) (bytes_taken c.img c.from nb h)

  bytes_grow_run : (at k : ℕ) (c : Cursor) → Bytes c.img → Bytes (grow_run nb at k c).img
  unfolding grow_run
  bytes_grow_run at k c h =
      turns_keep (λ j x. into_word nb (at + 4 * j) x) 0 c (λ j x. Bytes x.img) h k (λ j x l p. bytes_into_word (at + 4 * (0 + j)) x p)

  bytes_grow_part : (s a b q : ℕ) (c : Cursor) → Bytes c.img → Bytes (grow_part nb s a b q c).img
  unfolding grow_part
  bytes_grow_part s a b q c h = grind (arith, common_steps, bytes_grow_run)

module _ (nb a b : ℕ) (g : Growing) (h : Bytes g.cur.img) where
  Good : Growing → Type 0
  Good x = Bytes x.cur.img

  took : Bytes (took_next nb g.cur).img
  took = bytes_taken g.cur.img g.cur.from nb h

  bytes_grow_indirect : Bytes (grow_indirect nb a b g).cur.img
  unfolding grow_indirect Good
  bytes_grow_indirect =
      pick-both Good (ltb a 12) (pick (ltb b 12) g (into_indirect nb g)) g (pick-both Good (ltb b 12) g (into_indirect nb g) h took) h

  bytes_grow_double : Bytes (grow_double nb a b g).cur.img
  unfolding grow_double Good
  bytes_grow_double =
      pick-both Good (ltb a 1036) (pick (ltb b 1036) g (into_double nb g)) g (pick-both Good (ltb b 1036) g (into_double nb g) h took) h

  bytes_grow_level : Bytes (grow_level nb a b g).cur.img
  unfolding grow_level Good
  bytes_grow_level =
      pick-both Good (ltb g.inode.head.db_indirect.0 nb) (moved g (level_run nb a b g)) g (bytes_grow_run nb _ _ g.cur h) h

  bytes_grow_direct : Bytes (grow_direct nb a b g).cur.img
  unfolding grow_direct
  bytes_grow_direct =
      turns_keep (λ i x. into_direct nb i x) (min a 12) g (λ j x. Bytes x.cur.img) h (min b 12 - min a 12)
      (λ j x l p. bytes_taken x.cur.img x.cur.from nb p)

  bytes_grow_single : Bytes (grow_single nb a b g).cur.img
  unfolding grow_single Good
  bytes_grow_single =
      pick-both Good (ltb g.inode.head.indirect.0 nb) (moved g (single_run nb a b g)) g (bytes_grow_run nb _ _ g.cur h) h

  bytes_grow_twofold : Bytes (grow_twofold nb a b g).cur.img
  unfolding grow_twofold Good
  bytes_grow_twofold =
      let p = g.inode.head.db_indirect.0 in
      pick-both Good (ltb p nb) (moved g (twofold_run nb a b g)) g
      (turns_keep (λ q x. twofold_turn nb p a b q x) (parts_from a) g.cur (λ j x. Bytes x.img) h (parts_to b - parts_from a)
      (λ j x l e. bytes_grow_part nb (word x.img (4096 * p + 4 * (parts_from a + j))) a b (parts_from a + j) x e))
      h

pub bytes_grown : (nb a b : ℕ) (g : Growing) → Bytes g.cur.img → Bytes (grown nb a b g).cur.img
unfolding grown
bytes_grown nb a b g h = grind (arith, common_steps, bytes_grow_twofold, bytes_grow_single, bytes_grow_direct, bytes_grow_level, bytes_grow_double, bytes_grow_indirect)
