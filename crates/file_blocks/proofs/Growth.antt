-- The laws of growth: by which tests its steps go, the card's length, where the next search goes on, and what becomes of the record. Assumes nothing.
use mathlib.Core.Path.{◌≡◌, refl, ap, ◌∙◌}
use mathlib.Core.Bool.{Bool, true, false}
use mathlib.Core.List.{List}
use Prim.Native.Nat.{ℕ, ◌+◌, ◌-◌, ◌*◌, ◌/◌, ◌≤◌, ◌<◌, min}
use native.Mathlib.Nat.{zero-add}
use native.Mathlib.Numerals.{add-one}
use native.Mathlib.Omega.{arith}
use native.Mathlib.Decide.{dec_lt}
use lib.Dec.{ltb}
use lib.ListN.{length, length-set}
use Rattle.words.specs.Words.{pick, word}
use Rattle.words.specs.Runs.{turns}
use Rattle.words.proofs.Numbers.{length-put}
use Rattle.words.proofs.Runs.{turns_keep}
use Rattle.card_layout.specs.Slots.{seconds}
use Rattle.card_layout.specs.declared.BlockId.{BlockId}
use Rattle.card_map.specs.Free.{lowest, taken}
use Rattle.card_map.specs.Inner.{found_below}
use Rattle.card_map.proofs.Laws.{length_taken}
use Rattle.file_blocks.specs.Inner.{Sizes}
use Rattle.file_blocks.specs.Ranges.{within, part_from, part_to, parts_from, parts_to}
use Rattle.file_blocks.specs.Taking.{Cursor, Growing, next_free, next_of, took_next, into_word, into_direct, into_indirect, into_double, moved, grow_run, grow_indirect, grow_double, grow_level, grow_direct, grow_single, grow_part, grow_twofold, grown}
use Rattle.file_blocks.proofs.Picks.{pick-both, pick_yes, pick_no, gap_past, gap_short, gap_over}
use Rattle.std.specs.Prelude.{Option, Some, None}

-- ---- the second level

pub seconds_up : (a b : ℕ) → a ≤ b → seconds a ≤ seconds b
unfolding seconds
seconds_up a b h = go (dec_lt a 1036) (dec_lt b 1036)
  where
    go : Dec (a < 1036) → Dec (b < 1036) → seconds a ≤ seconds b
    go (yes p) q = omega (arith, pick_yes a 1036 0 (1 + (a - 1036) / 1024) p)
    go (no p) (yes q) = omega arith
    go (no p) (no q) =
        omega (arith, pick_no a 1036 0 (1 + (a - 1036) / 1024) (omega arith), pick_no b 1036 0 (1 + (b - 1036) / 1024) (omega arith))

pub seconds_most : (b : ℕ) → b ≤ 1048576 → seconds b ≤ 1023
unfolding seconds
seconds_most b h = go (dec_lt b 1036)
  where
    go : Dec (b < 1036) → seconds b ≤ 1023
    go (yes q) = omega (arith, pick_yes b 1036 0 (1 + (b - 1036) / 1024) q)
    go (no q) = omega (arith, pick_no b 1036 0 (1 + (b - 1036) / 1024) (omega arith))

-- ---- the next block

module _ (nb : ℕ) (img : List ℕ) (from : ℕ) where
  pub next_free_some : lowest img from nb < nb → next_free nb img from ≡ lowest img from nb
  unfolding next_free
  next_free_some h = pick_yes (lowest img from nb) nb (lowest img from nb) 0 h

  pub next_free_none : nb ≤ lowest img from nb → next_free nb img from ≡ 0
  unfolding next_free
  next_free_none h = pick_no (lowest img from nb) nb (lowest img from nb) 0 h

  pub next_free_below : 0 < nb → next_free nb img from < nb
  next_free_below h = go (dec_lt (lowest img from nb) nb)
    where
      go : Dec (lowest img from nb < nb) → next_free nb img from < nb
      go (yes l) = omega (arith, next_free_some l)
      go (no l) = omega (arith, next_free_none (omega arith))

-- it is the block that a search answers
abbrev pub number_of : Option BlockId → ℕ
number_of (Some b) = b.0
number_of None = 0

number_pick : (t : Bool) (b : ℕ) → number_of (pick t (Some (record { 0 = b })) None) ≡ pick t b 0
number_pick true b = refl
number_pick false b = refl

pub next_free_is : (nb : ℕ) (img : List ℕ) (from : ℕ) (f : Option BlockId) → f ≡ found_below nb (lowest img from nb) → number_of f ≡ next_free nb img from
unfolding next_free
next_free_is nb img from f e = ap number_of e ∙ number_pick (ltb (lowest img from nb) nb) (lowest img from nb)

-- ---- a run: where its loop begins, and a turn of it

pub grow_run_none : (nb at : ℕ) (c : Cursor) → c ≡ grow_run nb at 0 c
unfolding grow_run turns
grow_run_none nb at c = refl

pub grow_run_more : (nb at j : ℕ) (c : Cursor) → into_word nb (at + 4 * j) (grow_run nb at j c) ≡ grow_run nb at (j + 1) c
unfolding grow_run turns
grow_run_more nb at j c = rw (add-one j, zero-add j)

-- ---- the runs of the steps

abbrev pub level_run : ℕ → ℕ → ℕ → Growing → Cursor
level_run nb a b g = grow_run nb (4096 * g.inode.head.db_indirect.0 + 4 * seconds a) (seconds b - seconds a) g.cur

abbrev pub single_run : ℕ → ℕ → ℕ → Growing → Cursor
single_run nb a b g =
    grow_run nb (4096 * g.inode.head.indirect.0 + 4 * (within 12 1036 a - 12)) (within 12 1036 b - within 12 1036 a) g.cur

abbrev pub part_run : ℕ → ℕ → ℕ → ℕ → ℕ → Cursor → Cursor
part_run nb s a b q c = grow_run nb (4096 * s + 4 * (part_from a q - (1036 + 1024 * q))) (part_to b q - part_from a q) c

-- a turn of the loop over the second level, whose blocks are listed by block p
abbrev pub twofold_turn : ℕ → ℕ → ℕ → ℕ → ℕ → Cursor → Cursor
twofold_turn nb p a b q x = grow_part nb (word x.img (4096 * p + 4 * q)) a b q x

abbrev pub twofold_run : ℕ → ℕ → ℕ → Growing → Cursor
twofold_run nb a b g =
    turns (λ q x. twofold_turn nb g.inode.head.db_indirect.0 a b q x) (parts_from a) (parts_to b - parts_from a) g.cur

-- ---- by which tests the steps go

module _ (nb a b : ℕ) (g : Growing) where
  pub grow_indirect_past : 12 ≤ a → grow_indirect nb a b g ≡ g
  unfolding grow_indirect
  grow_indirect_past h = gap_past 12 a b g (into_indirect nb g) h

  pub grow_indirect_short : b < 12 → grow_indirect nb a b g ≡ g
  unfolding grow_indirect
  grow_indirect_short h = gap_short 12 a b g (into_indirect nb g) h

  pub grow_indirect_over : a < 12 → 12 ≤ b → grow_indirect nb a b g ≡ into_indirect nb g
  unfolding grow_indirect
  grow_indirect_over h k = gap_over 12 a b g (into_indirect nb g) h k

  pub grow_double_past : 1036 ≤ a → grow_double nb a b g ≡ g
  unfolding grow_double
  grow_double_past h = gap_past 1036 a b g (into_double nb g) h

  pub grow_double_short : b < 1036 → grow_double nb a b g ≡ g
  unfolding grow_double
  grow_double_short h = gap_short 1036 a b g (into_double nb g) h

  pub grow_double_over : a < 1036 → 1036 ≤ b → grow_double nb a b g ≡ into_double nb g
  unfolding grow_double
  grow_double_over h k = gap_over 1036 a b g (into_double nb g) h k

  pub grow_level_in : g.inode.head.db_indirect.0 < nb → grow_level nb a b g ≡ moved g (level_run nb a b g)
  unfolding grow_level
  grow_level_in h = pick_yes g.inode.head.db_indirect.0 nb (moved g (level_run nb a b g)) g h

  pub grow_level_out : nb ≤ g.inode.head.db_indirect.0 → grow_level nb a b g ≡ g
  unfolding grow_level
  grow_level_out h = pick_no g.inode.head.db_indirect.0 nb (moved g (level_run nb a b g)) g h

  pub grow_single_in : g.inode.head.indirect.0 < nb → grow_single nb a b g ≡ moved g (single_run nb a b g)
  unfolding grow_single
  grow_single_in h = pick_yes g.inode.head.indirect.0 nb (moved g (single_run nb a b g)) g h

  pub grow_single_out : nb ≤ g.inode.head.indirect.0 → grow_single nb a b g ≡ g
  unfolding grow_single
  grow_single_out h = pick_no g.inode.head.indirect.0 nb (moved g (single_run nb a b g)) g h

  pub grow_twofold_in : g.inode.head.db_indirect.0 < nb → grow_twofold nb a b g ≡ moved g (twofold_run nb a b g)
  unfolding grow_twofold
  grow_twofold_in h = pick_yes g.inode.head.db_indirect.0 nb (moved g (twofold_run nb a b g)) g h

  pub grow_twofold_out : nb ≤ g.inode.head.db_indirect.0 → grow_twofold nb a b g ≡ g
  unfolding grow_twofold
  grow_twofold_out h = pick_no g.inode.head.db_indirect.0 nb (moved g (twofold_run nb a b g)) g h

module _ (nb s a b q : ℕ) (c : Cursor) where
  pub grow_part_in : s < nb → grow_part nb s a b q c ≡ part_run nb s a b q c
  unfolding grow_part
  grow_part_in h = pick_yes s nb (part_run nb s a b q c) c h

  pub grow_part_out : nb ≤ s → grow_part nb s a b q c ≡ c
  unfolding grow_part
  grow_part_out h = pick_no s nb (part_run nb s a b q c) c h

-- ---- the card's length

pub length-took_next : (nb : ℕ) (c : Cursor) → length (took_next nb c).img ≡ length c.img
length-took_next nb c = length_taken c.img c.from nb

pub length-into_word : (nb at : ℕ) (c : Cursor) → length (into_word nb at c).img ≡ length c.img
length-into_word nb at c = length-put 4 (taken c.img c.from nb) at (next_of nb c) ∙ length_taken c.img c.from nb

pub length-grow_run : (nb at k : ℕ) (c : Cursor) → length (grow_run nb at k c).img ≡ length c.img
unfolding grow_run
length-grow_run nb at k c =
    turns_keep (λ j x. into_word nb (at + 4 * j) x) 0 c (λ j x. length x.img ≡ length c.img) refl k
    (λ j x l p. length-into_word nb (at + 4 * (0 + j)) x ∙ p)

pub length-grow_part : (nb s a b q : ℕ) (c : Cursor) → length (grow_part nb s a b q c).img ≡ length c.img
unfolding grow_part
length-grow_part nb s a b q c =
    pick-both (λ x. length x.img ≡ length c.img) (ltb s nb) (part_run nb s a b q c) c
    (length-grow_run nb (4096 * s + 4 * (part_from a q - (1036 + 1024 * q))) (part_to b q - part_from a q) c)
    refl

module _ (nb a b : ℕ) (g : Growing) where
  Long : Growing → Type 0
  Long x = length x.cur.img ≡ length g.cur.img

  pub length-grow_indirect : length (grow_indirect nb a b g).cur.img ≡ length g.cur.img
  unfolding grow_indirect Long
  length-grow_indirect =
      pick-both Long (ltb a 12) (pick (ltb b 12) g (into_indirect nb g)) g
      (pick-both Long (ltb b 12) g (into_indirect nb g) refl (length-took_next nb g.cur))
      refl

  pub length-grow_double : length (grow_double nb a b g).cur.img ≡ length g.cur.img
  unfolding grow_double Long
  length-grow_double =
      pick-both Long (ltb a 1036) (pick (ltb b 1036) g (into_double nb g)) g
      (pick-both Long (ltb b 1036) g (into_double nb g) refl (length-took_next nb g.cur))
      refl

  pub length-grow_level : length (grow_level nb a b g).cur.img ≡ length g.cur.img
  unfolding grow_level Long
  length-grow_level =
      pick-both Long (ltb g.inode.head.db_indirect.0 nb) (moved g (level_run nb a b g)) g
      (length-grow_run nb (4096 * g.inode.head.db_indirect.0 + 4 * seconds a) (seconds b - seconds a) g.cur)
      refl

  pub length-grow_direct : length (grow_direct nb a b g).cur.img ≡ length g.cur.img
  unfolding grow_direct
  length-grow_direct =
      turns_keep (λ i x. into_direct nb i x) (min a 12) g (λ j x. length x.cur.img ≡ length g.cur.img) refl (min b 12 - min a 12)
      (λ j x l p. length-took_next nb x.cur ∙ p)

  pub length-grow_single : length (grow_single nb a b g).cur.img ≡ length g.cur.img
  unfolding grow_single Long
  length-grow_single =
      pick-both Long (ltb g.inode.head.indirect.0 nb) (moved g (single_run nb a b g)) g
      (length-grow_run nb (4096 * g.inode.head.indirect.0 + 4 * (within 12 1036 a - 12)) (within 12 1036 b - within 12 1036 a) g.cur)
      refl

  pub length-grow_twofold : length (grow_twofold nb a b g).cur.img ≡ length g.cur.img
  unfolding grow_twofold Long
  length-grow_twofold =
      let p = g.inode.head.db_indirect.0 in
      pick-both Long (ltb p nb) (moved g (twofold_run nb a b g)) g
      (turns_keep (λ q x. twofold_turn nb p a b q x) (parts_from a) g.cur (λ j x. length x.img ≡ length g.cur.img) refl (parts_to b - parts_from a)
      (λ j x l e. length-grow_part nb (word x.img (4096 * p + 4 * (parts_from a + j))) a b (parts_from a + j) x ∙ e))
      refl

pub length-grown : (nb a b : ℕ) (g : Growing) → length (grown nb a b g).cur.img ≡ length g.cur.img
unfolding grown
length-grown nb a b g =
    let g₁ = grow_indirect nb a b g in
    let g₂ = grow_double nb a b g₁ in
    let g₃ = grow_level nb a b g₂ in
    let g₄ = grow_direct nb a b g₃ in
    let g₅ = grow_single nb a b g₄ in
    length-grow_twofold nb a b g₅
    ∙ length-grow_single nb a b g₄
    ∙ length-grow_direct nb a b g₃
    ∙ length-grow_level nb a b g₂
    ∙ length-grow_double nb a b g₁
    ∙ length-grow_indirect nb a b g

-- ---- where the next search goes on: no further than the last block

module _ (nb : ℕ) (pos : 0 < nb) where
  pub from-took_next : (c : Cursor) → (took_next nb c).from ≤ nb
  from-took_next c = omega (arith, next_free_below nb c.img c.from pos)

  pub from-into_word : (at : ℕ) (c : Cursor) → (into_word nb at c).from ≤ nb
  from-into_word at c = from-took_next c

  pub from-grow_run : (at k : ℕ) (c : Cursor) → c.from ≤ nb → (grow_run nb at k c).from ≤ nb
  unfolding grow_run
  from-grow_run at k c h =
      turns_keep (λ j x. into_word nb (at + 4 * j) x) 0 c (λ j x. x.from ≤ nb) h k (λ j x l p. from-took_next x)

  pub from-grow_part : (s a b q : ℕ) (c : Cursor) → c.from ≤ nb → (grow_part nb s a b q c).from ≤ nb
  unfolding grow_part
  from-grow_part s a b q c h =
      pick-both (λ x. x.from ≤ nb) (ltb s nb) (part_run nb s a b q c) c
      (from-grow_run (4096 * s + 4 * (part_from a q - (1036 + 1024 * q))) (part_to b q - part_from a q) c h)
      h

module _ (nb : ℕ) (pos : 0 < nb) (a b : ℕ) (g : Growing) (low : g.cur.from ≤ nb) where
  Low : Growing → Type 0
  Low x = x.cur.from ≤ nb

  pub from-grow_indirect : (grow_indirect nb a b g).cur.from ≤ nb
  unfolding grow_indirect Low
  from-grow_indirect =
      pick-both Low (ltb a 12) (pick (ltb b 12) g (into_indirect nb g)) g
      (pick-both Low (ltb b 12) g (into_indirect nb g) low (from-took_next nb pos g.cur))
      low

  pub from-grow_double : (grow_double nb a b g).cur.from ≤ nb
  unfolding grow_double Low
  from-grow_double =
      pick-both Low (ltb a 1036) (pick (ltb b 1036) g (into_double nb g)) g
      (pick-both Low (ltb b 1036) g (into_double nb g) low (from-took_next nb pos g.cur))
      low

  pub from-grow_level : (grow_level nb a b g).cur.from ≤ nb
  unfolding grow_level Low
  from-grow_level =
      pick-both Low (ltb g.inode.head.db_indirect.0 nb) (moved g (level_run nb a b g)) g
      (from-grow_run nb pos (4096 * g.inode.head.db_indirect.0 + 4 * seconds a) (seconds b - seconds a) g.cur low)
      low

  pub from-grow_direct : (grow_direct nb a b g).cur.from ≤ nb
  unfolding grow_direct
  from-grow_direct =
      turns_keep (λ i x. into_direct nb i x) (min a 12) g (λ j x. x.cur.from ≤ nb) low (min b 12 - min a 12)
      (λ j x l p. from-took_next nb pos x.cur)

  pub from-grow_single : (grow_single nb a b g).cur.from ≤ nb
  unfolding grow_single Low
  from-grow_single =
      pick-both Low (ltb g.inode.head.indirect.0 nb) (moved g (single_run nb a b g)) g
      (from-grow_run nb pos (4096 * g.inode.head.indirect.0 + 4 * (within 12 1036 a - 12)) (within 12 1036 b - within 12 1036 a) g.cur low)
      low

  pub from-grow_twofold : (grow_twofold nb a b g).cur.from ≤ nb
  unfolding grow_twofold Low
  from-grow_twofold =
      let p = g.inode.head.db_indirect.0 in
      pick-both Low (ltb p nb) (moved g (twofold_run nb a b g)) g
      (turns_keep (λ q x. twofold_turn nb p a b q x) (parts_from a) g.cur (λ j x. x.from ≤ nb) low (parts_to b - parts_from a)
      (λ j x l e. from-grow_part nb pos (word x.img (4096 * p + 4 * (parts_from a + j))) a b (parts_from a + j) x e))
      low

pub from-grown : (nb : ℕ) → 0 < nb → (a b : ℕ) (g : Growing) → g.cur.from ≤ nb → (grown nb a b g).cur.from ≤ nb
unfolding grown
from-grown nb pos a b g low =
    let g₁ = grow_indirect nb a b g in
    let g₂ = grow_double nb a b g₁ in
    let g₃ = grow_level nb a b g₂ in
    let g₄ = grow_direct nb a b g₃ in
    let g₅ = grow_single nb a b g₄ in
    let l₁ = from-grow_indirect nb pos a b g low in
    let l₂ = from-grow_double nb pos a b g₁ l₁ in
    let l₃ = from-grow_level nb pos a b g₂ l₂ in
    let l₄ = from-grow_direct nb pos a b g₃ l₃ in
    from-grow_twofold nb pos a b g₅ (from-grow_single nb pos a b g₄ l₄)

-- ---- the size of the card, and where the next search goes on: a run leaves both within what growth asks

pub took_fits : (nb : ℕ) (c : Cursor) → Sizes c.img nb → Sizes (took_next nb c).img nb × ((took_next nb c).from ≤ nb)
took_fits nb c s = (
  record { few = s.few; many = s.many; long = omega (arith, s.long, length-took_next nb c) },
  from-took_next nb (omega (arith, s.few)) c,
)

pub word_fits : (nb at : ℕ) (c : Cursor) → Sizes c.img nb → Sizes (into_word nb at c).img nb × ((into_word nb at c).from ≤ nb)
word_fits nb at c s = (
  record { few = s.few; many = s.many; long = omega (arith, s.long, length-into_word nb at c) },
  from-into_word nb (omega (arith, s.few)) at c,
)

pub run_fits : (nb at k : ℕ) (c : Cursor) → Sizes c.img nb → c.from ≤ nb → Sizes (grow_run nb at k c).img nb × ((grow_run nb at k c).from ≤ nb)
run_fits nb at k c s h = (
  record { few = s.few; many = s.many; long = omega (arith, s.long, length-grow_run nb at k c) },
  from-grow_run nb (omega (arith, s.few)) at k c h,
)

-- ---- the record

module _ (nb a b : ℕ) (g : Growing) where
  pub inode_grow_level : (grow_level nb a b g).inode ≡ g.inode
  unfolding grow_level
  inode_grow_level = pick-both (λ x. x.inode ≡ g.inode) (ltb g.inode.head.db_indirect.0 nb) (moved g (level_run nb a b g)) g refl refl

  pub inode_grow_single : (grow_single nb a b g).inode ≡ g.inode
  unfolding grow_single
  inode_grow_single = pick-both (λ x. x.inode ≡ g.inode) (ltb g.inode.head.indirect.0 nb) (moved g (single_run nb a b g)) g refl refl

  pub inode_grow_twofold : (grow_twofold nb a b g).inode ≡ g.inode
  unfolding grow_twofold
  inode_grow_twofold = pick-both (λ x. x.inode ≡ g.inode) (ltb g.inode.head.db_indirect.0 nb) (moved g (twofold_run nb a b g)) g refl refl

  pub head_grow_direct : (grow_direct nb a b g).inode.head ≡ g.inode.head
  unfolding grow_direct
  head_grow_direct =
      turns_keep (λ i x. into_direct nb i x) (min a 12) g (λ j x. x.inode.head ≡ g.inode.head) refl (min b 12 - min a 12) (λ j x l p. p)

  pub direct-grow_direct : length (grow_direct nb a b g).inode.direct ≡ length g.inode.direct
  unfolding grow_direct
  direct-grow_direct =
      turns_keep (λ i x. into_direct nb i x) (min a 12) g (λ j x. length x.inode.direct ≡ length g.inode.direct) refl (min b 12 - min a 12)
      (λ j x l p. length-set x.inode.direct (min a 12 + j) _ ∙ p)

  pub direct-grow_indirect : (grow_indirect nb a b g).inode.direct ≡ g.inode.direct
  unfolding grow_indirect
  direct-grow_indirect =
      pick-both (λ x. x.inode.direct ≡ g.inode.direct) (ltb a 12) (pick (ltb b 12) g (into_indirect nb g)) g
      (pick-both (λ x. x.inode.direct ≡ g.inode.direct) (ltb b 12) g (into_indirect nb g) refl refl)
      refl

  pub direct-grow_double : (grow_double nb a b g).inode.direct ≡ g.inode.direct
  unfolding grow_double
  direct-grow_double =
      pick-both (λ x. x.inode.direct ≡ g.inode.direct) (ltb a 1036) (pick (ltb b 1036) g (into_double nb g)) g
      (pick-both (λ x. x.inode.direct ≡ g.inode.direct) (ltb b 1036) g (into_double nb g) refl refl)
      refl
