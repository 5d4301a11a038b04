-- A growth after its pointer blocks have been taken and before its data: the indirect block, the double one and the second level. Assumes nothing.
use mathlib.Core.Path.{◌≡◌, refl, sym, ap, ◌∙◌}
use mathlib.Core.List.{List}
use Prim.Native.Nat.{ℕ, ◌+◌, ◌-◌, ◌*◌, ◌≤◌, ◌<◌}
use native.Mathlib.Nat.{zero-add}
use native.Mathlib.Numerals.{add-one}
use native.Mathlib.Omega.{arith}
use native.Mathlib.Decide.{dec_lt}
use lib.Dec.{ltb}
use Rattle.std.proofs.lemmas.Grind.{common_steps}
use Rattle.words.specs.Words.{pick, byte, word, Bytes}
use Rattle.words.specs.Inner.{Apart}
use Rattle.words.specs.Sums.{cnt}
use Rattle.words.proofs.Numbers.{num_frame}
use Rattle.card_layout.specs.Super.{blocks, unused}
use Rattle.card_layout.specs.Inode.{count, indirect, double, head_with, with_indirect, with_double}
use Rattle.card_layout.specs.Slots.{seconds, owned}
use Rattle.card_layout.specs.declared.inode.FileType.{FileType}
use Rattle.card_layout.specs.declared.inode.DiskINode.{DiskINode}
use Rattle.card_layout.proofs.InodeLaws.{inode_at}
use Rattle.card_map.specs.Bits.{free_bits}
use Rattle.card_rules.specs.Whole.{Sound}
use Rattle.card_rules.specs.View.{second}
use Rattle.card_rules.specs.Places.{at_indirect, at_double, at_second}
use Rattle.card_rules.proofs.Views.{seconds_none, seconds_some, seconds_many, seconds_mono, owned_parts}
use Rattle.file_blocks.specs.Taking.{Growing, next_of, took_next, grow_indirect, grow_double, grow_level}
use Rattle.file_blocks.specs.Inner.{Sizes}
use Rattle.file_blocks.proofs.Picks.{pick_no, gap_short}
use Rattle.file_blocks.proofs.Growth.{grow_run_none, grow_level_in, inode_grow_level}
use Rattle.file_grow.proofs.Taken.{nth_free, nth_below, TookLowest, took_none, took_next_lem, next_is, byte-took_next}
use Rattle.file_grow.proofs.Runs.{Clear, Ran, ran}
use Rattle.law_files.proofs.Plan.{new_one, new_two, planned, Planning}

-- how many pointer blocks that is
abbrev pub pointers : ℕ → ℕ → ℕ
pointers a b = new_one a b + new_two a b + (seconds b - seconds a)

-- g is what inode n of card img, with record d, has come to on its way to b blocks
pub record Pointed (img : List ℕ) (n b : ℕ) (d : DiskINode) (g : Growing) : Type 0 where
  pub took : TookLowest (blocks img) img (pointers (count img n) b) g.cur
  pub direct_same : g.inode.direct ≡ d.direct
  pub head_is : g.inode.head
      ≡ head_with d.head d.head.size d.head.nlinks d.head.blocks g.inode.head.indirect g.inode.head.db_indirect
  pub one : 12 ≤ b → g.inode.head.indirect.0 ≡ planned img n b at_indirect
  pub one_not : b < 12 → g.inode.head.indirect.0 ≡ 0
  pub two : 1036 ≤ b → g.inode.head.db_indirect.0 ≡ planned img n b at_double
  pub two_not : b < 1036 → g.inode.head.db_indirect.0 ≡ 0
  pub table : (j : ℕ) → j < seconds b → word g.cur.img (4096 * planned img n b at_double + 4 * j) ≡ planned img n b (at_second j)
  pub kept : (p : ℕ) → Clear p 1 → (1036 ≤ b → Apart p 1 (4096 * planned img n b at_double) 4096) → byte g.cur.img p ≡ byte img p

-- a part of bytes that are clear
clear_part : (at n p m : ℕ) → at ≤ p → p + m ≤ at + n → Clear at n → Clear p m
clear_part at n p m l h c =
    record { count = λ u v. c.count (omega arith) (omega arith); map = λ u v. c.map (omega arith) (omega arith) }

-- ---- one pointer of the record

-- what a file of b blocks has and one of a blocks has not, of a block that is there from m blocks on: its pointer, which was `old`, and how many
abbrev pub pointer : ℕ → ℕ → ℕ → ℕ → ℕ → ℕ
pointer m a b old v = pick (ltb a m) (pick (ltb b m) old v) old

abbrev pub gap_of : ℕ → ℕ → ℕ → ℕ
gap_of m a b = pointer m a b 0 1

pub gap_counts : (m a b : ℕ) → a ≤ b → gap_of m a b + pick (ltb a m) 0 1 ≡ pick (ltb b m) 0 1
gap_counts m a b h = grind (arith, common_steps)

pointer_there : (m a b old v : ℕ) → m ≤ b → pointer m a b old v ≡ pick (ltb a m) v old
pointer_there m a b old v h = ap (λ (x : ℕ). pick (ltb a m) x old) (pick_no b m old v h)

-- g is g₀ after e more blocks, with this record; k blocks had been taken before
record Stepped (nb : ℕ) (img : List ℕ) (k e : ℕ) (inode : DiskINode) (g₀ g : Growing) : Type 0 where
  took : TookLowest nb img (k + e) g.cur
  inode_is : g.inode ≡ inode
  kept : (p : ℕ) → Clear p 1 → byte g.cur.img p ≡ byte g₀.cur.img p

-- the next block, whose number is put into the record
abbrev into : ℕ → (DiskINode → ℕ → DiskINode) → Growing → Growing
into nb put g = record { cur = took_next nb g.cur; inode = put g.inode (next_of nb g.cur) }

module _ (nb : ℕ) (img : List ℕ) (sizes : Sizes img nb) (exact : unused img ≡ free_bits img nb) (k : ℕ) (put : DiskINode → ℕ → DiskINode) (d : DiskINode)
    (old : ℕ) (was : put d old ≡ d) (g : Growing) (t : TookLowest nb img k g.cur) (i : g.inode ≡ d) where
  steps : k < free_bits img nb → Stepped nb img k 1 (put d (nth_free nb img k)) g (into nb put g)
  steps more =
      record {
        took = rw (add-one k) (took_next_lem nb img sizes exact k more g.cur t);
        inode_is = rw (i, next_is nb img sizes exact k more g.cur t);
        kept = λ p h.
            byte-took_next nb img sizes exact k more g.cur t p h.count
            (λ e. h.map (omega (arith, low, sizes.many)) (omega (arith, low, sizes.many)));
      }
    where
      low : nth_free nb img k < nb
      low = (nth_below nb img k more).0

  stepped : (m a b : ℕ) → k + gap_of m a b ≤ free_bits img nb
      → Stepped nb img k (gap_of m a b) (put d (pointer m a b old (nth_free nb img k))) g (pick (ltb a m) (pick (ltb b m) g (into nb put g)) g)
  stepped m a b more = grind (arith, common_steps, steps)

-- ---- the second level

module _ (nb : ℕ) (img : List ℕ) (sizes : Sizes img nb) (exact : unused img ≡ free_bits img nb) (k a b : ℕ) (up : a ≤ b) (g : Growing)
    (t : TookLowest nb img k g.cur) where
  -- none is taken below 1036 blocks, whatever the double pointer says
  level_stays : b < 1036 → (grow_level nb a b g).cur ≡ g.cur
  unfolding grow_level
  level_stays h = grind (arith, common_steps, seconds_none, grow_run_none)

  level_none : (at : ℕ) → b < 1036 → Ran nb img k at (seconds b - seconds a) g.cur (grow_level nb a b g).cur
  level_none at h = grind (arith, common_steps, level_stays, seconds_none)

  level_some : (x : ℕ) → g.inode.head.db_indirect.0 ≡ x → x < nb → Clear (4096 * x) 4096 → seconds b ≤ 1024
      → k + (seconds b - seconds a) ≤ free_bits img nb
      → Ran nb img k (4096 * x + 4 * seconds a) (seconds b - seconds a) g.cur (grow_level nb a b g).cur
  level_some x e low clear few more =
      let o = seconds_mono a b up in
      rw (grow_level_in nb a b g (omega arith), e)
      (ran nb img sizes exact k (4096 * x + 4 * seconds a) g.cur t (seconds b - seconds a) more
      (clear_part (4096 * x) 4096 (4096 * x + 4 * seconds a) (4 * (seconds b - seconds a)) (omega arith) (omega arith) clear)
      (omega (arith, sizes.long)))

module _ (img l : List ℕ) (s : Sound img l) (bytes : Bytes img) (n : ℕ) (h : 0 < cnt n l) (b : ℕ) (up : count img n < b)
    (room : owned b ≤ owned (count img n) + unused img) (plan : Planning img n b) (k : FileType) where
  abbrev nb : ℕ
  nb = blocks img

  abbrev a : ℕ
  a = count img n

  abbrev d : DiskINode
  d = inode_at img n k

  abbrev x : ℕ
  x = planned img n b at_double

  sizes : Sizes img nb
  sizes = record { few = s.sized.few; many = s.sized.many; long = s.sized.long }

  exact : unused img ≡ free_bits img nb
  exact = sym s.free

  enough : pointers a b ≤ free_bits img nb
  enough = grind (arith, common_steps, owned_parts, seconds_mono)

  few : seconds b ≤ 1024
  few = grind (arith, common_steps, seconds_none, seconds_some)

  abbrev one : ℕ
  one = pointer 12 a b (indirect img n) (nth_free nb img 0)

  abbrev two : ℕ
  two = pointer 1036 a b (double img n) (nth_free nb img (new_one a b))

  abbrev g₀ : Growing
  g₀ = record { cur = record { img = img; from = 0 }; inode = d }

  abbrev g₁ : Growing
  g₁ = grow_indirect nb a b g₀

  abbrev g₂ : Growing
  g₂ = grow_double nb a b g₁

  abbrev g₃ : Growing
  g₃ = grow_level nb a b g₂

  first : Stepped nb img 0 (new_one a b) (with_indirect d one) g₀ g₁
  unfolding grow_indirect
  first = stepped nb img sizes exact 0 with_indirect d (indirect img n) refl g₀ (took_none nb img) refl 12 a b (omega (arith, enough))

  next : Stepped nb img (new_one a b) (new_two a b) (with_double (with_indirect d one) two) g₁ g₂
  unfolding grow_double
  next =
      stepped nb img sizes exact (new_one a b) with_double (with_indirect d one) (double img n) refl g₁
      (rw (zero-add (new_one a b)) at first.took) first.inode_is 1036 a b (omega (arith, enough))

  two_there : 1036 ≤ b → two ≡ x
  two_there e = pointer_there 1036 a b (double img n) (nth_free nb img (new_one a b)) e

  levelled : Ran nb img (new_one a b + new_two a b) (4096 * x + 4 * seconds a) (seconds b - seconds a) g₂.cur g₃.cur
  levelled = go (dec_lt b 1036)
    where
      go : Dec (b < 1036) → Ran nb img (new_one a b + new_two a b) (4096 * x + 4 * seconds a) (seconds b - seconds a) g₂.cur g₃.cur
      go (yes l) = level_none nb img sizes exact (new_one a b + new_two a b) a b (omega arith) g₂ next.took (4096 * x + 4 * seconds a) l
      go (no l) =
          let e : 1036 ≤ b = omega arith in
          level_some nb img sizes exact (new_one a b + new_two a b) a b (omega arith) g₂ next.took x
          (ap (λ e. e.head.db_indirect.0) next.inode_is ∙ two_there e) (plan.below at_double e) (plan.clear at_double e) few enough

  inode_is : g₃.inode ≡ with_double (with_indirect d one) two
  inode_is = inode_grow_level nb a b g₂ ∙ next.inode_is

  kept₂ : (p : ℕ) → Clear p 1 → byte g₂.cur.img p ≡ byte img p
  kept₂ p c = next.kept p c ∙ first.kept p c

  off : (p : ℕ) → (1036 ≤ b → Apart p 1 (4096 * x) 4096) → p < 4096 * x + 4 * seconds a + 4 * (seconds b - seconds a)
      → 4096 * x + 4 * seconds a < p + 1 → Dec (b < 1036) → ⊥
  off p e u v (yes l) = omega (arith, seconds_none b l)
  off p e u v (no l) = e (omega arith) (omega (arith, few, seconds_mono a b (omega arith))) (omega arith)

  -- slot j of the double block
  listed : (j : ℕ) → j < seconds b → Dec (j < seconds a) → word g₃.cur.img (4096 * x + 4 * j) ≡ planned img n b (at_second j)
  listed j l (yes q) =
      let c = plan.clear at_double (seconds_many b (omega arith)) in
      num_frame 4 g₃.cur.img img (4096 * x + 4 * j)
      (λ p u v.
      let w = clear_part (4096 * x) 4096 p 1 (omega arith) (omega (arith, few)) c in
      levelled.kept p w (λ y z. omega arith) ∙ kept₂ p w)
      ∙ ap (λ (y : ℕ). word img (4096 * y + 4 * j)) (plan.old at_double (seconds_many a (omega arith)))
      ∙ sym (plan.old (at_second j) q)
  listed j l (no q) =
      let e : 4096 * x + 4 * j ≡ 4096 * x + 4 * seconds a + 4 * (j - seconds a) = omega arith in
      ap (word g₃.cur.img) e
      ∙ levelled.listed (j - seconds a) (omega arith)
      ∙ sym (pick_no j (seconds a) (second img n j) (nth_free nb img (new_one a b + new_two a b + (j - seconds a))) (omega arith))

  pub pointed : Pointed img n b (inode_at img n k)
      (grow_level (blocks img) (count img n) b
      (grow_double (blocks img) (count img n) b
      (grow_indirect (blocks img) (count img n) b (record { cur = record { img = img; from = 0 }; inode = inode_at img n k }))))
  pointed =
      record {
        took = levelled.took;
        direct_same = ap (λ e. e.direct) inode_is;
        head_is = rw inode_is;
        one = λ e. ap (λ e. e.head.indirect.0) inode_is ∙ pointer_there 12 a b (indirect img n) (nth_free nb img 0) e;
        one_not = λ l.
            ap (λ e. e.head.indirect.0) inode_is
            ∙ gap_short 12 a b (indirect img n) (nth_free nb img 0) l
            ∙ (s.inode n h).shape.single.to (omega arith);
        two = λ e. ap (λ e. e.head.db_indirect.0) inode_is ∙ two_there e;
        two_not = λ l.
            ap (λ e. e.head.db_indirect.0) inode_is
            ∙ gap_short 1036 a b (double img n) (nth_free nb img (new_one a b)) l
            ∙ (s.inode n h).shape.twofold.to (omega arith);
        table = λ j l. listed j l (dec_lt j (seconds a));
        kept = λ p c e. levelled.kept p c (λ u v. off p e u v (dec_lt b 1036)) ∙ kept₂ p c;
      }
