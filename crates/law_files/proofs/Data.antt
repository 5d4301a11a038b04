-- A growth from its pointer blocks on: the data blocks are taken in rising order and listed, in the direct slots, by the indirect block and by the second
-- level. Assumes nothing.
use mathlib.Core.Path.{◌≡◌, sym, ap, ◌∙◌, subst}
use mathlib.Core.List.{List}
use Prim.Native.Nat.{ℕ, suc, ◌+◌, ◌-◌, ◌*◌, ◌/◌, ◌%◌, ◌≤◌, ◌<◌, min, max}
use native.Mathlib.Omega.{arith}
use native.Mathlib.Decide.{dec_lt}
use lib.ListN.{length}
use Rattle.std.proofs.lemmas.Grind.{common_steps}
use Rattle.words.specs.Runs.{turns}
use Rattle.words.proofs.Runs.{turns_keep}
use Rattle.card_layout.specs.Inode.{number_at}
use Rattle.card_layout.specs.Super.{unused}
use Rattle.card_layout.specs.Slots.{seconds}
use Rattle.card_layout.specs.declared.inode.Head.{Head}
use Rattle.card_layout.specs.declared.inode.DiskINode.{DiskINode}
use Rattle.card_map.specs.Bits.{free_bits}
use Rattle.card_rules.specs.Places.{Place, at_indirect, at_double, at_second, at_data}
use Rattle.card_rules.proofs.Views.{seconds_some, seconds_many}
use Rattle.file_blocks.specs.Ranges.{within, parts_from, parts_to}
use Rattle.file_blocks.specs.Inner.{Sizes}
use Rattle.file_blocks.specs.Taking.{Cursor, Growing, grow_direct, grow_single, grow_part, grow_twofold}
use Rattle.file_blocks.proofs.Growth.{
  grow_run_none,
  twofold_turn,
  grow_single_in,
  grow_single_out,
  grow_twofold_in,
  grow_twofold_out,
  grow_part_in,
  inode_grow_single,
  inode_grow_twofold,
}
use Rattle.file_grow.proofs.Taken.{nth_free, TookLowest}
use Rattle.file_grow.proofs.Runs.{RanDirect, direct_ran}
use Rattle.law_files.proofs.Tables.{table_of, had_table, Seats, Listed, seconds-low, word_kept, fills}

-- ---- where the parts begin and end

-- blocks from a up to b, those of them from lo up to hi: where they begin, where they end
record Span (a b lo hi : ℕ) : Type 0 where
  pub ordered : max a lo ≤ min b hi
  pub begin : max a (min b lo) ≡ max a lo
  pub end : max a (min b hi) ≡ min b hi

span : (a b lo hi : ℕ) → a < b → lo ≤ b → lo ≤ hi → a ≤ hi → Span a b lo hi
span a b lo hi up l h t = record { ordered = omega arith; begin = omega arith; end = omega arith }

within_old : (a : ℕ) → a ≤ 1036 → within 12 1036 a ≡ max a 12
within_old a h = omega arith

within_new : (b : ℕ) → 12 ≤ b → within 12 1036 b ≡ min b 1036
within_new b h = omega arith

-- none of them are the indirect block's
record Beside (a b : ℕ) : Type 0 where
  pub none : within 12 1036 b - within 12 1036 a ≡ 0
  pub still : max a (min b 12) ≡ max a (min b 1036)

beside_short : (a b : ℕ) → a < b → b < 12 → Beside a b
beside_short a b u l = record { none = omega arith; still = omega arith }

beside_past : (a b : ℕ) → a < b → 1036 ≤ a → Beside a b
beside_past a b u l = record { none = omega arith; still = omega arith }

-- the second level's
parts_ordered : (a b : ℕ) → a < b → parts_from a + (parts_to b - parts_from a) ≡ parts_to b
parts_ordered a b u = omega arith

parts_begin : (a b : ℕ) → max a (min b 1036) ≡ max a (min b (1036 + 1024 * (parts_from a + 0)))
parts_begin a b = omega arith

parts_end : (a b : ℕ) → a < b → max a (min b (1036 + 1024 * parts_to b)) ≡ b
parts_end a b u = omega arith

-- ---- the steps

-- what the steps begin with, and what they end with
pub record Begun (nb K a b : ℕ) (img : List ℕ) (H : Place → ℕ) (g : Growing) : Type 0 where
  pub listed : Listed nb K a b img H a g.cur
  pub one : 12 ≤ b → g.inode.head.indirect.0 ≡ H at_indirect
  pub two : 1036 ≤ b → g.inode.head.db_indirect.0 ≡ H at_double
  pub twelve : length g.inode.direct ≡ 12
  pub direct_is : (i : ℕ) → i < 12 → i < a → number_at g.inode.direct i ≡ H (at_data i)

pub record Ended (nb K a b : ℕ) (img : List ℕ) (H : Place → ℕ) (g₀ g : Growing) : Type 0 where
  pub listed : Listed nb K a b img H b g.cur
  pub head : g.inode.head ≡ g₀.inode.head
  pub twelve : length g.inode.direct ≡ 12
  pub direct_is : (i : ℕ) → i < 12 → i < b → number_at g.inode.direct i ≡ H (at_data i)
  pub direct_rest : (i : ℕ) → (i < 12 → i < b → ⊥) → number_at g.inode.direct i ≡ number_at g₀.inode.direct i

module _ {nb K a b : ℕ} {img : List ℕ} {H : Place → ℕ} (s : Seats nb K a b img H) (sizes : Sizes img nb) (exact : unused img ≡ free_bits img nb) where
  -- ---- the direct slots

  module _ (g : Growing) (begun : Begun nb K a b img H g) where
    took₀ : TookLowest nb img K g.cur
    took₀ = let e : K + (a - a) ≡ K = omega arith in subst (λ (x : ℕ). TookLowest nb img x g.cur) e begun.listed.took

    d : RanDirect nb img K (min a 12) (min b 12 - min a 12) g (grow_direct nb a b g)
    unfolding grow_direct
    d = direct_ran nb img sizes exact K (min a 12) g took₀ (min b 12 - min a 12) (omega (arith, s.room, s.up)) (omega (arith, begun.twelve))

    direct_listed : Listed nb K a b img H (max a (min b 12)) (grow_direct nb a b g).cur
    direct_listed =
        record {
          took =
              let e : K + (min b 12 - min a 12) ≡ K + (max a (min b 12) - a) = omega (arith, s.up) in
              subst (λ (x : ℕ). TookLowest nb img x (grow_direct nb a b g).cur) e d.took;
          table = λ j l.
              word_kept s g.cur.img (grow_direct nb a b g).cur.img at_double j (seconds_many b (omega arith)) (omega (arith, seconds-low s))
              (λ k clear u v. d.kept k clear)
              ∙ begun.listed.table j l;
          listed = λ i l u.
              word_kept s g.cur.img (grow_direct nb a b g).cur.img (table_of ((i - 12) / 1024)) ((i - 12) % 1024)
              (had_table b i l (omega (arith, s.up)))
              (omega arith)
              (λ k clear u v. d.kept k clear)
              ∙ begun.listed.listed i l (omega arith);
          kept = λ p clear x. d.kept p clear ∙ begun.listed.kept p clear x;
        }

    direct_here : (i : ℕ) → i < 12 → i < b → number_at (grow_direct nb a b g).inode.direct i ≡ H (at_data i)
    direct_here i l u = go (dec_lt i a)
      where
        go : Dec (i < a) → number_at (grow_direct nb a b g).inode.direct i ≡ H (at_data i)
        go (yes q) = d.others i (λ x y. omega arith) ∙ begun.direct_is i l q
        go (no q) =
            let place : min a 12 + (i - min a 12) ≡ i = omega arith in
            let turn : K + (i - min a 12) ≡ K + (i - a) = omega arith in
            ap (λ (x : ℕ). number_at (grow_direct nb a b g).inode.direct x) (sym place)
            ∙ d.listed (i - min a 12) (omega arith)
            ∙ ap (nth_free nb img) turn
            ∙ sym (s.new i (omega arith) u)

    direct_rest : (i : ℕ) → (i < 12 → i < b → ⊥) → number_at (grow_direct nb a b g).inode.direct i ≡ number_at g.inode.direct i
    direct_rest i h = d.others i (λ x y. h (omega arith) (omega arith))

  -- ---- those of the indirect block

  module _ (g : Growing) (f : Listed nb K a b img H (max a (min b 12)) g.cur) (one : 12 ≤ b → g.inode.head.indirect.0 ≡ H at_indirect) where
    -- where there are none
    single_none : Beside a b → Listed nb K a b img H (max a (min b 1036)) (grow_single nb a b g).cur
    single_none w = go (dec_lt g.inode.head.indirect.0 nb)
      where
        go : Dec (g.inode.head.indirect.0 < nb) → Listed nb K a b img H (max a (min b 1036)) (grow_single nb a b g).cur
        go (yes l) =
            rw (grow_single_in nb a b g l, w.none, ← grow_run_none nb (4096 * g.inode.head.indirect.0 + 4 * (within 12 1036 a - 12)) g.cur)
            (rw w.still at f)
        go (no l) = rw (grow_single_out nb a b g (omega arith)) (rw w.still at f)

    single_some : 12 ≤ b → a < 1036 → Listed nb K a b img H (max a (min b 1036)) (grow_single nb a b g).cur
    single_some l u =
        let is = one l in
        let low : g.inode.head.indirect.0 < nb = omega (arith, is, s.below at_indirect l) in
        let w : Span a b 12 1036 = span a b 12 1036 s.up l (omega arith) (omega arith) in
        rw (grow_single_in nb a b g low, is, within_old a (omega arith), within_new b l, w.end)
        (fills s sizes exact 0 (max a 12) (min b 1036) g.cur l (omega arith) w.ordered (omega arith) (omega arith) (omega arith) (rw w.begin at f))

    single_listed : Listed nb K a b img H (max a (min b 1036)) (grow_single nb a b g).cur
    single_listed = go (dec_lt b 12) (dec_lt a 1036)
      where
        go : Dec (b < 12) → Dec (a < 1036) → Listed nb K a b img H (max a (min b 1036)) (grow_single nb a b g).cur
        go (no l) (yes u) = single_some (omega arith) u
        go (yes l) u = single_none (beside_short a b s.up l)
        go (no l) (no u) = single_none (beside_past a b s.up (omega arith))

  -- ---- and those of the second level

  -- the slots that are done before turn q
  abbrev sofar : ℕ → ℕ
  sofar q = max a (min b (1036 + 1024 * q))

  -- a turn
  part_listed : (q : ℕ) (c : Cursor) → parts_from a ≤ q → q < parts_to b → Listed nb K a b img H (sofar q) c
      → Listed nb K a b img H (sofar (suc q)) (grow_part nb (H (at_second q)) a b q c)
  part_listed q c l u f =
      let lev : q < seconds b = omega (arith, seconds_some b (omega arith)) in
      let base : 1036 + 1024 * q ≡ 12 + 1024 * suc q = omega arith in
      let stop : 1036 + 1024 * suc q ≡ 12 + 1024 * suc q + 1024 = omega arith in
      let w : Span a b (12 + 1024 * suc q) (12 + 1024 * suc q + 1024) = span a b _ _ s.up (omega arith) (omega arith) (omega arith) in
      rw (grow_part_in nb (H (at_second q)) a b q c (s.below (at_second q) lev), base, stop, w.end)
      (fills s sizes exact (suc q) (max a (12 + 1024 * suc q)) (min b (12 + 1024 * suc q + 1024)) c lev
      (omega arith) w.ordered (omega arith) (omega arith) (omega arith)
      (rw (base, w.begin) at f))

  module _ (g : Growing) (f : Listed nb K a b img H (max a (min b 1036)) g.cur) (two : 1036 ≤ b → g.inode.head.db_indirect.0 ≡ H at_double) where
    twofold_some : 1036 ≤ b → Listed nb K a b img H b (grow_twofold nb a b g).cur
    twofold_some l =
        let is = two l in
        let low : g.inode.head.db_indirect.0 < nb = omega (arith, is, s.below at_double l) in
        let end : sofar (parts_from a + (parts_to b - parts_from a)) ≡ b = ap sofar (parts_ordered a b s.up) ∙ parts_end a b s.up in
        rw (grow_twofold_in nb a b g low, is)
        (subst (λ (x : ℕ). Listed nb K a b img H x
        (turns (λ q x. twofold_turn nb (H at_double) a b q x) (parts_from a) (parts_to b - parts_from a) g.cur)) end
        (turns_keep (λ q x. twofold_turn nb (H at_double) a b q x) (parts_from a) g.cur (λ k x. Listed nb K a b img H (sofar (parts_from a + k)) x)
        (subst (λ (x : ℕ). Listed nb K a b img H x g.cur) (parts_begin a b) f)
        (parts_to b - parts_from a)
        turn))
      where
        turn : (k : ℕ) (x : Cursor) → k < parts_to b - parts_from a → Listed nb K a b img H (sofar (parts_from a + k)) x
            → Listed nb K a b img H (sofar (parts_from a + suc k)) (twofold_turn nb (H at_double) a b (parts_from a + k) x)
        turn k x u p =
            let next : suc (parts_from a + k) ≡ parts_from a + suc k = omega arith in
            let lev : parts_from a + k < seconds b = omega (arith, seconds_some b (omega arith)) in
            rw (p.table (parts_from a + k) lev, ← next) (part_listed (parts_from a + k) x (omega arith) (omega arith) p)

    twofold_none : b < 1036 → (grow_twofold nb a b g).cur ≡ g.cur
    unfolding turns
    twofold_none l = go (dec_lt g.inode.head.db_indirect.0 nb)
      where
        z : parts_to b - parts_from a ≡ 0
        z = omega arith

        go : Dec (g.inode.head.db_indirect.0 < nb) → (grow_twofold nb a b g).cur ≡ g.cur
        go (yes h) =
            ap (λ (x : Growing). x.cur) (grow_twofold_in nb a b g h)
            ∙ ap (λ (k : ℕ). turns (λ q x. twofold_turn nb g.inode.head.db_indirect.0 a b q x) (parts_from a) k g.cur) z
        go (no h) = ap (λ (x : Growing). x.cur) (grow_twofold_out nb a b g (omega arith))

    twofold_listed : Listed nb K a b img H b (grow_twofold nb a b g).cur
    twofold_listed = grind (arith, common_steps, twofold_none, twofold_some)

  -- ---- the three together

  pub data_steps : (g : Growing) → Begun nb K a b img H g → Ended nb K a b img H g (grow_twofold nb a b (grow_single nb a b (grow_direct nb a b g)))
  data_steps g begun =
      record {
        listed = twofold_listed g₂ (single_listed g₁ (direct_listed g begun) one) two;
        head = ap (λ (x : DiskINode). x.head) same ∙ (d g begun).head;
        twelve = ap (λ (x : DiskINode). length x.direct) same ∙ (d g begun).long ∙ begun.twelve;
        direct_is = λ i l u. ap (λ (x : DiskINode). number_at x.direct i) same ∙ direct_here g begun i l u;
        direct_rest = λ i h. ap (λ (x : DiskINode). number_at x.direct i) same ∙ direct_rest g begun i h;
      }
    where
      g₁ : Growing
      g₁ = grow_direct nb a b g

      g₂ : Growing
      g₂ = grow_single nb a b g₁

      same : (grow_twofold nb a b g₂).inode ≡ g₁.inode
      same = inode_grow_twofold nb a b g₂ ∙ inode_grow_single nb a b g₁

      one : 12 ≤ b → g₁.inode.head.indirect.0 ≡ H at_indirect
      one l = ap (λ (x : Head). x.indirect.0) (d g begun).head ∙ begun.one l

      two : 1036 ≤ b → g₂.inode.head.db_indirect.0 ≡ H at_double
      two l =
          ap (λ (x : DiskINode). x.head.db_indirect.0) (inode_grow_single nb a b g₁)
          ∙ ap (λ (x : Head). x.db_indirect.0) (d g begun).head
          ∙ begun.two l
