-- Reading and filling go through the blocks of a file in one way, which is proved here once: whatever each block's piece keeps, the whole keeps.
-- Assumes nothing.
use Prim.Native.Nat.{ℕ, suc, ◌+◌, ◌-◌, ◌*◌, ◌/◌, ◌%◌, ◌≤◌, ◌<◌, min}
use mathlib.Core.Path.{◌≡◌, sym, subst, ◌∙◌}
use mathlib.Core.List.{List}
use native.Mathlib.Omega.{arith}
use native.Mathlib.Decide.{dec_lt}
use native.Mathlib.Nat.{add-zero}
use borrow.Author.Tests.{lt-ltb, le-ltb}
use lib.Dec.{ltb}
use Rattle.words.specs.Words.{pick, word}
use Rattle.words.specs.Runs.{turns}
use Rattle.words.proofs.Runs.{turns_keep}
use Rattle.card_layout.specs.Inode.{count, indirect, double}
use Rattle.card_layout.specs.Slots.{seconds}
use Rattle.card_rules.specs.View.{second, data_at}
use Rattle.card_rules.proofs.Views.{data_direct, data_indirect, data_double, seconds_some}
use Rattle.file_blocks.specs.Bytes.{first_of, after_of}
use Rattle.file_blocks.specs.Inner.{level_from, level_to, levels_from, levels_to}
use Rattle.file_blocks.specs.Ranges.{within}
use Rattle.file_blocks.proofs.Ranges.{shift}

-- a file whose blocks and pointer blocks are blocks of a card of nb blocks
pub record Readable (img : List ℕ) (nb n : ℕ) : Type 0 where
  pub few : count img n ≤ 1048576
  pub one : 12 ≤ count img n → indirect img n < nb
  pub two : 1036 ≤ count img n → double img n < nb
  pub levels : (j : ℕ) → j < seconds (count img n) → second img n j < nb
  pub data_blocks : (i : ℕ) → i < count img n → data_at img n i < nb

-- the blocks in which its slots are
pub data Pointer (img : List ℕ) (n : ℕ) : ℕ → Type 0 where
  own : Pointer img n n
  first : 12 ≤ count img n → Pointer img n (indirect img n)
  top : 1036 ≤ count img n → Pointer img n (double img n)
  table : (j : ℕ) → j < seconds (count img n) → Pointer img n (second img n j)

-- ---- the walk: `piece b j` is done with file block j, which is in block b, and `ptr` is the card that slots are read from

module _ (piece : ℕ → ℕ → List ℕ → List ℕ) (ptr : List ℕ → List ℕ) (nb off end : ℕ) where
  abbrev pub run_of : ℕ → ℕ → ℕ → List ℕ → List ℕ
  run_of at i e x = turns (λ j y. piece (word (ptr y) (at + 4 * (j - i))) j y) i (e - i) x

  abbrev pub direct_of : ℕ → List ℕ → List ℕ
  direct_of n x = run_of (4096 * n + 12 + 4 * min (first_of off) 12) (min (first_of off) 12) (min (after_of end) 12) x

  abbrev pub indirect_of : ℕ → List ℕ → List ℕ
  indirect_of p x =
      pick (ltb p nb) (run_of (4096 * p + 4 * (within 12 1036 (first_of off) - 12)) (within 12 1036 (first_of off)) (within 12 1036 (after_of end)) x) x

  abbrev pub level_of : ℕ → ℕ → List ℕ → List ℕ
  level_of s q x = pick (ltb s nb) (run_of (4096 * s + 4 * (level_from off q - (1036 + 1024 * q))) (level_from off q) (level_to end q) x) x

  abbrev pub double_of : ℕ → List ℕ → List ℕ
  double_of d x = pick (ltb d nb) (turns (λ q y. level_of (word (ptr y) (4096 * d + 4 * q)) q y) (levels_from off) (levels_to end - levels_from off) x) x

  abbrev pub to_indirect : ℕ → List ℕ → List ℕ
  to_indirect n x = indirect_of (indirect (ptr x) n) x

  abbrev pub to_double : ℕ → List ℕ → List ℕ
  to_double n x = double_of (double (ptr x) n) x

  abbrev pub walk_of : ℕ → List ℕ → List ℕ
  walk_of n x = to_double n (to_indirect n (direct_of n x))

-- ---- P j x says that x is as it is to be once the bytes of blocks below j are done

module _
    (img : List ℕ)
    (nb n off end : ℕ)
    (piece : ℕ → ℕ → List ℕ → List ℕ)
    (ptr : List ℕ → List ℕ)
    (P : ℕ → List ℕ → Type 0)
    (card : Readable img nb n)
    (ordered : off ≤ end)
    (inside : end ≤ 4096 * count img n)
    (skip : (i j : ℕ) (x : List ℕ) → i ≤ j → ((o : ℕ) → off ≤ o → o < end → 4096 * i ≤ o → o < 4096 * j → ⊥) → P i x → P j x)
    (step : (j : ℕ) (x : List ℕ) → j < count img n → off < 4096 * j + 4096 → 4096 * j < end → P j x → P (suc j) (piece (data_at img n j) j x))
    (same : (j : ℕ) (x : List ℕ) → P j x → (m a : ℕ) → Pointer img n m → 4096 * m ≤ a → a + 4 ≤ 4096 * m + 4096 → word (ptr x) a ≡ word img a)
  where
    few : after_of end ≤ count img n
    few = omega arith

    -- a run whose slots are those of its blocks
    run : (at i e : ℕ) (x : List ℕ) → i ≤ e → ((j : ℕ) → i ≤ j → j < e → (first_of off ≤ j) × (j < after_of end))
        → ((j : ℕ) (y : List ℕ) → i ≤ j → j < e → P j y → word (ptr y) (at + 4 * (j - i)) ≡ data_at img n j)
        → P i x → P e (run_of piece ptr nb off end at i e x)
    run at i e x ie range here p =
        let last : i + (e - i) ≡ e = omega arith in
        subst (λ (m : ℕ). P m (run_of piece ptr nb off end at i e x)) last
        (turns_keep (λ j y. piece (word (ptr y) (at + 4 * (j - i))) j y) i x (λ k y. P (i + k) y) (rw add-zero p) (e - i) turn)
      where
        turn : (k : ℕ) (y : List ℕ) → k < e - i → P (i + k) y → P (i + suc k) (piece (word (ptr y) (at + 4 * (i + k - i))) (i + k) y)
        turn k y l q =
            let next : suc (i + k) ≡ i + suc k = omega arith in
            let r = range (i + k) (omega arith) (omega arith) in
            rw (here (i + k) y (omega arith) (omega arith) q, ← next)
            (step (i + k) y (omega (arith, few)) (omega arith) (omega arith) q)

    -- the twelve slots of the record
    direct : (x : List ℕ) → P 0 x → P 12 (direct_of piece ptr nb off end n x)
    direct x p =
        skip e 12 _ (omega arith) (λ o a b c d. omega arith)
        (run (4096 * n + 12 + 4 * i) i e x (omega arith) (λ j l h. (omega arith, omega arith)) here
        (skip 0 i x (omega arith) (λ o a b c d. omega arith) p))
      where
        i : ℕ
        i = min (first_of off) 12

        e : ℕ
        e = min (after_of end) 12

        here : (j : ℕ) (y : List ℕ) → i ≤ j → j < e → P j y → word (ptr y) (4096 * n + 12 + 4 * i + 4 * (j - i)) ≡ data_at img n j
        here j y l h q =
            let place : 4096 * n + 12 + 4 * i + 4 * (j - i) ≡ 4096 * n + 12 + 4 * j = omega arith in
            rw place (same j y q n (4096 * n + 12 + 4 * j) own (omega arith) (omega arith) ∙ sym (data_direct img n j (omega arith)))

    -- the slots of the indirect block
    through : (x : List ℕ) → P 12 x → P 1036 (to_indirect piece ptr nb off end n x)
    through x p = rw (same 12 x p n (4096 * n + 60) own (omega arith) (omega arith)) (go (dec_lt (indirect img n) nb))
      where
        i : ℕ
        i = within 12 1036 (first_of off)

        e : ℕ
        e = within 12 1036 (after_of end)

        here : (j : ℕ) (y : List ℕ) → i ≤ j → j < e → P j y → word (ptr y) (4096 * indirect img n + 4 * (i - 12) + 4 * (j - i)) ≡ data_at img n j
        here j y l h q =
            let many : 12 ≤ count img n = omega (arith, few) in
            rw (shift (4096 * indirect img n) 12 i j (omega arith) l)
            (same j y q (indirect img n) (4096 * indirect img n + 4 * (j - 12)) (first many) (omega arith) (omega arith)
            ∙ sym (data_indirect img n j (omega arith) (omega arith)))

        go : Dec (indirect img n < nb) → P 1036 (indirect_of piece ptr nb off end (indirect img n) x)
        go (yes l) =
            rw (lt-ltb (indirect img n) nb l)
            (skip e 1036 _ (omega arith) (λ o a b c d. omega arith)
            (run (4096 * indirect img n + 4 * (i - 12)) i e x (omega arith) (λ j h k. (omega arith, omega arith)) here
            (skip 12 i x (omega arith) (λ o a b c d. omega arith) p)))
        go (no m) = rw (le-ltb (indirect img n) nb (omega arith)) (skip 12 1036 x (omega arith) (λ o a b c d. m (card.one (omega arith))) p)

    -- the slots of block q of the second level
    level : (q : ℕ) (x : List ℕ) → levels_from off ≤ q → q < levels_to end → P (1036 + 1024 * q) x
        → P (1036 + 1024 * suc q) (level_of piece ptr nb off end (second img n q) q x)
    level q x fq qt p =
        rw (lt-ltb (second img n q) nb (card.levels q lev))
        (skip e (1036 + 1024 * suc q) _ (omega arith) (λ o a b c d. omega arith)
        (run (4096 * second img n q + 4 * (i - (1036 + 1024 * q))) i e x (omega arith) (λ j h k. (omega arith, omega arith)) here
        (skip (1036 + 1024 * q) i x (omega arith) (λ o a b c d. omega arith) p)))
      where
        i : ℕ
        i = level_from off q

        e : ℕ
        e = level_to end q

        lev : q < seconds (count img n)
        lev = omega (arith, few, seconds_some (count img n) (omega (arith, few)))

        here : (j : ℕ) (y : List ℕ) → i ≤ j → j < e → P j y
            → word (ptr y) (4096 * second img n q + 4 * (i - (1036 + 1024 * q)) + 4 * (j - i)) ≡ data_at img n j
        here j y l h r =
            let which : (j - 1036) / 1024 ≡ q = omega arith in
            let place : j - (1036 + 1024 * q) ≡ (j - 1036) % 1024 = omega arith in
            rw (shift (4096 * second img n q) (1036 + 1024 * q) i j (omega arith) l, place)
            (same j y r (second img n q) (4096 * second img n q + 4 * ((j - 1036) % 1024)) (table q lev) (omega arith) (omega arith)
            ∙ sym (rw which at (data_double img n j (omega arith) (omega arith))))

    -- the blocks of the second level
    twice : (x : List ℕ) → P 1036 x → P 1049612 (to_double piece ptr nb off end n x)
    twice x p = rw (same 1036 x p n (4096 * n + 64) own (omega arith) (omega arith)) (go (dec_lt (double img n) nb))
      where
        i : ℕ
        i = levels_from off

        e : ℕ
        e = levels_to end

        f : ℕ → List ℕ → List ℕ
        f q y = level_of piece ptr nb off end (word (ptr y) (4096 * double img n + 4 * q)) q y

        turn : (k : ℕ) (y : List ℕ) → k < e - i → P (1036 + 1024 * (i + k)) y → P (1036 + 1024 * (i + suc k)) (f (i + k) y)
        turn k y l q =
            let next : suc (i + k) ≡ i + suc k = omega arith in
            let many : 1036 ≤ count img n = omega (arith, few) in
            rw (same _ y q (double img n) (4096 * double img n + 4 * (i + k)) (top many) (omega arith) (omega arith), ← next)
            (level (i + k) y (omega arith) (omega arith) q)

        go : Dec (double img n < nb) → P 1049612 (double_of piece ptr nb off end (double img n) x)
        go (yes l) =
            rw (lt-ltb (double img n) nb l)
            (skip (1036 + 1024 * (i + (e - i))) 1049612 _ (omega arith) (λ o a b c d. omega arith)
            (turns_keep f i x (λ k y. P (1036 + 1024 * (i + k)) y) (rw add-zero (skip 1036 (1036 + 1024 * i) x (omega arith) (λ o a b c d. omega arith) p)) (e - i) turn))
        go (no m) = rw (le-ltb (double img n) nb (omega arith)) (skip 1036 1049612 x (omega arith) (λ o a b c d. m (card.two (omega arith))) p)

    -- the whole walk
    pub walk : (x : List ℕ) → P 0 x → P 1049612 (walk_of piece ptr nb off end n x)
    walk x p = twice _ (through _ (direct x p))
