-- The blocks that an inode uses, in the runs in which they are marked: those that its record names, those that its indirect block names, and those
-- below its double indirect block. Assumes nothing.
use mathlib.Core.Path.{◌≡◌, sym, ap, ◌∙◌}
use mathlib.Core.Bool.{Bool, true, false}
use mathlib.Core.List.{List}
use Prim.Native.Nat.{ℕ, zero, suc, ◌+◌, ◌-◌, ◌*◌, ◌/◌, ◌%◌, ◌≤◌, ◌<◌, min}
use native.Mathlib.Omega.{arith}
use native.Mathlib.Decide.{dec_lt}
use lib.Dec.{ltb}
use Rattle.words.specs.Words.{pick, word}
use Rattle.words.specs.Sums.{δ, sum_to}
use Rattle.words.proofs.Sums.{δ_same, sum_to_zero, sum_to_suc, sum_to_cong, sum_to_more}
use Rattle.card_layout.specs.Inode.{count, indirect, double}
use Rattle.card_layout.specs.Slots.{seconds}
use Rattle.card_layout.specs.declared.inode.Head.{Head}
use Rattle.card_rules.specs.View.{slot, second, data_at, owns}
use Rattle.card_rules.proofs.Views.{data_direct, data_indirect, data_double, seconds_none, seconds_some, some_from, owns_parts}
use Rattle.check_marks.specs.Inner.{run_use, record_use, slots_at, level_use, indirect_use, double_use, HeadOf}

-- a run of one word, or of none
pub run_one : (img : List ℕ) (at : ℕ) (t : Bool) (b : ℕ) → run_use img at (pick t 0 1) b ≡ pick t 0 (δ (word img at) b)
run_one img at true b = sum_to_zero (λ j. δ (word img (at + 4 * j)) b)
run_one img at false b =
    let e : at + 4 * 0 ≡ at = omega arith in
    omega (
      arith,
      sum_to_suc (λ j. δ (word img (at + 4 * j)) b) 0,
      sum_to_zero (λ j. δ (word img (at + 4 * j)) b),
      ap (λ (x : ℕ). δ (word img x) b) e,
    )

pub one_at_most : (t : Bool) → pick t 0 1 ≤ 1
one_at_most true = omega arith
one_at_most false = omega arith

-- the first m terms, in k pieces of 1,024 of which the last ones may be short
pub pieces : (g : ℕ → ℕ) (m k : ℕ) → sum_to g (min m (1024 * k)) ≡ sum_to (λ j. sum_to (λ i. g (1024 * j + i)) (min (m - 1024 * j) 1024)) k
pieces g m zero =
    let e : min m (1024 * 0) ≡ 0 = omega arith in
    ap (sum_to g) e ∙ sum_to_zero g ∙ sym (sum_to_zero (λ j. sum_to (λ i. g (1024 * j + i)) (min (m - 1024 * j) 1024)))
pieces g m (suc k) =
    let r : ℕ = min (m - 1024 * k) 1024 in
    let e : min m (1024 * suc k) ≡ min m (1024 * k) + r = omega arith in
    let same : (i : ℕ) → i < r → g (min m (1024 * k) + i) ≡ g (1024 * k + i) =
    λ i l. ap g (let q : min m (1024 * k) + i ≡ 1024 * k + i = omega arith in q) in
    omega (
      arith,
      ap (sum_to g) e,
      sum_to_more g (min m (1024 * k)) r,
      sum_to_cong (λ i. g (min m (1024 * k) + i)) (λ i. g (1024 * k + i)) r same,
      pieces g m k,
      sum_to_suc (λ j. sum_to (λ i. g (1024 * j + i)) (min (m - 1024 * j) 1024)) k,
    )

-- the pieces reach to the end
pub seconds_cover : (c : ℕ) → c - 1036 ≤ 1024 * seconds c
seconds_cover c = go (dec_lt c 1036)
  where
    go : Dec (c < 1036) → c - 1036 ≤ 1024 * seconds c
    go (yes l) = omega arith
    go (no l) = omega (arith, seconds_some c (omega arith))

-- ---- the data blocks of a file of c blocks

module _ (img : List ℕ) (n c b : ℕ) (small : c ≤ 1049612) where
  at_data : ℕ → ℕ
  at_data i = δ (data_at img n i) b

  directs_run : sum_to at_data (min c 12) ≡ run_use img (4096 * n + 12) (min c 12) b
  unfolding at_data
  directs_run =
      sum_to_cong at_data (λ j. δ (word img (4096 * n + 12 + 4 * j)) b) (min c 12)
      (λ i l. ap (λ (x : ℕ). δ x b) (data_direct img n i (omega arith)))

  indirect_run : sum_to (λ i. at_data (12 + i)) (min c 1036 - 12) ≡ indirect_use img (indirect img n) c b
  unfolding at_data
  indirect_run =
      sum_to_cong (λ i. at_data (12 + i)) (λ j. δ (word img (4096 * indirect img n + 4 * j)) b) (min c 1036 - 12)
      (λ i l.
      let e : 12 + i - 12 ≡ i = omega arith in
      ap (λ (x : ℕ). δ x b) (data_indirect img n (12 + i) (omega arith) (omega arith) ∙ ap (slot img (indirect img n)) e))

  piece_run : (j : ℕ) → sum_to (λ i. at_data (1036 + (1024 * j + i))) (min (c - 1036 - 1024 * j) 1024) ≡ run_use img (4096 * second img n j) (slots_at c j) b
  unfolding at_data
  piece_run j =
      let s : min (c - 1036 - 1024 * j) 1024 ≡ slots_at c j = omega arith in
      sum_to_cong (λ i. at_data (1036 + (1024 * j + i))) (λ i. δ (word img (4096 * second img n j + 4 * i)) b) (min (c - 1036 - 1024 * j) 1024)
      (λ i l.
      let q : (1036 + (1024 * j + i) - 1036) / 1024 ≡ j = omega arith in
      let r : (1036 + (1024 * j + i) - 1036) % 1024 ≡ i = omega arith in
      ap (λ (x : ℕ). δ x b)
      (data_double img n (1036 + (1024 * j + i)) (omega arith) (omega arith)
      ∙ ap (λ (x : ℕ). slot img (second img n x) ((1036 + (1024 * j + i) - 1036) % 1024)) q
      ∙ ap (slot img (second img n j)) r))
      ∙ ap (λ (x : ℕ). run_use img (4096 * second img n j) x b) s

  level_run_lem : sum_to (λ i. at_data (1036 + i)) (c - 1036) ≡ level_use img (double img n) c (seconds c) b
  level_run_lem =
      let e : min (c - 1036) (1024 * seconds c) ≡ c - 1036 = omega (arith, seconds_cover c) in
      ap (sum_to (λ i. at_data (1036 + i))) (sym e)
      ∙ pieces (λ i. at_data (1036 + i)) (c - 1036) (seconds c)
      ∙ sum_to_cong
      (λ j. sum_to (λ i. at_data (1036 + (1024 * j + i))) (min (c - 1036 - 1024 * j) 1024))
      (λ j. run_use img (4096 * second img n j) (slots_at c j) b)
      (seconds c)
      (λ j l. piece_run j)

  pub data_runs : sum_to (λ i. δ (data_at img n i) b) c
      ≡ run_use img (4096 * n + 12) (min c 12) b + indirect_use img (indirect img n) c b + level_use img (double img n) c (seconds c) b
  unfolding at_data
  data_runs =
      let e : c ≡ min c 12 + (min c 1036 - 12) + (c - 1036) = omega arith in
      let m : ℕ = min c 1036 - 12 in
      let d : ℕ = c - 1036 in
      let p : sum_to (λ i. at_data (min c 12 + i)) m ≡ sum_to (λ i. at_data (12 + i)) m =
      sum_to_cong (λ i. at_data (min c 12 + i)) (λ i. at_data (12 + i)) m
      (λ i l. ap at_data (let q : min c 12 + i ≡ 12 + i = omega arith in q)) in
      let s : sum_to (λ i. at_data (min c 12 + m + i)) d ≡ sum_to (λ i. at_data (1036 + i)) d =
      sum_to_cong (λ i. at_data (min c 12 + m + i)) (λ i. at_data (1036 + i)) d
      (λ i l. ap at_data (let q : min c 12 + m + i ≡ 1036 + i = omega arith in q)) in
      omega (
        arith,
        ap (sum_to at_data) e,
        sum_to_more at_data (min c 12 + m) d,
        sum_to_more at_data (min c 12) m,
        p,
        s,
        directs_run,
        indirect_run,
        level_run_lem,
      )

-- ---- all that inode n uses

own_runs : (img : List ℕ) (n b : ℕ) → count img n ≤ 1049612
    → owns img n b ≡ record_use img n (count img n) b + indirect_use img (indirect img n) (count img n) b + double_use img (double img n) (count img n) b
own_runs img n b small =
    omega (
      arith,
      owns_parts img n b,
      run_one img (4096 * n + 60) (ltb (count img n) 12) b,
      run_one img (4096 * n + 64) (ltb (count img n) 1036) b,
      data_runs img n (count img n) b small,
    )

pub owns_runs : (img : List ℕ) (n c b : ℕ) → c ≡ count img n → c ≤ 1049612
    → owns img n b ≡ record_use img n c b + indirect_use img (indirect img n) c b + double_use img (double img n) c b
owns_runs img n c b e small = rw e (own_runs img n b (omega arith))

-- the same of a head of record n
pub owns_head : (img : List ℕ) (n : ℕ) (h : Head) → HeadOf img n h → h.blocks ≤ 1049612
    → (b : ℕ) → owns img n b ≡ record_use img n h.blocks b + indirect_use img h.indirect.0 h.blocks b + double_use img h.db_indirect.0 h.blocks b
owns_head img n h o small b = rw (o.single, o.twofold) (owns_runs img n h.blocks b o.blocks small)

-- a pointer that is there is one of the blocks that the record names
pub record_indirect : (img : List ℕ) (n c p : ℕ) → p ≡ indirect img n → 12 ≤ c → 0 < record_use img n c p
record_indirect img n c p e l =
    omega (
      arith,
      run_one img (4096 * n + 60) (ltb c 12) p,
      some_from c 12 (δ (indirect img n) p) l,
      δ_same (indirect img n) p (sym e),
    )

pub record_double : (img : List ℕ) (n c p : ℕ) → p ≡ double img n → 1036 ≤ c → 0 < record_use img n c p
record_double img n c p e l =
    omega (
      arith,
      run_one img (4096 * n + 64) (ltb c 1036) p,
      some_from c 1036 (δ (double img n) p) l,
      δ_same (double img n) p (sym e),
    )

-- below 1,036 blocks there is no second level
pub double_none : (img : List ℕ) (d c b : ℕ) → c < 1036 → double_use img d c b ≡ 0
double_none img d c b l =
    omega (
      arith,
      ap (sum_to (λ j. δ (word img (4096 * d + 4 * j)) b)) (seconds_none c l),
      ap (sum_to (λ j. run_use img (4096 * word img (4096 * d + 4 * j)) (slots_at c j) b)) (seconds_none c l),
      sum_to_zero (λ j. δ (word img (4096 * d + 4 * j)) b),
      sum_to_zero (λ j. run_use img (4096 * word img (4096 * d + 4 * j)) (slots_at c j) b),
    )
