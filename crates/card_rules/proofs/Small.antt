-- Laws for cards of few inodes, for computed examples. Assumes nothing.
use mathlib.Core.Path.{◌≡◌, refl, sym, ap, subst}
use mathlib.Core.Bool.{Bool, true, false}
use mathlib.Core.List.{List}
use mathlib.Core.Logic.{⊎_elim}
use Prim.Native.Nat.{ℕ, zero, suc, ◌+◌, ◌≤◌, ◌<◌}
use native.Mathlib.Omega.{arith}
use lib.Dec.{T}
use Rattle.words.specs.Sums.{δ, sum_to, sum_on}
use Rattle.words.proofs.Sums.{δ_other, split_last, sum_to_none, sum_on_pos}
use Rattle.card_layout.specs.Super.{blocks, maps}
use Rattle.card_layout.specs.Inode.{count, direct}
use Rattle.card_layout.specs.Slots.{slot_of, seconds}
use Rattle.card_map.specs.Bits.{map_bit}
use Rattle.card_rules.specs.View.{data_at, kids, owns, uses}
use Rattle.card_rules.specs.Whole.{Reached, root, down, Whole}

-- ---- a test computed over a range

abbrev both : Bool → Bool → Bool
both true b = b
both false b = false

both_left : (a b : Bool) → T (both a b) → T a
both_left true b t = tt
both_left false b t = t

both_right : (a b : Bool) → T (both a b) → T b
both_right true b t = t
both_right false b t = absurd t

-- the test passes at each number below n
abbrev pub each_below : (ℕ → Bool) → ℕ → Bool
each_below f zero = true
each_below f (suc n) = both (each_below f n) (f n)

pub each_below_lem : (f : ℕ → Bool) (n : ℕ) → T (each_below f n) → (b : ℕ) → b < n → T (f b)
each_below_lem f zero t b l = absurd (omega arith)
each_below_lem f (suc n) t b l =
    let r = each_below_lem f n (both_left (each_below f n) (f n) t) b in
    ⊎_elim (λ e. subst (λ (x : ℕ). T (f x)) (sym e) (both_right (each_below f n) (f n) t)) r (split_last b n l)

-- ---- few inodes

-- nothing but the root is reached where it has no children
pub only_root : (img : List ℕ) → kids img 1 ≡ 0 → (n : ℕ) → Reached img n → n ≡ 1
only_root img k n root = refl
only_root img k n (down m j r l e) =
    let q = only_root img k _ r in
    absurd (omega (arith, ap (λ (x : ℕ). kids img x) q))

-- what an inode of one block owns
pub owns_one : (img : List ℕ) (n b : ℕ) → count img n ≡ 1 → owns img n b ≡ δ n b + δ (direct img n 0) b
unfolding owns seconds sum_to data_at slot_of
owns_one img n b e = rw e (omega arith)

-- what is in use on a card with one map block
pub uses_small : (img : List ℕ) (l : List ℕ) (b : ℕ) → maps img ≡ 1 → uses img l b ≡ δ 0 b + δ 2 b + sum_on (λ n. owns img n b) l
unfolding uses sum_to
uses_small img l b e = rw e (omega arith)

-- a block after the map that is not free and that no inode of the tree owns
pub unowned : (img : List ℕ) (b : ℕ) → 2 + maps img ≤ b → b < blocks img → map_bit img b ≡ 0 → ((n : ℕ) → Reached img n → owns img n b ≡ 0) → Whole img → ⊥
unfolding uses
unowned img b a l z h w =
    let none : sum_to (λ i. δ (2 + i) b) (maps img) ≡ 0 = sum_to_none (λ i. δ (2 + i) b) (maps img) (λ i k. δ_other (2 + i) b (λ e. omega arith)) in
    let owned : 0 < sum_on (λ n. owns img n b) w.inodes =
    omega (arith, w.sound.once b l, none, δ_other 0 b (λ e. omega arith)) in
    let p = sum_on_pos (λ n. owns img n b) w.inodes owned in
    omega (arith, h p.0 (w.tree.only p.0 p.1), p.2)
