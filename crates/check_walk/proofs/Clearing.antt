-- The scratch that is cleared before and after the judging. Assumes nothing.
use mathlib.Core.Path.{◌≡◌, sym, ap, ◌∙◌}
use mathlib.Core.List.{List, ◌++◌}
use Prim.Native.Nat.{ℕ, ◌+◌, ◌-◌, ◌≤◌, ◌<◌}
use native.Mathlib.Omega.{arith}
use native.Mathlib.Decide.{dec_lt}
use lib.ListN.{length, get_or, take, drop, length-append, length-drop, get_or-eq_default}
use lib.Seq.{length-take-le, get_or-take, get_or-drop, get_or-append-add, ext_get_or}
use Rattle.words.specs.Runs.{zeroed}
use Rattle.words.proofs.Runs.{length-zeroed, byte-zeroed_off, byte-zeroed_in}
use Rattle.check_walk.specs.Inner.{Zero}

-- the first n words are 0, the later ones as they were
front_zero : (s : List ℕ) (n i : ℕ) → n ≤ length s → i < n → get_or (zeroed s 0 n) i 0 ≡ 0
front_zero s n i l b = ap (λ (x : ℕ). get_or (zeroed s 0 n) x 0) (let e : i ≡ 0 + i = omega arith in e) ∙ byte-zeroed_in s 0 n i (omega arith) b

back_same : (s : List ℕ) (n i : ℕ) → n ≤ i → get_or (zeroed s 0 n) i 0 ≡ get_or s i 0
back_same s n i l = byte-zeroed_off s 0 n i (λ p q. omega arith)

module _ (s zs : List ℕ) (n : ℕ) (l : n ≤ length s) (e : zs ≡ zeroed s 0 n) where
  pub zeros_long : length zs ≡ length s
  zeros_long = ap length e ∙ length-zeroed s 0 n

  pub part_long : length (take n zs) ≡ n
  part_long = length-take-le n zs (omega (arith, zeros_long))

  pub part_zero : Zero (take n zs)
  part_zero = record { all = λ i. go i (dec_lt i n) }
    where
      go : (i : ℕ) → Dec (i < n) → get_or (take n zs) i 0 ≡ 0
      go i (yes b) = get_or-take n zs i 0 b ∙ ap (λ (x : List ℕ). get_or x i 0) e ∙ front_zero s n i l b
      go i (no b) = get_or-eq_default (take n zs) 0 {n = i} (omega (arith, part_long))

  -- the part comes back as p
  module _ (p : List ℕ) (k : length p ≡ n) where
    pub back_long : length (p ++ drop n zs) ≡ length s
    back_long = simp (length-append, length-drop) (omega (arith, zeros_long))

    after : (i : ℕ) → n ≤ i → get_or (p ++ drop n zs) i 0 ≡ get_or s i 0
    after i b =
        let a : i ≡ length p + (i - n) = omega arith in
        let c : n + (i - n) ≡ i = omega arith in
        ap (λ (x : ℕ). get_or (p ++ drop n zs) x 0) a
        ∙ get_or-append-add p (drop n zs) (i - n) 0
        ∙ get_or-drop n zs (i - n) 0
        ∙ ap (λ (x : ℕ). get_or zs x 0) c
        ∙ ap (λ (x : List ℕ). get_or x i 0) e
        ∙ back_same s n i b

    pub zeros_twice : zeroed (p ++ drop n zs) 0 n ≡ zeroed s 0 n
    zeros_twice =
        ext_get_or 0 (zeroed (p ++ drop n zs) 0 n) (zeroed s 0 n)
        (length-zeroed (p ++ drop n zs) 0 n ∙ back_long ∙ sym (length-zeroed s 0 n))
        (λ i _. go i (dec_lt i n))
      where
        go : (i : ℕ) → Dec (i < n) → get_or (zeroed (p ++ drop n zs) 0 n) i 0 ≡ get_or (zeroed s 0 n) i 0
        go i (yes b) = front_zero (p ++ drop n zs) n i (omega (arith, back_long)) b ∙ sym (front_zero s n i l b)
        go i (no b) = back_same (p ++ drop n zs) n i (omega arith) ∙ after i (omega arith) ∙ sym (back_same s n i (omega arith))
