-- What a visited and named slot leaves of each slot: status, block and place. Assumes nothing.
use Prim.Native.Nat.{ℕ, ◌+◌, ◌*◌, ◌/◌, ◌<◌}
use mathlib.Core.Path.{◌≡◌, ap, ◌∙◌}
use mathlib.Core.Logic.{◌≢◌}
use mathlib.Core.List.{List}
use native.Mathlib.Omega.{arith}
use native.Mathlib.Decide.{dec_lt}
use borrow.Author.Tests.{lt-ltb, le-ltb}
use lib.ListN.{length, set, length-set}
use lib.Seq.{get_or-set_same, get_or-set_other}
use Rattle.words.proofs.Runs.{length-puts, byte-puts_off, byte-puts_in}
use Rattle.cache_order.specs.Slots.{slots_in, status_at, block_at, place_at}
use Rattle.cache_order.specs.Order.{place_after, pushed, visited, named, entered}

module _ (w : List ℕ) (old : ℕ) where
  pub pushed-length : length (pushed w old) ≡ length w
  unfolding pushed
  pushed-length = length-puts w _ _ (slots_in w)

  pub pushed_status : (j : ℕ) → status_at (pushed w old) j ≡ status_at w j
  unfolding pushed
  pushed_status j = byte-puts_off w _ _ (slots_in w) (3 * j) (λ k l e. omega arith)

  pub pushed_block : (j : ℕ) → block_at (pushed w old) j ≡ block_at w j
  unfolding pushed
  pushed_block j = byte-puts_off w _ _ (slots_in w) (3 * j + 1) (λ k l e. omega arith)

  pub pushed_place : (j : ℕ) → j < slots_in w → place_at (pushed w old) j ≡ place_after old (place_at w j)
  unfolding pushed
  pushed_place j l =
      byte-puts_in w (λ k. 3 * k + 2) (λ k. place_after old (place_at w k)) (slots_in w) j l (omega arith) (λ k a m e. omega arith)

module _ (w : List ℕ) (i s b : ℕ) (l : i < slots_in w) where
  pub named-length : length (named w i s b) ≡ length w
  unfolding named
  named-length = length-set (set w (3 * i) s) (3 * i + 1) b ∙ length-set w (3 * i) s

  pub named_status : status_at (named w i s b) i ≡ s
  unfolding named
  named_status = get_or-set_other (set w (3 * i) s) (3 * i + 1) (3 * i) b 0 (λ e. omega arith) ∙ get_or-set_same w (3 * i) s 0 (omega arith)

  pub named_block : block_at (named w i s b) i ≡ b
  unfolding named
  named_block = get_or-set_same (set w (3 * i) s) (3 * i + 1) b 0 (omega (arith, length-set w (3 * i) s))

  pub named_status_off : (j : ℕ) → j ≢ i → status_at (named w i s b) j ≡ status_at w j
  unfolding named
  named_status_off j m =
      get_or-set_other (set w (3 * i) s) (3 * i + 1) (3 * j) b 0 (λ e. omega arith) ∙ get_or-set_other w (3 * i) (3 * j) s 0 (λ e. m (omega arith))

  pub named_block_off : (j : ℕ) → j ≢ i → block_at (named w i s b) j ≡ block_at w j
  unfolding named
  named_block_off j m =
      get_or-set_other (set w (3 * i) s) (3 * i + 1) (3 * j + 1) b 0 (λ e. m (omega arith)) ∙ get_or-set_other w (3 * i) (3 * j + 1) s 0 (λ e. omega arith)

  pub named_place : (j : ℕ) → place_at (named w i s b) j ≡ place_at w j
  unfolding named
  named_place j =
      get_or-set_other (set w (3 * i) s) (3 * i + 1) (3 * j + 2) b 0 (λ e. omega arith) ∙ get_or-set_other w (3 * i) (3 * j + 2) s 0 (λ e. omega arith)

module _ (w : List ℕ) (i : ℕ) (l : i < slots_in w) where
  pub visited-length : length (visited w i) ≡ length w
  unfolding visited
  visited-length = length-set (pushed w (place_at w i)) (3 * i + 2) 0 ∙ pushed-length w (place_at w i)

  pub visited_status : (j : ℕ) → status_at (visited w i) j ≡ status_at w j
  unfolding visited
  visited_status j =
      get_or-set_other (pushed w (place_at w i)) (3 * i + 2) (3 * j) 0 0 (λ e. omega arith) ∙ pushed_status w (place_at w i) j

  pub visited_block : (j : ℕ) → block_at (visited w i) j ≡ block_at w j
  unfolding visited
  visited_block j =
      get_or-set_other (pushed w (place_at w i)) (3 * i + 2) (3 * j + 1) 0 0 (λ e. omega arith) ∙ pushed_block w (place_at w i) j

  pub visited_place : place_at (visited w i) i ≡ 0
  unfolding visited
  visited_place = get_or-set_same (pushed w (place_at w i)) (3 * i + 2) 0 0 (omega (arith, pushed-length w (place_at w i)))

  pub visited_place_off : (j : ℕ) → j < slots_in w → j ≢ i → place_at (visited w i) j ≡ place_after (place_at w i) (place_at w j)
  unfolding visited
  visited_place_off j a m =
      get_or-set_other (pushed w (place_at w i)) (3 * i + 2) (3 * j + 2) 0 0 (λ e. m (omega arith)) ∙ pushed_place w (place_at w i) j a

module _ (w : List ℕ) (i s b : ℕ) (l : i < slots_in w) where
  inside_visited : i < slots_in (visited w i)
  inside_visited = omega (arith, visited-length w i l)

  pub entered-length : length (entered w i s b) ≡ length w
  unfolding entered
  entered-length = named-length (visited w i) i s b inside_visited ∙ visited-length w i l

  pub entered_slots : slots_in (entered w i s b) ≡ slots_in w
  entered_slots = ap (λ (n : ℕ). n / 3) entered-length

  pub entered_status : status_at (entered w i s b) i ≡ s
  unfolding entered
  entered_status = named_status (visited w i) i s b inside_visited

  pub entered_block : block_at (entered w i s b) i ≡ b
  unfolding entered
  entered_block = named_block (visited w i) i s b inside_visited

  pub entered_place : place_at (entered w i s b) i ≡ 0
  unfolding entered
  entered_place = named_place (visited w i) i s b inside_visited i ∙ visited_place w i l

  pub entered_status_off : (j : ℕ) → j ≢ i → status_at (entered w i s b) j ≡ status_at w j
  unfolding entered
  entered_status_off j m = named_status_off (visited w i) i s b inside_visited j m ∙ visited_status w i l j

  pub entered_block_off : (j : ℕ) → j ≢ i → block_at (entered w i s b) j ≡ block_at w j
  unfolding entered
  entered_block_off j m = named_block_off (visited w i) i s b inside_visited j m ∙ visited_block w i l j

  pub entered_place_off : (j : ℕ) → j < slots_in w → j ≢ i → place_at (entered w i s b) j ≡ place_after (place_at w i) (place_at w j)
  unfolding entered
  entered_place_off j a m = named_place (visited w i) i s b inside_visited j ∙ visited_place_off w i l j a m

-- places that differ still differ, and only the visited slot is first
module _ (old p : ℕ) (m : p ≢ old) where
  pub after_not_first : place_after old p ≢ 0
  unfolding place_after
  after_not_first = go (dec_lt p old)
    where
      go : Dec (p < old) → place_after old p ≢ 0
      go (yes a) e = let x = lt-ltb p old a in let z : p + 1 ≡ 0 = rw x at e in omega arith
      go (no a) e = let x = le-ltb p old (omega arith) in let z : p ≡ 0 = rw x at e in omega arith

  pub after_differ : (q : ℕ) → q ≢ old → p ≢ q → place_after old p ≢ place_after old q
  unfolding place_after
  after_differ q n d = go (dec_lt p old) (dec_lt q old)
    where
      go : Dec (p < old) → Dec (q < old) → place_after old p ≢ place_after old q
      go (yes a) (yes c) e = let z : p + 1 ≡ q + 1 = rw (lt-ltb p old a, lt-ltb q old c) at e in d (omega arith)
      go (yes a) (no c) e = let z : p + 1 ≡ q = rw (lt-ltb p old a, le-ltb q old (omega arith)) at e in n (omega arith)
      go (no a) (yes c) e = let z : p ≡ q + 1 = rw (le-ltb p old (omega arith), lt-ltb q old c) at e in m (omega arith)
      go (no a) (no c) e = let z : p ≡ q = rw (le-ltb p old (omega arith), le-ltb q old (omega arith)) at e in d z
