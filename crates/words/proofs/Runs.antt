-- Laws of runs of stores and of loops: lengths, what is read where it was written, and what is read elsewhere. Assumes nothing.
use mathlib.Core.Path.{◌≡◌, refl, sym, ap, ◌∙◌}
use mathlib.Core.Logic.{◌≢◌}
use mathlib.Core.List.{List}
use Prim.Native.Nat.{ℕ, zero, suc, ◌+◌, ◌-◌, ◌*◌, ◌/◌, ◌%◌, ◌≤◌, ◌<◌}
use native.Mathlib.Nat.{le_refl, sub_self, add-zero, add-suc}
use native.Mathlib.Numerals.{add-one}
use native.Mathlib.Omega.{arith}
use native.Mathlib.Decide.{ℕ_discrete}
use lib.ListN.{length, set, length-set, replicate, length-replicate, get_or-replicate}
use lib.Seq.{set-get_or, paste, paste-zero, paste-suc, get_or-set_same, get_or-set_other}
use Rattle.words.specs.Words.{byte, num, put_num, Bytes}
use Rattle.words.specs.Inner.{Apart}
use Rattle.words.specs.Runs.{puts, copied, zeroed, turns}
use Rattle.words.proofs.Numbers.{bytes_set}

module _ (d : List ℕ) (addr f : ℕ → ℕ) where
  -- where a loop that stores begins, and a turn of it: n is what is stored so far
  pub puts_none : d ≡ puts d addr f 0
  unfolding puts
  puts_none = refl

  pub puts_more : (n : ℕ) → set (puts d addr f n) (addr n) (f n) ≡ puts d addr f (n + 1)
  unfolding puts
  puts_more n = rw add-one

  pub length-puts : (n : ℕ) → length (puts d addr f n) ≡ length d
  unfolding puts
  length-puts zero = refl
  length-puts (suc n) = length-set (puts d addr f n) (addr n) (f n) ∙ length-puts n

  pub byte-puts_off : (n p : ℕ) → ((k : ℕ) → k < n → p ≢ addr k) → byte (puts d addr f n) p ≡ byte d p
  unfolding puts
  byte-puts_off zero p h = refl
  byte-puts_off (suc n) p h = get_or-set_other (puts d addr f n) (addr n) p (f n) 0 (h n (omega arith)) ∙ byte-puts_off n p (λ k l. h k (omega arith))

  -- what stands where the k-th store went, where no later store went there
  pub byte-puts_in : (n k : ℕ) → k < n → addr k < length d → ((j : ℕ) → j < n → k < j → addr k ≢ addr j) → byte (puts d addr f n) (addr k) ≡ f k
  unfolding puts
  byte-puts_in zero k l h o = omega arith
  byte-puts_in (suc n) k l h o = go (ℕ_discrete k n) (λ l'. byte-puts_in n k l' h (λ j lj. o j (omega arith)))
    where
      go : Dec (k ≡ n) → (k < n → byte (puts d addr f n) (addr k) ≡ f k) → byte (set (puts d addr f n) (addr n) (f n)) (addr k) ≡ f k
      go (yes e) ih =
          let l = length-puts n in
          let h' : addr k < length (puts d addr f n) = omega arith in
          ap (λ (x : ℕ). byte (set (puts d addr f n) (addr x) (f x)) (addr k)) (sym e) ∙ get_or-set_same (puts d addr f n) (addr k) (f k) 0 h'
      go (no m) ih = get_or-set_other (puts d addr f n) (addr n) (addr k) (f n) 0 (o n (omega arith) (omega arith)) ∙ ih (omega arith)

-- the same stores, said otherwise
pub puts_is : (d : List ℕ) (addr f addr' f' : ℕ → ℕ) (n : ℕ) → ((k : ℕ) → k < n → addr k ≡ addr' k) → ((k : ℕ) → k < n → f k ≡ f' k) → puts d addr f n ≡ puts d addr' f' n
unfolding puts
puts_is d addr f addr' f' zero h g = refl
puts_is d addr f addr' f' (suc n) h g =
    let e = puts_is d addr f addr' f' n (λ k l. h k (omega arith)) (λ k l. g k (omega arith)) in
    let e₁ = h n (omega arith) in
    let e₂ = g n (omega arith) in
    cc

-- n stores and then m more
pub puts_add : (d : List ℕ) (addr f : ℕ → ℕ) (n m : ℕ) → puts (puts d addr f n) (λ k. addr (n + k)) (λ k. f (n + k)) m ≡ puts d addr f (n + m)
unfolding puts
puts_add d addr f n zero = ap (puts d addr f) (sym (add-zero n))
puts_add d addr f n (suc m) = ap (λ (l : List ℕ). set l (addr (n + m)) (f (n + m))) (puts_add d addr f n m) ∙ ap (puts d addr f) (sym (add-suc n m))

pub bytes_puts : (d : List ℕ) (addr f : ℕ → ℕ) (n : ℕ) → Bytes d → ((k : ℕ) → k < n → f k < 256) → Bytes (puts d addr f n)
unfolding puts
bytes_puts d addr f zero h g = h
bytes_puts d addr f (suc n) h g = bytes_set (addr n) (f n) (g n (omega arith)) (bytes_puts d addr f n h (λ k l. g k (omega arith)))

-- stores of what is there change nothing
pub puts_same : (d : List ℕ) (addr f : ℕ → ℕ) (n : ℕ) → ((k : ℕ) → k < n → f k ≡ byte d (addr k)) → puts d addr f n ≡ d
unfolding puts
puts_same d addr f zero h = refl
puts_same d addr f (suc n) h =
    ap (λ (l : List ℕ). set l (addr n) (f n)) (puts_same d addr f n (λ k l. h k (omega arith)))
    ∙ ap (λ (v : ℕ). set d (addr n) v) (h n (omega arith))
    ∙ set-get_or d (addr n) 0

-- n bytes and then m more
pub copied_add : (d : List ℕ) (at : ℕ) (s : List ℕ) (from n m : ℕ) → copied (copied d at s from n) (at + n) s (from + n) m ≡ copied d at s from (n + m)
unfolding copied
copied_add d at s from n m =
    puts_is (copied d at s from n) _ _ (λ k. at + (n + k)) (λ k. byte s (from + (n + k))) m
    (λ k l. omega arith)
    (λ k l. ap (λ (x : ℕ). byte s x) (omega arith))
    ∙ puts_add d (λ k. at + k) (λ k. byte s (from + k)) n m

-- a number that is read at one place and written at another: its bytes are copied
pub put_copied : (n : ℕ) (d : List ℕ) (at : ℕ) (s : List ℕ) (from : ℕ) → Bytes s → put_num n d at (num n s from) ≡ copied d at s from n
unfolding num put_num copied puts
put_copied zero d at s from h = refl
put_copied (suc n) d at s from h =
    let b : byte s from < 256 = h.below from in
    let low : (byte s from + 256 * num n s (from + 1)) % 256 ≡ byte s from = omega arith in
    let high : (byte s from + 256 * num n s (from + 1)) / 256 ≡ num n s (from + 1) = omega arith in
    let a₀ : at + 0 ≡ at = omega arith in
    let f₀ : from + 0 ≡ from = omega arith in
    let one : copied d at s from 1 ≡ set d at (byte s from) = rw (a₀, f₀) in
    let e : 1 + n ≡ suc n = omega arith in
    rw (low, high, put_copied n (set d at (byte s from)) (at + 1) s (from + 1) h, ← one)
    (copied_add d at s from 1 n ∙ ap (copied d at s from) e)

pub length-copied : (d : List ℕ) (at : ℕ) (s : List ℕ) (from n : ℕ) → length (copied d at s from n) ≡ length d
unfolding copied
length-copied d at s from n = length-puts d _ _ n

pub byte-copied_off : (d : List ℕ) (at : ℕ) (s : List ℕ) (from n k : ℕ) → Apart k 1 at n → byte (copied d at s from n) k ≡ byte d k
unfolding copied
byte-copied_off d at s from n k h = byte-puts_off d _ _ n k (λ j l e. h (omega arith) (omega arith))

pub byte-copied_in : (d : List ℕ) (at : ℕ) (s : List ℕ) (from n k : ℕ) → at + n ≤ length d → k < n → byte (copied d at s from n) (at + k) ≡ byte s (from + k)
unfolding copied
byte-copied_in d at s from n k h l = byte-puts_in d (λ j. at + j) (λ j. byte s (from + j)) n k l (omega arith) (λ j lj m. omega arith)

pub length-zeroed : (d : List ℕ) (at n : ℕ) → length (zeroed d at n) ≡ length d
unfolding zeroed
length-zeroed d at n = length-puts d _ _ n

pub byte-zeroed_off : (d : List ℕ) (at n k : ℕ) → Apart k 1 at n → byte (zeroed d at n) k ≡ byte d k
unfolding zeroed
byte-zeroed_off d at n k h = byte-puts_off d _ _ n k (λ j l e. h (omega arith) (omega arith))

pub byte-zeroed_in : (d : List ℕ) (at n k : ℕ) → at + n ≤ length d → k < n → byte (zeroed d at n) (at + k) ≡ 0
unfolding zeroed
byte-zeroed_in d at n k h l = byte-puts_in d (λ j. at + j) (λ j. 0) n k l (omega arith) (λ j lj m. omega arith)

pub bytes_copied : (d : List ℕ) (at : ℕ) (s : List ℕ) (from n : ℕ) → Bytes d → Bytes s → Bytes (copied d at s from n)
unfolding copied
bytes_copied d at s from n h g = bytes_puts d _ _ n h (λ k l. g.below (from + k))

-- copying the bytes that are there changes nothing
pub copied_same : (d : List ℕ) (at : ℕ) (s : List ℕ) (from n : ℕ) → at + n ≤ length d → ((k : ℕ) → k < n → byte s (from + k) ≡ byte d (at + k)) → copied d at s from n ≡ d
unfolding copied
copied_same d at s from n l h = puts_same d _ _ n h

-- what is copied once more is there already
copied_again : (d : List ℕ) (at : ℕ) (s : List ℕ) (from m k : ℕ) → at + m ≤ length d
    → copied (copied d at s from m) at s from (m + k) ≡ copied d at s from (m + k)
copied_again d at s from m k h =
    let x = copied d at s from m in
    let same = copied_same x at s from m (omega (arith, length-copied d at s from m)) (λ j l. sym (byte-copied_in d at s from m j h l)) in
    sym (copied_add x at s from m k) ∙ ap (λ (y : List ℕ). copied y (at + m) s (from + m) k) same ∙ copied_add d at s from m k

-- so the last 16 of n bytes may be copied where those below r are there
pub copied_tail : (d : List ℕ) (at : ℕ) (s : List ℕ) (from r n : ℕ) → 16 ≤ n → n ≤ r + 16 → r ≤ n → at + n ≤ length d
    → copied (copied d at s from r) (at + (n - 16)) s (from + (n - 16)) 16 ≡ copied d at s from n
copied_tail d at s from r n g l m h =
    let e = n - 16 in
    let a : e + (r - e) ≡ r = omega arith in
    let b : (r - e) + (16 - (r - e)) ≡ 16 = omega arith in
    let c : e + 16 ≡ n = omega arith in
    let x = copied d at s from e in
    let long : length x ≡ length d = length-copied d at s from e in
    let again = copied_again x (at + e) s (from + e) (r - e) (16 - (r - e)) (omega (arith, long)) in
    ap (λ (y : List ℕ). copied y (at + e) s (from + e) 16) (ap (copied d at s from) (sym a) ∙ sym (copied_add d at s from e (r - e)))
    ∙ ap (λ (y : ℕ). copied (copied x (at + e) s (from + e) (r - e)) (at + e) s (from + e) y) (sym b)
    ∙ again
    ∙ ap (copied x (at + e) s (from + e)) b
    ∙ copied_add d at s from e 16
    ∙ ap (copied d at s from) c

pub bytes_zeroed : (d : List ℕ) (at n : ℕ) → Bytes d → Bytes (zeroed d at n)
unfolding zeroed
bytes_zeroed d at n h = bytes_puts d _ _ n h (λ k l. omega arith)

-- ---- loops: the invariant of `for j in i..e` is `a ≡ turns f i (j - i) a₀`

module _ {A : Type 0} (f : ℕ → A → A) (i : ℕ) (a : A) where
  -- where the loop begins
  pub turns_none : a ≡ turns f i (i - i) a
  unfolding turns
  turns_none = rw (sub_self i)

  -- a turn
  pub turns_more : (j : ℕ) → i ≤ j → f j (turns f i (j - i) a) ≡ turns f i (j + 1 - i) a
  unfolding turns
  turns_more j h =
      let e : j + 1 - i ≡ suc (j - i) = omega arith in
      let e' : i + (j - i) ≡ j = omega arith in
      rw (e, e')

  -- what every turn keeps holds at the end
  pub turns_keep : (P : ℕ → A → Type 0) → P 0 a → (k : ℕ) → ((j : ℕ) (x : A) → j < k → P j x → P (suc j) (f (i + j) x)) → P k (turns f i k a)
  unfolding turns
  turns_keep P p zero h = p
  turns_keep P p (suc k) h = h k (turns f i k a) (omega arith) (turns_keep P p k (λ j x lt q. h j x (omega arith) q))

-- ---- for computing: a run of stores takes as many steps as its places' sum, and this form as many as the list is long

pub puts_paste : (d : List ℕ) (at : ℕ) (f : ℕ → ℕ) (s : List ℕ) (n : ℕ) → at + n ≤ length d → n ≤ length s → ((k : ℕ) → k < n → f k ≡ byte s k) → puts d (λ k. at + k) f n ≡ paste d at s n
unfolding puts
puts_paste d at f s zero hd hs h = paste-zero d at s
puts_paste d at f s (suc n) hd hs h =
    ap (λ (l : List ℕ). set l (at + n) (f n)) (puts_paste d at f s n (omega arith) (omega arith) (λ k l. h k (omega arith)))
    ∙ ap (λ (x : ℕ). set (paste d at s n) (at + n) x) (h n (omega arith))
    ∙ paste-suc d at s n 0 (omega arith) (omega arith)

pub zeroed_paste : (d : List ℕ) (at n : ℕ) → at + n ≤ length d → zeroed d at n ≡ paste d at (replicate n 0) n
unfolding zeroed
zeroed_paste d at n h = puts_paste d at (λ k. 0) (replicate n 0) n h (rw length-replicate (le_refl n)) (λ k l. sym (get_or-replicate n k 0 0 l))
