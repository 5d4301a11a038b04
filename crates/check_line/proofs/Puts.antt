-- Bytes put into a buffer, one part behind another. Assumes nothing.
use mathlib.Core.Path.{◌≡◌, refl, sym, ap, ◌∙◌}
use mathlib.Core.Logic.{◌≢◌}
use mathlib.Core.List.{List, [], ◌∷◌, ◌++◌}
use Prim.Native.Nat.{ℕ, zero, suc, ◌+◌, ◌≤◌, ◌<◌}
use native.Mathlib.Nat.{le_refl}
use native.Mathlib.Omega.{arith}
use borrow.Author.Tests.{le-leb}
use lib.ListN.{length, set, take, drop, length-append, get_or-append}
use lib.Seq.{set_comm, get_or-append-add, take-length, length-take-le}
use Rattle.words.specs.Words.{byte}
use Rattle.words.specs.Runs.{puts, copied}
use Rattle.words.proofs.Runs.{puts_is, puts_paste, copied_add, length-copied}
use Rattle.check_line.specs.Line.{line_of, put_at, line_room, line_length, lined}
use Rattle.check_walk.specs.Opening.{Opened}

pub length-put : (d : List ℕ) (at : ℕ) (xs : List ℕ) → length (put_at d at xs) ≡ length d
length-put d at xs = length-copied d at xs 0 (length xs)

-- one part and then another are put as one
pub put_append : (d : List ℕ) (at : ℕ) (xs ys : List ℕ) → put_at (put_at d at xs) (at + length xs) ys ≡ put_at d at (xs ++ ys)
unfolding copied
put_append d at xs ys =
    ap (λ (x : List ℕ). put_at x (at + length xs) ys) first
    ∙ second
    ∙ copied_add d at (xs ++ ys) 0 (length xs) (length ys)
    ∙ ap (copied d at (xs ++ ys) 0) (sym (length-append xs ys))
  where
    first : put_at d at xs ≡ copied d at (xs ++ ys) 0 (length xs)
    first = puts_is d _ _ _ _ (length xs) (λ k l. refl) (λ k l. sym (get_or-append xs ys 0 (0 + k) (omega arith)))

    second : put_at (copied d at (xs ++ ys) 0 (length xs)) (at + length xs) ys
        ≡ copied (copied d at (xs ++ ys) 0 (length xs)) (at + length xs) (xs ++ ys) (0 + length xs) (length ys)
    second =
        puts_is (copied d at (xs ++ ys) 0 (length xs)) _ _ _ _ (length ys) (λ k l. refl)
        (λ k l.
        let e : 0 + k ≡ k = omega arith in
        let f : 0 + length xs + k ≡ length xs + k = omega arith in
        rw (e, f) (sym (get_or-append-add xs ys k 0)))

-- bytes put at the start stand there, and the others are as they were
pub put_front : (d xs : List ℕ) → length xs ≤ length d → put_at d 0 xs ≡ xs ++ drop (length xs) d
unfolding copied
put_front d xs l =
    let e : 0 + length xs ≡ length xs = omega arith in
    puts_paste d 0 (λ k. byte xs (0 + k)) xs (length xs) (omega arith) (le_refl (length xs)) (λ k h. ap (byte xs) (omega arith))
    ∙ ap (λ (n : ℕ). take (length xs) xs ++ drop n d) e
    ∙ ap (λ (l : List ℕ). l ++ drop (length xs) d) (take-length xs)

pub put_one : (d : List ℕ) (at x : ℕ) → put_at d at (x ∷ []) ≡ set d at x
unfolding copied puts
put_one d at x = let e : at + 0 ≡ at = omega arith in rw e

set-puts : (d : List ℕ) (addr f : ℕ → ℕ) (n j x : ℕ) → ((k : ℕ) → k < n → addr k ≢ j) → set (puts d addr f n) j x ≡ puts (set d j x) addr f n
unfolding puts
set-puts d addr f zero j x h = refl
set-puts d addr f (suc n) j x h =
    set_comm (puts d addr f n) (addr n) j (f n) x (h n (omega arith))
    ∙ ap (λ (l : List ℕ). set l (addr n) (f n)) (set-puts d addr f n j x (λ k l. h k (omega arith)))

-- the last byte of a part may be put first
pub put_last : (d : List ℕ) (at : ℕ) (xs : List ℕ) (x : ℕ) → put_at d at (xs ++ x ∷ []) ≡ put_at (set d (at + length xs) x) at xs
unfolding copied
put_last d at xs x =
    sym (put_append d at xs (x ∷ []))
    ∙ put_one (put_at d at xs) (at + length xs) x
    ∙ set-puts d _ _ (length xs) (at + length xs) x (λ k l e. omega arith)

-- o is d with xs at its start, and n the place behind them: what straight-line code that puts parts has made so far
pub record Made (d xs o : List ℕ) (n : ℕ) : Type 0 where
  pub end : n ≡ length xs
  pub bytes : o ≡ put_at d 0 xs

pub made_first : {d xs o : List ℕ} {n : ℕ} → n ≡ 0 + length xs → o ≡ put_at d 0 xs → Made d xs o n
made_first e b = record { end = omega arith; bytes = b }

pub made_more : {d xs o o' : List ℕ} {n n' : ℕ} (ys : List ℕ) → Made d xs o n → n' ≡ n + length ys → o' ≡ put_at o n ys → Made d (xs ++ ys) o' n'
made_more {d} {xs} ys m e b =
    let p : 0 + length xs ≡ length xs = omega arith in
    record {
      end = omega (arith, m.end, length-append xs ys);
      bytes = b ∙ rw (m.bytes, m.end) (ap (λ (k : ℕ). put_at (put_at d 0 xs) k ys) (sym p) ∙ put_append d 0 xs ys);
    }

-- the line of an answer put into a buffer with room, as `check_line` promises it
pub lined_by : (r k : Opened) (d : List ℕ) {o : List ℕ} {n : ℕ} → r ≡ k → line_room ≤ length d
    → ((n ≡ length (line_of k)) × (n ≤ line_room)) × (o ≡ put_at d 0 (line_of k))
    → (n ≡ line_length r d) × ((o ≡ lined r d) × ((n ≤ length o) × (n ≡ length (take n o))))
lined_by r k d {o} {n} e room p =
    let same : length o ≡ length d = ap length p.1 ∙ length-put d 0 (line_of k) in
    let fits : n ≤ length o = omega (arith, p.0.1) in
    rw (e, le-leb line_room (length d) room) (p.0.0, (p.1, (fits, sym (length-take-le n o fits))))
