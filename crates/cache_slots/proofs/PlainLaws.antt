-- The laws that the loops between records and words go by.
use mathlib.Core.Path.{◌≡◌, refl, ◌∙◌}
use Prim.Native.Nat.{ℕ, zero, suc, ◌+◌, ◌*◌, ◌<◌, ◌≤◌, min}
use native.Mathlib.Numerals.{add-one}
use native.Mathlib.Omega.{arith}
use native.Mathlib.Decide.{dec_lt}
use mathlib.Core.List.{List, ◌++◌}
use lib.Dec.{ltb}
use lib.ListN.{length, get_or, set, take, drop, length-set, length-append, length-drop}
use lib.Seq.{take_at, length-take-le}
use borrow.Author.Tests.{lt-ltb, le-ltb, ne_eqb}
use Rattle.std.specs.Prelude.{Result, Ok, Err}
use Rattle.std.specs.Result.{result_unwrap_or}
use Rattle.refusals.specs.declared.Refusal.{Refusal}
use Rattle.words.specs.Words.{pick}
use Rattle.cache_order.specs.declared.Status.{Status}
use Rattle.cache_order.specs.declared.Status.TheVariants.{Unused, Valid, Dirty}
use Rattle.cache_order.specs.Status.{StatusOf, status_by}
use Rattle.cache_slots.specs.declared.Slot.{Slot}
use Rattle.cache_slots.specs.declared.Plain.{Plain}
use Rattle.cache_slots.specs.Slots.{none}
use Rattle.cache_slots.specs.Plain.{few, blank_of, put_of, slot_of, load_to, spread_to, PlainCall}

pub few_min : (n : ℕ) → few n ≡ min n 64
unfolding few
few_min n = go (dec_lt n 64)
  where
    go : Dec (n < 64) → pick (ltb n 64) n 64 ≡ min n 64
    go (yes l) = rw (lt-ltb n 64 l) (omega arith)
    go (no l) = rw (le-ltb n 64 (omega arith)) (omega arith)

-- the status that a word says, and unused where it says none
pub status_read : (x : ℕ) (r : Result Status Refusal) → StatusOf x r → result_unwrap_or r Unused ≡ status_by x
status_read x (Ok Unused) h = rw (← h) refl
status_read x (Ok Valid) h = rw (← h) refl
status_read x (Ok Dirty) h = rw (← h) refl
status_read x (Err e) h = rw (ne_eqb x 1 (λ z. omega arith), ne_eqb x 2 (λ z. omega arith)) refl

pub load_none : (ss : List Slot) → blank_of (length ss) ≡ load_to ss 0
unfolding load_to
load_none ss = refl

pub load_more : (ss : List Slot) (k : ℕ) → put_of (load_to ss k) k (get_or ss k none) ≡ load_to ss (k + 1)
unfolding load_to
load_more ss k = rw (add-one k)

pub spread_none : (ss : List Slot) (a : Plain) → ss ≡ spread_to ss a 0
unfolding spread_to
spread_none ss a = refl

pub spread_more : (ss : List Slot) (a : Plain) (k : ℕ) → set (spread_to ss a k) k (slot_of a k) ≡ spread_to ss a (k + 1)
unfolding spread_to
spread_more ss a k = rw (add-one k)

pub spread_length : (ss : List Slot) (a : Plain) (k : ℕ) → length (spread_to ss a k) ≡ length ss
unfolding spread_to
spread_length ss a zero = refl
spread_length ss a (suc k) = length-set (spread_to ss a k) k (slot_of a k) ∙ spread_length ss a k

-- a call on the first e words, said of all of them: its words come back in front of the others
pub part_call : (a : Plain) (zs : List ℕ) (e n : ℕ) (Nothing : Type 0) (On : List ℕ → List ℕ → ℕ → Type 0) → length a.words ≡ 192
    → (a.count ≤ 64) × (e ≡ 3 * a.count) → length zs ≡ length (take e a.words) → On (take e a.words) zs n
    → PlainCall a (record { words = zs ++ drop e a.words; count = a.count }) Nothing On n
part_call a zs e n Nothing On w h l o =
    let x = length-take-le e a.words (omega arith) in
    record {
      long = simp (length-append, length-drop) (omega arith);
      counted = refl;
      many = λ z. absurd (omega arith);
      call = λ z. rw (← h.1, take_at zs (drop e a.words) e (l ∙ x)) o;
    }
