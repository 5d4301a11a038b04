-- What a search for a block tells, and what is done at a hit. Assumes nothing.
use mathlib.Core.Path.{◌≡◌, refl, sym}
use Prim.Native.Nat.{ℕ, ◌<◌}
use native.Mathlib.Omega.{arith}
use mathlib.Core.Bool.{true, false}
use mathlib.Core.List.{List}
use lib.ListN.{length}
use borrow.Author.Tests.{lt-ltb, le-ltb}
use Rattle.std.specs.Prelude.{Option, Some, None}
use Rattle.std.specs.Option.{MatchOption, unwrap_or}
use Rattle.std.specs.List.{AllWithin, HoldsAt}
use Rattle.std.proofs.lemmas.Iterator.{index_from_first}
use Rattle.cache_order.specs.Order.{Found}
use Rattle.cache_slots.specs.Slots.{holds_of, find_of, visited, touched}
use Rattle.cache_slots.specs.declared.Slot.{Slot}

-- what `position` answers over ys, whose test is whether a slot holds the block
abbrev Asked : List Slot → ℕ → Option ℕ → Type 0
Asked ys b r =
    MatchOption r (AllWithin (λ s. holds_of s b ≡ false) ys 0 (length ys))
    (λ i. (i < length ys) × HoldsAt (λ s. holds_of s b ≡ true) ys i × AllWithin (λ s. holds_of s b ≡ false) ys 0 i)

found_at : (ys : List Slot) (b : ℕ) (r : Option ℕ) → Asked ys b r → find_of ys b ≡ unwrap_or r (length ys)
unfolding find_of
found_at ys b r h =
    index_from_first (λ zs. find_of zs b) (λ s. holds_of s b ≡ true) (λ s. holds_of s b ≡ false) refl (λ x xs e. rw e refl)
    (λ x xs e. rw e refl) ys r h

-- a search finds the first slot that holds the block
pub find_found : (ys : List Slot) (b : ℕ) (r : Option ℕ) → Asked ys b r → Found (find_of ys b) (length ys) r
find_found ys b None h = found_at ys b None h
find_found ys b (Some i) h = (sym (found_at ys b (Some i) h), h.0)

-- a hit is visited; a miss changes nothing
pub touched_hit : (ys : List Slot) (b r : ℕ) → (r ≡ find_of ys b) × (r < length ys) → visited ys r ≡ touched ys b
unfolding touched
touched_hit ys b r h = let l : r < length ys = h.1 in rw (← h.0, lt-ltb r (length ys) l) refl

pub touched_miss : (ys : List Slot) (b : ℕ) → find_of ys b ≡ length ys → ys ≡ touched ys b
unfolding touched
touched_miss ys b e = rw (le-ltb (find_of ys b) (length ys) (omega arith)) refl
