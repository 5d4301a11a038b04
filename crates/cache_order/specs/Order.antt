-- Which slot a call uses, and the order of use after it (request 11): "A hit moves its slot to the front; a miss takes the lowest unused slot, else
-- the least recently used of all".
use Rattle.std.specs.Prelude.{ℕ, zero, suc, ◌+◌, ◌*◌, ◌%◌, ◌<◌, ◌≡◌, Bool, not, ◌&&◌, List, set, eqb, ltb, Option, MatchOption}
use Rattle.words.specs.Words.{pick}
use Rattle.words.specs.Runs.{puts, turns}
use Rattle.cache_order.specs.Slots.{slots_in, status_at, block_at, place_at}

-- slot i is unused
unfoldable pub unused_at : List ℕ → ℕ → Bool
unused_at w i = eqb (status_at w i) 0

-- slot i is used, and for block b
unfoldable pub holds : List ℕ → ℕ → ℕ → Bool
holds w b i = not (unused_at w i) && eqb (block_at w i) b

-- the lowest of the n numbers from i on of which p holds, and i + n where there is none
unfoldable pub first : (ℕ → Bool) → ℕ → ℕ → ℕ
first p i zero = i
first p i (suc n) = pick (p i) i (first p (i + 1) n)

-- the slot for block b, and the number of slots where there is none
unfoldable pub hit_of : List ℕ → ℕ → ℕ
hit_of w b = first (holds w b) 0 (slots_in w)

-- the lowest unused slot, and the number of slots where there is none
unfoldable pub spare_of : List ℕ → ℕ
spare_of w = first (unused_at w) 0 (slots_in w)

-- of two slots the one with the larger place
unfoldable pub older_of : List ℕ → ℕ → ℕ → ℕ
older_of w i j = pick (ltb (place_at w i) (place_at w j)) j i

-- of the first n slots the one with the largest place
unfoldable pub oldest : List ℕ → ℕ → ℕ
oldest w zero = 0
oldest w (suc n) = older_of w (oldest w n) n

-- the slot that gives way to a block that is in none
unfoldable pub room_of : List ℕ → ℕ
room_of w = pick (ltb (spare_of w) (slots_in w)) (spare_of w) (oldest w (slots_in w))

-- the slot that a call for block b uses
unfoldable pub slot_for : List ℕ → ℕ → ℕ
slot_for w b = pick (ltb (hit_of w b) (slots_in w)) (hit_of w b) (room_of w)

-- a place when the slot at place `old` is visited: one more where it was less
unfoldable pub place_after : ℕ → ℕ → ℕ
place_after old p = pick (ltb p old) (p + 1) p

-- each slot whose place is less than `old` goes one back
unfoldable pub pushed : List ℕ → ℕ → List ℕ
pushed w old = puts w (λ j. 3 * j + 2) (λ j. place_after old (place_at w j)) (slots_in w)

-- slot i is visited: its place is 0, and those that were less are one more
unfoldable pub visited : List ℕ → ℕ → List ℕ
visited w i = set (pushed w (place_at w i)) (3 * i + 2) 0

-- slot i with a status and a block
unfoldable pub named : List ℕ → ℕ → ℕ → ℕ → List ℕ
named w i s b = set (set w (3 * i) s) (3 * i + 1) b

-- slot i is visited, with a status and a block
unfoldable pub entered : List ℕ → ℕ → ℕ → ℕ → List ℕ
entered w i s b = named (visited w i) i s b

-- slot i unused, for block 0, at place i (a word has 32 bits)
unfoldable pub fresh_slot : ℕ → List ℕ → List ℕ
fresh_slot i w = set (named w i 0 0) (3 * i + 2) (i % 4294967296)

-- all slots unused, places 0, 1, .. ; words past the last whole slot stay
unfoldable pub started : List ℕ → List ℕ
started w = turns fresh_slot 0 (slots_in w) w

-- a read leaves a hit's status, and a block that it brought in is valid
unfoldable pub read_status : List ℕ → ℕ → ℕ → ℕ
read_status w b i = pick (holds w b i) (status_at w i) 1

-- a status after a sync: what was dirty is valid
unfoldable pub clean_status : ℕ → ℕ
clean_status s = pick (eqb s 2) 1 s

-- every dirty slot valid
unfoldable pub sync_slots : List ℕ → List ℕ
sync_slots w = puts w (λ i. 3 * i) (λ i. clean_status (status_at w i)) (slots_in w)

-- what a search says that looks for i below n: none where i is n
abbrev pub Found : ℕ → ℕ → Option ℕ → Type 0
Found i n r = MatchOption r (i ≡ n) (λ k. (k ≡ i) × (k < n))
