-- The slots as a list of records (request 11): what a slot is asked, and what is done to it; and the same of the whole list.
use Rattle.std.specs.Prelude.{ℕ, ◌+◌, Bool, true, false, List, [], ◌∷◌, map, length, get_or, set, ltb, eqb}
use Rattle.cache_order.specs.declared.Status.{Status}
use Rattle.cache_order.specs.declared.Status.TheVariants.{Unused, Valid, Dirty}
use Rattle.cache_slots.specs.declared.Slot.{Slot}

-- what `get_or` gives past the end
abbrev pub none : Slot
none = record { status = Unused; block = 0; order = 0 }

abbrev pub used : Status → Bool
used Unused = false
used Valid = true
used Dirty = true

abbrev pub holds_by : Bool → Slot → ℕ → Bool
holds_by true s b = eqb s.block b
holds_by false s b = false

-- a used slot with that block
abbrev pub holds_of : Slot → ℕ → Bool
holds_of s b = holds_by (used s.status) s b

abbrev pub pick_slot : Bool → Slot → Slot → Slot
pick_slot true a b = a
pick_slot false a b = b

-- one place back, where it was nearer than old
abbrev pub later_of : Slot → ℕ → Slot
later_of s old = pick_slot (ltb s.order old) (record { status = s.status; block = s.block; order = s.order + 1 }) s

abbrev pub front_of : Slot → Slot
front_of s = record { status = s.status; block = s.block; order = 0 }

abbrev pub pick_nat : Bool → ℕ → ℕ → ℕ
pick_nat true a b = a
pick_nat false a b = b

-- the index of the first used slot with that block, or the length
unfoldable pub find_of : List Slot → ℕ → ℕ
find_of [] b = 0
find_of (s ∷ ss) b = pick_nat (holds_of s b) 0 (find_of ss b + 1)

-- slot i comes to the front, and those that were nearer go one back
unfoldable pub visited : List Slot → ℕ → List Slot
visited ss i = set (map (λ (s : Slot). later_of s (get_or ss i none).order) ss) i (front_of (get_or ss i none))

abbrev pub pick_slots : Bool → List Slot → List Slot → List Slot
pick_slots true a b = a
pick_slots false a b = b

-- a hit is visited; a miss changes nothing
unfoldable pub touched : List Slot → ℕ → List Slot
touched ss b = pick_slots (ltb (find_of ss b) (length ss)) (visited ss (find_of ss b)) ss
