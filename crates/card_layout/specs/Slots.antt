-- Where a file block's number is kept, and how many blocks a file owns (RULES): "0 to 11 direct, 12 to 1,035 indirect, 1,036 and up through two
-- levels of 1,024 slots. A pointer block is taken one block before it is needed."
use Rattle.std.specs.Prelude.{ℕ, ◌+◌, ◌-◌, ◌/◌, ◌%◌, ◌≡◌, refl, ltb}
use Rattle.words.specs.Words.{pick}
use Rattle.card_layout.specs.declared.slot.Slot.{Slot}
use Rattle.card_layout.specs.declared.slot.Slot.TheVariants.{Direct, Indirect, Double, Past}

-- the slot of file block i
unfoldable pub slot_of : ℕ → Slot
slot_of i =
    pick (ltb i 12) (Direct i)
    (pick (ltb i 1036) (Indirect (i - 12))
    (pick (ltb i 1049612) (Double ((i - 1036) / 1024) ((i - 1036) % 1024)) Past))

-- the pointer blocks of the second level that a file of b blocks has
unfoldable pub seconds : ℕ → ℕ
seconds b = pick (ltb b 1036) 0 (1 + (b - 1036) / 1024)

-- N(b) = "b, plus 1 if b is 12 or more, plus 2 + (b - 1,036) / 1,024 rounded down if b is 1,036 or more"
unfoldable pub owned : ℕ → ℕ
owned b = b + pick (ltb b 12) 0 1 + pick (ltb b 1036) 0 (2 + (b - 1036) / 1024)

-- its six values of the paper
pub owned_values : (owned 11 ≡ 11) × (owned 12 ≡ 13) × (owned 1035 ≡ 1036) × (owned 1036 ≡ 1039) × (owned 2059 ≡ 2062) × (owned 2060 ≡ 2064)
unfolding owned
owned_values = (refl, refl, refl, refl, refl, refl)
