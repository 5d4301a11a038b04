-- The map of free blocks (RULES): "Map from block 2: block i is bit i mod 8, lowest first, of byte i / 8. Set means free."
use Rattle.std.specs.Prelude.{ℕ, ◌+◌, ◌-◌, ◌*◌, ◌/◌, ◌%◌, ◌^◌, List, slice_set}
use Rattle.words.specs.Words.{byte}
use Rattle.words.specs.Sums.{sum_to}

-- the place of block b's bit: its byte on the card
abbrev pub map_byte : ℕ → ℕ
map_byte b = 8192 + b / 8

-- bit b of the map, 1 where block b is free
unfoldable pub map_bit : List ℕ → ℕ → ℕ
map_bit img b = byte img (map_byte b) / 2 ^ (b % 8) % 2

-- the card with bit b of the map made 0
unfoldable pub clear_bit : List ℕ → ℕ → List ℕ
clear_bit img b = slice_set img (map_byte b) (byte img (map_byte b) - map_bit img b * 2 ^ (b % 8))

-- the card with bit b of the map made 1
unfoldable pub set_bit : List ℕ → ℕ → List ℕ
set_bit img b = slice_set img (map_byte b) (byte img (map_byte b) + (1 - map_bit img b) * 2 ^ (b % 8))

-- the number of free blocks of the first n
abbrev pub free_bits : List ℕ → ℕ → ℕ
free_bits img n = sum_to (map_bit img) n
