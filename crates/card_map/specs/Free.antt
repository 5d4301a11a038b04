-- Taking and freeing blocks (RULES): "the lowest numbered free block is always taken, so freed blocks serve again".
use Rattle.std.specs.Prelude.{ℕ, zero, suc, ◌+◌, ◌-◌, ◌%◌, ◌^◌, List, ◌==◌, nat_lt}
use Rattle.words.specs.Words.{pick}
use Rattle.card_layout.specs.Super.{unused, put_unused}
use Rattle.card_map.specs.Bits.{map_bit, clear_bit, set_bit}

-- the first of the n numbers from i on at which f is 1, and i + n where there is none
unfoldable pub first_from : (ℕ → ℕ) → ℕ → ℕ → ℕ
first_from f i zero = i
first_from f i (suc n) = pick (f i == 1) i (first_from f (suc i) n)

-- the lowest free block from i on below n, and n where there is none (i is at most n)
unfoldable pub lowest : List ℕ → ℕ → ℕ → ℕ
lowest img i n = first_from (map_bit img) i (n - i)

-- the card with block b taken: its bit cleared, the unused count one less
unfoldable pub taken_at : List ℕ → ℕ → List ℕ
taken_at img b = put_unused (clear_bit img b) (unused img - 1)

-- the card with the lowest free block from i on below n taken, where there is one
unfoldable pub taken : List ℕ → ℕ → ℕ → List ℕ
taken img i n = pick (nat_lt (lowest img i n) n) (taken_at img (lowest img i n)) img

-- the card with block b freed: its bit set, the unused count one more
unfoldable pub freed : List ℕ → ℕ → List ℕ
freed img b = put_unused (set_bit img b) ((unused img + 1) % 2 ^ 32)
