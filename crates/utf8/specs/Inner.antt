-- Inner: the table of RFC 3629 section 4, by which bytes are tested; no part of what a call promises. A byte past the end counts as 0, which no place behind a
-- lead byte takes.
use Rattle.std.specs.Prelude.{ℕ, zero, suc, ◌-◌, ◌≤◌, ◌<◌, Bool, true, false, ◌&&◌, List, [], ◌∷◌, eqb, ltb, leb, length}
use Rattle.words.specs.Words.{byte, pick}

-- b is from lo to hi
abbrev pub within : ℕ → ℕ → ℕ → Bool
within lo hi b = leb lo b && leb b hi

-- a byte behind the first, where the table says no more of it
abbrev pub tail : ℕ → Bool
tail b = within 0x80 0xBF b

-- the least and the greatest byte behind the lead byte a: not every tail where some would be forms too long (E0, F0), surrogates (ED) or numbers past the
-- last (F4)
unfoldable pub low : ℕ → ℕ
low a = pick (eqb a 0xE0) 0xA0 (pick (eqb a 0xF0) 0x90 0x80)

unfoldable pub high : ℕ → ℕ
high a = pick (eqb a 0xED) 0x9F (pick (eqb a 0xF4) 0x8F 0xBF)

abbrev pub second : ℕ → ℕ → Bool
second a b = within (low a) (high a) b

-- two, three, four bytes that are a sequence
unfoldable pub two : ℕ → ℕ → Bool
two a b = within 0xC2 0xDF a && tail b

unfoldable pub three : ℕ → ℕ → ℕ → Bool
three a b c = within 0xE0 0xEF a && (second a b && tail c)

unfoldable pub four : ℕ → ℕ → ℕ → ℕ → Bool
four a b c d = within 0xF0 0xF4 a && (second a b && (tail c && tail d))

-- how many of the bytes a, b, c, d the sequence takes that starts with a: 0 where there is none
unfoldable pub sequence : ℕ → ℕ → ℕ → ℕ → ℕ
sequence a b c d = pick (ltb a 0x80) 1 (pick (two a b) 2 (pick (three a b c) 3 (pick (four a b c d) 4 0)))

-- how many bytes the sequence at the front of a list takes
abbrev pub taken : List ℕ → ℕ
taken [] = 0
taken (a ∷ s) = sequence a (byte s 0) (byte s 1) (byte s 2)

-- the bytes behind the next k are sequences, one after another
unfoldable pub valid_from : ℕ → List ℕ → Bool
valid_from k [] = true
valid_from zero (a ∷ s) = pick (eqb (taken (a ∷ s)) 0) false (valid_from (taken (a ∷ s) - 1) s)
valid_from (suc k) (a ∷ s) = valid_from k s

abbrev pub valid : List ℕ → Bool
valid x = valid_from 0 x

-- ---- bytes below 128, of which each is a sequence

-- all from i on before j
pub record Ascii (x : List ℕ) (i j : ℕ) : Type 0 where
  pub small : (k : ℕ) → i ≤ k → k < j → byte x k < 0x80

-- j is a place of x from i on, and all before it are
pub record Passed (x : List ℕ) (i j : ℕ) : Type 0 where
  pub from : i ≤ j
  pub to : j ≤ length x
  pub ascii : Ascii x i j
