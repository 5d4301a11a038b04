-- UTF-8 (RFC 3629): which lists of bytes are text. What the bytes encode is said here; the table by which they are tested is inner (specs/Inner), and the
-- two are one (`valid_utf8`, `utf8_valid`, proofs/Text).
use Rattle.std.specs.Prelude.{ℕ, ◌+◌, ◌/◌, ◌%◌, ◌≤◌, ◌<◌, ◌≡◌, List, [], ◌∷◌, ◌++◌, ltb, length, get_or}
use Rattle.words.specs.Words.{pick}

-- a number that a character may have: up to U+10FFFF, and none of the surrogates (section 3: "The definition of UTF-8 prohibits encoding character numbers
-- between U+D800 and U+DFFF")
pub record Scalar (c : ℕ) : Type 0 where
  pub last : c ≤ 0x10FFFF
  pub plain : 0xD800 ≤ c → c ≤ 0xDFFF → ⊥

-- a byte behind the first: the six lowest bits of c under the bits 10
abbrev pub six : ℕ → ℕ
six c = 0x80 + c % 64

-- the bytes of one number (section 3): its bits six at a time, the lowest in the last byte, and in the first the count of bytes over the highest; as few bytes
-- as can be, so that a number has no second form
unfoldable pub encoding : ℕ → List ℕ
encoding c =
    pick (ltb c 0x80) (c ∷ [])
    (pick (ltb c 0x800) ((0xC0 + c / 64) ∷ six c ∷ [])
    (pick (ltb c 0x10000) ((0xE0 + c / 4096) ∷ six (c / 64) ∷ six c ∷ [])
    ((0xF0 + c / 262144) ∷ six (c / 4096) ∷ six (c / 64) ∷ six c ∷ [])))

-- the bytes of some numbers, one after another
unfoldable pub encodings : List ℕ → List ℕ
encodings [] = []
encodings (c ∷ cs) = encoding c ++ encodings cs

-- the bytes are those of some numbers, each of which may be a character's
pub record Utf8 (x : List ℕ) : Type 0 where
  pub numbers : List ℕ
  pub each : (k : ℕ) → k < length numbers → Scalar (get_or numbers k 0)
  pub is : x ≡ encodings numbers
