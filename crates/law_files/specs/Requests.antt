-- What is asked of a file: to be read, written, or given a length.
use Rattle.std.specs.Prelude.{ℕ, List}
use Rattle.words.specs.Words.{Bytes}

pub data Request : Type 0 where
  reading : (n off k : ℕ) → Request
  writing : (n off : ℕ) → List ℕ → Request
  resizing : (n len : ℕ) → Request

-- the inode that a request names
abbrev pub named : Request → ℕ
named (reading n off k) = n
named (writing n off src) = n
named (resizing n len) = n

-- what is written are bytes
abbrev pub OfBytes : Request → Type 0
OfBytes (reading n off k) = Unit
OfBytes (writing n off src) = Bytes src
OfBytes (resizing n len) = Unit
