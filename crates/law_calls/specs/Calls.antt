-- The public calls on files, each with a scratch of its own, and what they say (call_files/specs/FileCalls).
use Rattle.std.specs.Prelude.{ℕ, ◌≡◌, List, length}
use Rattle.call_files.specs.FileCalls.{Read, Written, Resized}
use Rattle.law_files.specs.Requests.{Request, reading, writing, resizing}
use Rattle.call_said.specs.Said.{Said}

-- the call of a request on card img says r and leaves the card img'
pub data Called (img img' : List ℕ) : Request → Said → Type 0 where
  read : (s s' buf buf' : List ℕ) (n off : ℕ) (r : Said) → Read img s s' buf buf' n off r → img' ≡ img → Called img img' (reading n off (length buf)) r
  write : (s s' src : List ℕ) (n off : ℕ) (r : Said) → Written img img' s s' src n off r → Called img img' (writing n off src) r
  resize : (s s' : List ℕ) (n len : ℕ) (r : Said) → Resized img img' s s' n len r → Called img img' (resizing n len) r
