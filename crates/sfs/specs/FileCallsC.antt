-- The calls on files as C calls them: the statement of each, with the answer's number, and its value behind a pointer.
use Rattle.std.specs.Prelude.{ℕ, ◌≡◌, List}
use Rattle.call_said.specs.Said.{said_value, Said}
use Rattle.call_files.specs.FileCalls.{Read, Written, Resized}
use Rattle.refusals.specs.Refusals.{answer_no}

pub record ReadC (img s s' buf buf' : List ℕ) (n off status count : ℕ) : Type 0 where
  pub answer : Said
  pub call : Read img s s' buf buf' n off answer
  pub status_is : status ≡ answer_no answer
  pub count_is : count ≡ said_value answer

pub record WrittenC (img img' s s' src : List ℕ) (n off status count : ℕ) : Type 0 where
  pub answer : Said
  pub call : Written img img' s s' src n off answer
  pub status_is : status ≡ answer_no answer
  pub count_is : count ≡ said_value answer

pub record ResizedC (img img' s s' : List ℕ) (n len status : ℕ) : Type 0 where
  pub answer : Said
  pub call : Resized img img' s s' n len answer
  pub status_is : status ≡ answer_no answer
