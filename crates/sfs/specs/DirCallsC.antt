-- The calls on directories as C calls them: the statement of each, with the answer's number, and its values behind pointers.
use Rattle.std.specs.Prelude.{ℕ, ◌≡◌, List}
use Rattle.call_said.specs.Said.{said_value, Said}
use Rattle.call_dirs.specs.DirCalls.{Created, Linked, Unlinked, Moved, Formatted}
use Rattle.call_looks.specs.LookCalls.{Found, Listed, Described}
use Rattle.refusals.specs.Refusals.{answer_no}

pub record CreatedC (img img' s s' : List ℕ) (p : ℕ) (x : List ℕ) (k status number : ℕ) : Type 0 where
  pub answer : Said
  pub call : Created img img' s s' p x k answer
  pub status_is : status ≡ answer_no answer
  pub number_is : number ≡ said_value answer

pub record LinkedC (img img' s s' : List ℕ) (p : ℕ) (x : List ℕ) (c status : ℕ) : Type 0 where
  pub answer : Said
  pub call : Linked img img' s s' p x c answer
  pub status_is : status ≡ answer_no answer

pub record UnlinkedC (img img' s s' : List ℕ) (p : ℕ) (x : List ℕ) (status : ℕ) : Type 0 where
  pub answer : Said
  pub call : Unlinked img img' s s' p x answer
  pub status_is : status ≡ answer_no answer

pub record MovedC (img img' s s' : List ℕ) (p : ℕ) (old : List ℕ) (t : ℕ) (new : List ℕ) (status : ℕ) : Type 0 where
  pub answer : Said
  pub call : Moved img img' s s' p old t new answer
  pub status_is : status ≡ answer_no answer

pub record FoundC (img s s' : List ℕ) (p : ℕ) (x : List ℕ) (status number : ℕ) : Type 0 where
  pub answer : Said
  pub call : Found img s s' p x answer
  pub status_is : status ≡ answer_no answer
  pub number_is : number ≡ said_value answer

pub record ListedC (img s s' : List ℕ) (p k status : ℕ) (e : List ℕ) : Type 0 where
  pub answer : Said
  pub call : Listed img s s' p k answer e
  pub status_is : status ≡ answer_no answer

pub record DescribedC (img s s' : List ℕ) (n status kind' size' blocks' links' : ℕ) : Type 0 where
  pub answer : Said
  pub call : Described img s s' n answer kind' size' blocks' links'
  pub status_is : status ≡ answer_no answer

pub record FormattedC (img img' : List ℕ) (space status : ℕ) : Type 0 where
  pub answer : Said
  pub call : Formatted img img' space answer
  pub status_is : status ≡ answer_no answer
