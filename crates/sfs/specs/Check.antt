-- The statement of the check as C calls it: RULES' number and the two counts of an answer that opening the card for its root gives.
use Rattle.std.specs.Prelude.{ℕ, ◌≡◌, List}
use Rattle.check_walk.specs.Opening.{Opening, blocks_of, unused_of, Opened}
use Rattle.refusals.specs.Refusals.{answer_no}

pub record Checked (img s s' : List ℕ) (status blocks unused : ℕ) : Type 0 where
  pub answer : Opened
  pub opening : Opening img s s' 1 1 answer
  pub status_is : status ≡ answer_no answer
  pub blocks_is : blocks ≡ blocks_of answer
  pub unused_is : unused ≡ unused_of answer
