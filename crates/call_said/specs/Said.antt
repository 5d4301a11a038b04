-- What a call says: it is done, with a count, with an inode or with neither; or it is refused, by one of RULES' numbers 1 to 14.
use Rattle.std.specs.Prelude.{ℕ, Result, Ok, Err}
use Rattle.card_layout.specs.declared.INodeId.{INodeId}
use Rattle.refusals.specs.declared.Refusal.{Refusal}
use Rattle.refusals.specs.Refusals.{giving}
use Rattle.check_walk.specs.Opening.{Opened}

-- done with its value, the count or the inode's number, and 0 where it has neither
abbrev pub Said : Type 0
Said = Result ℕ Refusal

-- its value: "A refusal's other results are 0"
abbrev pub said_value : Said → ℕ
said_value (Ok v) = v
said_value (Err e) = 0

-- what a call with no value says, and one whose value is an inode
abbrev pub plain : {A : Type 0} → Result A Refusal → Said
plain r = giving r 0

abbrev pub numbered : Result INodeId Refusal → Said
numbered (Ok n) = Ok n.0
numbered (Err e) = Err e

-- what is said where the card is not open
abbrev pub of_opened : Opened → Said
of_opened o = plain o
