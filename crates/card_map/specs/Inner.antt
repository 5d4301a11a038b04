-- Inner: what the search of the map says of its loop; no part of what a call promises.
use Rattle.std.specs.Prelude.{ℕ, Option, Some, None, nat_lt}
use Rattle.words.specs.Words.{pick}
use Rattle.card_layout.specs.declared.BlockId.{BlockId}

-- what a search answers: a block below n, or nothing
abbrev pub found_below : ℕ → ℕ → Option BlockId
found_below n b = pick (nat_lt b n) (Some (record { 0 = b })) None
