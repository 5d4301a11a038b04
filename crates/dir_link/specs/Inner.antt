-- Inner: what the act of a link asks; no part of what a call promises.
use Rattle.std.specs.Prelude.{◌≡◌, ℕ, List, Result}
use Rattle.dir_link.specs.Link.{link_answer, link_card}
use Rattle.refusals.specs.declared.Refusal.{Refusal}

-- what link answers, and what it leaves of the card
abbrev pub Links : ℕ → List ℕ → List ℕ → ℕ → List ℕ → ℕ → Result Unit Refusal → Type 0
Links nb img img' p x c r = (r ≡ link_answer img p x c) × (img' ≡ link_card nb img p x c)
