-- A slot's status and its word.
use Rattle.std.specs.Prelude.{ℕ, ◌≡◌, ◌<◌, Result, MatchResult, eqb}
use Rattle.words.specs.Words.{pick}
use Rattle.refusals.specs.declared.Refusal.{Refusal}
use Rattle.refusals.specs.declared.Refusal.TheVariants.{InvalidParam}
use Rattle.cache_order.specs.declared.Status.{Status}
use Rattle.cache_order.specs.declared.Status.TheVariants.{Unused, Valid, Dirty}

-- a status as a word, and back
abbrev pub status_no : Status → ℕ
status_no Unused = 0
status_no Valid = 1
status_no Dirty = 2

abbrev pub status_by : ℕ → Status
status_by x = pick (eqb x 1) Valid (pick (eqb x 2) Dirty Unused)

-- the status that a word says, or a refusal where it says none
abbrev pub StatusOf : ℕ → Result Status Refusal → Type 0
StatusOf x r = MatchResult r (λ s. status_no s ≡ x) (λ e. (e ≡ InvalidParam) × (2 < x))
