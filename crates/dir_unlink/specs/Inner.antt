-- Inner: what the act of an unlink asks; no part of what a call promises.
use Rattle.std.specs.Prelude.{◌≡◌, ◌+◌, ◌*◌, ◌≤◌, ◌<◌, ℕ, List, Result}
use Rattle.card_layout.specs.Sizes.{entry_size}
use Rattle.dir_entries.specs.declared.editing.Loaded.{Loaded}
use Rattle.dir_unlink.specs.Unlink.{unlink_answer, unlink_card}
use Rattle.refusals.specs.declared.Refusal.{Refusal}

-- entry k of directory p may go, and it names c
abbrev pub Named : ℕ → Loaded → ℕ → Loaded → Type 0
Named nb p k c = (p.id.0 < nb) × (c.id.0 < nb) × (entry_size ≤ p.disk.head.size) × (entry_size * k + entry_size ≤ 4294967295)

-- what unlink answers, and what it leaves of the card
abbrev pub Unlinks : ℕ → List ℕ → List ℕ → ℕ → List ℕ → Result Unit Refusal → Type 0
Unlinks nb img img' p x r = (r ≡ unlink_answer img p x) × (img' ≡ unlink_card nb img p x)
