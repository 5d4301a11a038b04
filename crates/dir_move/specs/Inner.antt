-- Inner: what the functions of this crate hand on and ask of each other; no part of what a call promises.
use Rattle.std.specs.Prelude.{◌≡◌, ℕ, ◌+◌, ◌*◌, ◌≤◌, ◌<◌, List, length, Result}
use Rattle.card_layout.specs.Sizes.{entry_size, full_links}
use Rattle.card_layout.specs.Inode.{kind, links}
use Rattle.card_layout.specs.declared.inode.Head.{Head}
use Rattle.card_rules.specs.View.{entries, entry}
use Rattle.card_rules.specs.Whole.{Reached, Whole}
use Rattle.file_blocks.specs.Inner.{Sizes}
use Rattle.dir_entries.specs.Entries.{where_is}
use Rattle.dir_entries.specs.Inner.{CanAppend}
use Rattle.dir_answers.specs.Inner.{DirHead}
use Rattle.dir_move.specs.Move.{move_answer, move_card, source_answer}
use Rattle.dir_move.specs.declared.Inode.{Inode}
use Rattle.refusals.specs.Refusals.{giving}
use Rattle.refusals.specs.declared.Refusal.{Refusal}

-- with the place of the name `old`, for the act
abbrev pub source_placed : ℕ → List ℕ → ℕ → List ℕ → ℕ → Head → Result ℕ Refusal
source_placed nb img p old t h = giving (source_answer nb img p old t h) (where_is img p old)

abbrev pub move_placed : ℕ → List ℕ → ℕ → List ℕ → ℕ → List ℕ → Result ℕ Refusal
move_placed nb img p old t new = giving (move_answer nb img p old t new) (where_is img p old)

-- t is a directory of a whole card, with its head
abbrev pub Target : List ℕ → Inode → Type 0
Target img t = Whole img × Reached img t.id.0 × DirHead img t.id.0 t.head

-- entry k of p, whose head is s, may go, and t, whose head is h, may have one more, named `new`
abbrev pub MoveReady : ℕ → List ℕ → ℕ → Head → ℕ → ℕ → Head → List ℕ → Type 0
MoveReady nb img p s k t h new =
    Sizes img nb × (p < nb) × (t < nb) × (entry_size ≤ s.size) × (entry_size * k + entry_size ≤ 4294967295) × CanAppend h × (length new ≤ 255)

-- what has passed the tests: p has entry k, a directory finds t not full of links, and `new` fits an entry
abbrev pub MovePassed : List ℕ → ℕ → ℕ → ℕ → List ℕ → Type 0
MovePassed img p k t new =
    (kind img p ≡ 2) × (k < entries img p)
    × ((p ≡ t → ⊥) → kind img (entry img p k) ≡ 2 → links img t ≡ full_links → ⊥)
    × (length new ≤ 255)

-- what move answers, and what it leaves of the card
abbrev pub Moves : ℕ → List ℕ → List ℕ → ℕ → List ℕ → ℕ → List ℕ → Result Unit Refusal → Type 0
Moves nb img img' p old t new r = (r ≡ move_answer nb img p old t new) × (img' ≡ move_card nb img p old t new)
