-- Inner: what the functions of this crate hand on and ask of each other; no part of what a call promises.
use Rattle.std.specs.Prelude.{ℕ, ◌<◌, ◌≡◌, true, List, Some}
use Rattle.card_layout.specs.Inode.{kind, decoded}
use Rattle.card_layout.specs.declared.inode.Head.{Head}
use Rattle.card_rules.specs.View.{entries}
use Rattle.card_rules.specs.Whole.{Reached, Whole}
use Rattle.dir_answers.specs.Answers.{is_dir}

-- n is an inode of a whole card, and h its head
abbrev pub Headed : List ℕ → ℕ → Head → Type 0
Headed img n h = Whole img × Reached img n × (decoded img n ≡ Some h)

-- p is a directory, and h its head
abbrev pub DirHead : List ℕ → ℕ → Head → Type 0
DirHead img p h = (decoded img p ≡ Some h) × (is_dir h.type_ ≡ true)

-- p is a directory, and has an entry k
abbrev pub HasEntry : List ℕ → ℕ → ℕ → Type 0
HasEntry img p k = (kind img p ≡ 2) × (k < entries img p)
