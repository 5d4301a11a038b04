-- Inner: what the functions of this crate ask of each other, and a test that is tried first; no part of what a call promises.
use Rattle.std.specs.Prelude.{ℕ, ◌+◌, ◌*◌, ◌≤◌, ◌<◌, ◌-◌, ◌≡◌, List, Bool, false, not, eqb, ltb, length}
use Rattle.card_layout.specs.Sizes.{block_size, entry_size}
use Rattle.card_layout.specs.Inode.{count}
use Rattle.card_layout.specs.declared.inode.Head.{Head}
use Rattle.card_rules.specs.View.{entries}
use Rattle.check_names.specs.InnerReading.{Readable}
use Rattle.words.specs.Words.{pick, num}

-- what looking it up asks: directory n has `total` entries, and its blocks can be read
abbrev pub FindAsks : List ℕ → ℕ → ℕ → Type 0
FindAsks img n total =
    Readable img n × (total ≡ entries img n) × (entry_size * total ≤ block_size * count img n) × (total < 16777216)

-- a directory with head h may have one entry more: the record can hold its size
abbrev pub CanAppend : Head → Type 0
CanAppend h = h.size + entry_size ≤ 4294967295

-- whether the last eight bytes of x, if it has so many, are others in e: no part of RULES, but a test that comes before that of all bytes
abbrev pub tail_differs : List ℕ → List ℕ → Bool
tail_differs e x = pick (ltb (length x) 8) false (not (eqb (num 8 e (length x - 8)) (num 8 x (length x - 8))))
