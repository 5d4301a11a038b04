-- A directory's entries as the calls see and change them (RULES): "Entry k stands at byte 260k of its directory and may cross into another block".
-- nb is the card's block count, d the record of directory n as the card has it.
use Rattle.std.specs.Prelude.{ℕ, ◌+◌, ◌-◌, ◌*◌, ◌/◌, Bool, true, false, Option, Some, None, List, [], ◌∷◌, eqb, ltb, replicate}
use Rattle.words.specs.Words.{pick}
use Rattle.card_layout.specs.Sizes.{entry_size}
use Rattle.card_layout.specs.declared.inode.DiskINode.{DiskINode}
use Rattle.card_map.specs.Free.{first_from}
use Rattle.card_rules.specs.View.{entries, name}
use Rattle.file_blocks.specs.Bytes.{read_into, filled}
use Rattle.file_requests.specs.Resizing.{fitted}

-- ---- looking a name up

-- whether two names are the same
unfoldable pub eqs : List ℕ → List ℕ → Bool
eqs [] [] = true
eqs [] (y ∷ ys) = false
eqs (x ∷ xs) [] = false
eqs (x ∷ xs) (y ∷ ys) = pick (eqb x y) (eqs xs ys) false

-- 1 where entry k of n has the name x
abbrev pub same_as : List ℕ → ℕ → List ℕ → ℕ → ℕ
same_as img n x k = pick (eqs (name img n k) x) 1 0

-- the first entry of n with the name x, and the number of its entries where there is none
unfoldable pub where_is : List ℕ → ℕ → List ℕ → ℕ
where_is img n x = first_from (same_as img n x) 0 (entries img n)

-- the place of the first entry of n with the name x, where there is one
abbrev pub there : List ℕ → ℕ → List ℕ → Option ℕ
there img n x = pick (ltb (where_is img n x) (entries img n)) (Some (where_is img n x)) None

-- ---- reading and writing entries

-- the 260 bytes of entry k
unfoldable pub entry_at : ℕ → List ℕ → ℕ → ℕ → List ℕ
entry_at nb img n k = read_into img nb n (entry_size * k) (entry_size * k + entry_size) (replicate entry_size 0)

-- the card on which they are e
unfoldable pub entry_put : ℕ → ℕ → ℕ → List ℕ → List ℕ → List ℕ
entry_put nb n k e img = filled false e nb n (entry_size * k) (entry_size * k + entry_size) img

-- "appends": the directory is 260 longer, and e its last entry
unfoldable pub appended : ℕ → ℕ → DiskINode → List ℕ → List ℕ → List ℕ
appended nb n d e img = entry_put nb n (d.head.size / entry_size) e (fitted nb n d (d.head.size + entry_size) img)

-- "puts the last entry in the hole, shortens the directory by 260"
unfoldable pub removed : ℕ → ℕ → DiskINode → ℕ → List ℕ → List ℕ
removed nb n d k img = fitted nb n d (d.head.size - entry_size) (entry_put nb n k (entry_at nb img n (d.head.size / entry_size - 1)) img)
