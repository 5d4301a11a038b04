-- What the calls on directories answer after the numbers have been tested (4).
use Rattle.std.specs.Prelude.{ℕ, ◌+◌, Bool, true, false, List, ltb, Option, Some, None, Result, Ok, Err}
use Rattle.words.specs.Words.{pick}
use Rattle.card_layout.specs.Sizes.{entry_size}
use Rattle.card_layout.specs.Super.{unused}
use Rattle.card_layout.specs.Inode.{decoded}
use Rattle.card_layout.specs.declared.inode.FileType.{FileType}
use Rattle.card_layout.specs.declared.inode.FileType.TheVariants.{File, Dir, SymLink}
use Rattle.card_layout.specs.declared.INodeId.{INodeId}
use Rattle.card_layout.specs.declared.inode.Head.{Head}
use Rattle.card_rules.specs.View.{entries, entry}
use Rattle.file_requests.specs.Requests.{needs}
use Rattle.dir_entries.specs.Entries.{where_is}
use Rattle.dir_entries.specs.Names.{storable}
use Rattle.refusals.specs.declared.Refusal.TheVariants.{NotDir, BadName, EntryExist, EntryNotFound, NoDeviceSpace}
use Rattle.refusals.specs.declared.Refusal.{Refusal}

-- the answer that names inode n
abbrev pub the_inode : ℕ → Result INodeId Refusal
the_inode n = Ok (record { 0 = n })

-- "directory call on something else"
abbrev pub is_dir : FileType → Bool
is_dir File = false
is_dir Dir = true
is_dir SymLink = false

abbrev pub of_head : {A : Type 0} → Option Head → A → (Head → A) → A
of_head None r f = r
of_head (Some h) r f = f h

-- 6: what is asked of directory p, with head h
abbrev pub in_dir : {A : Type 0} → List ℕ → ℕ → (Head → Result A Refusal) → Result A Refusal
in_dir img p f = of_head (decoded img p) (Err NotDir) (λ h. pick (is_dir h.type_) (f h) (Err NotDir))

-- 10: the place of the name x in directory p
abbrev pub place_of : List ℕ → ℕ → List ℕ → Result ℕ Refusal
place_of img p x = pick (ltb (where_is img p x) (entries img p)) (Ok (where_is img p x)) (Err EntryNotFound)

-- 8, then 9: x may be stored, and directory p has it not
abbrev pub new_name : {A : Type 0} → List ℕ → ℕ → List ℕ → Result A Refusal → Result A Refusal
new_name img p x r = pick (storable x) (pick (ltb (where_is img p x) (entries img p)) (Err EntryExist) r) (Err BadName)

-- the blocks that one entry more takes, in a directory with head h
abbrev pub entry_needs : Head → ℕ
entry_needs h = needs h.blocks (h.size + entry_size)

-- 14: k blocks are to be taken
abbrev pub room_for : {A : Type 0} → List ℕ → ℕ → Result A Refusal → Result A Refusal
room_for img k r = pick (ltb (unused img) k) (Err NoDeviceSpace) r

-- the inode that directory p names x
abbrev pub named_by : List ℕ → ℕ → List ℕ → ℕ
named_by img p x = entry img p (where_is img p x)
