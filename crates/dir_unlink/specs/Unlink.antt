-- Unlink (RULES): "puts the last entry in the hole, shortens the directory by 260, and at no links frees the inode and all it owns; the dead record
-- keeps its fields with links 0". Its tests, in order: 6, 7, 10, 11.
use Rattle.std.specs.Prelude.{ℕ, ◌-◌, ◌/◌, Bool, false, List, eqb, ltb, Result, Err}
use Rattle.words.specs.Words.{pick}
use Rattle.card_layout.specs.Sizes.{entry_size}
use Rattle.card_layout.specs.Inode.{decoded, encoded, with_links}
use Rattle.card_layout.specs.declared.inode.Head.{Head}
use Rattle.card_layout.specs.declared.inode.DiskINode.{DiskINode}
use Rattle.card_map.specs.Free.{freed}
use Rattle.card_rules.specs.View.{entries, entry}
use Rattle.file_blocks.specs.Taking.{shrunk}
use Rattle.file_requests.specs.Resizing.{file_blocks}
use Rattle.file_requests.specs.Requests.{record_with}
use Rattle.dir_entries.specs.Entries.{where_is, removed}
use Rattle.dir_entries.specs.Names.{is_dots}
use Rattle.dir_answers.specs.Answers.{is_dir, of_head, in_dir, named_by}
use Rattle.refusals.specs.Refusals.{if_done, done}
use Rattle.refusals.specs.declared.Refusal.TheVariants.{IsDir, EntryNotFound, DirNotEmpty}
use Rattle.refusals.specs.declared.Refusal.{Refusal}

-- "more than two entries", for an inode with head g
abbrev pub not_empty : Head → Bool
not_empty g = pick (is_dir g.type_) (ltb 2 (g.size / entry_size)) false

-- 11, of inode c
abbrev pub child_answer : List ℕ → ℕ → Result Unit Refusal
child_answer img c = of_head (decoded img c) (Err EntryNotFound) (λ g. pick (not_empty g) (Err DirNotEmpty) done)

unfoldable pub unlink_answer : List ℕ → ℕ → List ℕ → Result Unit Refusal
unlink_answer img p x =
    in_dir img p
    (λ h.
    pick (is_dots x) (Err IsDir)
    (pick (ltb (where_is img p x) (entries img p)) (child_answer img (named_by img p x)) (Err EntryNotFound)))

-- the links that an inode with head g has left, and those of the directory with head h that named it
abbrev pub links_left : Head → ℕ
links_left g = g.nlinks - pick (is_dir g.type_) 2 1

abbrev pub parent_less : Head → Head → ℕ
parent_less h g = h.nlinks - pick (is_dir g.type_) 1 0

-- inode c and all it owns freed: e is its record
unfoldable pub dropped : ℕ → ℕ → DiskINode → List ℕ → List ℕ
dropped nb c e img = freed (shrunk nb c e 0 (file_blocks e) img) c

-- c has one name less, which stood in entry k of p: d is the record of p, e that of c
abbrev pub one_less : ℕ → ℕ → DiskINode → ℕ → ℕ → DiskINode → List ℕ → List ℕ
one_less nb p d k c e img =
    encoded (removed nb p (with_links d (parent_less d.head e.head)) k img) c (with_links e (links_left e.head))

-- and is freed where that was its last
unfoldable pub unlinked : ℕ → ℕ → DiskINode → ℕ → ℕ → DiskINode → List ℕ → List ℕ
unlinked nb p d k c e img =
    pick (eqb (links_left e.head) 0) (dropped nb c e (one_less nb p d k c e img)) (one_less nb p d k c e img)

-- entry k of p goes, and with it a name of the inode that it names
unfoldable pub unlinked_at : ℕ → List ℕ → ℕ → ℕ → List ℕ
unlinked_at nb img p k =
    of_head (decoded img p) img
    (λ h.
    of_head (decoded img (entry img p k)) img
    (λ g. unlinked nb p (record_with img p h) k (entry img p k) (record_with img (entry img p k) g) img))

-- the entry that has the name; where a test refuses, the card stays
unfoldable pub unlink_card : ℕ → List ℕ → ℕ → List ℕ → List ℕ
unlink_card nb img p x = if_done (unlink_answer img p x) (unlinked_at nb img p (where_is img p x)) img
