-- Create (RULES): "takes the inode block, for a directory its data block, then appends in the parent, and answers the number". Its tests, in order:
-- 6, 8, 9, 12, 13, 14.
use Rattle.std.specs.Prelude.{ℕ, ◌+◌, Bool, false, List, eqb, ltb, Result, Err}
use Rattle.card_layout.specs.Sizes.{full_links}
use Rattle.words.specs.Words.{pick}
use Rattle.card_layout.specs.Inode.{decoded, encoded, new_inode, with_links}
use Rattle.card_layout.specs.Entry.{entry_of}
use Rattle.card_layout.specs.declared.INodeId.{INodeId}
use Rattle.card_layout.specs.declared.inode.FileType.{FileType}
use Rattle.card_layout.specs.declared.inode.FileType.TheVariants.{File, Dir, SymLink}
use Rattle.card_layout.specs.declared.inode.Head.{Head}
use Rattle.card_layout.specs.declared.inode.DiskINode.{DiskINode}
use Rattle.card_map.specs.Free.{taken}
use Rattle.file_blocks.specs.Taking.{next_free}
use Rattle.file_requests.specs.Resizing.{fitted}
use Rattle.file_requests.specs.Requests.{record_with}
use Rattle.dir_entries.specs.Entries.{entry_put, appended}
use Rattle.dir_entries.specs.Names.{dot, dots}
use Rattle.dir_answers.specs.Answers.{the_inode, of_head, in_dir, new_name, entry_needs, room_for}
use Rattle.refusals.specs.Refusals.{if_done}
use Rattle.refusals.specs.declared.Refusal.TheVariants.{InvalidParam, TooManyLinks}
use Rattle.refusals.specs.declared.Refusal.{Refusal}

-- the kinds by their numbers; 2 is a directory
abbrev pub known_kind : ℕ → Bool
known_kind k = pick (eqb k 0) false (ltb k 4)

abbrev pub file_kind : ℕ → FileType
file_kind k = pick (eqb k 1) File SymLink

-- the number that is answered: the inode's block
abbrev pub fresh_inode : ℕ → List ℕ → ℕ
fresh_inode nb img = next_free nb img 0

-- the blocks that it takes, in a directory with head h
abbrev pub create_takes : Head → ℕ → ℕ
create_takes h k = 1 + pick (eqb k 2) 1 0 + entry_needs h

-- 13 and 14
unfoldable pub create_room : ℕ → List ℕ → Head → ℕ → Result INodeId Refusal
create_room nb img h k =
    pick (eqb k 2) (pick (eqb h.nlinks full_links) (Err TooManyLinks) room) room
  where
    room : Result INodeId Refusal
    room = room_for img (create_takes h k) (the_inode (fresh_inode nb img))

unfoldable pub create_answer : ℕ → List ℕ → ℕ → List ℕ → ℕ → Result INodeId Refusal
create_answer nb img p x k = in_dir img p (λ h. new_name img p x (pick (known_kind k) (create_room nb img h k) (Err InvalidParam)))

-- a file or a symbolic link: one link, in a directory p with record d
unfoldable pub made_file : ℕ → ℕ → DiskINode → List ℕ → FileType → List ℕ → List ℕ
made_file nb p d x t img =
    appended nb p d (entry_of (fresh_inode nb img) x) (encoded (taken img 0 nb) (fresh_inode nb img) (with_links (new_inode t) 1))

-- a directory of two entries, on a card whose block i has been taken for it: its record first, then its length
abbrev pub bare_dir : DiskINode
bare_dir = with_links (new_inode Dir) 2

unfoldable pub empty_dir : ℕ → ℕ → ℕ → List ℕ → List ℕ
empty_dir nb i p img =
    entry_put nb i 1 (entry_of p dots) (entry_put nb i 0 (entry_of i dot) (fitted nb i bare_dir 520 (encoded img i bare_dir)))

-- "a directory's creation raises the parent's links"
unfoldable pub made_dir : ℕ → ℕ → DiskINode → List ℕ → List ℕ → List ℕ
made_dir nb p d x img =
    appended nb p (with_links d (d.head.nlinks + 1)) (entry_of (fresh_inode nb img) x) (empty_dir nb (fresh_inode nb img) p (taken img 0 nb))

unfoldable pub made : ℕ → ℕ → DiskINode → List ℕ → ℕ → List ℕ → List ℕ
made nb p d x k img = pick (eqb k 2) (made_dir nb p d x img) (made_file nb p d x (file_kind k) img)

unfoldable pub create_card : ℕ → List ℕ → ℕ → List ℕ → ℕ → List ℕ
create_card nb img p x k =
    of_head (decoded img p) img (λ h. if_done (create_answer nb img p x k) (made nb p (record_with img p h) x k img) img)
