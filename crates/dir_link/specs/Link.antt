-- Link (RULES): "appends"; links up. Its tests, in order: 6, 8, 9, 7, 13, 14.
use Rattle.std.specs.Prelude.{ℕ, ◌+◌, List, eqb, Result, Ok, Err}
use Rattle.card_layout.specs.Sizes.{full_links}
use Rattle.words.specs.Words.{pick}
use Rattle.card_layout.specs.Inode.{decoded, encoded, with_links}
use Rattle.card_layout.specs.Entry.{entry_of}
use Rattle.card_layout.specs.declared.inode.Head.{Head}
use Rattle.card_layout.specs.declared.inode.DiskINode.{DiskINode}
use Rattle.file_requests.specs.Requests.{record_with}
use Rattle.dir_entries.specs.Entries.{appended}
use Rattle.dir_answers.specs.Answers.{is_dir, of_head, in_dir, new_name, entry_needs, room_for}
use Rattle.refusals.specs.Refusals.{if_done, done}
use Rattle.refusals.specs.declared.Refusal.TheVariants.{IsDir, TooManyLinks}
use Rattle.refusals.specs.declared.Refusal.{Refusal}

-- 7, 13 and 14, for a directory with head h and an inode with head g
unfoldable pub link_room : List ℕ → Head → Head → Result Unit Refusal
link_room img h g =
    pick (is_dir g.type_) (Err IsDir)
    (pick (eqb g.nlinks full_links) (Err TooManyLinks)
    (room_for img (entry_needs h) done))

-- inode c is to be named x in directory p
unfoldable pub link_answer : List ℕ → ℕ → List ℕ → ℕ → Result Unit Refusal
link_answer img p x c = in_dir img p (λ h. new_name img p x (of_head (decoded img c) (Err IsDir) (λ g. link_room img h g)))

-- d is the record of p, e that of c
unfoldable pub linked : ℕ → ℕ → DiskINode → List ℕ → ℕ → DiskINode → List ℕ → List ℕ
linked nb p d x c e img = encoded (appended nb p d (entry_of c x) img) c (with_links e (e.head.nlinks + 1))

unfoldable pub link_card : ℕ → List ℕ → ℕ → List ℕ → ℕ → List ℕ
link_card nb img p x c =
    of_head (decoded img p) img
    (λ h. of_head (decoded img c) img (λ g. if_done (link_answer img p x c) (linked nb p (record_with img p h) x c (record_with img c g) img) img))
