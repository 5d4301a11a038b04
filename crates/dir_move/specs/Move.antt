-- Move (RULES): "in one directory rewrites the name in place; otherwise it appends to the target, then removes, and for a directory adjusts both
-- parents' links .. the number in ".." becomes the new parent's, its other bytes staying". Its tests, in order: source 6, 7, target 6, then 8, 9, 10, 12,
-- 13, 14.
use Rattle.std.specs.Prelude.{ℕ, zero, suc, ◌+◌, ◌-◌, Bool, true, false, List, eqb, ltb, replicate, Result, Err}
use Rattle.words.specs.Words.{pick, put_word}
use Rattle.card_layout.specs.Sizes.{entry_size, full_links}
use Rattle.card_layout.specs.Inode.{decoded, with_links}
use Rattle.card_layout.specs.Entry.{entry_of}
use Rattle.card_layout.specs.declared.inode.Head.{Head}
use Rattle.card_layout.specs.declared.inode.DiskINode.{DiskINode}
use Rattle.card_rules.specs.View.{entries, entry}
use Rattle.file_blocks.specs.Bytes.{filled}
use Rattle.file_requests.specs.Requests.{record_with}
use Rattle.dir_entries.specs.Entries.{where_is, entry_put, appended, removed}
use Rattle.dir_entries.specs.Names.{is_dots}
use Rattle.dir_answers.specs.Answers.{is_dir, of_head, in_dir, new_name, entry_needs, room_for, named_by}
use Rattle.refusals.specs.Refusals.{if_done, done}
use Rattle.refusals.specs.declared.Refusal.TheVariants.{IsDir, EntryNotFound, InvalidParam, TooManyLinks}
use Rattle.refusals.specs.declared.Refusal.{Refusal}

-- whether climbing ".." from directory t meets c before the root, in at most so many steps: "a directory moved into itself or below"
unfoldable pub climbs : List ℕ → ℕ → ℕ → ℕ → Bool
climbs img c t zero = false
climbs img c t (suc b) = pick (eqb t c) true (pick (eqb t 1) false (climbs img c (entry img t 1) b))

-- 14 for a target with head h: the old entry is still there
abbrev pub entry_room : List ℕ → Head → Result Unit Refusal
entry_room img h = room_for img (entry_needs h) done

-- 12, 13 and 14 for directory c, and a target t with head h
abbrev pub dir_room : ℕ → List ℕ → ℕ → ℕ → Head → Result Unit Refusal
dir_room nb img c t h = pick (climbs img c t nb) (Err InvalidParam) (pick (eqb h.nlinks full_links) (Err TooManyLinks) (entry_room img h))

-- for inode c with head g
unfoldable pub move_room : ℕ → List ℕ → ℕ → Head → ℕ → Head → Result Unit Refusal
move_room nb img c g t h = pick (is_dir g.type_) (dir_room nb img c t h) (entry_room img h)

-- 12, 13 and 14 for inode c, whatever its head
abbrev pub child_answer : ℕ → List ℕ → ℕ → ℕ → Head → Result Unit Refusal
child_answer nb img c t h = of_head (decoded img c) (Err EntryNotFound) (λ g. move_room nb img c g t h)

-- 10, and the rest: a rename in one directory takes no block and no link, so that 12, 13 and 14 cannot arise
abbrev pub source_answer : ℕ → List ℕ → ℕ → List ℕ → ℕ → Head → Result Unit Refusal
source_answer nb img p old t h =
    pick (ltb (where_is img p old) (entries img p)) (pick (eqb p t) done (child_answer nb img (named_by img p old) t h)) (Err EntryNotFound)

-- the name `old` in p becomes `new` in t
unfoldable pub move_answer : ℕ → List ℕ → ℕ → List ℕ → ℕ → List ℕ → Result Unit Refusal
move_answer nb img p old t new =
    in_dir img p (λ s. pick (is_dots old) (Err IsDir) (in_dir img t (λ h. new_name img t new (source_answer nb img p old t h))))

-- ".." of directory c names t, its other bytes staying
unfoldable pub up_put : ℕ → ℕ → ℕ → List ℕ → List ℕ
up_put nb c t img = filled false (put_word (replicate 4 0) 0 t) nb c entry_size 264 img

-- c moves from entry k of p to another directory t: d is the record of p, f that of t
unfoldable pub moved_file : ℕ → ℕ → DiskINode → ℕ → ℕ → ℕ → DiskINode → List ℕ → List ℕ → List ℕ
moved_file nb p d k c t f new img = removed nb p d k (appended nb t f (entry_of c new) img)

unfoldable pub moved_dir : ℕ → ℕ → DiskINode → ℕ → ℕ → ℕ → DiskINode → List ℕ → List ℕ → List ℕ
moved_dir nb p d k c t f new img =
    up_put nb c t (moved_file nb p (with_links d (d.head.nlinks - 1)) k c t (with_links f (f.head.nlinks + 1)) new img)

-- by its kind: s is the head of p, g that of c, h that of t
abbrev pub moved_to : ℕ → ℕ → Head → ℕ → ℕ → Head → ℕ → Head → List ℕ → List ℕ → List ℕ
moved_to nb p s k c g t h new img =
    pick (is_dir g.type_)
    (moved_dir nb p (record_with img p s) k c t (record_with img t h) new img)
    (moved_file nb p (record_with img p s) k c t (record_with img t h) new img)

unfoldable pub moved : ℕ → ℕ → Head → ℕ → ℕ → Head → ℕ → Head → List ℕ → List ℕ → List ℕ
moved nb p s k c g t h new img = pick (eqb p t) (entry_put nb p k (entry_of c new) img) (moved_to nb p s k c g t h new img)

-- entry k of p becomes `new` in t
unfoldable pub moved_at : ℕ → List ℕ → ℕ → ℕ → ℕ → List ℕ → List ℕ
moved_at nb img p k t new =
    of_head (decoded img p) img
    (λ s.
    of_head (decoded img t) img
    (λ h. of_head (decoded img (entry img p k)) img (λ g. moved nb p s k (entry img p k) g t h new img)))

-- the entry that has the name `old`; where a test refuses, the card stays
unfoldable pub move_card : ℕ → List ℕ → ℕ → List ℕ → ℕ → List ℕ → List ℕ
move_card nb img p old t new = if_done (move_answer nb img p old t new) (moved_at nb img p (where_is img p old) t new) img
