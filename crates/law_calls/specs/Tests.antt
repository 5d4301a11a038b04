-- What a call says (RULES, "What a call says when it refuses"): its tests in their order, each with its number and its cause; it says the number of the first
-- whose cause holds, and 0 where none does.
use Rattle.std.specs.Prelude.{ℕ, ◌+◌, ◌*◌, ◌≤◌, ◌<◌, max, ◌≡◌, ◌≢◌, ◌⊎◌, List, length, eqb}
use Rattle.card_layout.specs.Sizes.{block_size, entry_size, full_links, fewest, most, blocks_for}
use Rattle.card_layout.specs.Super.{right_magic, magic, blocks, unused}
use Rattle.card_layout.specs.Inode.{size, kind, links, count}
use Rattle.card_layout.specs.Entry.{Name}
use Rattle.card_rules.specs.View.{entries, name, kids, kid}
use Rattle.card_rules.specs.Whole.{Sized, Reached, Whole}
use Rattle.file_requests.specs.Requests.{longest, needs}
use Rattle.dir_entries.specs.Names.{dot, dots}
use Rattle.dir_answers.specs.Answers.{named_by}
use Rattle.words.specs.Words.{pick}

-- ---- tests in their order

pub data Tests : Type 1 where
  fine : Tests
  test : (number : ℕ) (cause : Type 0) → Tests → Tests

-- k is the number of the first cause that holds
abbrev pub First : Tests → ℕ → Type 0
First fine k = k ≡ 0
First (test number cause rest) k = (cause × (k ≡ number)) ⊎ ((cause → ⊥) × First rest k)

-- ---- "Every call on an image but format first tests: fewer than 4,096 bytes (3), magic (2), block count, F or slice length (3), scratch (1), the other rules
-- of a whole card (3), numbers (4)"; a and b are the numbers given

abbrev pub opens : List ℕ → List ℕ → ℕ → ℕ → Tests → Tests
opens img s a b rest =
    test 3 (length img < block_size)
    (test 2 (magic img ≢ right_magic)
    (test 3 (Sized img → ⊥)
    (test 1 (length s < 4 * blocks img)
    (test 3 (Whole img → ⊥)
    (test 4 (Reached img a → Reached img b → ⊥) rest)))))

-- ---- "read: 5. write, resize: 5, 12, 14."

-- "the call takes more blocks than the unused count": file n is to have so many bytes
abbrev pub TooFull : List ℕ → ℕ → ℕ → Type 0
TooFull img n len = unused img < needs (count img n) len

abbrev pub read_tests : List ℕ → List ℕ → ℕ → Tests
read_tests img s n = opens img s n n (test 5 (kind img n ≡ 2) fine)

-- a write past the end makes a file longer; one within it takes nothing
abbrev pub write_tests : List ℕ → List ℕ → ℕ → ℕ → List ℕ → Tests
write_tests img s n off src =
    opens img s n n
    (test 5 (kind img n ≡ 2)
    (test 12 (longest < off + length src)
    (test 14 (TooFull img n (max (size img n) (off + length src))) fine)))

abbrev pub resize_tests : List ℕ → List ℕ → ℕ → ℕ → Tests
resize_tests img s n len = opens img s n n (test 5 (kind img n ≡ 2) (test 12 (longest < len) (test 14 (TooFull img n len) fine)))

-- ---- directories

-- directory p has an entry of name x
abbrev pub Has : List ℕ → ℕ → List ℕ → Type 0
Has img p x = (k : ℕ) × (k < entries img p) × (name img p k ≡ x)

-- "." or ".."
abbrev pub Dotted : List ℕ → Type 0
Dotted x = (x ≡ dot) ⊎ (x ≡ dots)

-- the blocks that one entry more takes of directory p
abbrev pub entry_takes : List ℕ → ℕ → ℕ
entry_takes img p = needs (count img p) (size img p + entry_size)

-- "create: 6, 8, 9, 12, 13, 14": for a directory the parent's links rise; it takes the inode, a directory's block, and those of the entry
abbrev pub create_tests : List ℕ → List ℕ → ℕ → List ℕ → ℕ → Tests
create_tests img s p x k =
    opens img s p p
    (test 6 (kind img p ≢ 2)
    (test 8 (Name x → ⊥)
    (test 9 (Has img p x)
    (test 12 ((k < 1) ⊎ (3 < k))
    (test 13 ((k ≡ 2) × (links img p ≡ full_links))
    (test 14 (unused img < 1 + pick (eqb k 2) 1 0 + entry_takes img p) fine))))))

-- "link: 6, 8, 9, 7, 13, 14"
abbrev pub link_tests : List ℕ → List ℕ → ℕ → List ℕ → ℕ → Tests
link_tests img s p x c =
    opens img s p c
    (test 6 (kind img p ≢ 2)
    (test 8 (Name x → ⊥)
    (test 9 (Has img p x)
    (test 7 (kind img c ≡ 2)
    (test 13 (links img c ≡ full_links)
    (test 14 (unused img < entry_takes img p) fine))))))

-- "unlink: 6, 7, 10, 11"
abbrev pub unlink_tests : List ℕ → List ℕ → ℕ → List ℕ → Tests
unlink_tests img s p x =
    opens img s p p
    (test 6 (kind img p ≢ 2)
    (test 7 (Dotted x)
    (test 10 (Has img p x → ⊥)
    (test 11 ((kind img (named_by img p x) ≡ 2) × (2 < entries img (named_by img p x))) fine))))

-- t is c or below it
pub data Below (img : List ℕ) (c : ℕ) : ℕ → Type 0 where
  itself : Below img c c
  under : {n : ℕ} (t j : ℕ) → Below img c n → j < kids img n → kid img n j ≡ t → Below img c t

-- what `old` names in p is a directory, and is to stand in another than p
abbrev pub DirAcross : List ℕ → ℕ → List ℕ → ℕ → Type 0
DirAcross img p old t = (p ≢ t) × (kind img (named_by img p old) ≡ 2)

-- "move: source 6, 7, target 6, then 8, 9, 10, 12, 13, 14": in one directory nothing rises and nothing is taken
abbrev pub move_tests : List ℕ → List ℕ → ℕ → List ℕ → ℕ → List ℕ → Tests
move_tests img s p old t new =
    opens img s p t
    (test 6 (kind img p ≢ 2)
    (test 7 (Dotted old)
    (test 6 (kind img t ≢ 2)
    (test 8 (Name new → ⊥)
    (test 9 (Has img t new)
    (test 10 (Has img p old → ⊥)
    (test 12 (DirAcross img p old t × Below img (named_by img p old) t)
    (test 13 (DirAcross img p old t × (links img t ≡ full_links))
    (test 14 ((p ≢ t) × (unused img < entry_takes img t)) fine)))))))))

-- "find: 6, 10. entry at an index: 6, 10."
abbrev pub find_tests : List ℕ → List ℕ → ℕ → List ℕ → Tests
find_tests img s p x = opens img s p p (test 6 (kind img p ≢ 2) (test 10 (Has img p x → ⊥) fine))

abbrev pub entry_tests : List ℕ → List ℕ → ℕ → ℕ → Tests
entry_tests img s p k = opens img s p p (test 6 (kind img p ≢ 2) (test 10 (entries img p ≤ k) fine))

-- metadata of n, and the check
abbrev pub look_tests : List ℕ → List ℕ → ℕ → Tests
look_tests img s n = opens img s n n fine

-- "answers 12 outside 16 to 32,768 blocks or if the slice is short"
abbrev pub format_tests : List ℕ → ℕ → Tests
format_tests img space =
    test 12 ((blocks_for space < fewest) ⊎ ((most < blocks_for space) ⊎ (length img < block_size * blocks_for space))) fine
