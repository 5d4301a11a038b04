-- What create, link, unlink and move leave of a whole card where they are done (RULES, "What calls do"), in RULES' words. img is the card before, out the card
-- after.
use Rattle.std.specs.Prelude.{ℕ, ◌+◌, ◌*◌, ◌≤◌, ◌<◌, ◌≡◌, ◌≢◌, ◌⊎◌, List, eqb}
use Rattle.words.specs.Words.{pick}
use Rattle.card_layout.specs.Sizes.{block_size, entry_size}
use Rattle.card_layout.specs.Super.{blocks, unused}
use Rattle.card_layout.specs.Inode.{kind, links, count}
use Rattle.card_layout.specs.Entry.{entry_of}
use Rattle.card_layout.specs.Slots.{owned}
use Rattle.card_map.specs.Bits.{map_bit}
use Rattle.card_map.specs.Free.{lowest}
use Rattle.card_rules.specs.View.{file_byte, entries, entry, data_at}
use Rattle.card_rules.specs.Places.{Place, held, InUse}
use Rattle.card_rules.specs.Same.{SameFile}
use Rattle.card_rules.specs.Whole.{Reached}
use Rattle.dir_entries.specs.Entries.{where_is}
use Rattle.dir_entries.specs.Names.{dot, dots}
use Rattle.dir_answers.specs.Answers.{named_by}
use Rattle.law_dirs.specs.Entries.{entry_in, OneMore, OneLess, NewRecord, Relinked, Lengthened}

-- ---- create

-- inode i of kind k under the name x in directory p
pub record CreateEffect (img out : List ℕ) (p : ℕ) (x : List ℕ) (k i : ℕ) : Type 0 where
  -- "takes the inode block", the lowest that is free, "for a directory its data block", the next one
  pub number : i ≡ lowest img 0 (blocks img)
  pub was_free : map_bit img i ≡ 1
  pub new : Reached img i → ⊥
  pub there : Reached out i
  pub file : k ≢ 2 → NewRecord out i k 0 1 0
  pub dir : k ≡ 2 → NewRecord out i 2 520 2 1
  pub dir_block : k ≡ 2 → data_at out i 0 ≡ lowest img (i + 1) (blocks img)
  pub dir_self : k ≡ 2 → entry_in out i 0 ≡ entry_of i dot
  pub dir_up : k ≡ 2 → entry_in out i 1 ≡ entry_of p dots
  -- "then appends in the parent"
  pub listing : OneMore img out p i x
  pub parent : Lengthened img out p
  pub parent_links : links out p ≡ links img p + pick (eqb k 2) 1 0
  -- N(new) - N(old) of the parent, and the inode's own
  pub takes : unused out + (1 + pick (eqb k 2) 1 0 + owned (count out p)) ≡ unused img + owned (count img p)
  pub others : (m : ℕ) → Reached img m → m ≢ p → SameFile img out m
  pub stay : (m : ℕ) → Reached img m → Reached out m
  pub inodes : (m : ℕ) → Reached out m → (m ≡ i) ⊎ Reached img m

-- ---- link

-- inode c also under the name x in directory p
pub record LinkEffect (img out : List ℕ) (p : ℕ) (x : List ℕ) (c : ℕ) : Type 0 where
  pub listing : OneMore img out p c x
  pub parent : Lengthened img out p
  pub parent_links : links out p ≡ links img p
  pub links_is : links out c ≡ links img c + 1
  pub record_kept : Relinked img out c
  pub places : (q : Place) → InUse img c q → held out c q ≡ held img c q
  pub bytes : (o : ℕ) → o < block_size * count img c → file_byte out c o ≡ file_byte img c o
  pub takes : unused out + owned (count out p) ≡ unused img + owned (count img p)
  pub others : (m : ℕ) → Reached img m → m ≢ p → m ≢ c → SameFile img out m
  pub stay : (m : ℕ) → Reached img m → Reached out m
  pub inodes : (m : ℕ) → Reached out m → Reached img m

-- ---- unlink

-- no name is left
abbrev pub LastName : List ℕ → ℕ → Type 0
LastName img c = (kind img c ≡ 2) ⊎ (links img c ≡ 1)

-- directory p has the name x no more, which named c
pub record UnlinkEffect (img out : List ℕ) (p : ℕ) (x : List ℕ) (c : ℕ) : Type 0 where
  pub was : c ≡ named_by img p x
  pub listing : OneLess img out p (where_is img p x)
  pub gone : where_is out p x ≡ entries out p
  pub parent : Lengthened img out p
  pub parent_links : links out p + pick (eqb (kind img c) 2) 1 0 ≡ links img p
  -- dead or not, it keeps its fields, its blocks and their bytes
  pub record_kept : Relinked img out c
  pub places : (q : Place) → InUse img c q → held out c q ≡ held img c q
  pub bytes : (o : ℕ) → o < block_size * count img c → file_byte out c o ≡ file_byte img c o
  -- "at no links frees the inode and all it owns; the dead record keeps its fields with links 0"
  pub dead : LastName img c → Reached out c → ⊥
  pub dead_links : LastName img c → links out c ≡ 0
  pub dead_free : LastName img c → (q : Place) → InUse img c q → map_bit out (held img c q) ≡ 1
  pub dead_gives : LastName img c → unused out + owned (count out p) ≡ unused img + owned (count img p) + (1 + owned (count img c))
  pub still : (LastName img c → ⊥) → Reached out c
  pub still_links : (LastName img c → ⊥) → links out c + 1 ≡ links img c
  pub still_gives : (LastName img c → ⊥) → unused out + owned (count out p) ≡ unused img + owned (count img p)
  pub others : (m : ℕ) → Reached img m → m ≢ p → m ≢ c → SameFile img out m
  pub stay : (m : ℕ) → Reached img m → m ≢ c → Reached out m
  pub inodes : (m : ℕ) → Reached out m → Reached img m

-- ---- move

-- "in one directory rewrites the name in place": entry j of p
pub record RenameEffect (img out : List ℕ) (p j c : ℕ) (new : List ℕ) : Type 0 where
  pub renamed : entry_in out p j ≡ entry_of c new
  pub kept : (o : ℕ) → o < block_size * count img p → (o < entry_size * j) ⊎ (entry_size * j + entry_size ≤ o) → file_byte out p o ≡ file_byte img p o
  pub record_kept : Relinked img out p
  pub links_same : links out p ≡ links img p
  pub places : (q : Place) → InUse img p q → held out p q ≡ held img p q
  pub unused_same : unused out ≡ unused img
  pub own : SameFile img out c

-- "otherwise it appends to the target, then removes, and for a directory adjusts both parents' links .. the number in ".." becomes the new parent's, its other
-- bytes staying"
pub record AcrossEffect (img out : List ℕ) (p j t c : ℕ) (new : List ℕ) : Type 0 where
  pub to : OneMore img out t c new
  pub from : OneLess img out p j
  pub target : Lengthened img out t
  pub parent : Lengthened img out p
  pub from-links : links out p + pick (eqb (kind img c) 2) 1 0 ≡ links img p
  pub to_links : links out t ≡ links img t + pick (eqb (kind img c) 2) 1 0
  pub takes : unused out + (owned (count out p) + owned (count out t)) ≡ unused img + (owned (count img p) + owned (count img t))
  pub file : kind img c ≢ 2 → SameFile img out c
  pub dir_record : kind img c ≡ 2 → (Relinked img out c) × (links out c ≡ links img c)
  pub dir_places : kind img c ≡ 2 → (q : Place) → InUse img c q → held out c q ≡ held img c q
  pub dir_up : kind img c ≡ 2 → entry out c 1 ≡ t
  pub dir_kept : kind img c ≡ 2 → (o : ℕ) → o < block_size * count img c → (o < entry_size) ⊎ (entry_size + 4 ≤ o) → file_byte out c o ≡ file_byte img c o

-- what p had under the name `old` is in directory t under the name `new`
pub record MoveEffect (img out : List ℕ) (p : ℕ) (old : List ℕ) (t : ℕ) (new : List ℕ) : Type 0 where
  pub here : p ≡ t → RenameEffect img out p (where_is img p old) (named_by img p old) new
  pub across : p ≢ t → AcrossEffect img out p (where_is img p old) t (named_by img p old) new
  pub gone : where_is out p old ≡ entries out p
  pub found : named_by out t new ≡ named_by img p old
  pub others : (m : ℕ) → Reached img m → m ≢ p → m ≢ t → m ≢ named_by img p old → SameFile img out m
  pub stay : (m : ℕ) → Reached img m → Reached out m
  pub inodes : (m : ℕ) → Reached out m → Reached img m
