-- Inner: the steps of the check. Scratch of nb blocks, 4 nb words: from 0 the queue of the inodes met; then room for names, which takes the queue's free end
-- too; from 2 nb how often each block was named (one more for the root); from 3 nb how often each block is in use so far.
use Rattle.std.specs.Prelude.{ℕ, zero, suc, ◌+◌, ◌-◌, ◌*◌, ◌/◌, ◌≤◌, ◌<◌, ◌≡◌, Bool, List, length, get_or, take, drop, set, Option, Some, None, Result, Ok, Err}
use Rattle.words.specs.Inner.{When}
use Rattle.words.specs.Sums.{δ, sum_to, cnt}
use Rattle.card_layout.specs.Sizes.{fewest, most, block_size, entry_size, map_bits}
use Rattle.words.specs.Runs.{puts}
use Rattle.card_layout.specs.Super.{blocks, maps, unused}
use Rattle.card_layout.specs.Inode.{kind, links, count, decoded}
use Rattle.card_layout.specs.declared.inode.FileType.{FileType}
use Rattle.card_layout.specs.declared.inode.Head.{Head}
use Rattle.card_map.specs.Bits.{map_bit, free_bits}
use Rattle.card_rules.specs.View.{entry, kids, kid, times_named, owns, naming, uses, subs}
use Rattle.card_rules.specs.Whole.{Sized, Reached, Inode, Dir, Whole}
use Rattle.check_marks.specs.Inner.{Clash}
use Rattle.check_names.specs.InnerReading.{Readable}
use Rattle.card_layout.specs.declared.inode.FileType.TheVariants as kinds
use Rattle.refusals.specs.declared.Refusal.TheVariants.{Damaged, NoInode}
use Rattle.refusals.specs.declared.Refusal.{Refusal}

abbrev pub pos : ℕ → ℕ
pos zero = 0
pos (suc n) = 1

abbrev pub seen_at : List ℕ → ℕ → ℕ → ℕ
seen_at s nb m = get_or s (2 * nb + m) 0

abbrev pub own_at : List ℕ → ℕ → ℕ → ℕ
own_at s nb b = get_or s (3 * nb + b) 0

-- the sizes that every step asks
pub record Space (img s : List ℕ) (nb : ℕ) : Type 0 where
  pub few : fewest ≤ nb
  pub many : nb ≤ most
  pub card : block_size * nb ≤ length img
  pub words : length s ≡ 4 * nb

-- what a step answers: a number of which A holds, as where the queue ends now, or that the card is not whole, as B says
abbrev pub Ends : Option ℕ → (ℕ → Type 0) → Type 0 → Type 0
Ends (Some t) A B = A t
Ends None A B = B

-- ---- one inode

-- inode n by itself: rules 4 and 6
pub record Good (img : List ℕ) (n : ℕ) : Type 0 where
  pub inode : Inode img n
  pub dir : kind img n ≡ 2 → Dir img n
  pub read : Readable img n

-- the children that a record's kind and size say
abbrev pub kids_by : FileType → ℕ → ℕ
kids_by kinds.File z = 0
kids_by kinds.Dir z = z / entry_size - 2
kids_by kinds.SymLink z = 0

abbrev pub head_kids : Head → ℕ
head_kids h = kids_by h.type_ h.size

-- the blocks of inode n are marked, the rest of the scratch as it was
pub record Taken (img s s' : List ℕ) (nb n : ℕ) : Type 0 where
  pub long : length s' ≡ length s
  pub front : (i : ℕ) → i < 3 * nb → get_or s' i 0 ≡ get_or s i 0
  pub more : (b : ℕ) → b < nb → own_at s' nb b ≡ own_at s nb b + owns img n b
  pub below : (b : ℕ) → nb ≤ b → owns img n b ≡ 0

-- what marking inode n answers: that, or a clash
abbrev pub Takes : Bool → List ℕ → List ℕ → List ℕ → ℕ → ℕ → Type 0
Takes r img s s' nb n = When r (Taken img s s' nb n) (Clash (drop (3 * nb) s) (owns img n))

-- rule 6 on inode n by itself
abbrev pub DirRule : List ℕ → ℕ → Type 0
DirRule img n = kind img n ≡ 2 → Dir img n

-- what testing it asks: inode n, whose head is h, has passed rule 4, and its blocks are on the card
abbrev pub DirAsks : List ℕ → List ℕ → ℕ → ℕ → Head → ℕ → Type 0
DirAsks img s nb n h t = Space img s nb × (t ≤ nb) × (decoded img n ≡ Some h) × Inode img n × Readable img n

-- the scratch but for the room for names: the queue of t, and all from 2 nb on
pub record Same (s s' : List ℕ) (nb t : ℕ) : Type 0 where
  pub long : length s' ≡ length s
  pub front : (i : ℕ) → i < t → get_or s' i 0 ≡ get_or s i 0
  pub back : (i : ℕ) → 2 * nb ≤ i → get_or s' i 0 ≡ get_or s i 0

-- what a visit has done of inode n before its entries
pub record Met (img s s' : List ℕ) (nb n t : ℕ) : Type 0 where
  pub good : Good img n
  pub long : length s' ≡ length s
  pub front : (i : ℕ) → i < t → get_or s' i 0 ≡ get_or s i 0
  pub seen : (m : ℕ) → m < nb → seen_at s' nb m ≡ seen_at s nb m
  pub more : (b : ℕ) → b < nb → own_at s' nb b ≡ own_at s nb b + owns img n b
  pub below : (b : ℕ) → nb ≤ b → owns img n b ≡ 0

-- why inode n makes a card not whole
pub data Unmet (img s : List ℕ) (nb n : ℕ) : Type 0 where
  ill : (Inode img n → ⊥) → Unmet img s nb n
  taken : Clash (drop (3 * nb) s) (owns img n) → Unmet img s nb n
  bad_dir : ((kind img n ≡ 2 → Dir img n) → ⊥) → Unmet img s nb n

-- ---- the queue

-- the first t words are inodes that were met, each once, and a block was named so far just if it is among them
pub record Queue (img s : List ℕ) (nb t : ℕ) : Type 0 where
  pub reached : (m : ℕ) → 0 < cnt m (take t s) → Reached img m
  pub inside : (m : ℕ) → 0 < cnt m (take t s) → m < nb
  pub listed : (m : ℕ) → m < nb → cnt m (take t s) ≡ pos (seen_at s nb m)
  pub filled : sum_to (λ m. pos (seen_at s nb m)) nb ≡ t

-- what note leaves: m is new and goes to the end of the queue, or was named before
pub data Noted (s s' : List ℕ) (nb m t r : ℕ) : Type 0 where
  fresh : seen_at s nb m ≡ 0 → s' ≡ set (set s t m) (2 * nb + m) 1 → r ≡ t + 1 → Noted s s' nb m t r
  again : 0 < seen_at s nb m → s' ≡ set s (2 * nb + m) (seen_at s nb m + 1) → r ≡ t → Noted s s' nb m t r

-- the queue has grown from t to t', each m has been named f m times more
pub record Grown (img s s' : List ℕ) (nb t t' : ℕ) (f : ℕ → ℕ) : Type 0 where
  pub long : length s' ≡ length s
  pub queue : Queue img s' nb t'
  pub grows : t ≤ t'
  pub front : (i : ℕ) → i < t → get_or s' i 0 ≡ get_or s i 0
  pub more : (m : ℕ) → m < nb → seen_at s' nb m ≡ seen_at s nb m + f m
  pub own : (b : ℕ) → b < nb → own_at s' nb b ≡ own_at s nb b

-- the entries of n that make a card not whole: one past the last block, or one too many for one inode
pub data Lost (img s : List ℕ) (nb n : ℕ) : Type 0 where
  past : (j : ℕ) → j < kids img n → nb ≤ kid img n j → Lost img s nb n
  many : (m : ℕ) → m < nb → Reached img m → 65536 < seen_at s nb m + times_named img n m → Lost img s nb n

-- what noting the e children of n asks
abbrev pub Scannable : List ℕ → List ℕ → ℕ → ℕ → ℕ → ℕ → Type 0
Scannable img s nb n e t =
    Space img s nb × (e ≡ kids img n) × (e < 16777216) × (0 < e → entry_size * (2 + e) ≤ block_size * count img n) × Readable img n × Reached img n
    × Queue img s nb t

pub record Scanned (img s s' : List ℕ) (nb n t t' : ℕ) : Type 0 where
  pub grown : Grown img s s' nb t t' (times_named img n)
  pub kids_below : (j : ℕ) → j < kids img n → kid img n j < nb

-- what it answers
abbrev pub Scans : Option ℕ → List ℕ → List ℕ → List ℕ → ℕ → ℕ → ℕ → Type 0
Scans r img s s' nb n t = Ends r (λ t'. Scanned img s s' nb n t t') (Lost img s nb n)

-- the first h inodes of the queue are done, and t are in it
pub record Progress (img s : List ℕ) (nb h t : ℕ) : Type 0 where
  pub queue : Queue img s nb t
  pub head : h ≤ t
  pub seen : (m : ℕ) → m < nb → seen_at s nb m ≡ δ 1 m + naming img (take h s) m
  pub own : (b : ℕ) → b < nb → own_at s nb b ≡ uses img (take h s) b
  pub past : (b : ℕ) → nb ≤ b → uses img (take h s) b ≡ 0
  pub good : (m : ℕ) → 0 < cnt m (take h s) → Good img m
  pub kids_below : (m : ℕ) → 0 < cnt m (take h s) → (j : ℕ) → j < kids img m → kid img m j < nb

-- inode n, whose head is d, is the next of the queue
abbrev pub Next : List ℕ → List ℕ → ℕ → ℕ → Head → ℕ → ℕ → Type 0
Next img s nb n d h t = Space img s nb × (h < t) × (n ≡ get_or s h 0) × (decoded img n ≡ Some d) × Progress img s nb h t

-- what a step from inode h of the queue answers: one more is done, or the card is not whole
abbrev pub Advances : Option ℕ → List ℕ → List ℕ → ℕ → ℕ → Type 0
Advances r img s' nb h = Ends r (λ t'. Progress img s' nb (h + 1) t') (nb ≡ blocks img → Whole img → ⊥)

-- ---- after the walk

-- the whole queue, of t inodes, is done, on a card of right sizes whose root is a directory
abbrev pub Walked : List ℕ → List ℕ → ℕ → ℕ → ℕ → Type 0
Walked img s nb f t = Space img s nb × (nb ≡ blocks img) × (f ≡ maps img) × Sized img × (kind img 1 ≡ 2) × Progress img s nb t t

-- a child that is a directory has n as its parent
pub record Ups (img : List ℕ) (n : ℕ) : Type 0 where
  pub up : (j : ℕ) → j < kids img n → kind img (kid img n j) ≡ 2 → entry img (kid img n j) 1 ≡ n

-- n can be read, and each of its children
pub record Family (img : List ℕ) (n : ℕ) : Type 0 where
  pub self : Good img n
  pub child : (j : ℕ) → j < kids img n → Good img (kid img n j)

pub record Kept (img : List ℕ) (n c : ℕ) : Type 0 where
  pub subs : c ≡ subs img n
  pub ups : Ups img n

-- rules 6 and 7 of one inode, by how often it was named
pub record Tally (img : List ℕ) (n v : ℕ) : Type 0 where
  pub dir_seen : kind img n ≡ 2 → v ≡ 1
  pub dir_links : kind img n ≡ 2 → links img n ≡ 2 + subs img n
  pub dir_ups : kind img n ≡ 2 → Ups img n
  pub file_links : (kind img n ≡ 2 → ⊥) → links img n ≡ v

pub record Tallies (img s : List ℕ) (nb t : ℕ) : Type 0 where
  pub each : (i : ℕ) → i < t → Tally img (get_or s i 0) (seen_at s nb (get_or s i 0))

pub record Bits (img s : List ℕ) (nb : ℕ) : Type 0 where
  pub each : (b : ℕ) → b < nb → own_at s nb b + map_bit img b ≡ 1
  pub free : free_bits img nb ≡ unused img

-- the bits past the last block are clear, as far as f blocks of map go
pub record Past (img : List ℕ) (nb f : ℕ) : Type 0 where
  pub clear : (b : ℕ) → nb ≤ b → b < map_bits * f → map_bit img b ≡ 0

-- the scratch is all zero
pub record Zero (s : List ℕ) : Type 0 where
  pub all : (i : ℕ) → get_or s i 0 ≡ 0

-- the scratch with superblock and f map blocks in use, and the root alone in the queue
unfoldable pub started : List ℕ → ℕ → ℕ → List ℕ
started s nb f = set (set (puts (set s (3 * nb) 1) (λ i. 3 * nb + (2 + i)) (λ i. 1) f) 0 1) (2 * nb + 1) 1

-- after the walk of a whole card the counts tell its inodes
pub record Seen (img s : List ℕ) (nb : ℕ) : Type 0 where
  pub yes : (m : ℕ) → m < nb → 0 < seen_at s nb m → Reached img m
  pub no : (m : ℕ) → Reached img m → (m < nb) × (0 < seen_at s nb m)

-- what judging a card of right size says of it and of two numbers
pub data Judged (r : Result Unit Refusal) (img : List ℕ) (a b : ℕ) : Type 0 where
  whole : r ≡ Ok tt → Whole img → Reached img a → Reached img b → Judged r img a b
  damaged : r ≡ Err Damaged → (Whole img → ⊥) → Judged r img a b
  no_inode : r ≡ Err NoInode → Whole img → (Reached img a → Reached img b → ⊥) → Judged r img a b
