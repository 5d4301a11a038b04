-- What becomes of a directory's entries and of a record (RULES, "The card", "What calls do"). img is the card before a call, out the card after it.
use Rattle.std.specs.Prelude.{ℕ, ◌+◌, ◌*◌, ◌≤◌, ◌<◌, ◌≡◌, ◌≢◌, ◌⊎◌, List}
use Rattle.words.specs.Words.{byte}
use Rattle.card_layout.specs.Sizes.{block_size, entry_size}
use Rattle.card_layout.specs.Inode.{size, kind, links, count, direct, indirect, double, padding, device, no_device}
use Rattle.card_layout.specs.Entry.{entry_of}
use Rattle.card_rules.specs.View.{file_bytes, entries}
use Rattle.card_rules.specs.Places.{Place, held, InUse}

-- ---- entries

-- the 260 bytes of entry k of directory p
abbrev pub entry_in : List ℕ → ℕ → ℕ → List ℕ
entry_in img p k = file_bytes img p (entry_size * k) entry_size

-- "appends": behind the entries that p had stands that of inode c under the name x
pub record OneMore (img out : List ℕ) (p c : ℕ) (x : List ℕ) : Type 0 where
  pub size_is : size out p ≡ size img p + entry_size
  pub kept : (i : ℕ) → i < entries img p → entry_in out p i ≡ entry_in img p i
  pub new : entry_in out p (entries img p) ≡ entry_of c x

-- "puts the last entry in the hole, shortens the directory by 260": the hole is entry j
pub record OneLess (img out : List ℕ) (p j : ℕ) : Type 0 where
  pub size_is : size out p + entry_size ≡ size img p
  pub kept : (i : ℕ) → i < entries out p → i ≢ j → entry_in out p i ≡ entry_in img p i
  pub filled : j < entries out p → entry_in out p j ≡ entry_in img p (entries out p)

-- ---- records

-- "A new record has zero padding", and no device; none of its slots but the first `count` is set
pub record NewRecord (out : List ℕ) (i k sz ln ct : ℕ) : Type 0 where
  pub size_is : size out i ≡ sz
  pub kind_is : kind out i ≡ k
  pub links_is : links out i ≡ ln
  pub count_is : count out i ≡ ct
  pub directs : (j : ℕ) → ct ≤ j → j < 12 → direct out i j ≡ 0
  pub indirect_is : indirect out i ≡ 0
  pub double_is : double out i ≡ 0
  pub padding_is : padding out i ≡ 0
  pub device_is : device out i ≡ no_device

-- every byte of the record of n but those of its links, which are at 6
pub record Relinked (img out : List ℕ) (n : ℕ) : Type 0 where
  pub kept : (k : ℕ) → k < 80 → (k < 6) ⊎ (8 ≤ k) → byte out (block_size * n + k) ≡ byte img (block_size * n + k)

-- a directory whose entries change: its kind, padding and device stay, and the blocks that it had and has
pub record Lengthened (img out : List ℕ) (p : ℕ) : Type 0 where
  pub kind_is : kind out p ≡ kind img p
  pub padding_is : padding out p ≡ padding img p
  pub device_is : device out p ≡ device img p
  pub places : (q : Place) → InUse img p q → InUse out p q → held out p q ≡ held img p q
