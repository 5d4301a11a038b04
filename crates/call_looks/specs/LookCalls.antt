-- The statements of find, the entry at an index and metadata: for every image, scratch, number, name and index one answer, and the scratch afterwards (s
-- and s' are the scratch before and after). The image is lent to be read.
use Rattle.std.specs.Prelude.{ℕ, ◌≡◌, List, Result, Ok, Err}
use Rattle.card_layout.specs.Inode.{size, kind, links, count}
use Rattle.check_walk.specs.Opening.{Opening, Opened}
use Rattle.dir_look.specs.Look.{find_answer, entry_answer, no_entry, entry_bytes}
use Rattle.call_said.specs.Said.{of_opened, numbered, plain, Said}
use Rattle.refusals.specs.declared.Refusal.{Refusal}
use Rattle.refusals.specs.Refusals.{if_done}

pub record Found (img s s' : List ℕ) (p : ℕ) (x : List ℕ) (r : Said) : Type 0 where
  pub opened : Opened
  pub opening : Opening img s s' p p opened
  pub said : r ≡ if_done opened (numbered (find_answer img p x)) (of_opened opened)

-- e is the 260 bytes of entry k
pub record Listed (img s s' : List ℕ) (p k : ℕ) (r : Said) (e : List ℕ) : Type 0 where
  pub opened : Opened
  pub opening : Opening img s s' p p opened
  pub said : r ≡ if_done opened (plain (entry_answer img p k)) (of_opened opened)
  pub bytes : e ≡ if_done opened (entry_bytes img p k) no_entry

-- "Queries give kind, size, blocks, links"
pub record Described (img s s' : List ℕ) (n : ℕ) (r : Said) (kind' size' blocks' links' : ℕ) : Type 0 where
  pub opened : Opened
  pub opening : Opening img s s' n n opened
  pub said : r ≡ if_done opened (Ok 0) (of_opened opened)
  pub kind_is : kind' ≡ if_done opened (kind img n) 0
  pub size_is : size' ≡ if_done opened (size img n) 0
  pub blocks_is : blocks' ≡ if_done opened (count img n) 0
  pub links_is : links' ≡ if_done opened (links img n) 0

-- a number of what an inode is: "A refusal's other results are 0"
abbrev pub field : {A : Type 0} → Result A Refusal → (A → ℕ) → ℕ
field (Ok m) f = f m
field (Err r) f = 0
