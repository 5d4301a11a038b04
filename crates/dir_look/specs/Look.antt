-- Find and the entry at an index (RULES). Their tests, in order: 6, 10.
use Rattle.std.specs.Prelude.{ℕ, ◌*◌, List, ltb, replicate, Result, Ok, Err}
use Rattle.words.specs.Words.{pick}
use Rattle.card_layout.specs.Sizes.{entry_size}
use Rattle.card_layout.specs.declared.INodeId.{INodeId}
use Rattle.card_rules.specs.View.{entries, file_bytes}
use Rattle.dir_entries.specs.Entries.{where_is}
use Rattle.dir_answers.specs.Answers.{the_inode, in_dir, named_by}
use Rattle.refusals.specs.Refusals.{if_done, done}
use Rattle.refusals.specs.declared.Refusal.TheVariants.{EntryNotFound}
use Rattle.refusals.specs.declared.Refusal.{Refusal}

-- the number that directory p has for the name x
unfoldable pub find_answer : List ℕ → ℕ → List ℕ → Result INodeId Refusal
find_answer img p x = in_dir img p (λ h. pick (ltb (where_is img p x) (entries img p)) (the_inode (named_by img p x)) (Err EntryNotFound))

unfoldable pub entry_answer : List ℕ → ℕ → ℕ → Result Unit Refusal
entry_answer img p k = in_dir img p (λ h. pick (ltb k (entries img p)) done (Err EntryNotFound))

-- "Entry at an index hands back the 260 bytes by value, 260 zeros if refused."
abbrev pub no_entry : List ℕ
no_entry = replicate entry_size 0

abbrev pub bytes_of : Result (List ℕ) Refusal → List ℕ
bytes_of (Ok e) = e
bytes_of (Err r) = no_entry

unfoldable pub entry_bytes : List ℕ → ℕ → ℕ → List ℕ
entry_bytes img p k = if_done (entry_answer img p k) (file_bytes img p (entry_size * k) entry_size) no_entry
