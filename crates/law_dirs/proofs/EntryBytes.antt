-- One entry more or one less, byte by byte, and the record of the directory: with changes elsewhere before and after. `img` is the card before, `out` the card
-- after. Assumes nothing.
use mathlib.Core.Path.{◌≡◌, ◌∙◌}
use mathlib.Core.List.{List}
use Prim.Native.Nat.{ℕ, ◌*◌, ◌<◌}
use native.Mathlib.Omega.{arith}
use Rattle.std.proofs.lemmas.Grind.{common_steps}
use Rattle.card_layout.specs.Inode.{count}
use Rattle.card_layout.specs.Entry.{entry_of}
use Rattle.card_rules.specs.View.{entries}
use Rattle.card_rules.specs.Whole.{Inode}
use Rattle.card_rules.specs.Same.{SameRecord, SameFile}
use Rattle.card_rules.proofs.Frames.{size_is, kind_is, count_is, padding_is, device_is, file_bytes_is, inode_room}
use Rattle.law_files.proofs.Resized.{held_is}
use Rattle.law_dirs.specs.Entries.{entry_in, OneMore, OneLess, Relinked, Lengthened}
use Rattle.law_dirs.proofs.Append.{Appended}
use Rattle.law_dirs.proofs.Remove.{Removed}

-- ---- by the acts

pub one_more : {img out : List ℕ} {p v c : ℕ} {x : List ℕ} → Appended img out p v (entry_of c x) → OneMore img out p c x
one_more a = record { size_is = a.size_is; kept = a.bytes_kept; new = a.bytes_new }

pub lengthened_more : {img out e : List ℕ} {p v : ℕ} → Appended img out p v e → Lengthened img out p
lengthened_more a = grind (arith, common_steps)

pub lengthened_less : {img out : List ℕ} {p v j : ℕ} → Removed img out p v j → Lengthened img out p
lengthened_less a =
    record { kind_is = a.edited.kind_is; padding_is = a.tail.padding_same; device_is = a.tail.device_same; places = a.places }

-- ---- with changes elsewhere

pub entry_in_is : {img out : List ℕ} {p : ℕ} → SameFile img out p → Inode img p → (k : ℕ) → k < entries img p → entry_in out p k ≡ entry_in img p k
entry_in_is s i k q = file_bytes_is s (260 * k) 260 (omega (arith, inode_room i))

module _ {img mid out : List ℕ} {p : ℕ} where
  pub lengthened_before : count img p < 1049612 → SameFile img mid p → Lengthened mid out p → Lengthened img out p
  lengthened_before few s a = grind (arith, common_steps, kind_is, padding_is, device_is, count_is, held_is)

  pub lengthened_after : count mid p < 1049612 → Lengthened img mid p → SameFile mid out p → Lengthened img out p
  lengthened_after few a s = grind (arith, common_steps, kind_is, padding_is, device_is, count_is, held_is)

  pub one_more_before : {c : ℕ} {x : List ℕ} → SameFile img mid p → Inode img p → OneMore mid out p c x → OneMore img out p c x
  one_more_before {c} {x} s i a = grind (arith, common_steps, size_is, entry_in_is)

  pub one_more_after : {c : ℕ} {x : List ℕ} → OneMore img mid p c x → SameFile mid out p → Inode mid p → OneMore img out p c x
  one_more_after a s i = grind (arith, common_steps, size_is, entry_in_is)

  pub one_less_before : {j : ℕ} → SameFile img mid p → Inode img p → OneLess mid out p j → OneLess img out p j
  one_less_before s i a = grind (arith, common_steps, size_is, entry_in_is)

  pub one_less_after : {j : ℕ} → OneLess img mid p j → SameFile mid out p → Inode mid p → OneLess img out p j
  one_less_after {j} a s i = grind (arith, common_steps, size_is, entry_in_is)

-- ---- the record of an inode whose links alone change

pub relinked_record : {img out : List ℕ} {n : ℕ} → SameRecord img out n → Relinked img out n
relinked_record s = record { kept = λ k q _. s.bytes k q }

pub relinked_trans : {img mid out : List ℕ} {n : ℕ} → Relinked img mid n → Relinked mid out n → Relinked img out n
relinked_trans x y = record { kept = λ k q d. y.kept k q d ∙ x.kept k q d }
