-- The entry at an index, of a directory: with its head h, and by the index. Assumes nothing.
use mathlib.Core.Path.{◌≡◌, refl, sym, ap, ◌∙◌}
use mathlib.Core.List.{List}
use Prim.Native.Nat.{ℕ, ◌*◌, ◌≤◌, ◌<◌}
use Rattle.card_layout.specs.declared.inode.Head.{Head}
use Rattle.card_rules.specs.View.{entries, file_bytes}
use Rattle.file_blocks.proofs.Picks.{pick_yes, pick_no}
use Rattle.dir_answers.specs.Answers.{in_dir}
use Rattle.dir_answers.proofs.Heads.{dir_good, dir_yes}
use Rattle.dir_look.specs.Look.{entry_answer, entry_bytes, no_entry, bytes_of}
use Rattle.refusals.specs.declared.Refusal.{Refusal}
use Rattle.refusals.specs.declared.Refusal.TheVariants.{EntryNotFound}
use Rattle.refusals.specs.Refusals.{giving, if_done, done}
use Rattle.std.specs.Prelude.{Result, Ok, Err}
use Rattle.std.specs.Result.{result_unwrap_or}

module _ (img : List ℕ) (p k : ℕ) (h : Head) (q : in_dir img p (λ x. Ok x) ≡ Ok h) where
  pub entry_none : entries img p ≤ k → giving (entry_answer img p k) (entry_bytes img p k) ≡ Err EntryNotFound
  unfolding entry_answer
  entry_none l =
      let g = dir_good img p h q in
      let e = dir_yes img p _ h g.0 g.1 ∙ pick_no k (entries img p) done (Err EntryNotFound) l in
      ap (λ (j : Result Unit Refusal). giving j (entry_bytes img p k)) e

  pub entry_there : k < entries img p → giving (entry_answer img p k) (entry_bytes img p k) ≡ Ok (file_bytes img p (260 * k) 260)
  unfolding entry_answer entry_bytes
  entry_there l =
      let g = dir_good img p h q in
      let e = dir_yes img p _ h g.0 g.1 ∙ pick_yes k (entries img p) done (Err EntryNotFound) l in
      ap (λ (j : Result Unit Refusal). giving j (if_done j (file_bytes img p (260 * k) 260) no_entry)) e

-- an answer's bytes, and zeros where it is refused
pub bytes_are : (r : Result (List ℕ) Refusal) → result_unwrap_or r no_entry ≡ bytes_of r
bytes_are (Ok e) = refl
bytes_are (Err r) = refl

given : (j : Result Unit Refusal) (e : List ℕ) → bytes_of (giving j (if_done j e no_entry)) ≡ if_done j e no_entry
given (Ok v) e = refl
given (Err r) e = refl

pub told_bytes : (img : List ℕ) (p k : ℕ) → bytes_of (giving (entry_answer img p k) (entry_bytes img p k)) ≡ entry_bytes img p k
unfolding entry_bytes
told_bytes img p k = given (entry_answer img p k) _
