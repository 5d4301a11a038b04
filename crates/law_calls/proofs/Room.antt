-- On a whole card, with scratch enough: a write to a file that there is room for is done, and create leaves the card of its definition. Assumes nothing.
use mathlib.Core.Path.{◌≡◌, ap, ◌∙◌}
use mathlib.Core.Logic.{◌≢◌}
use mathlib.Core.List.{List}
use Prim.Native.Nat.{ℕ, ◌+◌, ◌*◌, ◌≤◌, ◌<◌}
use native.Mathlib.Omega.{arith}
use native.Mathlib.Decide.{dec_lt}
use lib.ListN.{length}
use Rattle.std.proofs.lemmas.Grind.{common_steps}
use Rattle.card_layout.specs.Sizes.{blocks_for}
use Rattle.card_layout.specs.Super.{blocks, unused}
use Rattle.card_layout.specs.Inode.{size, kind, count, head_at}
use Rattle.card_layout.specs.Slots.{owned}
use Rattle.card_layout.specs.declared.inode.FileType.{FileType}
use Rattle.card_rules.specs.Whole.{Reached, Whole}
use Rattle.dir_create.specs.Create.{create_card}
use Rattle.file_requests.proofs.Answers.{write-inside}
use Rattle.file_requests.specs.Requests.{longest, write_answer, write_judged}
use Rattle.call_said.specs.Said.{Said}
use Rattle.call_dirs.specs.DirCalls.{Created}
use Rattle.call_files.specs.FileCalls.{Written}
use Rattle.law_files.proofs.Requests.{OfKind, Filelike, past_fits, write_file}
use Rattle.law_files.proofs.Files.{of_file}
use Rattle.law_calls.proofs.Says.{opens}
use Rattle.check_walk.specs.Opening.{Opened}
use Rattle.refusals.specs.Refusals.{answer_no, if_done, done}
use Rattle.std.specs.Prelude.{Ok}

module _ {img : List ℕ} (w : Whole img) {n : ℕ} (h : Reached img n) (d : kind img n ≢ 2) (off : ℕ) (src : List ℕ) (short : off + length src ≤ longest)
    (room : owned (blocks_for (off + length src)) ≤ owned (count img n) + unused img) where
  write_fits : write_answer img n off src ≡ Ok (length src)
  write_fits = write_file f.1 f.2 off src (judged (dec_lt (size img n) (off + length src)))
    where
      f : (k : FileType) × OfKind img n k × Filelike k
      f = of_file w n h d

      judged : Dec (size img n < off + length src) → write_judged (unused img) (head_at img n f.0) (off + length src) ≡ done
      judged (yes l) = past_fits img n f.0 (off + length src) l short (omega arith)
      judged (no l) = write-inside (unused img) (head_at img n f.0) (off + length src) (omega arith)

  pub write_goes : {img' s s' : List ℕ} {r : Said} → 4 * blocks img ≤ length s → Written img img' s s' src n off r → answer_no r ≡ 0
  write_goes enough c = grind (arith, common_steps, write_fits)

pub create_leaves : {img img' s s' : List ℕ} {p : ℕ} {x : List ℕ} {k : ℕ} {r : Said} → Whole img → 4 * blocks img ≤ length s → Reached img p
    → Created img img' s s' p x k r → img' ≡ create_card (blocks img) img p x k
create_leaves {img} {p = p} {x} {k} w enough h c =
    c.image ∙ ap (λ (o : Opened). if_done o (create_card (blocks img) img p x k) img) (opens w enough h h c.opening).1
