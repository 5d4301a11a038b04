-- "Scratch .. untouched if refused up to the scratch test, otherwise its first 4 a block are zero afterwards" (RULES), of every call that opens a card,
-- whatever it answers. Assumes nothing.
use mathlib.Core.Path.{◌≡◌}
use mathlib.Core.List.{List}
use Prim.Native.Nat.{ℕ, ◌*◌, ◌≤◌, ◌<◌}
use native.Mathlib.Omega.{arith}
use lib.ListN.{length}
use Rattle.std.proofs.lemmas.Grind.{common_steps}
use Rattle.card_layout.specs.Super.{blocks}
use Rattle.card_rules.specs.Whole.{Sized}
use Rattle.check_walk.specs.Opening.{cleared, Opening, Opened}
use Rattle.law_files.specs.Requests.{Request}
use Rattle.law_calls.specs.Calls.{Called, read, write, resize}
use Rattle.law_calls.specs.Made.{Asked, Made, filed, create, link, unlink, move, find}
use Rattle.law_calls.specs.Made.{list, describe, check, scratch_in, scratch_of, scratch_out, scratch_after}
use Rattle.call_said.specs.Said.{Said}

-- the scratch test is passed, or it is not
pub scratch_after_lem : {img s s' : List ℕ} {a b : ℕ} {o : Opened} → Opening img s s' a b o
    → (Sized img → 4 * blocks img ≤ length s → s' ≡ cleared img s) × ((Sized img → length s < 4 * blocks img) → s' ≡ s)
scratch_after_lem t₁ = grind (arith, common_steps)

called_scratch : {img img' : List ℕ} {q : Request} {r : Said} (c : Called img img' q r)
    → (Sized img → 4 * blocks img ≤ length (scratch_in c) → scratch_out c ≡ cleared img (scratch_in c))
    × ((Sized img → length (scratch_in c) < 4 * blocks img) → scratch_out c ≡ scratch_in c)
called_scratch (read s s' buf buf' n off r c e) = scratch_after_lem c.opening
called_scratch (write s s' src n off r c) = scratch_after_lem c.opening
called_scratch (resize s s' n len r c) = scratch_after_lem c.opening

pub made_scratch : {img img' : List ℕ} {q : Asked} {r : Said} (m : Made img img' q r)
    → (Sized img → 4 * blocks img ≤ length (scratch_of m) → scratch_after m ≡ cleared img (scratch_of m))
    × ((Sized img → length (scratch_of m) < 4 * blocks img) → scratch_after m ≡ scratch_of m)
made_scratch (filed c) = called_scratch c
made_scratch (create s s' p x k r c) = scratch_after_lem c.opening
made_scratch (link s s' p x n r c) = scratch_after_lem c.opening
made_scratch (unlink s s' p x r c) = scratch_after_lem c.opening
made_scratch (move s s' p old t new r c) = scratch_after_lem c.opening
made_scratch (find s s' p x r c e) = scratch_after_lem c.opening
made_scratch (list s s' p k r x c e) = scratch_after_lem c.opening
made_scratch (describe s s' n r k l m v c e) = scratch_after_lem c.opening
made_scratch (check s s' o r c i e) = scratch_after_lem c
