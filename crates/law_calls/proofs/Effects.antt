-- What the calls create, link, unlink and move leave of a whole card where they answer 0, in RULES' words. Assumes nothing.
use mathlib.Core.Path.{◌≡◌}
use mathlib.Core.List.{List}
use Prim.Native.Nat.{ℕ}
use Rattle.words.specs.Words.{Bytes}
use Rattle.card_rules.specs.Whole.{Whole}
use Rattle.dir_answers.specs.Answers.{named_by}
use Rattle.call_said.specs.Said.{said_value, Said}
use Rattle.call_dirs.specs.DirCalls.{Created, Linked, Unlinked, Moved}
use Rattle.law_dirs.specs.Effects.{CreateEffect, LinkEffect, UnlinkEffect, MoveEffect}
use Rattle.law_dirs.proofs.UnlinkCard.{some_link}
use Rattle.law_dirs.proofs.CreateEffect as C
use Rattle.law_dirs.proofs.LinkEffect as L
use Rattle.law_dirs.proofs.UnlinkEffect as U
use Rattle.law_dirs.proofs.MoveEffect as M
use Rattle.law_calls.proofs.DoneCalls.{create_acts, created_done, link_acts, linked_done, unlinked_done}
use Rattle.law_calls.proofs.DoneCalls.{unlinked_parent, unlinked_target, move_acts, moved_done}
use Rattle.refusals.specs.Refusals.{answer_no}

module _ {img img' s s' : List ℕ} (w : Whole img) (bytes : Bytes img) {p : ℕ} {x : List ℕ} where
  -- the new inode is the number that is answered
  pub created_effect : {k : ℕ} {r : Said} → Bytes x → Created img img' s s' p x k r → answer_no r ≡ 0 → CreateEffect img img' p x k (said_value r)
  created_effect src c z = C.create_by w (create_acts w bytes src c z).first (created_done w bytes src c z)

  pub linked_effect : {n : ℕ} {r : Said} → Bytes x → Linked img img' s s' p x n r → answer_no r ≡ 0 → LinkEffect img img' p x n
  linked_effect src c z = L.link_by w (link_acts w bytes src c z).first (linked_done w bytes src c z)

  pub unlinked_effect : {r : Said} → Unlinked img img' s s' p x r → answer_no r ≡ 0 → UnlinkEffect img img' p x (named_by img p x)
  unlinked_effect c z =
      let t = unlinked_target w bytes c z in
      U.unlink_by (unlinked_done w bytes c z) (some_link w bytes p (unlinked_parent w bytes c z) x t.0 t.1)

  pub moved_effect : {t : ℕ} {new : List ℕ} {r : Said} → Bytes new → Moved img img' s s' p x t new r → answer_no r ≡ 0 → MoveEffect img img' p x t new
  moved_effect src c z =
      let a = move_acts w bytes src c z in
      M.move_by w a.first a.second (moved_done w bytes src c z)
