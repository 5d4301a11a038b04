-- On a whole card, with scratch enough and numbers of inodes, a public call on a directory says what its definition answers; so RULES' tests, one by one, are
-- of the calls (CreateTests, LinkTests, UnlinkTests, MoveTests, LookTests). The causes of 1 to 4 are in OpenCauses. Assumes nothing.
use mathlib.Core.Path.{◌≡◌, ap, ◌∙◌}
use mathlib.Core.List.{List}
use Prim.Native.Nat.{ℕ, ◌*◌, ◌≤◌}
use lib.ListN.{length}
use Rattle.card_layout.specs.Super.{blocks}
use Rattle.card_rules.specs.Whole.{Reached, Whole}
use Rattle.check_walk.specs.declared.Counts.{Counts}
use Rattle.check_walk.specs.Opening.{counts_at, Opening, Opened}
use Rattle.check_walk.proofs.Agree.{opened}
use Rattle.dir_create.specs.Create.{create_answer}
use Rattle.dir_link.specs.Link.{link_answer}
use Rattle.dir_unlink.specs.Unlink.{unlink_answer}
use Rattle.dir_move.specs.Move.{move_answer}
use Rattle.dir_look.specs.Look.{find_answer, entry_answer}
use Rattle.call_said.specs.Said.{of_opened, numbered, plain, Said}
use Rattle.call_dirs.specs.DirCalls.{Created, Linked, Unlinked, Moved}
use Rattle.call_looks.specs.LookCalls.{Found, Listed}
use Rattle.call_said.proofs.Opened.{numbered_no}
use Rattle.refusals.specs.Refusals.{answer_no, if_done}
use Rattle.refusals.specs.declared.Refusal.{Refusal}
use Rattle.std.specs.Prelude.{Ok, Result}
use Rattle.refusals.proofs.Refused.{giving_no}

module _ {img s s' : List ℕ} (w : Whole img) (enough : 4 * blocks img ≤ length s) where
  pub opens : {a b : ℕ} {o : Opened} → Reached img a → Reached img b → Opening img s s' a b o → (c : Counts) × (o ≡ Ok c)
  opens x y z = (counts_at img, ((opened z).1 enough w x y).0)

  said_of : {a b : ℕ} {o : Opened} → Reached img a → Reached img b → Opening img s s' a b o → (f : Said) {r : Said} → r ≡ if_done o f (of_opened o) → r ≡ f
  said_of x y z f e = e ∙ ap (λ (v : Opened). if_done v f (of_opened v)) (opens x y z).1

  -- of an answer without a value
  plain_says : {a b : ℕ} {o : Opened} → Reached img a → Reached img b → Opening img s s' a b o → (j : Result Unit Refusal) {r : Said}
      → r ≡ if_done o (plain j) (of_opened o) → answer_no r ≡ answer_no j
  plain_says x y z j e = ap answer_no (said_of x y z (plain j) e) ∙ giving_no j 0

  module _ {img' : List ℕ} {p : ℕ} {r : Said} (x : Reached img p) where
    -- the new inode
    pub create_inode : {n : List ℕ} {k : ℕ} → Created img img' s s' p n k r → r ≡ numbered (create_answer (blocks img) img p n k)
    create_inode {n} {k} c = said_of x x c.opening (numbered (create_answer (blocks img) img p n k)) c.said

    pub create_says : {n : List ℕ} {k : ℕ} → Created img img' s s' p n k r → answer_no r ≡ answer_no (create_answer (blocks img) img p n k)
    create_says {n} {k} c = ap answer_no (create_inode c) ∙ numbered_no (create_answer (blocks img) img p n k)

    pub link_says : {n : List ℕ} {k : ℕ} → Reached img k → Linked img img' s s' p n k r → answer_no r ≡ answer_no (link_answer img p n k)
    link_says {n} {k} y c = plain_says x y c.opening (link_answer img p n k) c.said

    pub unlink_says : {n : List ℕ} → Unlinked img img' s s' p n r → answer_no r ≡ answer_no (unlink_answer img p n)
    unlink_says {n} c = plain_says x x c.opening (unlink_answer img p n) c.said

    pub move_says : {old : List ℕ} {t : ℕ} {new : List ℕ} → Reached img t → Moved img img' s s' p old t new r
        → answer_no r ≡ answer_no (move_answer (blocks img) img p old t new)
    move_says {old} {t} {new} y c = plain_says x y c.opening (move_answer (blocks img) img p old t new) c.said

  module _ {p : ℕ} {r : Said} (x : Reached img p) where
    pub find_inode : {n : List ℕ} → Found img s s' p n r → r ≡ numbered (find_answer img p n)
    find_inode {n} c = said_of x x c.opening (numbered (find_answer img p n)) c.said

    pub find_says : {n : List ℕ} → Found img s s' p n r → answer_no r ≡ answer_no (find_answer img p n)
    find_says {n} c = ap answer_no (find_inode c) ∙ numbered_no (find_answer img p n)

    pub entry_says : {k : ℕ} {e : List ℕ} → Listed img s s' p k r e → answer_no r ≡ answer_no (entry_answer img p k)
    entry_says {k} c = plain_says x x c.opening (entry_answer img p k) c.said
