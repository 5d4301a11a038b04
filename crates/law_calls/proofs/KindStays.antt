-- No call, done or refused, changes the kind of an inode, file or directory, named by it or not. Assumes nothing.
use mathlib.Core.Path.{◌≡◌, refl, sym, subst}
use native.Mathlib.Omega.{arith}
use mathlib.Core.List.{List}
use Prim.Native.Nat.{ℕ}
use native.Mathlib.Decide.{ℕ_discrete}
use Rattle.std.proofs.lemmas.Grind.{common_steps}
use Rattle.words.specs.Words.{Bytes}
use Rattle.card_layout.specs.Inode.{kind}
use Rattle.card_rules.specs.Whole.{Reached, Whole}
use Rattle.card_rules.specs.Same.{SameFile}
use Rattle.card_rules.proofs.Tree.{reached_listed}
use Rattle.card_rules.proofs.Frames.{kind_is}
use Rattle.dir_answers.specs.Answers.{named_by}
use Rattle.law_dirs.proofs.CreateCard.{CreateDone}
use Rattle.law_dirs.proofs.LinkCard.{LinkDone}
use Rattle.law_dirs.proofs.UnlinkCard.{UnlinkDone}
use Rattle.law_dirs.proofs.MoveCard.{MoveDone}
use Rattle.law_calls.specs.Made.{Asked, Made, filed, create, link, unlink, move, find, list, describe, check, OfBytesAll}
use Rattle.law_calls.proofs.Calls.{call_step}
use Rattle.law_calls.proofs.Refusals.{refused_same}
use Rattle.law_calls.proofs.DoneCalls.{created_done, linked_done, unlinked_done, moved_done}
use Rattle.call_said.specs.Said.{Said}
use Rattle.refusals.specs.Refusals.{answer_no}

abbrev SameKind : List ℕ → List ℕ → ℕ → Type 0
SameKind img out m = kind out m ≡ kind img m

one_kind : (img out : List ℕ) {m n : ℕ} → m ≡ n → SameKind img out n → SameKind img out m
one_kind img out e = subst (SameKind img out) (sym e)

module _ {img out : List ℕ} where
  file_kind_lem : {m : ℕ} → SameFile img out m → SameKind img out m
  file_kind_lem s = kind_is s.slots.rec

  module _ {m : ℕ} (h : Reached img m) where
    create_kind : {l : List ℕ} {p : ℕ} {x : List ℕ} {k i : ℕ} → CreateDone l img out p x k i → Dec (m ≡ p) → SameKind img out m
    create_kind c (yes e) = one_kind img out e c.more.kind_is
    create_kind c (no d) = file_kind_lem (c.others m h d)

    link_kind : {l : List ℕ} {p : ℕ} {x : List ℕ} {n : ℕ} → LinkDone l img out p x n → Dec (m ≡ p) → Dec (m ≡ n) → SameKind img out m
    link_kind c t₁ t₂ = grind (arith, common_steps, file_kind_lem)

    unlink_kind : {l : List ℕ} {p : ℕ} {x : List ℕ} → UnlinkDone l img out p x → Dec (m ≡ p) → Dec (m ≡ named_by img p x) → SameKind img out m
    unlink_kind c t₁ t₂ = grind (arith, common_steps, file_kind_lem)

  module _ (w : Whole img) {m : ℕ} (h : Reached img m) {p : ℕ} {old : List ℕ} {j t c : ℕ} {new : List ℕ}
      (y : MoveDone w.inodes img out p old j t c new) where
    move_kind : Dec (p ≡ t) → Dec (m ≡ p) → Dec (m ≡ t) → Dec (m ≡ c) → SameKind img out m
    move_kind t₁ t₂ t₃ t₄ = grind (arith, common_steps, file_kind_lem)

module _ {img img' : List ℕ} (w : Whole img) (b : Bytes img) (m : ℕ) (h : Reached img m) where
  done_kind : {q : Asked} {r : Said} → OfBytesAll q → Made img img' q r → answer_no r ≡ 0 → kind img' m ≡ kind img m
  done_kind o (filed c) z = (call_step w.sound w.tree b o c).taken.kinds_same m (reached_listed img w m h)
  done_kind o (create s s' p x k r c) z = create_kind h (created_done w b o c z) (ℕ_discrete m p)
  done_kind o (link s s' p x n r c) z = link_kind h (linked_done w b o c z) (ℕ_discrete m p) (ℕ_discrete m n)
  done_kind o (unlink s s' p x r c) z = unlink_kind h (unlinked_done w b c z) (ℕ_discrete m p) (ℕ_discrete m (named_by img p x))
  done_kind o (move s s' p old t new r c) z =
      move_kind w h (moved_done w b o c z) (ℕ_discrete p t) (ℕ_discrete m p) (ℕ_discrete m t) (ℕ_discrete m (named_by img p old))
  done_kind o (find s s' p x r c e) z = rw e refl
  done_kind o (list s s' p k r x c e) z = rw e refl
  done_kind o (describe s s' n r k i j v c e) z = rw e refl
  done_kind o (check s s' x r c i e) z = rw e refl

  pub made-kind : {q : Asked} {r : Said} → OfBytesAll q → Made img img' q r → kind img' m ≡ kind img m
  made-kind {q} {r} o c = go (ℕ_discrete (answer_no r) 0)
    where
      go : Dec (answer_no r ≡ 0) → kind img' m ≡ kind img m
      go (yes z) = done_kind o c z
      go (no d) = rw (refused_same c d) refl
