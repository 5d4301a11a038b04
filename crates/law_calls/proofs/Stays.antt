-- Only an unlink removes an inode, and only what it names by its last name: every other stays one. Assumes nothing.
use mathlib.Core.Path.{◌≡◌}
use mathlib.Core.Logic.{◌≢◌}
use mathlib.Core.List.{List, [], ◌∷◌}
use Prim.Native.Nat.{ℕ}
use native.Mathlib.Omega.{arith}
use native.Mathlib.Decide.{ℕ_discrete}
use lib.Dec.{eqb, ltb}
use Rattle.std.proofs.lemmas.Grind.{common_steps}
use Rattle.words.specs.Words.{Bytes}
use Rattle.words.specs.Sums.{δ, cnt}
use Rattle.words.proofs.Sums.{δ_same, δ_other, sum_on_nil, sum_on_cons}
use Rattle.card_layout.specs.Inode.{kind, links}
use Rattle.card_rules.specs.Whole.{Reached, Whole}
use Rattle.card_rules.proofs.Tree.{reached_listed}
use Rattle.dir_answers.specs.Answers.{named_by}
use Rattle.file_blocks.proofs.Picks.{pick-both}
use Rattle.call_said.specs.Said.{said_value, Said}
use Rattle.law_calls.specs.Made.{Asked, file, creating, linking, unlinking, moving, finding, listing, describing, checking, Made, filed}
use Rattle.law_calls.specs.Made.{create, link, unlink, move, find, list, describe, check, OfBytesAll, names_of, removes_of}
use Rattle.law_dirs.proofs.UnlinkCard.{UnlinkDone}
use Rattle.law_calls.proofs.Calls.{call_tree}
use Rattle.law_calls.proofs.Refusals.{refused_same}
use Rattle.law_calls.proofs.DoneCalls.{created_done, linked_done, unlinked_done, moved_done}
use Rattle.refusals.specs.Refusals.{answer_no}

-- a list of one has no other
pub not_in : (m c : ℕ) → m ≢ c → cnt m (c ∷ []) ≡ 0
not_in m c d = omega (arith, sum_on_cons (δ m) c [], sum_on_nil (δ m), δ_other m c d)

-- who is removed stands in the list
one_of : (m c : ℕ) → m ≡ c → cnt m (c ∷ []) ≢ 0
one_of m c e z = omega (arith, sum_on_cons (δ m) c [], δ_same m c e)

module _ {img out : List ℕ} (p : ℕ) (x : List ℕ) (l : List ℕ) (u : UnlinkDone l img out p x) where
  abbrev c : ℕ
  c = named_by img p x

  -- what was named stays where it is no directory and has another name
  unlinked_stays : (m : ℕ) → Reached img m → cnt m (removes_of img (unlinking p x)) ≡ 0 → Reached out m
  unlinked_stays m r z = grind (arith, common_steps, one_of)

module _ {img img' : List ℕ} (w : Whole img) (b : Bytes img) where
  done_stays : {q : Asked} {r : Said} → OfBytesAll q → Made img img' q r → answer_no r ≡ 0 → (m : ℕ) → Reached img m → cnt m (removes_of img q) ≡ 0
      → Reached img' m
  done_stays o (filed c) z m h n = (call_tree w.sound w.tree b o c).only m (reached_listed img w m h)
  done_stays o (create s s' p x k r c) z m h n =
      (created_done w b o c z).tree.only m (omega (arith, sum_on_cons (δ m) (said_value r) w.inodes, reached_listed img w m h))
  done_stays o (link s s' p x k r c) z m h n = (linked_done w b o c z).tree.only m (reached_listed img w m h)
  done_stays o (unlink s s' p x r c) z m h n = unlinked_stays p x w.inodes (unlinked_done w b c z) m h n
  done_stays o (move s s' p old t new r c) z m h n = (moved_done w b o c z).tree.only m (reached_listed img w m h)
  done_stays o (find s s' p x r c e) z m h n = rw e h
  done_stays o (list s s' p k r x c e) z m h n = rw e h
  done_stays o (describe s s' n' r k l v y c e) z m h n = rw e h
  done_stays o (check s s' a r c i e) z m h n = rw e h

  pub made_stays : {q : Asked} {r : Said} → OfBytesAll q → Made img img' q r → (m : ℕ) → Reached img m → (answer_no r ≡ 0 → cnt m (removes_of img q) ≡ 0)
      → Reached img' m
  made_stays {q} {r} o c m h n = go (ℕ_discrete (answer_no r) 0)
    where
      go : Dec (answer_no r ≡ 0) → Reached img' m
      go (yes z) = done_stays o c z m h (n z)
      go (no d) = rw (refused_same c d) h

-- only what is named is removed
pub unnamed_unremoved : (img : List ℕ) (m : ℕ) (q : Asked) → cnt m (names_of img q) ≡ 0 → cnt m (removes_of img q) ≡ 0
unnamed_unremoved img m (unlinking p x) z =
    pick-both (λ (l : List ℕ). cnt m l ≡ 0) (eqb (kind img (named_by img p x)) 2) _ _ own
    (pick-both (λ (l : List ℕ). cnt m l ≡ 0) (ltb 1 (links img (named_by img p x))) _ _ (sum_on_nil (δ m)) own)
  where
    own : cnt m (named_by img p x ∷ []) ≡ 0
    own = omega (arith, sum_on_cons (δ m) p (named_by img p x ∷ []))
unnamed_unremoved img m (file q) z = sum_on_nil (δ m)
unnamed_unremoved img m (creating p x k) z = sum_on_nil (δ m)
unnamed_unremoved img m (linking p x c) z = sum_on_nil (δ m)
unnamed_unremoved img m (moving p old t new) z = sum_on_nil (δ m)
unnamed_unremoved img m (finding p x) z = sum_on_nil (δ m)
unnamed_unremoved img m (listing p k) z = sum_on_nil (δ m)
unnamed_unremoved img m (describing n) z = sum_on_nil (δ m)
unnamed_unremoved img m checking z = sum_on_nil (δ m)
