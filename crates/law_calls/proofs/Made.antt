-- Every public call, done or refused, keeps a whole card whole, and changes no file that it does not write. Assumes nothing.
use mathlib.Core.Path.{◌≡◌}
use mathlib.Core.Logic.{◌≢◌}
use mathlib.Core.List.{List, [], ◌∷◌}
use Prim.Native.Nat.{ℕ}
use native.Mathlib.Decide.{ℕ_discrete}
use Rattle.words.specs.Words.{Bytes}
use Rattle.words.specs.Sums.{cnt}
use Rattle.card_layout.specs.Inode.{kind}
use Rattle.card_rules.specs.Whole.{Reached, Sound, Tree, Whole}
use Rattle.card_rules.proofs.Tree.{reached_listed}
use Rattle.card_rules.specs.Same.{SameFile}
use Rattle.law_files.specs.Requests.{Request, named, OfBytes}
use Rattle.law_calls.specs.Calls.{Called, read, write, resize}
use Rattle.law_calls.specs.SameData.{SameData}
use Rattle.law_calls.specs.Inner.{Frame}
use Rattle.law_calls.specs.Made.{Asked, file, Made, filed, create, link, unlink, move, find, list, describe, check, OfBytesAll, names_of, writes_of}
use Rattle.law_files.proofs.Writing.{step}
use Rattle.law_calls.proofs.Calls.{Outcome, stays, acts, called}
use Rattle.law_calls.proofs.Frame.{frame_same, step_frame}
use Rattle.law_calls.proofs.Refusals.{refused_same}
use Rattle.law_calls.proofs.DoneCalls.{created_frame, linked_frame, unlinked_frame, moved_frame}
use Rattle.call_said.specs.Said.{Said}
use Rattle.refusals.specs.Refusals.{answer_no}

-- ---- a call on a file

module _ {l img img' : List ℕ} (s : Sound img l) (t : Tree img l) (b : Bytes img) where
  file_outcome : (q : Request) {r : Said} → OfBytes q → Outcome l img img' q r → Frame l img img' (named q ∷ []) (named q ∷ [])
  file_outcome q o (stays e _) = rw e (frame_same s t b)
  file_outcome q o (acts e _) = rw e (step_frame s (step s t b q o))

  pub file_frame : {q : Request} {r : Said} → OfBytes q → Called img img' q r → Frame l img img' (names_of img (file q)) (writes_of (file q))
  file_frame o (read s' s'' buf buf' n off r c e) = rw e (frame_same s t b)
  file_frame {q} o (write s' s'' src n off r c) = file_outcome q o (called t (write s' s'' src n off r c))
  file_frame {q} o (resize s' s'' n len r c) = file_outcome q o (called t (resize s' s'' n len r c))

-- ---- any call

module _ {img img' : List ℕ} (w : Whole img) (b : Bytes img) where
  done_frame : {q : Asked} {r : Said} → OfBytesAll q → Made img img' q r → answer_no r ≡ 0 → Frame w.inodes img img' (names_of img q) (writes_of q)
  done_frame o (filed c) z = file_frame w.sound w.tree b o c
  done_frame o (create s s' p x k r c) z = created_frame w b o c z
  done_frame o (link s s' p x n r c) z = linked_frame w b o c z
  done_frame o (unlink s s' p x r c) z = unlinked_frame w b c z
  done_frame o (move s s' p old t new r c) z = moved_frame w b o c z
  done_frame o (find s s' p x r c e) z = rw e (frame_same w.sound w.tree b)
  done_frame o (list s s' p k r x c e) z = rw e (frame_same w.sound w.tree b)
  done_frame o (describe s s' n r k l m v c e) z = rw e (frame_same w.sound w.tree b)
  done_frame o (check s s' a r c i e) z = rw e (frame_same w.sound w.tree b)

  pub made_frame : {q : Asked} {r : Said} → OfBytesAll q → Made img img' q r → Frame w.inodes img img' (names_of img q) (writes_of q)
  made_frame {q} {r} o m = go (ℕ_discrete (answer_no r) 0)
    where
      go : Dec (answer_no r ≡ 0) → Frame w.inodes img img' (names_of img q) (writes_of q)
      go (yes z) = done_frame o m z
      go (no d) = rw (refused_same m d) (frame_same w.sound w.tree b)

  module _ {q : Asked} {r : Said} (o : OfBytesAll q) (m : Made img img' q r) where
    abbrev pub made_whole : Whole img'
    made_whole = let f = made_frame o m in record { inodes = f.inodes; sound = f.sound; tree = f.tree }

    pub made_bytes : Bytes img'
    made_bytes = (made_frame o m).bytes

    -- every inode that the call does not name, file or directory, has its record, its blocks and its bytes
    pub made_isolation : (n : ℕ) → Reached img n → cnt n (names_of img q) ≡ 0 → SameFile img img' n
    made_isolation n h = (made_frame o m).others n (reached_listed img w n h)

    -- and every file or symbolic link that it does not write, named or not, all but its links
    pub made_files : (n : ℕ) → Reached img n → kind img n ≢ 2 → cnt n (writes_of q) ≡ 0 → SameData img img' n
    made_files n h = (made_frame o m).files n (reached_listed img w n h)
