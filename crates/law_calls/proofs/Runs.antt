-- Runs of public calls: a whole card stays whole; a record that no call that is done writes or removes has its kind, length, blocks and bytes, and what no call
-- names has all that it had; each byte of a file is as last written. Assumes nothing.
use mathlib.Core.Path.{◌≡◌, refl, sym, ap, ◌∙◌}
use mathlib.Core.Logic.{◌≢◌}
use mathlib.Core.List.{List, [], ◌∷◌, ◌++◌}
use Prim.Native.Nat.{ℕ, ◌<◌}
use native.Mathlib.Omega.{arith}
use native.Mathlib.Decide.{ℕ_discrete}
use Rattle.words.specs.Words.{Bytes}
use Rattle.words.specs.Sums.{δ, cnt}
use Rattle.words.proofs.Sums.{sum_on_nil}
use Rattle.card_layout.specs.Inode.{size, kind}
use Rattle.card_rules.specs.View.{file_byte}
use Rattle.card_rules.specs.Whole.{Reached, Whole}
use Rattle.card_rules.specs.Same.{SameFile}
use Rattle.card_rules.proofs.Tree.{reached_listed}
use Rattle.card_rules.proofs.Kept.{slots_few}
use Rattle.card_rules.proofs.Frames.{file_refl, file_trans, inode_room}
use Rattle.law_calls.specs.SameData.{SameData}
use Rattle.law_calls.specs.Made.{Asked, Made, filed, create, link, unlink, move, find, list, describe, check, OfBytesAll, names_of, writes_of}
use Rattle.law_calls.specs.Runs.{Call, Unwritten, Unremoved, Unnamed, Run, none, next, put, last_put}
use Rattle.law_calls.proofs.Calls.{call_step}
use Rattle.law_calls.proofs.Frame.{same_data_refl, same_data_trans}
use Rattle.law_calls.proofs.Refusals.{refused_same}
use Rattle.law_calls.proofs.Made.{made_whole, made_bytes, made_isolation, made_files}
use Rattle.law_calls.proofs.Stays.{made_stays}
use Rattle.law_calls.proofs.KindStays.{made-kind}
use Rattle.call_said.specs.Said.{Said}
use Rattle.refusals.specs.Refusals.{answer_no}

-- ---- whole all along

module _ {P : List ℕ → List ℕ → Call → Type 0} where
  pub run_whole : {img out : List ℕ} {cs : List Call} → Whole img → Bytes img → Run P img out cs → Whole out
  run_whole w b none = w
  run_whole w b (next o m p r) = run_whole (made_whole w b o m) (made_bytes w b o m) r

  pub run_bytes : {img out : List ℕ} {cs : List Call} → Whole img → Bytes img → Run P img out cs → Bytes out
  run_bytes w b none = b
  run_bytes w b (next o m p r) = run_bytes (made_whole w b o m) (made_bytes w b o m) r

  -- the first calls of a run are one, and the others
  pub run_part : {img out : List ℕ} (xs ys : List Call) → Run P img out (xs ++ ys) → (mid : List ℕ) × Run P img mid xs × Run P mid out ys
  run_part {img} [] ys r = (img, none, r)
  run_part (x ∷ xs) ys (next o m p r) = let z = run_part xs ys r in (z.0, next o m p z.1, z.2)

-- ---- one call, done or not

module _ {img mid : List ℕ} (w : Whole img) (b : Bytes img) {q : Asked} {r : Said} (o : OfBytesAll q) (c : Made img mid q r) (m : ℕ) (h : Reached img m) where
  -- a file that it does not write
  pub call_data : kind img m ≢ 2 → (answer_no r ≡ 0 → cnt m (writes_of q) ≡ 0) → SameData img mid m
  call_data d f = go (ℕ_discrete (answer_no r) 0)
    where
      go : Dec (answer_no r ≡ 0) → SameData img mid m
      go (yes z) = made_files w b o c m h d (f z)
      go (no e) = rw (refused_same c e) (same_data_refl img m)

  -- an inode that it does not name
  pub call_file : (answer_no r ≡ 0 → cnt m (names_of img q) ≡ 0) → SameFile img mid m
  call_file f = go (ℕ_discrete (answer_no r) 0)
    where
      go : Dec (answer_no r ≡ 0) → SameFile img mid m
      go (yes z) = made_isolation w b o c m h (f z)
      go (no e) = rw (refused_same c e) (file_refl img m)

-- ---- one byte

none_in : (m : ℕ) → cnt m [] ≡ 0
none_in m = sum_on_nil (δ m)

module _ {img mid : List ℕ} (w : Whole img) (b : Bytes img) (m : ℕ) (h : Reached img m) (d : kind img m ≢ 2) where
  -- a call that writes nothing
  still_byte : {q : Asked} {r : Said} → OfBytesAll q → Made img mid q r → cnt m (writes_of q) ≡ 0 → (o : ℕ) → o < size img m
      → file_byte mid m o ≡ file_byte img m o
  still_byte q c z o l = (call_data w b q c m h d (λ _. z)).kept o (omega (arith, inode_room (w.sound.inode m (reached_listed img w m h))))

  pub call_byte : {q : Asked} {r : Said} → OfBytesAll q → Made img mid q r → (o : ℕ) → o < size img m → o < size mid m
      → file_byte mid m o ≡ put q r m o (file_byte img m o)
  call_byte a (filed c) o l k =
      let y = call_step w.sound w.tree b a c in
      y.taken.byte_is m o (reached_listed img w m h) l k ∙ y.puts m o (file_byte img m o)
  call_byte a (create s s' p x k r c) o l _ = still_byte a (create s s' p x k r c) (none_in m) o l
  call_byte a (link s s' p x n r c) o l _ = still_byte a (link s s' p x n r c) (none_in m) o l
  call_byte a (unlink s s' p x r c) o l _ = still_byte a (unlink s s' p x r c) (none_in m) o l
  call_byte a (move s s' p old t new r c) o l _ = still_byte a (move s s' p old t new r c) (none_in m) o l
  call_byte a (find s s' p x r c e) o l _ = rw e refl
  call_byte a (list s s' p k r x c e) o l _ = rw e refl
  call_byte a (describe s s' n r k i j v c e) o l _ = rw e refl
  call_byte a (check s s' x r c i e) o l _ = rw e refl

-- ---- runs, each call of which leaves m an inode

module _ {P : List ℕ → List ℕ → Call → Type 0} (m : ℕ) (stays : (img mid : List ℕ) (c : Call) → P img mid c → Unremoved m img c) where
  pub run_stays : {img out : List ℕ} {cs : List Call} → Whole img → Bytes img → Reached img m → Run P img out cs → Reached out m × (kind out m ≡ kind img m)
  run_stays w b h none = (h, refl)
  run_stays {img} w b h (next {mid = mid} {c = c} o a p r) =
      let y = run_stays (made_whole w b o a) (made_bytes w b o a) (made_stays w b o a m h (stays img mid c p)) r in
      (y.0, y.1 ∙ made-kind w b m h o a)

  -- a file that is not written
  pub run_data : {img out : List ℕ} {cs : List Call} → ((img mid : List ℕ) (c : Call) → P img mid c → Unwritten m c) → Whole img → Bytes img
      → Reached img m → kind img m ≢ 2 → Run P img out cs → Reached out m × SameData img out m
  run_data {img} f w b h d none = (h, same_data_refl img m)
  run_data {img} f w b h d (next {mid = mid} {c = c} o a p r) =
      let x = call_data w b o a m h d (f img mid c p) in
      let y =
      run_data f (made_whole w b o a) (made_bytes w b o a) (made_stays w b o a m h (stays img mid c p)) (λ e. d (sym x.kind_is ∙ e)) r in
      (y.0, same_data_trans x y.1)

  -- an inode that is not named
  pub run_file : {img out : List ℕ} {cs : List Call} → ((img mid : List ℕ) (c : Call) → P img mid c → Unnamed m img c) → Whole img → Bytes img
      → Reached img m → Run P img out cs → Reached out m × SameFile img out m
  run_file {img} f w b h none = (h, file_refl img m)
  run_file {img} f w b h (next {mid = mid} {c = c} o a p r) =
      let x = call_file w b o a m h (f img mid c p) in
      let y = run_file f (made_whole w b o a) (made_bytes w b o a) (made_stays w b o a m h (stays img mid c p)) r in
      (y.0, file_trans (slots_few w.sound m (reached_listed img w m h)) x y.1)

  -- a byte below the file's length all along
  pub run_byte : {img out : List ℕ} {cs : List Call} (o : ℕ) → ((img mid : List ℕ) (c : Call) → P img mid c → o < size mid m) → Whole img → Bytes img
      → Reached img m → kind img m ≢ 2 → o < size img m → Run P img out cs → file_byte out m o ≡ last_put cs m o (file_byte img m o)
  unfolding last_put
  run_byte o f w b h d l none = refl
  run_byte {img} {cs = c ∷ cs} o f w b h d l (next {mid = mid} a x p r) =
      let k = made-kind w b m h a x in
      run_byte o f (made_whole w b a x) (made_bytes w b a x) (made_stays w b a x m h (stays img mid c p)) (λ e. d (sym k ∙ e)) (f img mid c p) r
      ∙ ap (last_put cs m o) (call_byte w b m h d a x o l (f img mid c p))
