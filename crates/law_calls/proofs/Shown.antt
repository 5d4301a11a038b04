-- A file shows only what was written to it: every byte below its length is what the last done write to it put there since the length last rose over it, or 0.
-- Assumes nothing.
use mathlib.Core.Path.{◌≡◌, refl, sym, ap, ◌∙◌, subst}
use mathlib.Core.Logic.{◌≢◌}
use mathlib.Core.List.{List, [], ◌∷◌}
use Prim.Native.Nat.{ℕ, ◌≤◌, ◌<◌}
use native.Mathlib.Omega.{arith}
use native.Mathlib.Decide.{ℕ_discrete}
use lib.Dec.{eqb}
use borrow.Author.Tests.{ne_eqb}
use Rattle.std.proofs.lemmas.Grind.{common_steps}
use Rattle.words.specs.Words.{Bytes}
use Rattle.words.specs.Sums.{δ, cnt}
use Rattle.words.proofs.Sums.{sum_on_nil}
use Rattle.card_layout.specs.Inode.{size, kind}
use Rattle.card_rules.specs.View.{file_byte}
use Rattle.card_rules.specs.Whole.{Reached, Whole}
use Rattle.call_said.specs.Said.{said_value, Said}
use Rattle.law_files.specs.Requests.{Request, writing, resizing}
use Rattle.law_files.specs.Effects.{ResizeEffect, WriteEffect}
use Rattle.law_files.proofs.Writing.{pick_same}
use Rattle.law_calls.specs.Calls.{Called, read, write, resize}
use Rattle.law_calls.specs.SameData.{SameData}
use Rattle.law_calls.specs.Made.{Asked, file, Made, filed, create, link, unlink, move, find, list, describe, check, OfBytesAll, writes_of}
use Rattle.law_calls.specs.Runs.{Call, Unremoved, Run, none, next, shown, last_shown}
use Rattle.law_calls.proofs.Made.{made_whole, made_bytes}
use Rattle.law_calls.proofs.Stays.{not_in, made_stays}
use Rattle.law_calls.proofs.Runs.{call_data}
use Rattle.law_calls.proofs.KindStays.{made-kind}
use Rattle.law_calls.proofs.FileEffects.{write_done, resize_done}
use Rattle.refusals.specs.Refusals.{answer_no}

-- v is what file m shows on a card: its bytes below its length, and 0 from there on
pub record Shows (img : List ℕ) (m : ℕ) (v : ℕ → ℕ) : Type 0 where
  pub below : (o : ℕ) → o < size img m → file_byte img m o ≡ v o
  pub behind : (o : ℕ) → size img m ≤ o → v o ≡ 0

-- ---- nothing of it changed

module _ {img mid : List ℕ} {m : ℕ} {v : ℕ → ℕ} (w : Whole img) (h : Reached img m) (z : Shows img m v) where
  same_shows : SameData img mid m → Shows mid m v
  same_shows x = grind (arith, common_steps)

-- ---- a write and a length change that are done

module _ {img mid : List ℕ} {m : ℕ} {v : ℕ → ℕ} (z : Shows img m v) (r : Said) (d : answer_no r ≡ 0) where
  wrote_shows : (off : ℕ) (src : List ℕ) → WriteEffect img mid m off src (said_value r) → Shows mid m (λ o. shown (file (writing m off src)) r m o (v o))
  wrote_shows off src x = grind (arith, common_steps)

-- ---- any call

-- v by another name
shows_as : {img : List ℕ} {m : ℕ} {u v : ℕ → ℕ} → ((o : ℕ) → u o ≡ v o) → Shows img m u → Shows img m v
shows_as e z = record { below = λ o a. z.below o a ∙ e o; behind = λ o a. sym (e o) ∙ z.behind o a }

module _ {img mid : List ℕ} {m : ℕ} (v : ℕ → ℕ) (w : Whole img) (b : Bytes img) (h : Reached img m) (k : kind img m ≢ 2) (z : Shows img m v) where
  -- one that does not write it, or is refused
  still : {q : Asked} {r : Said} → OfBytesAll q → Made img mid q r → (answer_no r ≡ 0 → cnt m (writes_of q) ≡ 0) → Shows mid m v
  still o c f = same_shows w h z (call_data w b o c m h k f)

  nothing : {q : Asked} {r : Said} → OfBytesAll q → Made img mid q r → writes_of q ≡ [] → Shows mid m v
  nothing o c e = still o c (λ _. ap (cnt m) e ∙ sum_on_nil (δ m))

  -- a write, by whether it is done and to m
  write_shown : (src : List ℕ) (n off : ℕ) (r : Said) → Bytes src → Made img mid (file (writing n off src)) r
      → (answer_no r ≡ 0 → WriteEffect img mid n off src (said_value r)) → Dec (answer_no r ≡ 0) → Dec (n ≡ m)
      → Shows mid m (λ o. shown (file (writing n off src)) r m o (v o))
  write_shown src n off r g c x (no d) _ =
      shows_as (λ o. rw (ne_eqb (answer_no r) 0 d)) (still g c (λ e. absurd (d e)))
  write_shown src n off r g c x (yes d) (no e) =
      shows_as (λ o. rw (ne_eqb n m e) (sym (pick_same (eqb (answer_no r) 0) (v o)))) (still g c (λ _. not_in m n (λ q. e (sym q))))
  write_shown src n off r g c x (yes d) (yes e) =
      subst (λ (i : ℕ). Shows mid m (λ o. shown (file (writing i off src)) r m o (v o))) (sym e)
      (wrote_shows z r d off src (subst (λ (i : ℕ). WriteEffect img mid i off src (said_value r)) e (x d)))

  resize_shown : (n len : ℕ) (r : Said) → Made img mid (file (resizing n len)) r → (answer_no r ≡ 0 → ResizeEffect img mid n len) → Dec (answer_no r ≡ 0)
      → Dec (n ≡ m)
      → Shows mid m (λ o. shown (file (resizing n len)) r m o (v o))
  resize_shown n len r c x t₁ t₂ = grind (arith, common_steps, still, not_in)

  file_shown : {q : Request} {r : Said} → OfBytesAll (file q) → Called img mid q r → Shows mid m (λ o. shown (file q) r m o (v o))
  file_shown o (read s s' buf buf' n off r c e) = nothing o (filed (read s s' buf buf' n off r c e)) refl
  file_shown o (write s s' src n off r c) =
      write_shown src n off r o (filed (write s s' src n off r c)) (λ d. write_done b d o c) (ℕ_discrete (answer_no r) 0) (ℕ_discrete n m)
  file_shown o (resize s s' n len r c) =
      resize_shown n len r (filed (resize s s' n len r c)) (λ d. resize_done b d c) (ℕ_discrete (answer_no r) 0) (ℕ_discrete n m)

  call_shown : {q : Asked} {r : Said} → OfBytesAll q → Made img mid q r → Shows mid m (λ o. shown q r m o (v o))
  call_shown o (filed c) = file_shown o c
  call_shown o (create s s' p x j r c) = nothing o (create s s' p x j r c) refl
  call_shown o (link s s' p x n r c) = nothing o (link s s' p x n r c) refl
  call_shown o (unlink s s' p x r c) = nothing o (unlink s s' p x r c) refl
  call_shown o (move s s' p old t new r c) = nothing o (move s s' p old t new r c) refl
  call_shown o (find s s' p x r c e) = nothing o (find s s' p x r c e) refl
  call_shown o (list s s' p j r x c e) = nothing o (list s s' p j r x c e) refl
  call_shown o (describe s s' n r i j l y c e) = nothing o (describe s s' n r i j l y c e) refl
  call_shown o (check s s' a r c i e) = nothing o (check s s' a r c i e) refl

-- ---- runs

module _ {P : List ℕ → List ℕ → Call → Type 0} (m : ℕ) (stays : (img mid : List ℕ) (c : Call) → P img mid c → Unremoved m img c) where
  pub run_shown : {img out : List ℕ} {cs : List Call} (v : ℕ → ℕ) → Whole img → Bytes img → Reached img m → kind img m ≢ 2 → Shows img m v → Run P img out cs
      → Shows out m (λ o. last_shown cs m o (v o))
  unfolding last_shown
  run_shown v w b h k z none = z
  run_shown {img} {cs = c ∷ cs} v w b h k z (next {mid = mid} o x p r) =
      run_shown (λ i. shown c.asked c.said m i (v i)) (made_whole w b o x) (made_bytes w b o x) (made_stays w b o x m h (stays img mid c p))
      (λ e. k (sym (made-kind w b m h o x) ∙ e)) (call_shown v w b h k z o x) r
