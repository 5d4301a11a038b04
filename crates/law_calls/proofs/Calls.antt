-- One public call on a file, whatever its scratch: it does what its definition says on an open card, and nothing on one that is not. Assumes nothing.
use mathlib.Core.Path.{◌≡◌, refl, sym, ◌∙◌}
use mathlib.Core.Logic.{◌≢◌}
use mathlib.Core.List.{List}
use Prim.Native.Nat.{ℕ, ◌+◌, ◌*◌, ◌≤◌, ◌<◌}
use native.Mathlib.Omega.{arith}
use borrow.Author.Tests.{ne_eqb}
use lib.ListN.{length}
use Rattle.std.proofs.lemmas.Grind.{common_steps}
use Rattle.words.specs.Words.{Bytes}
use Rattle.words.specs.Sums.{cnt}
use Rattle.card_layout.specs.Sizes.{blocks_for}
use Rattle.card_layout.specs.Super.{blocks, unused}
use Rattle.card_layout.specs.Inode.{kind, count}
use Rattle.card_layout.specs.Slots.{owned}
use Rattle.card_rules.specs.Whole.{Reached, Sound, Tree, Whole}
use Rattle.card_rules.specs.Same.{SameFile}
use Rattle.card_rules.proofs.Frames.{file_refl}
use Rattle.check_walk.specs.Opening.{Opened, Opening}
use Rattle.file_requests.specs.Requests.{longest, write_answer, write_card, read_answer, resize_answer, resize_card}
use Rattle.call_said.specs.Said.{of_opened, plain, Said}
use Rattle.call_files.specs.FileCalls.{Resized}
use Rattle.law_files.specs.Requests.{Request, reading, writing, resizing, named, OfBytes}
use Rattle.law_files.specs.Inner.{answered, after, written}
use Rattle.law_calls.specs.Calls.{Called, read, write, resize}
use Rattle.law_calls.specs.Made.{file}
use Rattle.law_calls.specs.Runs.{put}
use Rattle.law_files.proofs.Steps.{Step, step_none}
use Rattle.law_files.proofs.Writing.{step}
use Rattle.law_files.proofs.Files.{refused_exactly}
use Rattle.refusals.specs.Refusals.{answer_no, if_done}
use Rattle.std.specs.Prelude.{Ok, Err}
use Rattle.refusals.proofs.Refused.{giving_no}

-- ---- what a call comes to

pub data Outcome (l img img' : List ℕ) (q : Request) (r : Said) : Type 0 where
  stays : img' ≡ img → answer_no r ≢ 0 → Outcome l img img' q r
  acts : img' ≡ after l img q → answer_no r ≡ answered l img q → Outcome l img img' q r

-- f is what the call says of an open card, and `out` what it leaves then
module _ {l img img' s s' : List ℕ} (t : Tree img l) (n : ℕ) (q : Request) (f : Said) (out : List ℕ)
    (card : cnt n l ≢ 0 → after l img q ≡ out) (number : cnt n l ≢ 0 → answered l img q ≡ answer_no f) where
  outcome : (o : Opened) → Opening img s s' n n o → (r : Said) → r ≡ if_done o f (of_opened o) → img' ≡ if_done o out img → Outcome l img img' q r
  outcome t₁ x r e i = grind (arith, common_steps)

-- the check says no more than that the card is open
pub open_said : (o : Opened) → of_opened o ≡ if_done o (Ok 0) (of_opened o)
open_said (Ok c) = refl
open_said (Err v) = refl

-- a card that is only read is the same whether it was opened or not
pub same_either : {A : Type 0} (o : Opened) (x : A) → if_done o x x ≡ x
same_either (Ok c) x = refl
same_either (Err v) x = refl

pub called : {l img img' : List ℕ} {q : Request} {r : Said} → Tree img l → Called img img' q r → Outcome l img img' q r
called {l} {img} {img'} t (read s s' buf buf' n off r c e) =
    outcome t n (reading n off (length buf)) (read_answer img n off (length buf)) img (λ m. refl) (λ m. rw (ne_eqb (cnt n l) 0 m)) c.opened c.opening r
    c.said (e ∙ sym (same_either c.opened img))
called {l} {img} {img'} t (write s s' src n off r c) =
    outcome t n (writing n off src) (write_answer img n off src) (write_card (blocks img) img n off src)
    (λ m. rw (ne_eqb (cnt n l) 0 m)) (λ m. rw (ne_eqb (cnt n l) 0 m)) c.opened c.opening r c.said c.image
called {l} {img} {img'} t (resize s s' n len r c) =
    outcome t n (resizing n len) (plain (resize_answer img n len)) (resize_card (blocks img) img n len)
    (λ m. rw (ne_eqb (cnt n l) 0 m)) (λ m. rw (ne_eqb (cnt n l) 0 m) (sym (giving_no (resize_answer img n len) 0))) c.opened c.opening r c.said c.image

-- ---- the step that it takes

-- by a request that puts the same bytes
pub record CallStep (l img img' : List ℕ) (q : Request) (r : Said) : Type 0 where
  pub request : Request
  pub taken : Step l img img' request
  pub puts : (n o v : ℕ) → written l img request n o v ≡ put (file q) r n o v

refused_puts : (q : Request) (r : Said) → answer_no r ≢ 0 → (n o v : ℕ) → v ≡ put (file q) r n o v
refused_puts t₁ r d n o v = grind (arith, common_steps)

done_puts : (l img : List ℕ) (q : Request) (r : Said) → answer_no r ≡ answered l img q → (n o v : ℕ) → written l img q n o v ≡ put (file q) r n o v
done_puts l img t₁ r e n o v = grind (arith, common_steps)

module _ {l img img' : List ℕ} (s : Sound img l) (t : Tree img l) (b : Bytes img) {q : Request} {r : Said} (c : OfBytes q) where
  pub call_step : Called img img' q r → CallStep l img img' q r
  call_step x = go (called t x)
    where
      go : Outcome l img img' q r → CallStep l img img' q r
      go (stays e d) =
          record { request = reading 0 0 0; taken = rw e (step_none s t b (reading 0 0 0) (λ m o v. refl)); puts = refused_puts q r d }
      go (acts e d) = record { request = q; taken = rw e (step s t b q c); puts = done_puts l img q r d }

  -- every inode that the call does not name, file or directory, has its record, its blocks and its bytes
  pub call_isolation : Called img img' q r → (m : ℕ) → 0 < cnt m l → m ≢ named q → SameFile img img' m
  call_isolation x m h d = go (called t x)
    where
      go : Outcome l img img' q r → SameFile img img' m
      go (stays e _) = rw e (file_refl img m)
      go (acts e _) = rw e ((step s t b q c).others_same m h d)

  pub call_sound : Called img img' q r → Sound img' l
  call_sound x = (call_step x).taken.sound

  pub call_tree : Called img img' q r → Tree img' l
  call_tree x = (call_step x).taken.tree

-- with scratch enough, "a length change is refused exactly if too long or short of free blocks by RULES' count"
module _ {img : List ℕ} (w : Whole img) (n : ℕ) (h : Reached img n) (d : kind img n ≢ 2) {img' s s' : List ℕ} (len : ℕ) {r : Said}
    (enough : 4 * blocks img ≤ length s) (c : Resized img img' s s' n len r) where
  said_is : answer_no r ≡ answer_no (resize_answer img n len)
  said_is = grind (arith, common_steps)

  pub resize_refused_exactly : (answer_no r ≡ 0 → (len ≤ longest) × (owned (blocks_for len) ≤ owned (count img n) + unused img))
      × (len ≤ longest → owned (blocks_for len) ≤ owned (count img n) + unused img → answer_no r ≡ 0)
  resize_refused_exactly = grind (arith, common_steps, refused_exactly, said_is)
