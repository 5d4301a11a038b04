-- "Bytes past its last block are never read or changed" (RULES), of changes, for every public call and every run of them: the image keeps its length and all
-- bytes past the card's last block. A single call does so on any bytes, a card or not: one that is no whole card it leaves alone. Assumes nothing.
use mathlib.Core.Path.{◌≡◌, refl, sym, ap, ◌∙◌}
use mathlib.Core.Bool.{false}
use mathlib.Core.List.{List}
use Prim.Native.Nat.{ℕ, ◌*◌, ◌≤◌, ◌<◌}
use native.Mathlib.Omega.{arith}
use lib.ListN.{length}
use Rattle.words.specs.Words.{byte, Bytes}
use Rattle.card_layout.specs.Sizes.{fewest}
use Rattle.card_layout.specs.Super.{blocks, unused}
use Rattle.card_layout.specs.Inode.{size, head_at, decoded}
use Rattle.card_layout.specs.declared.inode.FileType.{FileType}
use Rattle.card_layout.specs.declared.inode.Head.{Head}
use Rattle.card_rules.specs.Whole.{Reached, Whole}
use Rattle.check_walk.specs.Opening.{Opening, Opened}
use Rattle.file_requests.proofs.Answers.{judged-within, write-past}
use Rattle.file_requests.specs.Requests.{longest, by_file, judged, record_with, resize_card, end_of, write_judged, write_card}
use Rattle.dir_entries.specs.Entries.{where_is}
use Rattle.dir_answers.specs.Answers.{of_head, named_by}
use Rattle.dir_create.specs.Create.{create_answer, create_card}
use Rattle.dir_link.specs.Link.{link_answer, link_card}
use Rattle.dir_unlink.specs.Unlink.{unlink_answer, unlinked_at, unlink_card}
use Rattle.dir_move.specs.Move.{move_answer, moved_at, move_card}
use Rattle.dir_answers.proofs.Ready.{below_ready, size_ready}
use Rattle.call_said.proofs.Opened.{ready}
use Rattle.law_files.specs.Requests.{Request}
use Rattle.law_calls.specs.Calls.{Called, read, write, resize}
use Rattle.law_calls.specs.Made.{Asked, Made, filed, create, link, unlink, move, find, list, describe, check}
use Rattle.law_calls.specs.Runs.{Call, Run, none, next}
use Rattle.law_calls.specs.Tail.{Tailed}
use Rattle.law_calls.proofs.Both.{both_if, both_head, both_file}
use Rattle.law_dirs.proofs.UnlinkTests.{target}
use Rattle.law_calls.proofs.Made.{made_frame, made_whole, made_bytes}
use Rattle.law_calls.proofs.TailSteps.{tailed_refl, tailed_trans, tail_filled}
use Rattle.law_calls.proofs.TailActs.{twelve_at, tail_resized, tail_reaching, tail_made, tail_linked, tail_unlinked, tail_moved}
use Rattle.call_said.specs.Said.{Said}
use Rattle.refusals.specs.Refusals.{answer_no, if_done}
use Rattle.refusals.specs.declared.Refusal.{Refusal}
use Rattle.std.specs.Prelude.{Result, Ok, Err}
use Rattle.refusals.proofs.Refused.{done_is}

-- ---- what a call leaves, by its tests

if_done_lem : {A B : Type 0} (P : A → Type 0) (a : Result B Refusal) (x r : A) → (answer_no a ≡ 0 → P x) → P r → P (if_done a x r)
if_done_lem P a x r p q = both_if (λ x _. P x) a x x r r p q

-- whatever kind the record is of
module _ {A : Type 0} (P : A → Type 0) (img : List ℕ) (n : ℕ) (r : A) (f : Head → A) (p : (k : FileType) → P (f (head_at img n k))) (q : P r) where
  of_head_lem : P (of_head (decoded img n) r f)
  of_head_lem = both_head (λ x _. P x) img n r r f f p q

  of_file : P (by_file (decoded img n) r f)
  of_file = both_file (λ x _. P x) img n r r f f p q

-- 12: "a file's new length above 4,294,967,295"
pub judged_small : (u : ℕ) (h : Head) (len : ℕ) → answer_no (judged u h len) ≡ 0 → len ≤ longest
judged_small u h len e = judged-within u h len (done_is (judged u h len) e)

pub write_small : (u : ℕ) (h : Head) (end : ℕ) → answer_no (write_judged u h end) ≡ 0 → h.size < end → end ≤ longest
write_small u h end e l = judged_small u h end (ap answer_no (sym (write-past u h end l)) ∙ e)

-- ---- the cards of the calls

module _ {img : List ℕ} (w : Whole img) where
  abbrev Kept : List ℕ → Type 0
  Kept x = Tailed (blocks img) img x

  few : fewest ≤ blocks img
  few = w.sound.sized.few

  start : Tailed (blocks img) img img
  start = tailed_refl (blocks img) img

  module _ (n : ℕ) (r : Reached img n) where
    here : n < blocks img
    here = below_ready img w n r

    small : size img n ≤ longest
    small = omega (arith, size_ready img w n r)

    tail_resize_card : (len : ℕ) → Kept (resize_card (blocks img) img n len)
    unfolding resize_card
    tail_resize_card len =
        of_file Kept img n img _
        (λ k.
        if_done_lem Kept (judged (unused img) (head_at img n k) len) _ img
        (λ e.
        tail_resized (blocks img) few img n here (record_with img n (head_at img n k)) (twelve_at img n) img start len
        (omega (arith, judged_small (unused img) (head_at img n k) len e)))
        start)
        start

    tail_write_card : (off : ℕ) (src : List ℕ) → Kept (write_card (blocks img) img n off src)
    unfolding write_card
    tail_write_card off src =
        of_file Kept img n img _
        (λ k.
        if_done_lem Kept (write_judged (unused img) (head_at img n k) (end_of off src)) _ img
        (λ e.
        tail_filled (blocks img) few img false src off (end_of off src) n _
        (tail_reaching (blocks img) few img n here (record_with img n (head_at img n k)) (twelve_at img n) img start off (end_of off src)
        (write_small (unused img) (head_at img n k) (end_of off src) e)))
        start)
        start

    tail_create_card : (x : List ℕ) (k : ℕ) → Kept (create_card (blocks img) img n x k)
    unfolding create_card
    tail_create_card x k =
        of_head_lem Kept img n img _
        (λ t.
        if_done_lem Kept (create_answer (blocks img) img n x k) _ img
        (λ e. tail_made (blocks img) few img n here (record_with img n (head_at img n t)) (twelve_at img n) small x img start k)
        start)
        start

    tail_link_card : (x : List ℕ) (c : ℕ) → Reached img c → Kept (link_card (blocks img) img n x c)
    unfolding link_card
    tail_link_card x c q =
        of_head_lem Kept img n img _
        (λ k.
        of_head_lem Kept img c img _
        (λ m.
        if_done_lem Kept (link_answer img n x c) _ img
        (λ e.
        tail_linked (blocks img) few img n here (record_with img n (head_at img n k)) (twelve_at img n) small x img start c (below_ready img w c q)
        (record_with img c (head_at img c m))
        (twelve_at img c))
        start)
        start)
        start

    tail_unlink_card : (x : List ℕ) → Kept (unlink_card (blocks img) img n x)
    unfolding unlink_card unlinked_at
    tail_unlink_card x =
        let c = named_by img n x in
        if_done_lem Kept (unlink_answer img n x) _ img
        (λ e.
        of_head_lem Kept img n img _
        (λ k.
        of_head_lem Kept img c img _
        (λ m.
        tail_unlinked (blocks img) few img n here (record_with img n (head_at img n k)) (twelve_at img n) small (where_is img n x) c
        (below_ready img w c (target w n r x e).1.reached)
        (record_with img c (head_at img c m))
        (twelve_at img c)
        img
        start)
        start)
        start)
        start

    tail_move_card : (old : List ℕ) (t : ℕ) (new : List ℕ) → Reached img t → Kept (move_card (blocks img) img n old t new)
    unfolding move_card moved_at
    tail_move_card old t new q =
        let c = named_by img n old in
        if_done_lem Kept (move_answer (blocks img) img n old t new) _ img
        (λ e.
        of_head_lem Kept img n img _
        (λ k.
        of_head_lem Kept img t img _
        (λ m.
        of_head_lem Kept img c img _
        (λ g.
        tail_moved (blocks img) few img n here (where_is img n old) c t (below_ready img w t q) new img start (head_at img n k)
        (head_at img c g) (head_at img t m)
        small
        (omega (arith, size_ready img w t q)))
        start)
        start)
        start)
        start

-- ---- the calls

module _ {img img' : List ℕ} where
  -- on a card that is not open nothing is done
  opened : {s s' out : List ℕ} {a b : ℕ} (o : Opened) → Opening img s s' a b o → (Whole img → Reached img a → Reached img b → Tailed (blocks img) img out)
      → img' ≡ if_done o out img → Tailed (blocks img) img img'
  opened (Ok c) x f e = let y = ready c x refl in rw e (f y.card y.first y.second)
  opened (Err v) x f e = rw e (tailed_refl (blocks img) img)

  called_tailed : {q : Request} {r : Said} → Called img img' q r → Tailed (blocks img) img img'
  called_tailed (read s s' buf buf' n off r c e) = rw e (tailed_refl (blocks img) img)
  called_tailed (write s s' src n off r c) = opened c.opened c.opening (λ w p _. tail_write_card w n p off src) c.image
  called_tailed (resize s s' n len r c) = opened c.opened c.opening (λ w p _. tail_resize_card w n p len) c.image

  pub made_tailed : {q : Asked} {r : Said} → Made img img' q r → Tailed (blocks img) img img'
  made_tailed (filed c) = called_tailed c
  made_tailed (create s s' p x k r c) = opened c.opened c.opening (λ w h _. tail_create_card w p h x k) c.image
  made_tailed (link s s' p x n r c) = opened c.opened c.opening (λ w h g. tail_link_card w p h x n g) c.image
  made_tailed (unlink s s' p x r c) = opened c.opened c.opening (λ w h _. tail_unlink_card w p h x) c.image
  made_tailed (move s s' p old t new r c) = opened c.opened c.opening (λ w h g. tail_move_card w p h old t new g) c.image
  made_tailed (find s s' p x r c e) = rw e (tailed_refl (blocks img) img)
  made_tailed (list s s' p k r x c e) = rw e (tailed_refl (blocks img) img)
  made_tailed (describe s s' n r k l m v c e) = rw e (tailed_refl (blocks img) img)
  made_tailed (check s s' o r c i e) = rw e (tailed_refl (blocks img) img)

  pub made_tail : {q : Asked} {r : Said} → Made img img' q r
      → (length img' ≡ length img) × ((j : ℕ) → 4096 * blocks img ≤ j → byte img' j ≡ byte img j)
  made_tail m = let t = made_tailed m in (t.length_same, t.past)

-- a run of calls on a card, which keeps its block count all along
pub run_tailed : {P : List ℕ → List ℕ → Call → Type 0} {img out : List ℕ} {cs : List Call} → Whole img → Bytes img → Run P img out cs
    → Tailed (blocks img) img out
run_tailed {img = img} w b none = tailed_refl (blocks img) img
run_tailed w b (next o m p r) =
    tailed_trans (made_tailed m)
    (rw (← (made_frame w b o m).blocks_same) (run_tailed (made_whole w b o m) (made_bytes w b o m) r))
