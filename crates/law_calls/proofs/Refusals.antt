-- "A refusal's .. image and buffers stay untouched" (RULES), of every public call and on any bytes, a card or not. Assumes nothing.
use mathlib.Core.Path.{◌≡◌, refl, ap, ◌∙◌}
use native.Mathlib.Omega.{arith}
use mathlib.Core.Logic.{◌≢◌}
use mathlib.Core.List.{List}
use Prim.Native.Nat.{ℕ, ◌+◌, ◌-◌, min}
use lib.ListN.{length}
use Rattle.std.proofs.lemmas.Grind.{common_steps}
use Rattle.card_layout.specs.Super.{blocks, unused}
use Rattle.card_layout.specs.Inode.{decoded}
use Rattle.card_layout.specs.declared.inode.FileType.{FileType}
use Rattle.card_layout.specs.declared.inode.Head.{Head}
use Rattle.file_requests.specs.Requests.{by_kind, by_file, judged, resize_answer, resize_card}
use Rattle.file_requests.specs.Requests.{write_answer, write_card, read_answer, read_buffer}
use Rattle.dir_create.specs.Create.{create_answer}
use Rattle.dir_create.proofs.CreateLaws.{create_refused}
use Rattle.dir_link.specs.Link.{link_answer}
use Rattle.dir_link.proofs.LinkLaws.{link_refused}
use Rattle.dir_unlink.specs.Unlink.{unlink_answer}
use Rattle.dir_unlink.proofs.UnlinkLaws.{unlink_refused}
use Rattle.dir_move.specs.Move.{move_answer}
use Rattle.dir_move.proofs.MoveLaws.{move_refused}
use Rattle.dir_look.specs.Look.{entry_answer, entry_bytes, no_entry}
use Rattle.dir_format.specs.Format.{format_answer, format_card}
use Rattle.call_said.specs.Said.{Said, of_opened, plain, numbered}
use Rattle.call_said.proofs.Opened.{numbered_no}
use Rattle.call_files.specs.FileCalls.{Read}
use Rattle.call_dirs.specs.DirCalls.{Formatted}
use Rattle.call_looks.specs.LookCalls.{Listed}
use Rattle.law_files.specs.Requests.{Request}
use Rattle.law_calls.specs.Calls.{Called}
use Rattle.law_calls.specs.Made.{Asked, Made, filed, create, link, unlink, move, find, list, describe, check}
use Rattle.check_walk.specs.Opening.{Opened}
use Rattle.refusals.specs.Refusals.{answer_no, if_done}
use Rattle.refusals.specs.declared.Refusal.TheVariants.{NotFile}
use Rattle.refusals.specs.declared.Refusal.{Refusal}
use Rattle.std.specs.Prelude.{Option, Some, None, Ok, Err, Result}
use Rattle.refusals.proofs.Refused.{if_refused, giving_no}

-- ---- the calls on a file, on an image as it comes

kind_not : {A B : Type 0} (t : FileType) (a : Result B Refusal) (x y : A) → (answer_no a ≢ 0 → x ≡ y) → answer_no (by_kind t (Err NotFile) a) ≢ 0
    → by_kind t y x ≡ y
kind_not t₁ a x y h d = grind (arith, common_steps)

file_not : {A B : Type 0} (d : Option Head) (f : Head → Result B Refusal) (g : Head → A) (y : A) → ((h : Head) → answer_no (f h) ≢ 0 → g h ≡ y)
    → answer_no (by_file d (Err NotFile) f) ≢ 0 → by_file d y g ≡ y
file_not None f g y e d = refl
file_not (Some h) f g y e d = kind_not h.type_ (f h) (g h) y (e h) d

pub resize_refused : (nb : ℕ) (img : List ℕ) (n len : ℕ) → answer_no (resize_answer img n len) ≢ 0 → resize_card nb img n len ≡ img
unfolding resize_answer resize_card
resize_refused nb img n len =
    file_not (decoded img n) (λ h. judged (unused img) h len) _ img (λ h. if_refused (judged (unused img) h len) _ img)

pub write_refused : (nb : ℕ) (img : List ℕ) (n off : ℕ) (src : List ℕ) → answer_no (write_answer img n off src) ≢ 0 → write_card nb img n off src ≡ img
unfolding write_answer write_card
write_refused nb img n off src = grind (arith, common_steps)

pub buffer_refused : (nb : ℕ) (img : List ℕ) (n off : ℕ) (buf : List ℕ) → answer_no (read_answer img n off (length buf)) ≢ 0
    → read_buffer nb img n off buf ≡ buf
unfolding read_answer read_buffer
buffer_refused nb img n off buf = file_not (decoded img n) (λ h. Ok (min h.size (off + length buf) - min h.size off)) _ buf (λ h d. absurd (d refl))

-- ---- a call that says no

-- z is what is left: x on an open card, of which f is said as a's number
module _ {A B : Type 0} {x y z : A} {r : Said} (d : answer_no r ≢ 0) (a : Result B Refusal) (h : answer_no a ≢ 0 → x ≡ y) where
  stays : (f : Said) → answer_no f ≡ answer_no a → (o : Opened) → r ≡ if_done o f (of_opened o) → z ≡ if_done o x y → z ≡ y
  stays f n (Ok c) e i = i ∙ h (λ q. d (ap answer_no e ∙ n ∙ q))
  stays f n (Err v) e i = i

  plain_stays : (o : Opened) → r ≡ if_done o (plain a) (of_opened o) → z ≡ if_done o x y → z ≡ y
  plain_stays = stays (plain a) (giving_no a 0)

pub read_refused : {img s s' buf buf' : List ℕ} {n off : ℕ} {r : Said} → Read img s s' buf buf' n off r → answer_no r ≢ 0 → buf' ≡ buf
read_refused {img} {s} {s'} {buf} {buf'} {n} {off} c d =
    stays d (read_answer img n off (length buf)) (buffer_refused (blocks img) img n off buf) (read_answer img n off (length buf)) refl c.opened c.said c.buffer

-- "260 zeros if refused"
pub listed_refused : {img s s' : List ℕ} {p k : ℕ} {r : Said} {e : List ℕ} → Listed img s s' p k r e → answer_no r ≢ 0 → e ≡ no_entry
unfolding entry_bytes
listed_refused {img} {s} {s'} {p} {k} c d =
    plain_stays d (entry_answer img p k) (if_refused (entry_answer img p k) _ no_entry) c.opened c.said c.bytes

pub format_refused : {img img' : List ℕ} {space : ℕ} {r : Said} → Formatted img img' space r → answer_no r ≢ 0 → img' ≡ img
unfolding format_card
format_refused {img} {img'} {space} c d =
    c.image ∙ if_refused (format_answer (length img) space) _ img (λ q. d (ap answer_no c.said ∙ giving_no (format_answer (length img) space) 0 ∙ q))

pub called_refused : {img img' : List ℕ} {q : Request} {r : Said} → Called img img' q r → answer_no r ≢ 0 → img' ≡ img
called_refused t₁ d = grind (arith, common_steps, write_refused, resize_refused)

-- any call
pub refused_same : {img img' : List ℕ} {q : Asked} {r : Said} → Made img img' q r → answer_no r ≢ 0 → img' ≡ img
refused_same (filed c) d = called_refused c d
refused_same {img} (create s s' p x k r c) d =
    stays d (create_answer (blocks img) img p x k) (create_refused (blocks img) img p x k) (numbered (create_answer (blocks img) img p x k))
    (numbered_no (create_answer (blocks img) img p x k)) c.opened c.said c.image
refused_same {img} (link s s' p x n r c) d =
    plain_stays d (link_answer img p x n) (link_refused img p x n (blocks img)) c.opened c.said c.image
refused_same {img} (unlink s s' p x r c) d =
    plain_stays d (unlink_answer img p x) (unlink_refused img p x (blocks img)) c.opened c.said c.image
refused_same {img} (move s s' p old t new r c) d =
    plain_stays d (move_answer (blocks img) img p old t new) (move_refused (blocks img) img p old t new) c.opened c.said c.image
refused_same (find s s' p x r c e) d = e
refused_same (list s s' p k r b c e) d = e
refused_same (describe s s' n r a b f g c e) d = e
refused_same (check s s' o r c i e) d = e
