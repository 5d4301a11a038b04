-- What a call on a file answers and leaves, from what it does with the file's head. Assumes nothing.
use mathlib.Core.Path.{◌≡◌, sym, ap, ◌∙◌}
use mathlib.Core.List.{List}
use Prim.Native.Nat.{ℕ, ◌+◌, ◌-◌, min}
use lib.ListN.{length}
use Rattle.card_layout.specs.Super.{unused}
use Rattle.card_layout.specs.Inode.{decoded}
use Rattle.card_layout.specs.declared.inode.Head.{Head}
use Rattle.file_blocks.specs.Bytes.{read_into}
use Rattle.file_requests.specs.Resizing.{resized}
use Rattle.file_requests.specs.Requests.{by_file, judged, record_with, resize_answer, resize_card, end_of, write_judged, stored, write_answer, write_card, read_answer, read_buffer}
use Rattle.file_requests.proofs.Answers.{head_of, file-good, file-bad}
use Rattle.refusals.specs.Refusals.{giving, if_done}
use Rattle.refusals.specs.declared.Refusal.TheVariants.{NotFile}
use Rattle.refusals.specs.declared.Refusal.{Refusal}
use Rattle.std.specs.Prelude.{Option, Result, Ok, Err}

-- an answer, and a card or a buffer, each by the head
module _ {A : Type 0} (d : Option Head) (no : List ℕ) (f : Head → Result A Refusal) (g : Head → List ℕ) where
  good : (h : Head) (r : Result A Refusal) (out : List ℕ) → head_of d ≡ Ok h → r ≡ f h → out ≡ g h
      → (r ≡ by_file d (Err NotFile) f) × (out ≡ by_file d no g)
  good h r out e p q = (p ∙ sym (file-good (Err NotFile) f d h e), q ∙ sym (file-good no g d h e))

  bad : (n : Refusal) → head_of d ≡ Err n → (Err n ≡ by_file d (Err NotFile) f) × (no ≡ by_file d no g)
  bad n e =
      let b = file-bad (Err NotFile) f d n e in
      (ap (λ (x : Refusal). Err x) b.0 ∙ sym b.1, sym (file-bad no g d n e).1)

module _ (nb : ℕ) (img : List ℕ) (n : ℕ) where
  module _ (len : ℕ) where
    pub resize_good : (h : Head) (r : Result Unit Refusal) (out : List ℕ) → head_of (decoded img n) ≡ Ok h → r ≡ judged (unused img) h len
        → out ≡ if_done r (resized nb n (record_with img n h) len img) img
        → (r ≡ resize_answer img n len) × (out ≡ resize_card nb img n len)
    unfolding resize_answer resize_card
    resize_good h r out e p q = good (decoded img n) img _ _ h r out e p (rw (← p) q)

    pub resize_bad : (e : Refusal) → head_of (decoded img n) ≡ Err e → (Err e ≡ resize_answer img n len) × (img ≡ resize_card nb img n len)
    unfolding resize_answer resize_card
    resize_bad e p = bad (decoded img n) img _ _ e p

  module _ (off : ℕ) (src : List ℕ) where
    pub write_good : (h : Head) (j : Result Unit Refusal) (out : List ℕ) → head_of (decoded img n) ≡ Ok h
        → j ≡ write_judged (unused img) h (end_of off src)
        → out ≡ if_done j (stored nb n (record_with img n h) off src img) img
        → (giving j (length src) ≡ write_answer img n off src) × (out ≡ write_card nb img n off src)
    unfolding write_answer write_card
    write_good h j out e p q =
        good (decoded img n) img _ _ h _ out e (ap (λ (x : Result Unit Refusal). giving x (length src)) p) (rw (← p) q)

    pub write_bad : (e : Refusal) → head_of (decoded img n) ≡ Err e → (Err e ≡ write_answer img n off src) × (img ≡ write_card nb img n off src)
    unfolding write_answer write_card
    write_bad e p = bad (decoded img n) img _ _ e p

  module _ (off : ℕ) (buf : List ℕ) where
    pub read_good : (h : Head) (r : Result ℕ Refusal) (out : List ℕ) → head_of (decoded img n) ≡ Ok h
        → r ≡ Ok (min h.size (off + length buf) - min h.size off)
        → out ≡ read_into img nb n (min h.size off) (min h.size (off + length buf)) buf
        → (r ≡ read_answer img n off (length buf)) × (out ≡ read_buffer nb img n off buf)
    unfolding read_answer read_buffer
    read_good h r out e p q = good (decoded img n) buf _ _ h r out e p q

    pub read_bad : (e : Refusal) → head_of (decoded img n) ≡ Err e
        → (Err e ≡ read_answer img n off (length buf)) × (buf ≡ read_buffer nb img n off buf)
    unfolding read_answer read_buffer
    read_bad e p = bad (decoded img n) buf _ _ e p
