-- "Bytes past its last block are never read" (RULES), for every public call but format: made on two images with the same blocks, it says the same, gives the
-- same bytes and numbers, and leaves two images with the same blocks. The images may differ in length, and the calls in their scratches: as one that is too
-- short is told (refusal 1), either both are taken to be long enough, or they are of one length (`-even`). With `made_tail` (TailCalls): what is past the last
-- block is neither read nor changed. Assumes nothing.
use mathlib.Core.Path.{◌≡◌, refl, sym, ap, ◌∙◌}
use native.Mathlib.Omega.{arith}
use mathlib.Core.Logic.{◌≢◌}
use mathlib.Core.List.{List}
use Prim.Native.Nat.{ℕ, ◌<◌}
use lib.ListN.{length}
use Rattle.std.proofs.lemmas.Grind.{common_steps}
use Rattle.card_layout.specs.Super.{blocks}
use Rattle.card_rules.specs.Whole.{Reached, Whole}
use Rattle.check_walk.specs.Opening.{Opening, Opened}
use Rattle.file_requests.specs.Requests.{resize_answer, resize_card, write_answer, write_card, read_answer}
use Rattle.dir_create.specs.Create.{create_answer, create_card}
use Rattle.dir_link.specs.Link.{link_answer, link_card}
use Rattle.dir_unlink.specs.Unlink.{unlink_answer, unlink_card}
use Rattle.dir_move.specs.Move.{move_answer, move_card}
use Rattle.dir_look.specs.Look.{find_answer, entry_answer}
use Rattle.call_said.specs.Said.{of_opened, numbered, plain, Said}
use Rattle.call_said.proofs.Opened.{ready}
use Rattle.call_files.specs.FileCalls.{Read}
use Rattle.call_looks.specs.LookCalls.{Listed, Described}
use Rattle.law_files.specs.Requests.{Request, reading, writing, resizing, named}
use Rattle.law_calls.specs.Calls.{Called, read, write, resize}
use Rattle.law_calls.specs.Made.{Asked, file, creating, linking, unlinking, moving, finding, listing, describing, checking, Made}
use Rattle.law_calls.specs.Made.{filed, create, link, unlink, move, find, list, describe, check, scratch_in, scratch_of}
use Rattle.law_calls.specs.Tail.{Twin}
use Rattle.law_calls.proofs.Calls.{open_said, same_either}
use Rattle.law_calls.proofs.TwinReads.{blocks_twin, read_buffer_twin, kind_twin, size_twin, links_twin, count_twin}
use Rattle.law_calls.proofs.TwinAnswers.{read_answer_twin, write_answer_twin, resize_answer_twin, create_answer_twin, link_answer_twin}
use Rattle.law_calls.proofs.TwinAnswers.{unlink_answer_twin, move_answer_twin, find_answer_twin, entry_answer_twin, entry_bytes_twin}
use Rattle.law_calls.proofs.TwinOpening.{opening_even, opening_twin}
use Rattle.law_calls.proofs.TwinCards.{resize_card_twin, write_card_twin, create_card_twin, link_card_twin, unlink_card_twin, move_card_twin}
use Rattle.refusals.specs.Refusals.{answer_no, if_done}
use Rattle.refusals.specs.declared.Refusal.TheVariants.{ScratchShort}
use Rattle.std.specs.Prelude.{Ok, Err}

-- ---- every call in one form: the inodes that it opens a card for, and what it then says and leaves

abbrev first_of : Asked → ℕ
first_of (file q) = named q
first_of (creating p x k) = p
first_of (linking p x c) = p
first_of (unlinking p x) = p
first_of (moving p old t new) = p
first_of (finding p x) = p
first_of (listing p k) = p
first_of (describing n) = n
first_of checking = 1

abbrev second_of : Asked → ℕ
second_of (file q) = named q
second_of (creating p x k) = p
second_of (linking p x c) = c
second_of (unlinking p x) = p
second_of (moving p old t new) = t
second_of (finding p x) = p
second_of (listing p k) = p
second_of (describing n) = n
second_of checking = 1

abbrev answer_of : List ℕ → Asked → Said
answer_of img (file (reading n off k)) = read_answer img n off k
answer_of img (file (writing n off src)) = write_answer img n off src
answer_of img (file (resizing n len)) = plain (resize_answer img n len)
answer_of img (creating p x k) = numbered (create_answer (blocks img) img p x k)
answer_of img (linking p x c) = plain (link_answer img p x c)
answer_of img (unlinking p x) = plain (unlink_answer img p x)
answer_of img (moving p old t new) = plain (move_answer (blocks img) img p old t new)
answer_of img (finding p x) = numbered (find_answer img p x)
answer_of img (listing p k) = plain (entry_answer img p k)
answer_of img (describing n) = Ok 0
answer_of img checking = Ok 0

abbrev card_of : List ℕ → Asked → List ℕ
card_of img (file (reading n off k)) = img
card_of img (file (writing n off src)) = write_card (blocks img) img n off src
card_of img (file (resizing n len)) = resize_card (blocks img) img n len
card_of img (creating p x k) = create_card (blocks img) img p x k
card_of img (linking p x c) = link_card (blocks img) img p x c
card_of img (unlinking p x) = unlink_card (blocks img) img p x
card_of img (moving p old t new) = move_card (blocks img) img p old t new
card_of img (finding p x) = img
card_of img (listing p k) = img
card_of img (describing n) = img
card_of img checking = img

record Form (img img' : List ℕ) (q : Asked) (r : Said) (s : List ℕ) : Type 0 where
  after : List ℕ
  opened : Opened
  opening : Opening img s after (first_of q) (second_of q) opened
  said : r ≡ if_done opened (answer_of img q) (of_opened opened)
  image : img' ≡ if_done opened (card_of img q) img

module _ {img img' : List ℕ} where
  form_called : {q : Request} {r : Said} (c : Called img img' q r) → Form img img' (file q) r (scratch_in c)
  form_called (read s s' buf buf' n off r c e) =
      record { after = s'; opened = c.opened; opening = c.opening; said = c.said; image = e ∙ sym (same_either c.opened img) }
  form_called (write s s' src n off r c) =
      record { after = s'; opened = c.opened; opening = c.opening; said = c.said; image = c.image }
  form_called (resize s s' n len r c) =
      record { after = s'; opened = c.opened; opening = c.opening; said = c.said; image = c.image }

  form : {q : Asked} {r : Said} (m : Made img img' q r) → Form img img' q r (scratch_of m)
  form (filed c) = form_called c
  form (create s s' p x k r c) = record { after = s'; opened = c.opened; opening = c.opening; said = c.said; image = c.image }
  form (link s s' p x n r c) = record { after = s'; opened = c.opened; opening = c.opening; said = c.said; image = c.image }
  form (unlink s s' p x r c) = record { after = s'; opened = c.opened; opening = c.opening; said = c.said; image = c.image }
  form (move s s' p old t new r c) = record { after = s'; opened = c.opened; opening = c.opening; said = c.said; image = c.image }
  form (find s s' p x r c e) =
      record { after = s'; opened = c.opened; opening = c.opening; said = c.said; image = e ∙ sym (same_either c.opened img) }
  form (list s s' p k r x c e) =
      record { after = s'; opened = c.opened; opening = c.opening; said = c.said; image = e ∙ sym (same_either c.opened img) }
  form (describe s s' n r k l m v c e) =
      record { after = s'; opened = c.opened; opening = c.opening; said = c.said; image = e ∙ sym (same_either c.opened img) }
  form (check s s' o r c i e) =
      record { after = s'; opened = o; opening = c; said = i ∙ open_said o; image = e ∙ sym (same_either o img) }

-- ---- on an open card

module _ {img out : List ℕ} (w : Whole img) (t : Twin (blocks img) img out) where
  answer_twin : (q : Asked) → Reached img (first_of q) → Reached img (second_of q) → answer_of img q ≡ answer_of out q
  answer_twin (file (reading n off k)) r s = sym (read_answer_twin w t n r off k)
  answer_twin (file (writing n off src)) r s = sym (write_answer_twin w t n r off src)
  answer_twin (file (resizing n len)) r s = ap plain (sym (resize_answer_twin w t n r len))
  answer_twin (creating p x k) r s = rw (blocks_twin w t) (ap numbered (sym (create_answer_twin w t p r x k)))
  answer_twin (linking p x c) r s = ap plain (sym (link_answer_twin w t p r x c s))
  answer_twin (unlinking p x) r s = ap plain (sym (unlink_answer_twin w t p r x))
  answer_twin (moving p old a new) r s = rw (blocks_twin w t) (ap plain (sym (move_answer_twin w t p r old a s new)))
  answer_twin (finding p x) r s = ap numbered (sym (find_answer_twin w t p r x))
  answer_twin (listing p k) r s = ap plain (sym (entry_answer_twin w t p r k))
  answer_twin (describing n) r s = refl
  answer_twin checking r s = refl

  card_twin : (q : Asked) → Reached img (first_of q) → Reached img (second_of q) → Twin (blocks img) (card_of img q) (card_of out q)
  card_twin (file (reading n off k)) r s = t
  card_twin (file (writing n off src)) r s = rw (blocks_twin w t) (write_card_twin w t n r off src)
  card_twin (file (resizing n len)) r s = rw (blocks_twin w t) (resize_card_twin w t n r len)
  card_twin (creating p x k) r s = rw (blocks_twin w t) (create_card_twin w t p r x k)
  card_twin (linking p x c) r s = rw (blocks_twin w t) (link_card_twin w t p r x c s)
  card_twin (unlinking p x) r s = rw (blocks_twin w t) (unlink_card_twin w t p r x)
  card_twin (moving p old a new) r s = rw (blocks_twin w t) (move_card_twin w t p r old a new s)
  card_twin (finding p x) r s = t
  card_twin (listing p k) r s = t
  card_twin (describing n) r s = t
  card_twin checking r s = t

-- ---- the calls

-- an answer other than 1 is not that of a short scratch
long_enough : (o : Opened) (x r : Said) → r ≡ if_done o x (of_opened o) → answer_no r ≢ 1 → o ≢ Err ScratchShort
long_enough o x r e d f = d (ap answer_no (e ∙ ap (λ (p : Opened). if_done p x (of_opened p)) f))

module _ {img out : List ℕ} (some : 0 < blocks img) (t : Twin (blocks img) img out) where
  -- neither scratch is too short, as neither call says so
  both_long : {s s' u u' : List ℕ} {a b : ℕ} (o o' : Opened) (x y : Said) {r r' : Said} → Opening img s s' a b o → Opening out u u' a b o'
      → r ≡ if_done o x (of_opened o) → r' ≡ if_done o' y (of_opened o') → answer_no r ≢ 1 → answer_no r' ≢ 1 → o ≡ o'
  both_long o o' x y {r} {r'} p p' e e' d d' = opening_twin some t p (long_enough o x r e d) (long_enough o' y r' e' d') p'

  -- where both are opened alike, what hangs on it agrees if it does on an open card
  module _ {s s' : List ℕ} {a b : ℕ} {A : Type 0} (R : A → A → Type 0) where
    opened_both : (o o' : Opened) → o ≡ o' → Opening img s s' a b o → (x y r r' : A) → (Whole img → Reached img a → Reached img b → R x y) → R r r'
        → R (if_done o x r) (if_done o' y r')
    opened_both o o' e p x y r r' f g = rw (← e) (go o p)
      where
        go : (o : Opened) → Opening img s s' a b o → R (if_done o x r) (if_done o y r')
        go (Ok c) i = let z = ready c i refl in f z.card z.first z.second
        go (Err v) i = g

  -- ---- what a call says and leaves

  module _ {img' out' s u : List ℕ} {q : Asked} {r r' : Said} (f : Form img img' q r s) (g : Form out out' q r' u) where
    form_alike : f.opened ≡ g.opened → (r ≡ r') × Twin (blocks img) img' out'
    form_alike e = (says, leaves)
      where
        says : r ≡ r'
        says =
            f.said
            ∙ opened_both (λ (x y : Said). x ≡ y) f.opened g.opened e f.opening (answer_of img q) (answer_of out q)
            (of_opened f.opened)
            (of_opened g.opened)
            (λ w p s. answer_twin w t q p s)
            (ap of_opened e)
            ∙ sym g.said

        leaves : Twin (blocks img) img' out'
        leaves =
            rw (f.image, g.image)
            (opened_both (Twin (blocks img)) f.opened g.opened e f.opening (card_of img q) (card_of out q) img out (λ w p s. card_twin w t q p s) t)

  module _ {img' out' : List ℕ} {q : Asked} {r r' : Said} (m : Made img img' q r) (m' : Made out out' q r') where
    pub made_unread : answer_no r ≢ 1 → answer_no r' ≢ 1 → (r ≡ r') × Twin (blocks img) img' out'
    made_unread d d' =
        let f = form m in
        let g = form m' in
        form_alike f g (both_long f.opened g.opened _ _ f.opening g.opening f.said g.said d d')

    -- with scratches of one length, also too short ones
    pub made_unread_even : length (scratch_of m) ≡ length (scratch_of m') → (r ≡ r') × Twin (blocks img) img' out'
    made_unread_even e = form_alike (form m) (form m') (opening_even some t (form m).opening e (form m').opening)

  -- ---- and what they give besides: a buffer, an entry, the numbers of an inode

  module _ {s s' u u' buf x y : List ℕ} {n off : ℕ} {r r' : Said} (c : Read img s s' buf x n off r) (c' : Read out u u' buf y n off r') where
    read_alike : c.opened ≡ c'.opened → x ≡ y
    read_alike e = grind (arith, common_steps, read_buffer_twin)

    pub read_unread : answer_no r ≢ 1 → answer_no r' ≢ 1 → x ≡ y
    read_unread d d' = read_alike (both_long c.opened c'.opened _ _ c.opening c'.opening c.said c'.said d d')

    pub read_unread_even : length s ≡ length u → x ≡ y
    read_unread_even e = read_alike (opening_even some t c.opening e c'.opening)

  module _ {s s' u u' x y : List ℕ} {p k : ℕ} {r r' : Said} (c : Listed img s s' p k r x) (c' : Listed out u u' p k r' y) where
    entry_alike : c.opened ≡ c'.opened → x ≡ y
    entry_alike e = grind (arith, common_steps, entry_bytes_twin)

    pub entry_unread : answer_no r ≢ 1 → answer_no r' ≢ 1 → x ≡ y
    entry_unread d d' = entry_alike (both_long c.opened c'.opened _ _ c.opening c'.opening c.said c'.said d d')

    pub entry_unread_even : length s ≡ length u → x ≡ y
    entry_unread_even e = entry_alike (opening_even some t c.opening e c'.opening)

  module _ {s s' u u' : List ℕ} {n : ℕ} {r r' : Said} {k l b v k' l' b' v' : ℕ} (c : Described img s s' n r k l b v)
      (c' : Described out u u' n r' k' l' b' v') where
    number_alike : c.opened ≡ c'.opened → (f g : ℕ) → (Whole img → Reached img n → f ≡ g) → if_done c.opened f 0 ≡ if_done c'.opened g 0
    number_alike e f g h = opened_both (λ (x y : ℕ). x ≡ y) c.opened c'.opened e c.opening f g 0 0 (λ w p _. h w p) refl

    metadata_alike : c.opened ≡ c'.opened → (k ≡ k') × (l ≡ l') × (b ≡ b') × (v ≡ v')
    metadata_alike e = (
      c.kind_is ∙ number_alike e _ _ (λ w h. sym (kind_twin w t n h)) ∙ sym c'.kind_is,
      c.size_is ∙ number_alike e _ _ (λ w h. sym (size_twin w t n h)) ∙ sym c'.size_is,
      c.blocks_is ∙ number_alike e _ _ (λ w h. sym (count_twin w t n h)) ∙ sym c'.blocks_is,
      c.links_is ∙ number_alike e _ _ (λ w h. sym (links_twin w t n h)) ∙ sym c'.links_is,
    )

    pub metadata_unread : answer_no r ≢ 1 → answer_no r' ≢ 1 → (k ≡ k') × (l ≡ l') × (b ≡ b') × (v ≡ v')
    metadata_unread d d' = metadata_alike (both_long c.opened c'.opened _ _ c.opening c'.opening c.said c'.said d d')

    pub metadata_unread_even : length s ≡ length u → (k ≡ k') × (l ≡ l') × (b ≡ b') × (v ≡ v')
    metadata_unread_even e = metadata_alike (opening_even some t c.opening e c'.opening)
