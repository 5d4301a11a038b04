-- "Bytes past its last block are never read" (RULES), of the cards that the calls leave: made of two images with the same blocks, they have the same blocks
-- again. Where a call refuses, both are as they were. Assumes nothing.
use mathlib.Core.Bool.{false}
use mathlib.Core.List.{List}
use Prim.Native.Nat.{ℕ, ◌≤◌, ◌<◌}
use native.Mathlib.Omega.{arith}
use native.Mathlib.Decide.{dec_lt}
use Rattle.card_layout.specs.Sizes.{fewest}
use Rattle.card_layout.specs.Super.{blocks, unused}
use Rattle.card_layout.specs.Inode.{size, head_at}
use Rattle.card_layout.specs.declared.inode.Head.{Head}
use Rattle.card_rules.specs.Whole.{Reached, Whole}
use Rattle.file_requests.specs.Requests.{longest, judged, record_with, resize_card, end_of, write_judged, write_card}
use Rattle.dir_entries.specs.Entries.{where_is}
use Rattle.dir_answers.specs.Answers.{named_by}
use Rattle.dir_answers.proofs.Ready.{below_ready, size_ready}
use Rattle.dir_create.specs.Create.{create_answer, create_card}
use Rattle.dir_link.specs.Link.{link_answer, link_card}
use Rattle.dir_unlink.specs.Unlink.{unlink_answer, unlinked_at, unlink_card}
use Rattle.dir_move.specs.Move.{move_answer, moved_at, move_card}
use Rattle.law_dirs.proofs.UnlinkTests.{target}
use Rattle.law_dirs.proofs.MoveTests.{move_tests_lem, move_can}
use Rattle.law_dirs.proofs.MoveJudged.{judged as move-judged}
use Rattle.law_calls.specs.Tail.{Twin}
use Rattle.law_calls.proofs.TailCalls.{judged_small, write_small}
use Rattle.law_calls.proofs.Both.{both_if, both_head, both_file}
use Rattle.law_calls.proofs.TwinSteps.{twin_filled}
use Rattle.law_calls.proofs.TwinActs.{twin_resized, twin_reaching, twin_made, twin_linked, twin_unlinked, twin_moved}
use Rattle.law_calls.proofs.TwinReads.{decoded_twin, unused_twin, record_twin, where_twin, entry_twin}
use Rattle.law_calls.proofs.TwinAnswers.{create_answer_twin, link_answer_twin, unlink_answer_twin, move_answer_twin}

-- ---- the cards of the calls

module _ {img out : List ℕ} (w : Whole img) (t : Twin (blocks img) img out) where
  abbrev nb : ℕ
  nb = blocks img

  abbrev Same : List ℕ → List ℕ → Type 0
  Same x y = Twin nb x y

  few : fewest ≤ nb
  few = w.sound.sized.few

  module _ (n : ℕ) (r : Reached img n) where
    here : n < nb
    here = below_ready img w n r

    small : size img n ≤ longest
    small = omega (arith, size_ready img w n r)

    pub resize_card_twin : (len : ℕ) → Same (resize_card nb img n len) (resize_card nb out n len)
    unfolding resize_card
    resize_card_twin len =
        rw (decoded_twin w t n r, unused_twin w t)
        (both_file Same img n img out _ _
        (λ k.
        both_if Same (judged (unused img) (head_at img n k) len) _ _ img out
        (λ e.
        rw (record_twin w t n r (head_at img n k))
        (twin_resized nb few n here (record_with img n (head_at img n k)) t len (omega (arith, judged_small (unused img) (head_at img n k) len e))))
        t)
        t)

    pub write_card_twin : (off : ℕ) (src : List ℕ) → Same (write_card nb img n off src) (write_card nb out n off src)
    unfolding write_card
    write_card_twin off src =
        rw (decoded_twin w t n r, unused_twin w t)
        (both_file Same img n img out _ _
        (λ k.
        both_if Same (write_judged (unused img) (head_at img n k) (end_of off src)) _ _ img out
        (λ e.
        rw (record_twin w t n r (head_at img n k))
        (twin_filled nb few false src off (end_of off src) n here
        (omega (arith, within (head_at img n k) small (write_small (unused img) (head_at img n k) (end_of off src) e)))
        (twin_reaching nb few n here (record_with img n (head_at img n k)) t off (end_of off src) (omega arith)
        (write_small (unused img) (head_at img n k) (end_of off src) e))))
        t)
        t)
      where
        -- a write that is done ends within what a file can have
        within : (h : Head) → h.size ≤ longest → (h.size < end_of off src → end_of off src ≤ longest) → end_of off src ≤ longest
        within h l m = go (dec_lt h.size (end_of off src))
          where
            go : Dec (h.size < end_of off src) → end_of off src ≤ longest
            go (yes a) = m a
            go (no a) = omega arith

    pub create_card_twin : (x : List ℕ) (k : ℕ) → Same (create_card nb img n x k) (create_card nb out n x k)
    unfolding create_card
    create_card_twin x k =
        rw (decoded_twin w t n r, create_answer_twin w t n r x k)
        (both_head Same img n img out _ _
        (λ m.
        both_if Same (create_answer nb img n x k) _ _ img out
        (λ _. rw (record_twin w t n r (head_at img n m)) (twin_made nb few n here (record_with img n (head_at img n m)) small x t k))
        t)
        t)

    pub link_card_twin : (x : List ℕ) (c : ℕ) → Reached img c → Same (link_card nb img n x c) (link_card nb out n x c)
    unfolding link_card
    link_card_twin x c q =
        rw (decoded_twin w t n r, decoded_twin w t c q, link_answer_twin w t n r x c q)
        (both_head Same img n img out _ _
        (λ k.
        both_head Same img c img out _ _
        (λ m.
        both_if Same (link_answer img n x c) _ _ img out
        (λ _. rw (record_twin w t n r (head_at img n k), record_twin w t c q (head_at img c m))
        (twin_linked nb few n here (record_with img n (head_at img n k)) small x t c (record_with img c (head_at img c m))))
        t)
        t)
        t)

    pub unlink_card_twin : (x : List ℕ) → Same (unlink_card nb img n x) (unlink_card nb out n x)
    unfolding unlink_card unlinked_at
    unlink_card_twin x =
        rw (unlink_answer_twin w t n r x)
        (both_if Same (unlink_answer img n x) _ _ img out
        (λ e.
        let g = (target w n r x e).1 in
        let c = named_by img n x in
        rw (decoded_twin w t n r, where_twin w t n r x, entry_twin w t n r (where_is img n x) g.there, decoded_twin w t c g.reached)
        (both_head Same img n img out _ _
        (λ k.
        both_head Same img c img out _ _
        (λ m. rw (record_twin w t n r (head_at img n k), record_twin w t c g.reached (head_at img c m))
        (twin_unlinked nb few n here (record_with img n (head_at img n k)) small (where_is img n x) (omega (arith, g.there, small)) c
        (below_ready img w c g.reached)
        (record_with img c (head_at img c m))
        t))
        t)
        t))
        t)

    pub move_card_twin : (old : List ℕ) (a : ℕ) (new : List ℕ) → Reached img a → Same (move_card nb img n old a new) (move_card nb out n old a new)
    unfolding move_card moved_at
    move_card_twin old a new q =
        rw (move_answer_twin w t n r old a q new)
        (both_if Same (move_answer nb img n old a new) _ _ img out
        (λ e.
        let g = move-judged w n a old new r q (move_can (move_tests_lem w n r old a q new) e).3 in
        let c = named_by img n old in
        rw (
          decoded_twin w t n r,
          decoded_twin w t a q,
          where_twin w t n r old,
          entry_twin w t n r (where_is img n old) g.there,
          decoded_twin w t c g.c_reached,
        )
        (both_head Same img n img out _ _
        (λ k.
        both_head Same img a img out _ _
        (λ m.
        both_head Same img c img out _ _
        (λ f. twin_moved nb few n here (where_is img n old) (omega (arith, g.there, small)) c (below_ready img w c g.c_reached) a (below_ready img w a q) new t
        (head_at img n k)
        (head_at img c f)
        (head_at img a m)
        small
        (omega (arith, size_ready img w a q)))
        t)
        t)
        t))
        t)
