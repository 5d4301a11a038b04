-- Link's tests: what is taken on, and what is left of the card. Assumes nothing.
use mathlib.Core.Path.{◌≡◌, refl, sym, ap, ◌∙◌}
use mathlib.Core.Bool.{true, false}
use mathlib.Core.List.{List}
use Prim.Native.Nat.{ℕ, ◌≤◌, ◌<◌}
use native.Mathlib.Omega.{arith}
use lib.Dec.{eqb}
use lib.ListN.{length}
use borrow.Author.Tests.{eqb-false}
use Rattle.card_layout.specs.Sizes.{full_links}
use Rattle.words.specs.Words.{pick}
use Rattle.card_layout.specs.Inode.{decoded}
use Rattle.card_layout.specs.declared.inode.Head.{Head}
use Rattle.file_requests.specs.Requests.{record_with}
use Rattle.dir_entries.specs.Names.{storable}
use Rattle.dir_entries.proofs.Given.{storable_name}
use Rattle.dir_answers.specs.Answers.{is_dir, of_head, new_name, entry_needs, room_for}
use Rattle.dir_link.specs.Link.{link_room, link_answer, linked, link_card}
use Rattle.dir_answers.proofs.Refused.{of_good, of_same, test_passed, test_held}
use Rattle.dir_answers.proofs.Tests.{new_asked}
use Rattle.refusals.specs.Refusals.{done}
use Rattle.refusals.specs.declared.Refusal.TheVariants.{NotDir, IsDir, TooManyLinks}
use Rattle.refusals.specs.declared.Refusal.{Refusal}
use Rattle.refusals.proofs.Refused.{Refused, refusal_above, if_refused, if_done_lem}
use Rattle.std.specs.Prelude.{Some, None, Result, Ok, Err}

module _ (img : List ℕ) (h g : Head) where
  abbrev rest : Result Unit Refusal
  rest = pick (eqb g.nlinks full_links) (Err TooManyLinks) (room_for img (entry_needs h) done)

  -- what is taken on leaves the links room
  room_open : link_room img h g ≡ done → g.nlinks ≡ full_links → ⊥
  unfolding link_room
  room_open e =
      let r = (test_passed (is_dir g.type_) (Err IsDir) rest refl (refusal_above IsDir) e).1 in
      eqb-false g.nlinks full_links (test_passed (eqb g.nlinks full_links) (Err TooManyLinks) (room_for img (entry_needs h) done) refl (refusal_above TooManyLinks) r).0

module _ (img : List ℕ) (p : ℕ) (x : List ℕ) (c : ℕ) where
  abbrev by_inode : Head → Result Unit Refusal
  by_inode h = of_head (decoded img c) (Err IsDir) (λ g. link_room img h g)

  -- what is taken on has a name that fits, and an inode whose links may rise
  module _ (h g : Head) (q : decoded img p ≡ Some h) (e : decoded img c ≡ Some g) (a : link_answer img p x c ≡ done) where
    by_head : pick (is_dir h.type_) (new_name img p x (by_inode h)) (Err NotDir) ≡ done
    unfolding link_answer
    by_head = sym (of_good (Err NotDir) (λ h. pick (is_dir h.type_) (new_name img p x (by_inode h)) (Err NotDir)) (decoded img p) h q) ∙ a

    by_name : (storable x ≡ true) × (by_inode h ≡ done)
    by_name = new_asked img p x (by_inode h) refl (test_held (is_dir h.type_) (new_name img p x (by_inode h)) (Err NotDir) refl (refusal_above NotDir) by_head).1

    by_room : link_room img h g ≡ done
    by_room = sym (of_good (Err IsDir) (λ g. link_room img h g) (decoded img c) g e) ∙ by_name.1

    pub linked_name : length x ≤ 255
    linked_name = (storable_name x by_name.0).high

    pub linked_few : g.nlinks < 65536 → g.nlinks < full_links
    linked_few l = let f = room_open img h g by_room in omega (arith, f)

  -- ---- the card

  module _ (nb : ℕ) where
    pub link_refused : Refused (link_answer img p x c) → link_card nb img p x c ≡ img
    unfolding link_card
    link_refused t =
        of_same img _ (decoded img p) (λ h. of_same img _ (decoded img c) (λ g. if_refused (link_answer img p x c) _ img t))
