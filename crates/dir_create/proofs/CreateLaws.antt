-- Create's tests, case by case, and what is left of the card. Assumes nothing.
use mathlib.Core.Path.{◌≡◌, refl, sym, ap, ◌∙◌}
use mathlib.Core.Bool.{Bool, true, false}
use mathlib.Core.List.{List}
use Prim.Native.Nat.{ℕ, ◌≤◌, ◌<◌}
use native.Mathlib.Omega.{arith}
use native.Mathlib.Decide.{dec_lt}
use lib.Dec.{eqb, ltb}
use lib.ListN.{length}
use borrow.Author.Tests.{eq-eqb, ne_eqb}
use Rattle.card_layout.specs.Sizes.{full_links}
use Rattle.words.specs.Words.{pick}
use Rattle.card_layout.specs.Super.{unused}
use Rattle.card_layout.specs.Inode.{decoded}
use Rattle.card_layout.specs.declared.INodeId.{INodeId}
use Rattle.card_layout.specs.declared.inode.Head.{Head}
use Rattle.card_layout.specs.declared.inode.DiskINode.{DiskINode}
use Rattle.card_map.specs.Free.{lowest, taken_at, taken}
use Rattle.card_map.proofs.Laws.{lowest_least, lowest_range, lowest_on}
use Rattle.file_blocks.specs.Taking.{next_free}
use Rattle.file_blocks.proofs.Growth.{next_free_some, next_free_none}
use Rattle.file_requests.specs.Requests.{record_with}
use Rattle.dir_entries.specs.Names.{storable}
use Rattle.dir_entries.proofs.Given.{storable_name}
use Rattle.dir_answers.specs.Answers.{the_inode, is_dir, new_name, room_for}
use Rattle.dir_create.specs.Create.{known_kind, file_kind, fresh_inode, create_takes, create_room, create_answer, made_file, made_dir, made, create_card}
use Rattle.dir_create.specs.Inner.{NoneBelow}
use Rattle.dir_answers.proofs.Refused.{of_good, of_same, two_tests, test_passed, test_held, headed}
use Rattle.refusals.proofs.Refused.{Refused, refusal_above, if_refused}
use Rattle.dir_answers.proofs.Tests.{new_asked}
use Rattle.refusals.specs.declared.Refusal.TheVariants.{NotDir, InvalidParam, TooManyLinks, NoDeviceSpace}
use Rattle.refusals.specs.declared.Refusal.{Refusal}
use Rattle.std.specs.Prelude.{Some, Result, Ok, Err}

-- ---- the number that is answered

module _ (nb : ℕ) (img : List ℕ) where
  -- the search goes on from it
  pub fresh_first : (v : ℕ) → v ≡ fresh_inode nb img → NoneBelow nb img v
  fresh_first v e = go (dec_lt (lowest img 0 nb) nb)
    where
      low : (0 ≤ lowest img 0 nb) × (lowest img 0 nb ≤ nb)
      low = lowest_range img 0 nb (omega arith)

      on : lowest img 0 nb ≡ lowest img (lowest img 0 nb) nb
      on = lowest_on img 0 (lowest img 0 nb) nb low.0 low.1 (λ k p q f. omega (arith, low.1, lowest_least img 0 nb k p (omega (arith, low.1)) f))

      go : Dec (lowest img 0 nb < nb) → NoneBelow nb img v
      go (yes l) = rw (e, next_free_some nb img 0 l) (record { within = low.1; same = sym on })
      go (no l) = rw (e, next_free_none nb img 0 (omega arith)) (record { within = omega arith; same = refl })

  module _ (from : ℕ) (n : NoneBelow nb img from) where
    pub next_same : next_free nb img from ≡ fresh_inode nb img
    unfolding next_free
    next_same = ap (λ (b : ℕ). pick (ltb b nb) b 0) n.same

    pub taken_same : taken img from nb ≡ taken img 0 nb
    unfolding taken
    taken_same = ap (λ (b : ℕ). pick (ltb b nb) (taken_at img b) img) n.same

-- ---- 13 and 14

-- the parent's links cannot rise
abbrev pub links_full : Head → ℕ → Bool
links_full h k = pick (eqb k 2) (eqb h.nlinks full_links) false

module _ (nb : ℕ) (img : List ℕ) (h : Head) (k : ℕ) where
  room_is : create_room nb img h k ≡ pick (links_full h k) (Err TooManyLinks) (room_for img (create_takes h k) (the_inode (fresh_inode nb img)))
  unfolding create_room
  room_is = two_tests (eqb k 2) (eqb h.nlinks full_links) (Err TooManyLinks) _

  -- what is taken on leaves the links room
  pub room_links_open : (v : INodeId) → create_room nb img h k ≡ Ok v → k ≡ 2 → h.nlinks ≡ full_links → ⊥
  room_links_open v e q l =
      let f = (test_passed (links_full h k) (Err TooManyLinks) _ refl (refusal_above TooManyLinks) (sym room_is ∙ e)).0 in
      let s : links_full h k ≡ true = rw (eq-eqb k 2 q) (eq-eqb h.nlinks full_links l) in
      let z : ◌≡◌ {A = Bool} true false = sym s ∙ f in
      let w : ◌≡◌ {A = ℕ} 0 1 = cc in
      omega arith

-- ---- the tests in their order

module _ (nb : ℕ) (img : List ℕ) (p : ℕ) (x : List ℕ) (k : ℕ) where
  abbrev by_kind : Head → Result INodeId Refusal
  by_kind h = pick (known_kind k) (create_room nb img h k) (Err InvalidParam)

  abbrev asked : Head → Result INodeId Refusal
  asked h = new_name img p x (by_kind h)

  -- what is taken on is of a known kind
  pub create_known : (v : INodeId) → create_answer nb img p x k ≡ Ok v → known_kind k ≡ true
  unfolding create_answer
  create_known v e =
      let g = headed (decoded img p) (Err NotDir) (λ h. pick (is_dir h.type_) (asked h) (Err NotDir)) refl (refusal_above NotDir) e in
      let n = new_asked img p x (by_kind g.head) refl (test_held (is_dir g.head.type_) (asked g.head) (Err NotDir) refl (refusal_above NotDir) g.rest).1 in
      (test_held (known_kind k) (create_room nb img g.head k) (Err InvalidParam) refl (refusal_above InvalidParam) n.1).0

  -- and has a name that fits, in a directory whose links may rise
  module _ (h : Head) (g : decoded img p ≡ Some h) (v : INodeId) (e : create_answer nb img p x k ≡ Ok v) where
    by_head : pick (is_dir h.type_) (asked h) (Err NotDir) ≡ Ok v
    unfolding create_answer
    by_head = sym (of_good (Err NotDir) (λ h. pick (is_dir h.type_) (asked h) (Err NotDir)) (decoded img p) h g) ∙ e

    by_name : (storable x ≡ true) × (by_kind h ≡ Ok v)
    by_name = new_asked img p x (by_kind h) refl (test_held (is_dir h.type_) (asked h) (Err NotDir) refl (refusal_above NotDir) by_head).1

    by_room : create_room nb img h k ≡ Ok v
    by_room = (test_held (known_kind k) (create_room nb img h k) (Err InvalidParam) refl (refusal_above InvalidParam) by_name.1).1

    pub taken_number : v.0 ≡ fresh_inode nb img
    taken_number =
        let l = (test_passed (links_full h k) (Err TooManyLinks) _ refl (refusal_above TooManyLinks) (sym (room_is nb img h k) ∙ by_room)).1 in
        let q = (test_passed (ltb (unused img) (create_takes h k)) (Err NoDeviceSpace) (the_inode (fresh_inode nb img)) refl (refusal_above NoDeviceSpace) l).1 in
        let i : v ≡ record { 0 = fresh_inode nb img } = cc in
        ap (λ (n : INodeId). n.0) i

    pub taken_name : length x ≤ 255
    taken_name = (storable_name x by_name.0).high

    pub taken_links : h.nlinks < 65536 → k ≡ 2 → h.nlinks < full_links
    taken_links l q = let f = room_links_open nb img h k v by_room q in omega (arith, f)

  -- ---- the card

  pub create_refused : Refused (create_answer nb img p x k) → create_card nb img p x k ≡ img
  unfolding create_card
  create_refused t = of_same img _ (decoded img p) (λ h. if_refused (create_answer nb img p x k) _ img t)
