-- "Bytes past its last block are never read" (RULES), of what is answered: on two images with the same blocks, of which one is a whole card, every call
-- answers the same for inodes that are reached. Assumes nothing.
use mathlib.Core.Path.{◌≡◌, refl, ap, ◌∙◌}
use mathlib.Core.Bool.{Bool, true, false}
use mathlib.Core.List.{List}
use Prim.Native.Nat.{ℕ, zero, suc, ◌+◌, ◌-◌, ◌<◌, min}
use native.Mathlib.Omega.{arith}
use lib.Dec.{eqb, ltb}
use Rattle.std.proofs.lemmas.Grind.{common_steps}
use Rattle.words.specs.Words.{pick}
use Rattle.card_layout.specs.Super.{blocks}
use Rattle.card_layout.specs.Inode.{kind, decoded}
use Rattle.card_layout.specs.declared.inode.Head.{Head}
use Rattle.card_rules.specs.View.{entries, entry}
use Rattle.card_rules.specs.Whole.{Reached, Whole}
use Rattle.file_requests.specs.Requests.{by_file, resize_answer, write_answer, read_answer}
use Rattle.dir_entries.specs.Entries.{where_is}
use Rattle.dir_entries.specs.Names.{is_dots, storable}
use Rattle.dir_answers.specs.Answers.{the_inode, of_head, in_dir, named_by}
use Rattle.dir_answers.proofs.Ready.{dir_ready, parent_reached, entry_reached}
use Rattle.dir_answers.proofs.Dirs.{dir_kind}
use Rattle.dir_create.specs.Create.{create_room, create_answer}
use Rattle.dir_link.specs.Link.{link_room, link_answer}
use Rattle.dir_unlink.specs.Unlink.{unlink_answer}
use Rattle.dir_move.specs.Move.{climbs, move_room, move_answer}
use Rattle.dir_move.proofs.Climbing.{up_dir}
use Rattle.dir_look.specs.Look.{find_answer, entry_answer, entry_bytes}
use Rattle.law_dirs.proofs.LookTests.{entry_tests_lem}
use Rattle.law_calls.specs.Tail.{Twin}
use Rattle.law_calls.proofs.Both.{both_below}
use Rattle.law_calls.proofs.TwinReads.{unused_twin, next_twin, decoded_twin, entries_twin, entry_twin, bytes_twin, where_twin, named_twin}
use Rattle.refusals.specs.Refusals.{done}
use Rattle.refusals.specs.declared.Refusal.TheVariants.{NotFile, IsDir, BadName, EntryExist, EntryNotFound}
use Rattle.refusals.specs.declared.Refusal.{Refusal}
use Rattle.std.specs.Prelude.{Option, Ok, Err, Result}

module _ {img out : List ℕ} (w : Whole img) (t : Twin (blocks img) img out) where
  -- ---- the calls on files

  module _ (n : ℕ) (r : Reached img n) where
    pub read_answer_twin : (off k : ℕ) → read_answer out n off k ≡ read_answer img n off k
    unfolding read_answer
    read_answer_twin off k =
        ap (λ (d : Option Head). by_file d (Err NotFile) (λ h. Ok (min h.size (off + k) - min h.size off))) (decoded_twin w t n r)

    pub resize_answer_twin : (len : ℕ) → resize_answer out n len ≡ resize_answer img n len
    unfolding resize_answer
    resize_answer_twin len = grind (arith, common_steps, decoded_twin, unused_twin)

    pub write_answer_twin : (off : ℕ) (src : List ℕ) → write_answer out n off src ≡ write_answer img n off src
    unfolding write_answer
    write_answer_twin off src = grind (arith, common_steps, decoded_twin, unused_twin)

  -- ---- the calls on directories: 6, then the rest

  module _ (p : ℕ) (r : Reached img p) where
    dir_twin : {A : Type 0} (f g : Head → Result A Refusal) → (kind img p ≡ 2 → (h : Head) → f h ≡ g h) → in_dir out p f ≡ in_dir img p g
    dir_twin f g e = grind (arith, common_steps, decoded_twin, dir_kind)

    -- 9 and 10: whether x is in p
    found_twin : {A : Type 0} (x : List ℕ) (a a' b b' : Result A Refusal) → (where_is img p x < entries img p → a ≡ a') → b ≡ b'
        → pick (ltb (where_is out p x) (entries out p)) a b ≡ pick (ltb (where_is img p x) (entries img p)) a' b'
    found_twin {A = A} x a a' b b' e q =
        rw (where_twin w t p r x, entries_twin w t p r, q) (both_below (λ (u v : Result A Refusal). u ≡ v) (where_is img p x) (entries img p) a a' b' b' e refl)

    -- what a name stands for is reached
    named_reached : (x : List ℕ) → kind img p ≡ 2 → where_is img p x < entries img p → Reached img (named_by img p x)
    named_reached x d l = entry_reached img w p r d (where_is img p x) l

    -- and its head the same: f and g go on from there
    child_twin : {A : Type 0} (x : List ℕ) (a : Result A Refusal) (f g : Head → Result A Refusal) → kind img p ≡ 2 → where_is img p x < entries img p
        → ((h : Head) → f h ≡ g h)
        → of_head (decoded out (named_by out p x)) a f ≡ of_head (decoded img (named_by img p x)) a g
    child_twin x a f g d l e = grind (arith, common_steps, named_twin, decoded_twin, named_reached)

    pub find_answer_twin : (x : List ℕ) → find_answer out p x ≡ find_answer img p x
    unfolding find_answer
    find_answer_twin x =
        dir_twin _ _ (λ d h. found_twin x _ _ (Err EntryNotFound) (Err EntryNotFound) (λ l. ap the_inode (named_twin w t p r x l)) refl)

    pub entry_answer_twin : (k : ℕ) → entry_answer out p k ≡ entry_answer img p k
    unfolding entry_answer
    entry_answer_twin k = dir_twin _ _ (λ d h. ap (λ (z : ℕ). pick (ltb k z) done (Err EntryNotFound)) (entries_twin w t p r))

    pub entry_bytes_twin : (k : ℕ) → entry_bytes out p k ≡ entry_bytes img p k
    unfolding entry_bytes
    entry_bytes_twin k = grind (arith, common_steps, entry_answer_twin, bytes_twin, entry_tests_lem)

    -- ---- create: the number that is answered goes by the map

    create_room_twin : (h : Head) (k : ℕ) → create_room (blocks img) out h k ≡ create_room (blocks img) img h k
    unfolding create_room
    create_room_twin h k = rw (unused_twin w t, next_twin w t)

    pub create_answer_twin : (x : List ℕ) (k : ℕ) → create_answer (blocks img) out p x k ≡ create_answer (blocks img) img p x k
    unfolding create_answer
    create_answer_twin x k = grind (arith, common_steps, dir_twin, found_twin, create_room_twin)

    -- ---- link

    link_room_twin : (h g : Head) → link_room out h g ≡ link_room img h g
    unfolding link_room
    link_room_twin h g = rw (unused_twin w t)

    pub link_answer_twin : (x : List ℕ) (c : ℕ) → Reached img c → link_answer out p x c ≡ link_answer img p x c
    unfolding link_answer
    link_answer_twin x c q = grind (arith, common_steps, found_twin, decoded_twin, link_room_twin)

    -- ---- unlink

    pub unlink_answer_twin : (x : List ℕ) → unlink_answer out p x ≡ unlink_answer img p x
    unfolding unlink_answer
    unlink_answer_twin x =
        dir_twin _ _
        (λ d h.
        ap (λ (a : Result Unit Refusal). pick (is_dots x) (Err IsDir) a)
        (found_twin x _ _ (Err EntryNotFound) (Err EntryNotFound) (λ l. child_twin x (Err EntryNotFound) _ _ d l (λ g. refl)) refl))

  -- ---- move

  -- climbing ".." goes by entries of directories that are reached
  climbs_twin : (c n b : ℕ) → Reached img n → kind img n ≡ 2 → climbs out c n b ≡ climbs img c n b
  unfolding climbs
  climbs_twin c n zero r d = refl
  climbs_twin c n (suc b) r d =
      ap (λ (z : Bool). pick (eqb n c) true (pick (eqb n 1) false z))
      (ap (λ (m : ℕ). climbs out c m b) (entry_twin w t n r 1 (omega (arith, (dir_ready img w n r d).least)))
      ∙ climbs_twin c (entry img n 1) b (parent_reached img w n r d) (up_dir img w n r d))

  module _ (n : ℕ) (q : Reached img n) (d : kind img n ≡ 2) where
    move_room_twin : (c : ℕ) (g h : Head) → move_room (blocks img) out c g n h ≡ move_room (blocks img) img c g n h
    unfolding move_room
    move_room_twin c g h = rw (unused_twin w t, climbs_twin c n (blocks img) q d)

  pub move_answer_twin : (p : ℕ) → Reached img p → (old : List ℕ) (n : ℕ) → Reached img n → (new : List ℕ)
      → move_answer (blocks img) out p old n new ≡ move_answer (blocks img) img p old n new
  unfolding move_answer
  move_answer_twin p r old n q new =
      dir_twin p r _ _
      (λ d s.
      ap (λ (a : Result Unit Refusal). pick (is_dots old) (Err IsDir) a)
      (dir_twin n q _ _
      (λ e h.
      ap (λ (a : Result Unit Refusal). pick (storable new) a (Err BadName))
      (found_twin n q new (Err EntryExist) (Err EntryExist) _ _ (λ l. refl)
      (found_twin p r old _ _ (Err EntryNotFound) (Err EntryNotFound)
      (λ l.
      ap (λ (a : Result Unit Refusal). pick (eqb p n) done a)
      (child_twin p r old (Err EntryNotFound) _ _ d l
      (λ g.
      ap (λ (c : ℕ). move_room (blocks img) out c g n h) (named_twin w t p r old l)
      ∙ move_room_twin n q e (named_by img p old) g h)))
      refl)))))
