-- What create answers on a sound card, test by test: 6, 8, 9, 12, 13, 14; and that a refusal changes nothing. Assumes nothing.
use mathlib.Core.Path.{◌≡◌, sym, ◌∙◌}
use mathlib.Core.Bool.{true, false}
use mathlib.Core.List.{List}
use mathlib.Core.Logic.{◌≢◌}
use Prim.Native.Nat.{ℕ, ◌≤◌, ◌<◌}
use native.Mathlib.Omega.{arith}
use native.Mathlib.Decide.{dec_lt, ℕ_discrete}
use borrow.Author.Tests.{le-ltb, eq-eqb}
use Rattle.std.proofs.lemmas.Grind.{common_steps}
use Rattle.card_layout.specs.Sizes.{full_links}
use Rattle.words.specs.Words.{pick}
use Rattle.words.specs.Sums.{cnt}
use Rattle.card_layout.specs.Super.{blocks, unused}
use Rattle.card_layout.specs.Inode.{kind, links, head_at}
use Rattle.card_layout.specs.Entry.{Name}
use Rattle.card_layout.specs.declared.inode.FileType.TheVariants.{Dir}
use Rattle.card_layout.specs.declared.INodeId.{INodeId}
use Rattle.card_layout.specs.declared.inode.Head.{Head}
use Rattle.card_map.specs.Free.{lowest}
use Rattle.card_rules.specs.View.{entries, name}
use Rattle.card_rules.specs.Whole.{Sound}
use Rattle.dir_answers.specs.Answers.{the_inode, room_for}
use Rattle.dir_create.specs.Create.{known_kind, fresh_inode, create_takes, create_room, create_answer}
use Rattle.law_dirs.proofs.NameTests.{CanName, NameTests, not_dir, bad_name, exists, can, name_tests, name_tests_lem, name_exact}
use Rattle.law_dirs.proofs.NewInode.{next_lowest}
use Rattle.refusals.specs.Refusals.{answer_no}
use Rattle.refusals.specs.declared.Refusal.TheVariants.{NotDir, BadName, EntryExist, InvalidParam, TooManyLinks, NoDeviceSpace}
use Rattle.refusals.specs.declared.Refusal.{Refusal}
use Rattle.std.specs.Prelude.{Err, Result}

-- 1, 2 and 3 are kinds
pub record Known (k : ℕ) : Type 0 where
  pub low : 1 ≤ k
  pub high : k ≤ 3

-- what 12, 13 and 14 do not refuse; for a directory the parent has a link to spare
pub record CanCreate (img : List ℕ) (p : ℕ) (x : List ℕ) (k : ℕ) : Type 0 where
  pub name : CanName img p x
  pub known : Known k
  pub spare : k ≡ 2 → links img p ≢ full_links
  pub room : create_takes (head_at img p Dir) k ≤ unused img

-- the answer a, by RULES' numbers
pub data CreateTests (img : List ℕ) (p : ℕ) (x : List ℕ) (k : ℕ) (a : Result INodeId Refusal) : Type 0 where
  create_6 : kind img p ≢ 2 → a ≡ Err NotDir → CreateTests img p x k a
  create_8 : kind img p ≡ 2 → (Name x → ⊥) → a ≡ Err BadName → CreateTests img p x k a
  create_9 : kind img p ≡ 2 → Name x → (j : ℕ) → j < entries img p → name img p j ≡ x → a ≡ Err EntryExist → CreateTests img p x k a
  create_12 : CanName img p x → (Known k → ⊥) → a ≡ Err InvalidParam → CreateTests img p x k a
  create_13 : CanName img p x → k ≡ 2 → links img p ≡ full_links → a ≡ Err TooManyLinks → CreateTests img p x k a
  create_14 : CanName img p x → Known k → (k ≡ 2 → links img p ≢ full_links) → unused img < create_takes (head_at img p Dir) k → a ≡ Err NoDeviceSpace
      → CreateTests img p x k a
  create_done : CanCreate img p x k → a ≡ the_inode (lowest img 0 (blocks img)) → CreateTests img p x k a

-- ---- 12

is_known : (k : ℕ) → Known k → known_kind k ≡ true
is_known k n = grind (arith, common_steps)

unknown : (k : ℕ) → (Known k → ⊥) → known_kind k ≡ false
unknown k n = grind (arith, common_steps)

-- ---- 13 and 14

module _ (nb : ℕ) (img : List ℕ) (h : Head) (k : ℕ) where
  room_links : k ≡ 2 → h.nlinks ≡ full_links → create_room nb img h k ≡ Err TooManyLinks
  unfolding create_room
  room_links e f = rw (eq-eqb k 2 e, eq-eqb h.nlinks full_links f)

  -- where 13 does not refuse
  room_by : (k ≡ 2 → h.nlinks ≢ full_links)
      → create_room nb img h k ≡ room_for img (create_takes h k) (the_inode (fresh_inode nb img))
  unfolding create_room
  room_by d = grind (arith, common_steps)

module _ {img l : List ℕ} (s : Sound img l) (p : ℕ) (h : 0 < cnt p l) (x : List ℕ) (k : ℕ) where
  abbrev rest : Head → Result INodeId Refusal
  rest d = pick (known_kind k) (create_room (blocks img) img d k) (Err InvalidParam)

  rest_room : Known k → rest (head_at img p Dir) ≡ create_room (blocks img) img (head_at img p Dir) k
  rest_room n = rw (is_known k n)

  -- nothing refuses
  full_room : (c : CanCreate img p x k) → rest (head_at img p Dir) ≡ the_inode (lowest img 0 (blocks img))
  full_room c =
      rest_room c.known
      ∙ room_by (blocks img) img (head_at img p Dir) k c.spare
      ∙ rw (le-ltb (unused img) (create_takes (head_at img p Dir) k) c.room, next_lowest img l s (omega (arith, c.room)))

  full_none : Known k → (k ≡ 2 → links img p ≢ full_links) → unused img < create_takes (head_at img p Dir) k → rest (head_at img p Dir) ≡ Err NoDeviceSpace
  full_none n d q = grind (arith, common_steps, room_by)

  by_room : CanName img p x → Known k → (k ≡ 2 → links img p ≢ full_links) → CreateTests img p x k (rest (head_at img p Dir))
  by_room c n d = grind (arith, common_steps, full_none, full_room)

  by_links : CanName img p x → Known k → Dec (k ≡ 2) → Dec (links img p ≡ full_links) → CreateTests img p x k (rest (head_at img p Dir))
  by_links c n t₁ f = grind (arith, common_steps, room_links, by_room)

  bad_kind : CanName img p x → (Known k → ⊥) → CreateTests img p x k (rest (head_at img p Dir))
  bad_kind c n = create_12 c n (rw (unknown k n))

  by_kind : CanName img p x → Dec (k ≡ 0) → Dec (3 < k) → CreateTests img p x k (rest (head_at img p Dir))
  by_kind c (yes e) q = bad_kind c (λ n. omega (arith, n.low))
  by_kind c (no e) (yes q) = bad_kind c (λ n. omega (arith, n.high))
  by_kind c (no e) (no q) = by_links c (record { low = omega arith; high = omega arith }) (ℕ_discrete k 2) (ℕ_discrete (links img p) full_links)

  pub create_tests_lem : CreateTests img p x k (create_answer (blocks img) img p x k)
  unfolding create_answer
  create_tests_lem = go (name_tests_lem x rest (s.inode p h))
    where
      go : NameTests img p x (name_tests img p x rest) (rest (head_at img p Dir)) → CreateTests img p x k (name_tests img p x rest)
      go (not_dir d e) = create_6 d e
      go (bad_name d g e) = create_8 d g e
      go (exists d g j b q e) = create_9 d g j b q e
      go (can c e) = rw e (by_kind c (ℕ_discrete k 0) (dec_lt 3 k))

  -- the causes exclude each other
  pub create_exact : {a : Result INodeId Refusal} → CreateTests img p x k a → a ≡ create_answer (blocks img) img p x k
  unfolding create_answer
  create_exact (create_6 d e) = name_exact x rest (s.inode p h) (not_dir d e)
  create_exact (create_8 d n e) = name_exact x rest (s.inode p h) (bad_name d n e)
  create_exact (create_9 d n j b q e) = name_exact x rest (s.inode p h) (exists d n j b q e)
  create_exact (create_12 c n e) = name_exact x rest (s.inode p h) (can c (rw (unknown k n) e))
  create_exact (create_13 c q f e) =
      let n : Known k = record { low = omega arith; high = omega arith } in
      name_exact x rest (s.inode p h) (can c (e ∙ sym (rest_room n ∙ room_links (blocks img) img (head_at img p Dir) k q f)))
  create_exact (create_14 c n d q e) = name_exact x rest (s.inode p h) (can c (e ∙ sym (full_none n d q)))
  create_exact (create_done c e) = name_exact x rest (s.inode p h) (can c.name (e ∙ sym (full_room c)))

pub create_can : {img : List ℕ} {p : ℕ} {x : List ℕ} {k : ℕ} {a : Result INodeId Refusal} → CreateTests img p x k a → answer_no a ≡ 0
    → CanCreate img p x k × (a ≡ the_inode (lowest img 0 (blocks img)))
create_can t₁ z = grind (arith, common_steps)
