-- What link answers on a sound card, test by test: 6, 8, 9, 7, 13, 14; and that a refusal changes nothing. Assumes nothing.
use mathlib.Core.Path.{◌≡◌, sym, ◌∙◌}
use mathlib.Core.List.{List}
use mathlib.Core.Logic.{◌≢◌}
use Prim.Native.Nat.{ℕ, ◌+◌, ◌≤◌, ◌<◌}
use native.Mathlib.Omega.{arith}
use borrow.Author.Tests.{eq-eqb}
use Rattle.std.proofs.lemmas.Grind.{common_steps}
use Rattle.card_layout.specs.Sizes.{full_links}
use Rattle.words.specs.Sums.{cnt}
use Rattle.card_layout.specs.Super.{unused}
use Rattle.card_layout.specs.Inode.{size, kind, links, count, head_at, decoded}
use Rattle.card_layout.specs.Entry.{Name}
use Rattle.card_layout.specs.declared.inode.FileType.{FileType}
use Rattle.card_layout.specs.declared.inode.FileType.TheVariants.{Dir}
use Rattle.card_layout.specs.declared.inode.Head.{Head}
use Rattle.card_rules.specs.View.{entries, name}
use Rattle.card_rules.specs.Whole.{Sound}
use Rattle.file_requests.specs.Requests.{needs}
use Rattle.dir_answers.specs.Answers.{of_head}
use Rattle.dir_link.specs.Link.{link_room, link_answer}
use Rattle.law_files.proofs.Requests.{OfKind, of_kind, kinds, Filelike, filelike, filelike_not}
use Rattle.law_dirs.proofs.NameTests.{CanName, NameTests, not_dir, bad_name, exists, can, name_tests, name_tests_lem, name_exact}
use Rattle.law_dirs.proofs.Tests.{dir_not}
use Rattle.refusals.specs.Refusals.{answer_no, done}
use Rattle.refusals.specs.declared.Refusal.TheVariants.{NotDir, IsDir, BadName, EntryExist, TooManyLinks, NoDeviceSpace}
use Rattle.refusals.specs.declared.Refusal.{Refusal}
use Rattle.std.specs.Prelude.{Err, Result}

-- what 7, 13 and 14 do not refuse: c is no directory and has a link to spare
pub record CanLink (img : List ℕ) (p : ℕ) (x : List ℕ) (c : ℕ) : Type 0 where
  pub name : CanName img p x
  pub no_dir : kind img c ≢ 2
  pub spare : links img c ≢ full_links
  pub room : needs (count img p) (size img p + 260) ≤ unused img

-- the answer a, by RULES' numbers
pub data LinkTests (img : List ℕ) (p : ℕ) (x : List ℕ) (c : ℕ) (a : Result Unit Refusal) : Type 0 where
  link_6 : kind img p ≢ 2 → a ≡ Err NotDir → LinkTests img p x c a
  link_8 : kind img p ≡ 2 → (Name x → ⊥) → a ≡ Err BadName → LinkTests img p x c a
  link_9 : kind img p ≡ 2 → Name x → (j : ℕ) → j < entries img p → name img p j ≡ x → a ≡ Err EntryExist → LinkTests img p x c a
  link_7 : CanName img p x → kind img c ≡ 2 → a ≡ Err IsDir → LinkTests img p x c a
  link_13 : CanName img p x → kind img c ≢ 2 → links img c ≡ full_links → a ≡ Err TooManyLinks → LinkTests img p x c a
  link_14 : CanName img p x → kind img c ≢ 2 → links img c ≢ full_links → unused img < needs (count img p) (size img p + 260) → a ≡ Err NoDeviceSpace
      → LinkTests img p x c a
  link_done : CanLink img p x c → a ≡ done → LinkTests img p x c a

module _ {img l : List ℕ} (s : Sound img l) (p : ℕ) (h : 0 < cnt p l) (x : List ℕ) (c : ℕ) (g : 0 < cnt c l) where
  abbrev rest : Head → Result Unit Refusal
  rest d = of_head (decoded img c) (Err IsDir) (λ e. link_room img d e)

  module _ (t : FileType) (o : OfKind img c t) where
    rest_is : rest (head_at img p Dir) ≡ link_room img (head_at img p Dir) (head_at img c t)
    rest_is = rw o.decodes

    module _ (f : Filelike t) where
      full : links img c ≡ full_links → rest (head_at img p Dir) ≡ Err TooManyLinks
      unfolding link_room
      full e = rest_is ∙ rw (dir_not t (filelike_not t f), eq-eqb (links img c) full_links e)

      short : links img c ≢ full_links → unused img < needs (count img p) (size img p + 260) → rest (head_at img p Dir) ≡ Err NoDeviceSpace
      unfolding link_room
      short d q = grind (arith, common_steps)

      fine : links img c ≢ full_links → needs (count img p) (size img p + 260) ≤ unused img → rest (head_at img p Dir) ≡ done
      unfolding link_room
      fine d q = grind (arith, common_steps)

  of_dir : OfKind img c Dir → rest (head_at img p Dir) ≡ Err IsDir
  unfolding link_room
  of_dir o = rest_is Dir o

  by_room : CanName img p x → (t : FileType) → OfKind img c t → Filelike t → Dec (links img c ≡ full_links)
      → Dec (unused img < needs (count img p) (size img p + 260)) → LinkTests img p x c (rest (head_at img p Dir))
  by_room n t o f (yes e) q = link_13 n (λ y. filelike_not t f (sym o.number ∙ y)) e (full t o f e)
  by_room n t o f (no d) (yes q) = link_14 n (λ y. filelike_not t f (sym o.number ∙ y)) d q (short t o f d q)
  by_room n t o f (no d) (no q) =
      link_done (record { name = n; no_dir = λ y. filelike_not t f (sym o.number ∙ y); spare = d; room = omega arith })
      (fine t o f d (omega arith))

  by_kind : CanName img p x → (t : FileType) → OfKind img c t → LinkTests img p x c (rest (head_at img p Dir))
  by_kind n t₁ o = grind (arith, common_steps, by_room, of_dir)

  filed : kind img c ≢ 2 → (t : FileType) × OfKind img c t × Filelike t
  filed d = let k = kinds img c (s.inode c g) in (k.0, k.1, filelike k.0 (λ e. d (k.1.number ∙ e)))

  pub link_tests_lem : LinkTests img p x c (link_answer img p x c)
  unfolding link_answer
  link_tests_lem = go (name_tests_lem x rest (s.inode p h))
    where
      go : NameTests img p x (name_tests img p x rest) (rest (head_at img p Dir)) → LinkTests img p x c (name_tests img p x rest)
      go (not_dir d e) = link_6 d e
      go (bad_name d g e) = link_8 d g e
      go (exists d g j b q e) = link_9 d g j b q e
      go (can n e) = let w = kinds img c (s.inode c g) in rw e (by_kind n w.0 w.1)

  -- the causes exclude each other
  pub link_exact : {a : Result Unit Refusal} → LinkTests img p x c a → a ≡ link_answer img p x c
  unfolding link_answer
  link_exact (link_6 d e) = name_exact x rest (s.inode p h) (not_dir d e)
  link_exact (link_8 d n e) = name_exact x rest (s.inode p h) (bad_name d n e)
  link_exact (link_9 d n j b q e) = name_exact x rest (s.inode p h) (exists d n j b q e)
  link_exact (link_7 n k e) = name_exact x rest (s.inode p h) (can n (e ∙ sym (of_dir (of_kind img c Dir k))))
  link_exact (link_13 n d q e) = let k = filed d in name_exact x rest (s.inode p h) (can n (e ∙ sym (full k.0 k.1 k.2 q)))
  link_exact (link_14 n d q b e) = let k = filed d in name_exact x rest (s.inode p h) (can n (e ∙ sym (short k.0 k.1 k.2 q b)))
  link_exact (link_done n e) =
      let k = filed n.no_dir in
      name_exact x rest (s.inode p h) (can n.name (e ∙ sym (fine k.0 k.1 k.2 n.spare n.room)))

pub link_can : {img : List ℕ} {p : ℕ} {x : List ℕ} {c : ℕ} {a : Result Unit Refusal} → LinkTests img p x c a → answer_no a ≡ 0 → CanLink img p x c × (a ≡ done)
link_can t₁ z = grind (arith, common_steps)
