-- The statements of create, link, unlink, move, find, the entry at an index, metadata and format leave one answer, one image or result, and one scratch:
-- two programs that meet them agree, whether they are called in Rattle or from C. Assumes nothing.
use Prim.Native.Nat.{ℕ}
use mathlib.Core.Path.{◌≡◌, refl, sym, ap, ◌∙◌}
use mathlib.Core.List.{List}
use Rattle.card_layout.specs.Super.{blocks}
use Rattle.card_layout.specs.Inode.{size, kind, links, count}
use Rattle.dir_create.specs.Create.{create_answer, create_card}
use Rattle.dir_link.specs.Link.{link_answer, link_card}
use Rattle.dir_unlink.specs.Unlink.{unlink_answer, unlink_card}
use Rattle.dir_move.specs.Move.{move_answer, move_card}
use Rattle.dir_look.specs.Look.{find_answer, entry_answer, no_entry, entry_bytes}
use Rattle.check_walk.proofs.Agree.{agree}
use Rattle.call_said.specs.Said.{of_opened, numbered, plain, Said}
use Rattle.call_dirs.specs.DirCalls.{Created, Linked, Unlinked, Moved, Formatted}
use Rattle.call_looks.specs.LookCalls.{Found, Listed, Described}
use Rattle.sfs.specs.DirCallsC.{CreatedC, LinkedC, UnlinkedC, MovedC, FoundC, ListedC, DescribedC, FormattedC}
use Rattle.sfs.proofs.Agree.{by_opening, Same, SameC, same, same_c, no_value}
use Rattle.refusals.specs.Refusals.{answer_no, if_done}
use Rattle.std.specs.Prelude.{Ok}

-- ---- the calls that change the image

module _ {img s s₁ s₂ x₁ x₂ : List ℕ} {p : ℕ} {x : List ℕ} where
  module _ {k : ℕ} where
    pub create_agrees : {r₁ r₂ : Said} → Created img x₁ s s₁ p x k r₁ → Created img x₂ s s₂ p x k r₂ → Same r₁ r₂ x₁ x₂ s₁ s₂
    create_agrees a b =
        same a.opening b.opening (λ o. if_done o (numbered (create_answer (blocks img) img p x k)) (of_opened o))
        (λ o. if_done o (create_card (blocks img) img p x k) img)
        a.said
        b.said
        a.image
        b.image

    pub create_c_agrees : {a₁ a₂ v₁ v₂ : ℕ} → CreatedC img x₁ s s₁ p x k a₁ v₁ → CreatedC img x₂ s s₂ p x k a₂ v₂ → SameC a₁ a₂ v₁ v₂ x₁ x₂ s₁ s₂
    create_c_agrees a b = same_c (create_agrees a.call b.call) a.status_is b.status_is a.number_is b.number_is

  module _ {c : ℕ} where
    pub link_agrees : {r₁ r₂ : Said} → Linked img x₁ s s₁ p x c r₁ → Linked img x₂ s s₂ p x c r₂ → Same r₁ r₂ x₁ x₂ s₁ s₂
    link_agrees a b =
        same a.opening b.opening (λ o. if_done o (plain (link_answer img p x c)) (of_opened o))
        (λ o. if_done o (link_card (blocks img) img p x c) img)
        a.said
        b.said
        a.image
        b.image

    pub link_c_agrees : {a₁ a₂ : ℕ} → LinkedC img x₁ s s₁ p x c a₁ → LinkedC img x₂ s s₂ p x c a₂ → SameC a₁ a₂ 0 0 x₁ x₂ s₁ s₂
    link_c_agrees a b = no_value (link_agrees a.call b.call) a.status_is b.status_is

  pub unlink_agrees : {r₁ r₂ : Said} → Unlinked img x₁ s s₁ p x r₁ → Unlinked img x₂ s s₂ p x r₂ → Same r₁ r₂ x₁ x₂ s₁ s₂
  unlink_agrees a b =
      same a.opening b.opening (λ o. if_done o (plain (unlink_answer img p x)) (of_opened o))
      (λ o. if_done o (unlink_card (blocks img) img p x) img)
      a.said
      b.said
      a.image
      b.image

  pub unlink_c_agrees : {a₁ a₂ : ℕ} → UnlinkedC img x₁ s s₁ p x a₁ → UnlinkedC img x₂ s s₂ p x a₂ → SameC a₁ a₂ 0 0 x₁ x₂ s₁ s₂
  unlink_c_agrees a b = no_value (unlink_agrees a.call b.call) a.status_is b.status_is

  -- x is the old name
  module _ {t : ℕ} {new : List ℕ} where
    pub move_agrees : {r₁ r₂ : Said} → Moved img x₁ s s₁ p x t new r₁ → Moved img x₂ s s₂ p x t new r₂ → Same r₁ r₂ x₁ x₂ s₁ s₂
    move_agrees a b =
        same a.opening b.opening (λ o. if_done o (plain (move_answer (blocks img) img p x t new)) (of_opened o))
        (λ o. if_done o (move_card (blocks img) img p x t new) img)
        a.said
        b.said
        a.image
        b.image

    pub move_c_agrees : {a₁ a₂ : ℕ} → MovedC img x₁ s s₁ p x t new a₁ → MovedC img x₂ s s₂ p x t new a₂ → SameC a₁ a₂ 0 0 x₁ x₂ s₁ s₂
    move_c_agrees a b = no_value (move_agrees a.call b.call) a.status_is b.status_is

-- format has no scratch, and asks nothing of the bytes
module _ {img x₁ x₂ : List ℕ} {space : ℕ} where
  pub format_agrees : {r₁ r₂ : Said} → Formatted img x₁ space r₁ → Formatted img x₂ space r₂ → (r₁ ≡ r₂) × (x₁ ≡ x₂)
  format_agrees a b = (a.said ∙ sym b.said, a.image ∙ sym b.image)

  pub format_c_agrees : {a₁ a₂ : ℕ} → FormattedC img x₁ space a₁ → FormattedC img x₂ space a₂ → (a₁ ≡ a₂) × (x₁ ≡ x₂)
  format_c_agrees a b =
      let q = format_agrees a.call b.call in
      (a.status_is ∙ ap answer_no q.0 ∙ sym b.status_is, q.1)

-- ---- the calls that look

-- find changes no bytes
module _ {img s s₁ s₂ : List ℕ} {p : ℕ} {x : List ℕ} where
  pub find_agrees : {r₁ r₂ : Said} → Found img s s₁ p x r₁ → Found img s s₂ p x r₂ → Same r₁ r₂ img img s₁ s₂
  find_agrees a b =
      same a.opening b.opening (λ o. if_done o (numbered (find_answer img p x)) (of_opened o)) (λ o. img) a.said b.said refl refl

  pub find_c_agrees : {a₁ a₂ v₁ v₂ : ℕ} → FoundC img s s₁ p x a₁ v₁ → FoundC img s s₂ p x a₂ v₂ → SameC a₁ a₂ v₁ v₂ img img s₁ s₂
  find_c_agrees a b = same_c (find_agrees a.call b.call) a.status_is b.status_is a.number_is b.number_is

-- the entry's 260 bytes
module _ {img s s₁ s₂ e₁ e₂ : List ℕ} {p k : ℕ} where
  pub entry_agrees : {r₁ r₂ : Said} → Listed img s s₁ p k r₁ e₁ → Listed img s s₂ p k r₂ e₂ → Same r₁ r₂ e₁ e₂ s₁ s₂
  entry_agrees a b =
      same a.opening b.opening (λ o. if_done o (plain (entry_answer img p k)) (of_opened o))
      (λ o. if_done o (entry_bytes img p k) no_entry)
      a.said
      b.said
      a.bytes
      b.bytes

  pub entry_c_agrees : {a₁ a₂ : ℕ} → ListedC img s s₁ p k a₁ e₁ → ListedC img s s₂ p k a₂ e₂ → SameC a₁ a₂ 0 0 e₁ e₂ s₁ s₂
  entry_c_agrees a b = no_value (entry_agrees a.call b.call) a.status_is b.status_is

-- the four numbers, and the scratch
pub record SameFour (k₁ z₁ b₁ l₁ k₂ z₂ b₂ l₂ : ℕ) (s₁ s₂ : List ℕ) : Type 0 where
  pub kind : k₁ ≡ k₂
  pub size : z₁ ≡ z₂
  pub blocks : b₁ ≡ b₂
  pub links : l₁ ≡ l₂
  pub scratch : s₁ ≡ s₂

module _ {img s s₁ s₂ : List ℕ} {n k₁ z₁ b₁ l₁ k₂ z₂ b₂ l₂ : ℕ} where
  pub metadata_agrees : {r₁ r₂ : Said} → Described img s s₁ n r₁ k₁ z₁ b₁ l₁ → Described img s s₂ n r₂ k₂ z₂ b₂ l₂
      → (r₁ ≡ r₂) × SameFour k₁ z₁ b₁ l₁ k₂ z₂ b₂ l₂ s₁ s₂
  metadata_agrees a b =
      let q = agree a.opening b.opening in (
        by_opening (λ o. if_done o (Ok 0) (of_opened o)) q.0 a.said b.said,
        record {
          kind = by_opening (λ o. if_done o (kind img n) 0) q.0 a.kind_is b.kind_is;
          size = by_opening (λ o. if_done o (size img n) 0) q.0 a.size_is b.size_is;
          blocks = by_opening (λ o. if_done o (count img n) 0) q.0 a.blocks_is b.blocks_is;
          links = by_opening (λ o. if_done o (links img n) 0) q.0 a.links_is b.links_is;
          scratch = q.1;
        },
      )

  pub metadata_c_agrees : {a₁ a₂ : ℕ} → DescribedC img s s₁ n a₁ k₁ z₁ b₁ l₁ → DescribedC img s s₂ n a₂ k₂ z₂ b₂ l₂
      → (a₁ ≡ a₂) × SameFour k₁ z₁ b₁ l₁ k₂ z₂ b₂ l₂ s₁ s₂
  metadata_c_agrees a b =
      let q = metadata_agrees a.call b.call in
      (a.status_is ∙ ap answer_no q.0 ∙ sym b.status_is, q.1)
