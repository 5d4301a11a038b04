-- The statements of the check, read, write and resize leave one answer, one image, one buffer and one scratch: two programs that meet them agree, whether
-- they are called in Rattle or from C. Assumes nothing.
use Prim.Native.Nat.{ℕ}
use mathlib.Core.Path.{◌≡◌, refl, sym, ap, ◌∙◌}
use mathlib.Core.List.{List}
use lib.ListN.{length}
use Rattle.card_layout.specs.Super.{blocks}
use Rattle.file_requests.specs.Requests.{resize_answer, resize_card, write_answer, write_card, read_answer, read_buffer}
use Rattle.check_walk.specs.Opening.{Opening, blocks_of, unused_of, Opened}
use Rattle.check_walk.proofs.Agree.{agree}
use Rattle.call_said.specs.Said.{said_value, of_opened, plain, Said}
use Rattle.call_files.specs.FileCalls.{Read, Written, Resized}
use Rattle.sfs.specs.Check.{Checked}
use Rattle.sfs.specs.FileCallsC.{ReadC, WrittenC, ResizedC}
use Rattle.refusals.specs.Refusals.{answer_no, if_done}

-- what depends on the opening alone is the same of two openings
pub by_opening : {A : Type 0} (f : Opened → A) {o p : Opened} {x y : A} → o ≡ p → x ≡ f o → y ≡ f p → x ≡ y
by_opening f e a b = a ∙ ap f e ∙ sym b

-- the answer, what the call changes, and the scratch
pub record Same (r₁ r₂ : Said) (x₁ x₂ s₁ s₂ : List ℕ) : Type 0 where
  pub said : r₁ ≡ r₂
  pub changed : x₁ ≡ x₂
  pub scratch : s₁ ≡ s₂

-- as C sees it: the number and the value
pub record SameC (a₁ a₂ v₁ v₂ : ℕ) (x₁ x₂ s₁ s₂ : List ℕ) : Type 0 where
  pub status : a₁ ≡ a₂
  pub value : v₁ ≡ v₂
  pub changed : x₁ ≡ x₂
  pub scratch : s₁ ≡ s₂

module _ {img s s₁ s₂ : List ℕ} {n m : ℕ} {o p : Opened} (a : Opening img s s₁ n m o) (b : Opening img s s₂ n m p) where
  -- two calls whose answer and change depend on the opening alone
  pub same : (f : Opened → Said) (g : Opened → List ℕ) {r₁ r₂ : Said} {x₁ x₂ : List ℕ}
      → r₁ ≡ f o → r₂ ≡ f p → x₁ ≡ g o → x₂ ≡ g p → Same r₁ r₂ x₁ x₂ s₁ s₂
  same f g d e h k = let q = agree a b in record { said = by_opening f q.0 d e; changed = by_opening g q.0 h k; scratch = q.1 }

pub same_c : {r₁ r₂ : Said} {a₁ a₂ v₁ v₂ : ℕ} {x₁ x₂ s₁ s₂ : List ℕ} → Same r₁ r₂ x₁ x₂ s₁ s₂
    → a₁ ≡ answer_no r₁ → a₂ ≡ answer_no r₂ → v₁ ≡ said_value r₁ → v₂ ≡ said_value r₂ → SameC a₁ a₂ v₁ v₂ x₁ x₂ s₁ s₂
same_c q a b c d =
    record {
      status = a ∙ ap answer_no q.said ∙ sym b;
      value = c ∙ ap said_value q.said ∙ sym d;
      changed = q.changed;
      scratch = q.scratch;
    }

-- C has no value of some: 0 for both
pub no_value : {r₁ r₂ : Said} {a₁ a₂ : ℕ} {x₁ x₂ s₁ s₂ : List ℕ} → Same r₁ r₂ x₁ x₂ s₁ s₂ → a₁ ≡ answer_no r₁ → a₂ ≡ answer_no r₂
    → SameC a₁ a₂ 0 0 x₁ x₂ s₁ s₂
no_value q a b =
    record { status = a ∙ ap answer_no q.said ∙ sym b; value = refl; changed = q.changed; scratch = q.scratch }

-- ---- the check: the number, the two counts and the scratch; the image is lent as `&[u8]`

pub record SameCheck (a₁ a₂ b₁ b₂ u₁ u₂ : ℕ) (s₁ s₂ : List ℕ) : Type 0 where
  pub status : a₁ ≡ a₂
  pub blocks : b₁ ≡ b₂
  pub unused : u₁ ≡ u₂
  pub scratch : s₁ ≡ s₂

pub checked_agrees : {img s s₁ s₂ : List ℕ} {a₁ a₂ b₁ b₂ u₁ u₂ : ℕ} → Checked img s s₁ a₁ b₁ u₁ → Checked img s s₂ a₂ b₂ u₂
    → SameCheck a₁ a₂ b₁ b₂ u₁ u₂ s₁ s₂
checked_agrees a b =
    let q = agree a.opening b.opening in
    record {
      status = by_opening answer_no q.0 a.status_is b.status_is;
      blocks = by_opening blocks_of q.0 a.blocks_is b.blocks_is;
      unused = by_opening unused_of q.0 a.unused_is b.unused_is;
      scratch = q.1;
    }

module _ {img s s₁ s₂ : List ℕ} {n : ℕ} where
  -- ---- read: the buffer

  module _ {buf x₁ x₂ : List ℕ} {off : ℕ} where
    pub read_agrees : {r₁ r₂ : Said} → Read img s s₁ buf x₁ n off r₁ → Read img s s₂ buf x₂ n off r₂ → Same r₁ r₂ x₁ x₂ s₁ s₂
    read_agrees a b =
        same a.opening b.opening (λ o. if_done o (read_answer img n off (length buf)) (of_opened o))
        (λ o. if_done o (read_buffer (blocks img) img n off buf) buf)
        a.said
        b.said
        a.buffer
        b.buffer

    pub read_c_agrees : {a₁ a₂ v₁ v₂ : ℕ} → ReadC img s s₁ buf x₁ n off a₁ v₁ → ReadC img s s₂ buf x₂ n off a₂ v₂ → SameC a₁ a₂ v₁ v₂ x₁ x₂ s₁ s₂
    read_c_agrees a b = same_c (read_agrees a.call b.call) a.status_is b.status_is a.count_is b.count_is

  -- ---- write: the image

  module _ {src x₁ x₂ : List ℕ} {off : ℕ} where
    pub write_agrees : {r₁ r₂ : Said} → Written img x₁ s s₁ src n off r₁ → Written img x₂ s s₂ src n off r₂ → Same r₁ r₂ x₁ x₂ s₁ s₂
    write_agrees a b =
        same a.opening b.opening (λ o. if_done o (write_answer img n off src) (of_opened o))
        (λ o. if_done o (write_card (blocks img) img n off src) img)
        a.said
        b.said
        a.image
        b.image

    pub write_c_agrees : {a₁ a₂ v₁ v₂ : ℕ} → WrittenC img x₁ s s₁ src n off a₁ v₁ → WrittenC img x₂ s s₂ src n off a₂ v₂ → SameC a₁ a₂ v₁ v₂ x₁ x₂ s₁ s₂
    write_c_agrees a b = same_c (write_agrees a.call b.call) a.status_is b.status_is a.count_is b.count_is

  -- ---- resize: the image

  module _ {x₁ x₂ : List ℕ} {len : ℕ} where
    pub resize_agrees : {r₁ r₂ : Said} → Resized img x₁ s s₁ n len r₁ → Resized img x₂ s s₂ n len r₂ → Same r₁ r₂ x₁ x₂ s₁ s₂
    resize_agrees a b =
        same a.opening b.opening (λ o. if_done o (plain (resize_answer img n len)) (of_opened o))
        (λ o. if_done o (resize_card (blocks img) img n len) img)
        a.said
        b.said
        a.image
        b.image

    pub resize_c_agrees : {a₁ a₂ : ℕ} → ResizedC img x₁ s s₁ n len a₁ → ResizedC img x₂ s s₂ n len a₂ → SameC a₁ a₂ 0 0 x₁ x₂ s₁ s₂
    resize_c_agrees a b = no_value (resize_agrees a.call b.call) a.status_is b.status_is
