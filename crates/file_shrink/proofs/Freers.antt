-- A freer that goes over a file's blocks: a run slot by slot, the pointers, and what the card is at the end. Assumes nothing.
use mathlib.Core.Path.{◌≡◌, refl, ap, ◌∙◌}
use mathlib.Core.Bool.{Bool}
use mathlib.Core.List.{List}
use Prim.Native.Nat.{ℕ, ◌+◌, ◌-◌, ◌*◌, ◌≤◌}
use native.Mathlib.Nat.{sub_self}
use native.Mathlib.Omega.{arith}
use lib.ListN.{length}
use Rattle.words.specs.Words.{pick, word}
use Rattle.card_layout.specs.Inode.{with_indirect, with_double}
use Rattle.card_layout.specs.declared.inode.DiskINode.{DiskINode}
use Rattle.file_blocks.specs.Ranges.{in_record, in_indirect}
use Rattle.file_blocks.specs.Inner.{comes_with, in_double}
use Rattle.file_blocks.specs.Taking.{freed_in, free_run, free_direct, free_single, free_part, free_twofold, free_indirect, free_level, free_double, shrunk, less_indirect, less_double}
use Rattle.file_blocks.proofs.Lengths.{length-freed_in, length-free_run}
use Rattle.file_blocks.proofs.Ranges.{same_room}
use Rattle.file_blocks.proofs.Passing.{indirect_through, double_through}
use Rattle.file_blocks.proofs.Picks.{gap_by}
use Rattle.file_shrink.proofs.Freeing.{free_run_none, free_run_more}
use Rattle.file_shrink.specs.Inner.{Sized, with_card, over}
use Rattle.file_shrink.specs.declared.Freer.{Freer}

-- ---- a run

abbrev pub with_freed : Freer → ℕ → Freer
with_freed f b = with_card f (freed_in f.nb b f.image.now)

module _ (f : Freer) (at i : ℕ) where
  pub over_none : f ≡ over at i i f
  over_none = rw (sub_self i, ← free_run_none f.nb at f.image.now)

  pub over_more : (j b : ℕ) (s out : Freer) → out ≡ with_freed s b → b ≡ word s.image.now (at + 4 * (j - i)) → s ≡ over at i j f → i ≤ j
      → out ≡ over at i (j + 1) f
  over_more j b s out o w t h =
      let e : j + 1 - i ≡ j - i + 1 = omega arith in
      o ∙ rw (w, t, e) (ap (with_card f) (free_run_more f.nb at (j - i) f.image.now))

pub freed_long : (f out : Freer) (b : ℕ) → out ≡ with_freed f b → length out.image.now ≡ length f.image.now
freed_long f out b o = rw o (length-freed_in f.nb b f.image.now)

pub freed_sized : (f out : Freer) (b : ℕ) → out ≡ with_freed f b → Sized f → Sized out
freed_sized f out b o s = rw o (record { few = s.few; many = s.many; long = same_room _ _ _ (length-freed_in f.nb b f.image.now) s.long })

pub over_sized : (f out : Freer) (at i e : ℕ) → out ≡ over at i e f → Sized f → Sized out
over_sized f out at i e o s =
    rw o (record { few = s.few; many = s.many; long = same_room _ _ _ (length-free_run f.nb at (e - i) f.image.now) s.long })

-- ---- the whole

abbrev pub with_pointer : Freer → ℕ → ℕ → ℕ → ℕ → Freer
with_pointer f m p b a = with_card f (pick (comes_with m b a) (freed_in f.nb p f.image.now) f.image.now)

module _ (f : Freer) (n : ℕ) (d : DiskINode) (b a : ℕ) where
  pub shrunk_by : (x₁ x₂ x₃ x₄ x₅ x₆ : Freer) → x₁ ≡ in_record over n b a f → x₂ ≡ in_indirect over x₁.nb d.head.indirect.0 b a x₁
      → x₃ ≡ in_double (λ x. x.image.now) over x₂.nb d.head.db_indirect.0 b a x₂ → x₄ ≡ with_pointer x₃ 12 d.head.indirect.0 b a
      → x₅ ≡ with_card x₄ (free_level x₄.nb d b a x₄.image.now) → x₆ ≡ with_pointer x₅ 1036 d.head.db_indirect.0 b a
      → x₆ ≡ with_card f (shrunk f.nb n d b a f.image.now)
  unfolding free_direct free_single free_part free_twofold free_indirect free_double shrunk
  shrunk_by x₁ x₂ x₃ x₄ x₅ x₆ s₁ s₂ s₃ s₄ s₅ s₆ =
      let i₁ = free_direct f.nb n b a f.image.now in
      let i₂ = free_single f.nb d b a i₁ in
      let i₃ = free_twofold f.nb d b a i₂ in
      let i₄ = free_indirect f.nb d b a i₃ in
      let i₅ = free_level f.nb d b a i₄ in
      let card : Freer → List ℕ = λ x. x.image.now in
      let ran : ℕ → ℕ → ℕ → List ℕ → List ℕ = λ at i e x. free_run f.nb at (e - i) x in
      let e₂ : x₂ ≡ with_card f i₂ = s₂ ∙ rw s₁ (indirect_through (with_card f) card ran over (λ at i e x. refl) f.nb d.head.indirect.0 b a i₁) in
      let e₃ : x₃ ≡ with_card f i₃ = s₃ ∙ rw e₂ (double_through (with_card f) card ran over (λ at i e x. refl) f.nb d.head.db_indirect.0 b a i₂) in
      let e₄ : x₄ ≡ with_card f i₄ = s₄ ∙ rw e₃ (ap (with_card f) (gap_by 12 b a i₃ (freed_in f.nb d.head.indirect.0 i₃) _ refl)) in
      let e₅ : x₅ ≡ with_card f i₅ = s₅ ∙ rw e₄ in
      s₆ ∙ rw e₅ (ap (with_card f) (gap_by 1036 b a i₅ (freed_in f.nb d.head.db_indirect.0 i₅) _ refl))

-- ---- the record

pub less_indirect_by : (b a : ℕ) (d : DiskINode) (t : Bool) → t ≡ comes_with 12 b a → pick t (with_indirect d 0) d ≡ less_indirect b a d
unfolding less_indirect
less_indirect_by b a d t e = gap_by 12 b a d (with_indirect d 0) t e

pub less_double_by : (b a : ℕ) (d : DiskINode) (t : Bool) → t ≡ comes_with 1036 b a → pick t (with_double d 0) d ≡ less_double b a d
unfolding less_double
less_double_by b a d t e = gap_by 1036 b a d (with_double d 0) t e
