-- A grower that goes over a file's blocks: a run slot by slot, the direct slots, the pointers, and what there is at the end. Assumes nothing.
use mathlib.Core.Path.{◌≡◌, refl, sym, ap, ◌∙◌}
use mathlib.Core.Bool.{Bool}
use Prim.Native.Nat.{ℕ, ◌+◌, ◌-◌, ◌*◌, ◌≤◌, min}
use native.Mathlib.Nat.{sub_self}
use native.Mathlib.Omega.{arith}
use lib.Dec.{ltb}
use lib.ListN.{length}
use Rattle.words.specs.Words.{pick}
use Rattle.words.specs.Runs.{turns}
use Rattle.words.proofs.Runs.{turns_none, turns_more}
use Rattle.file_blocks.specs.Ranges.{in_indirect}
use Rattle.file_blocks.specs.Inner.{comes_with, in_double}
use Rattle.std.specs.Prelude.{Option, Some, None}
use Rattle.std.specs.Option.{unwrap_or}
use Rattle.card_layout.specs.declared.BlockId.{BlockId}
use Rattle.card_layout.specs.declared.inode.DiskINode.{DiskINode}
use Rattle.card_layout.specs.Inode.{with_indirect, with_double}
use Rattle.file_blocks.specs.Taking.{Cursor, moved, next_of, took_next, into_word, into_direct, into_indirect, into_double, grow_run, grow_indirect, grow_double, grow_level, grow_direct, grow_single, grow_part, grow_twofold, grown}
use Rattle.file_blocks.proofs.Growth.{number_of, grow_run_none, grow_run_more, length-into_word}
use Rattle.file_blocks.proofs.Passing.{indirect_through, double_through, pick_through}
use Rattle.file_blocks.proofs.Picks.{gap_by}
use Rattle.file_grow.specs.Inner.{cursor, growing, with_cursor, with_growing, over}
use Rattle.file_grow.specs.declared.Grower.{Grower}

-- ---- a run

module _ (g : Grower) (at i : ℕ) where
  pub over_none : g ≡ over at i i g
  over_none = rw (sub_self i, ← grow_run_none g.nb at (cursor g))

  pub over_more : (j : ℕ) (s out : Grower) → out ≡ with_cursor s (into_word s.nb (at + 4 * (j - i)) (cursor s)) → s ≡ over at i j g → i ≤ j
      → out ≡ over at i (j + 1) g
  over_more j s out o t h =
      let e : j + 1 - i ≡ j - i + 1 = omega arith in
      o ∙ rw (t, e) (ap (with_cursor g) (grow_run_more g.nb at (j - i) (cursor g)))

pub word_long : (g out : Grower) (at : ℕ) → out ≡ with_cursor g (into_word g.nb at (cursor g)) → length out.image.now ≡ length g.image.now
word_long g out at o = rw o (length-into_word g.nb at (cursor g))

-- ---- the direct slots

module _ (g : Grower) (i : ℕ) where
  -- those from i up to j
  abbrev pub directs : ℕ → Grower
  directs j = with_growing g (turns (λ k x. into_direct g.nb k x) i (j - i) (growing g))

  pub directs_none : g ≡ directs i
  directs_none = ap (with_growing g) (turns_none _ _ _)

  pub directs_more : (j : ℕ) (s out : Grower) → out ≡ with_growing s (into_direct s.nb j (growing s)) → s ≡ directs j → i ≤ j → out ≡ directs (j + 1)
  directs_more j s out o t h = o ∙ rw t (ap (with_growing g) (turns_more _ _ _ j h))

pub directs_all : (g s : Grower) (a b i e j : ℕ) → s ≡ directs g i j → i ≡ min a 12 → e ≡ min b 12 → j - i ≡ e - i
    → s ≡ with_growing g (grow_direct g.nb a b (growing g))
unfolding grow_direct
directs_all g s a b i e j t p q d = t ∙ rw (d, q, p)

-- ---- the pointers

pub unwrapped : (f : Option BlockId) → (unwrap_or f (record { 0 = 0 })).0 ≡ number_of f
unwrapped (Some b) = refl
unwrapped None = refl

-- the block that is taken goes into the record
module _ (g t : Grower) (x : ℕ) (d : DiskINode) where
  pub indirect_put : t ≡ with_cursor g (took_next g.nb (cursor g)) → x ≡ next_of g.nb (cursor g) → d ≡ with_indirect t.inode x
      → record t { inode = d } ≡ with_growing g (into_indirect g.nb (growing g))
  indirect_put p q r = rw (r, q, p)

  pub double_put : t ≡ with_cursor g (took_next g.nb (cursor g)) → x ≡ next_of g.nb (cursor g) → d ≡ with_double t.inode x
      → record t { inode = d } ≡ with_growing g (into_double g.nb (growing g))
  double_put p q r = rw (r, q, p)

pub indirect_by : (g : Grower) (a b : ℕ) (t : Bool) → t ≡ comes_with 12 a b
    → with_growing g (pick t (into_indirect g.nb (growing g)) (growing g)) ≡ with_growing g (grow_indirect g.nb a b (growing g))
unfolding grow_indirect
indirect_by g a b t e = ap (with_growing g) (gap_by 12 a b (growing g) (into_indirect g.nb (growing g)) t e)

pub double_by : (g : Grower) (a b : ℕ) (t : Bool) → t ≡ comes_with 1036 a b
    → with_growing g (pick t (into_double g.nb (growing g)) (growing g)) ≡ with_growing g (grow_double g.nb a b (growing g))
unfolding grow_double
double_by g a b t e = ap (with_growing g) (gap_by 1036 a b (growing g) (into_double g.nb (growing g)) t e)

-- ---- the whole

module _ (g : Grower) (a b : ℕ) where
  pub grown_by : (x₁ x₂ x₃ x₄ x₅ x₆ : Grower) → x₁ ≡ with_growing g (grow_indirect g.nb a b (growing g))
      → x₂ ≡ with_growing x₁ (grow_double x₁.nb a b (growing x₁)) → x₃ ≡ with_growing x₂ (grow_level x₂.nb a b (growing x₂))
      → x₄ ≡ with_growing x₃ (grow_direct x₃.nb a b (growing x₃)) → x₅ ≡ in_indirect over x₄.nb x₄.inode.head.indirect.0 a b x₄
      → x₆ ≡ in_double (λ x. x.image.now) over x₅.nb x₅.inode.head.db_indirect.0 a b x₅ → x₆ ≡ with_growing g (grown g.nb a b (growing g))
  unfolding grow_single grow_part grow_twofold grown
  grown_by x₁ x₂ x₃ x₄ x₅ x₆ s₁ s₂ s₃ s₄ s₅ s₆ =
      let g₁ = grow_indirect g.nb a b (growing g) in
      let g₂ = grow_double g.nb a b g₁ in
      let g₃ = grow_level g.nb a b g₂ in
      let g₄ = grow_direct g.nb a b g₃ in
      let g₅ = grow_single g.nb a b g₄ in
      let ran : ℕ → ℕ → ℕ → Cursor → Cursor = λ at i e c. grow_run g.nb at (e - i) c in
      let e₂ : x₂ ≡ with_growing g g₂ = s₂ ∙ rw s₁ in
      let e₃ : x₃ ≡ with_growing g g₃ = s₃ ∙ rw e₂ in
      let e₄ : x₄ ≡ with_growing g g₄ = s₄ ∙ rw e₃ in
      let e₅ : x₅ ≡ with_growing g g₅ =
      s₅ ∙ rw e₄ (indirect_through (with_growing g) (λ x. x.image.now) (λ at i e x. moved x (ran at i e x.cur)) over (λ at i e x. refl) g.nb
      g₄.inode.head.indirect.0 a b g₄) in
      s₆
      ∙ rw e₅ (double_through (λ c. with_growing g (moved g₅ c)) (λ x. x.image.now) ran over (λ at i e x. refl) g.nb g₅.inode.head.db_indirect.0 a b g₅.cur)
      ∙ ap (with_growing g) (sym (pick_through (moved g₅) (ltb g₅.inode.head.db_indirect.0 g.nb) _ g₅.cur))
