-- The tests before a call, case by case, and the head of a file. Assumes nothing.
use mathlib.Core.Path.{◌≡◌, refl, sym, ap, ◌∙◌}
use Prim.Native.Nat.{ℕ, ◌+◌, ◌-◌, ◌*◌, ◌/◌, ◌≤◌, ◌<◌}
use native.Mathlib.Omega.{arith}
use native.Mathlib.Decide.{dec_lt}
use lib.Dec.{ltb}
use Rattle.card_layout.specs.Sizes.{blocks_for}
use Rattle.card_layout.specs.Slots.{owned}
use Rattle.card_layout.specs.declared.inode.FileType.{FileType}
use Rattle.card_layout.specs.declared.inode.FileType.TheVariants.{File, Dir, SymLink}
use Rattle.card_layout.specs.declared.inode.Head.{Head}
use Rattle.file_blocks.proofs.Picks.{pick-both, pick_yes, pick_no}
use Rattle.file_requests.specs.Requests.{longest, by_kind, by_file, needs, judged, write_judged}
use Rattle.refusals.specs.declared.Refusal.TheVariants.{NotFile, InvalidParam, NoDeviceSpace}
use Rattle.refusals.specs.declared.Refusal.{Refusal}
use Rattle.std.specs.Prelude.{Option, Some, None, Result, Ok, Err}

-- ---- a new length

-- enough for the code's sums
pub owned_below : (b : ℕ) → owned b ≤ 2 * b + 3
unfolding owned
owned_below b =
    let p = pick-both (λ x. x ≤ 1) (ltb b 12) 0 1 (omega arith) (omega arith) in
    let q = pick-both (λ x. x ≤ 2 + b) (ltb b 1036) 0 (2 + (b - 1036) / 1024) (omega arith) (omega arith) in
    omega (arith, p, q)

module _ (u : ℕ) (h : Head) (len : ℕ) where
  pub judged-long : longest < len → judged u h len ≡ (Err InvalidParam)
  unfolding judged
  judged-long l = pick_yes longest len _ _ l

  pub judged-full : len ≤ longest → u + owned h.blocks < owned (blocks_for len) → judged u h len ≡ (Err NoDeviceSpace)
  unfolding judged
  judged-full l m = pick_no longest len _ _ l ∙ pick_yes u (needs h.blocks len) _ _ (omega arith)

  pub judged-fits : len ≤ longest → owned (blocks_for len) ≤ u + owned h.blocks → judged u h len ≡ (Ok tt)
  unfolding judged
  judged-fits l m = pick_no longest len _ _ l ∙ pick_no u (needs h.blocks len) _ _ (omega arith)

  -- what is taken on is a length
  pub judged-within : judged u h len ≡ (Ok tt) → len ≤ longest
  judged-within e = go (dec_lt longest len)
    where
      go : Dec (longest < len) → len ≤ longest
      go (no m) = omega arith
      go (yes m) =
          let q : (Err InvalidParam) ≡ (Ok tt) = sym (judged-long m) ∙ e in
          let z : ◌≡◌ {A = ℕ} 0 1 = cc in
          absurd (omega arith)

  pub write-past : h.size < len → write_judged u h len ≡ judged u h len
  unfolding write_judged
  write-past l = pick_yes h.size len _ _ l

  pub write-inside : len ≤ h.size → write_judged u h len ≡ (Ok tt)
  unfolding write_judged
  write-inside l = pick_no h.size len _ _ l

  pub write-within : h.size ≤ longest → write_judged u h len ≡ (Ok tt) → len ≤ longest
  write-within s e = go (dec_lt h.size len)
    where
      go : Dec (h.size < len) → len ≤ longest
      go (no m) = omega arith
      go (yes m) = judged-within (sym (write-past m) ∙ e)

-- ---- the head of a file

-- the head itself, where it is no directory's
abbrev pub head_of : Option Head → Result Head Refusal
head_of d = by_file d (Err NotFile) (λ h. Ok h)

no-head : (h : Head) (e : Refusal) → ◌≡◌ {A = Result Head Refusal} (Ok h) (Err e) → ⊥
no-head h e q = let z : ◌≡◌ {A = ℕ} 0 1 = cc in omega arith

module _ {A : Type 0} (r : A) (f : Head → A) where
  kind-good : (k : FileType) (h g : Head) → ◌≡◌ {A = Result Head Refusal} (by_kind k (Err NotFile) (Ok h)) (Ok g) → by_kind k r (f h) ≡ f g
  kind-good File h g e = let q : h ≡ g = cc in ap f q
  kind-good Dir h g e = absurd (no-head g NotFile (sym e))
  kind-good SymLink h g e = let q : h ≡ g = cc in ap f q

  kind-bad : (k : FileType) (h : Head) (n : Refusal) → ◌≡◌ {A = Result Head Refusal} (by_kind k (Err NotFile) (Ok h)) (Err n)
      → (n ≡ NotFile) × (by_kind k r (f h) ≡ r)
  kind-bad File h n e = absurd (no-head h n e)
  kind-bad Dir h n e = (cc, refl)
  kind-bad SymLink h n e = absurd (no-head h n e)

  pub file-good : (d : Option Head) (g : Head) → head_of d ≡ Ok g → by_file d r f ≡ f g
  file-good (Some h) g e = kind-good h.type_ h g e
  file-good None g e = absurd (no-head g NotFile (sym e))

  pub file-bad : (d : Option Head) (n : Refusal) → head_of d ≡ Err n → (n ≡ NotFile) × (by_file d r f ≡ r)
  file-bad (Some h) n e = kind-bad h.type_ h n e
  file-bad None n e = (cc, refl)
