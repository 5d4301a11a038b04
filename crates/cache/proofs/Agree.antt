-- The statements leave one answer and one state of slots, data, device and buffer: two programs that meet them agree. Assumes nothing.
use Prim.Native.Nat.{ℕ}
use mathlib.Core.Path.{◌≡◌, refl, sym, ◌∙◌}
use mathlib.Core.List.{List}
use Rattle.cache.specs.Calls.{ReadCall, WriteCall, SyncCall}
use Rattle.cache.specs.Calls.Call.{done, refused}

module _ {w d v : List ℕ} {b : ℕ} {buf : List ℕ} where
  pub read_agrees : {w₁ w₂ d₁ d₂ v₁ v₂ buf₁ buf₂ : List ℕ} {r s : ℕ} → ReadCall w w₁ d d₁ v v₁ b buf buf₁ r → ReadCall w w₂ d d₂ v v₂ b buf buf₂ s
      → (r ≡ s) × (w₁ ≡ w₂) × (d₁ ≡ d₂) × (v₁ ≡ v₂) × (buf₁ ≡ buf₂)
  read_agrees (done f (x, y, z, t)) (done g (k, l, m, n)) = (refl, x ∙ sym k, y ∙ sym l, z ∙ sym m, t ∙ sym n)
  read_agrees (refused f (x, y, z, t)) (refused g (k, l, m, n)) = (refl, x ∙ sym k, y ∙ sym l, z ∙ sym m, t ∙ sym n)
  read_agrees (done f e) (refused g h) = absurd (g f)
  read_agrees (refused f e) (done g h) = absurd (f g)

  pub write_agrees : {w₁ w₂ d₁ d₂ v₁ v₂ : List ℕ} {r s : ℕ} → WriteCall w w₁ d d₁ v v₁ b buf r → WriteCall w w₂ d d₂ v v₂ b buf s
      → (r ≡ s) × (w₁ ≡ w₂) × (d₁ ≡ d₂) × (v₁ ≡ v₂)
  write_agrees (done f (x, y, z)) (done g (k, l, m)) = (refl, x ∙ sym k, y ∙ sym l, z ∙ sym m)
  write_agrees (refused f (x, y, z)) (refused g (k, l, m)) = (refl, x ∙ sym k, y ∙ sym l, z ∙ sym m)
  write_agrees (done f e) (refused g h) = absurd (g f)
  write_agrees (refused f e) (done g h) = absurd (f g)

pub sync_agrees : {w d v w₁ w₂ v₁ v₂ : List ℕ} {r s : ℕ} → SyncCall w w₁ d v v₁ r → SyncCall w w₂ d v v₂ s → (r ≡ s) × (w₁ ≡ w₂) × (v₁ ≡ v₂)
sync_agrees (done f (x, z)) (done g (k, m)) = (refl, x ∙ sym k, z ∙ sym m)
sync_agrees (refused f (x, z)) (refused g (k, m)) = (refl, x ∙ sym k, z ∙ sym m)
sync_agrees (done f e) (refused g h) = absurd (g f)
sync_agrees (refused f e) (done g h) = absurd (f g)
