-- What the cache is for (request 11): "what is read through the cache equals the same reads and writes made straight on the device, and after a
-- sync the device equals it too". Here v is the device under the cache, and p the device that the same calls made straight would leave.
use Rattle.std.specs.Prelude.{ℕ, ◌+◌, ◌*◌, ◌<◌, ◌≡◌, ◌≢◌, List, length}
use Rattle.words.specs.Words.{byte}
use Rattle.words.specs.Inner.{Apart}
use Rattle.cache_order.specs.Slots.{slots_in, status_at, block_at, Sizes, Sound}
use Rattle.cache_order.specs.Order.{started}
use Rattle.cache.specs.Calls.{ReadCall, SyncCall}
use Rattle.cache_laws.specs.Runs.{Event, Through, Straight}

-- slots that no call refuses, all unused
pub record Fresh (w d v : List ℕ) : Type 0 where
  pub sound : Sound w d v
  pub unused : (i : ℕ) → i < slots_in w → status_at w i ≡ 0

-- slots, data and device v stand for p: a used slot has its block of p, and the device is p at each byte that no dirty slot has
pub record Stands (w d v p : List ℕ) : Type 0 where
  pub sound : Sound w d v
  pub long : length v ≡ length p
  pub held : (i k : ℕ) → i < slots_in w → status_at w i ≢ 0 → k < 4096 → byte d (4096 * i + k) ≡ byte p (4096 * block_at w i + k)
  pub rest : (q : ℕ) → ((i : ℕ) → i < slots_in w → status_at w i ≡ 2 → Apart q 1 (4096 * block_at w i) 4096) → byte v q ≡ byte p q

-- what a run through the cache leaves: the same calls with the same answers and buffers are a run straight on the device, to a p that slots, data and device
-- stand for
pub record Same (v : List ℕ) (es : List Event) (w' d' v' : List ℕ) : Type 0 where
  pub alone : List ℕ
  pub straight : Straight v es alone
  pub stands : Stands w' d' v' alone

pub record Faithful : Type 0 where
  -- over any run from unused slots the cache is the device alone
  pub same : {w d v w' d' v' : List ℕ} {es : List Event} → Fresh w d v → Through w d v es w' d' v' → Same v es w' d' v'
  -- a sync is not refused, and makes the device what the slots stand for
  pub synced : {w w' d v v' p : List ℕ} {r : ℕ} → Stands w d v p → SyncCall w w' d v v' r → (r ≡ 0) × (v' ≡ p)
  -- a sync changes no read
  pub still : {w d v p w₁ v₁ w₂ d₂ v₂ w₃ d₃ v₃ buf buf₂ buf₃ : List ℕ} {b r s t : ℕ} → Stands w d v p → SyncCall w w₁ d v v₁ r
      → ReadCall w w₂ d d₂ v v₂ b buf buf₂ s → ReadCall w₁ w₃ d d₃ v₁ v₃ b buf buf₃ t → (s ≡ t) × (buf₂ ≡ buf₃)
  -- a clean slot equals its block of the device
  pub clean : {w d v p : List ℕ} → Stands w d v p → (i k : ℕ) → i < slots_in w → status_at w i ≡ 1 → k < 4096
      → byte d (4096 * i + k) ≡ byte v (4096 * block_at w i + k)
  -- what a start leaves is fresh, where slots and data have their sizes
  pub starts : (w d v : List ℕ) → Sizes w d → Fresh (started w) d v
