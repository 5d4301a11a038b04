-- Runs of reads, writes and syncs, through the cache and straight on the device: what was asked, and what came of it.
use Rattle.std.specs.Prelude.{ℕ, ◌*◌, ◌≡◌, List, [], ◌∷◌, length}
use Rattle.words.specs.Runs.{copied}
use Rattle.cache_order.specs.Slots.{Inside}
use Rattle.cache.specs.Calls.{Call, ReadCall, WriteCall, SyncCall}

-- a call and what came of it: a read of a block with the buffer before and after, a write with its buffer, a sync; and the answer
pub data Event : Type 0 where
  read_of : ℕ → List ℕ → List ℕ → ℕ → Event
  write_of : ℕ → List ℕ → ℕ → Event
  sync_of : ℕ → Event

-- calls through the cache, one after the other, from slots w, data d and device v to w', d' and v'; refused ones too
pub data Through : (w d v : List ℕ) → List Event → (w' d' v' : List ℕ) → Type 0 where
  none : {w d v : List ℕ} → Through w d v [] w d v
  read : {w d v w₁ d₁ v₁ w' d' v' buf buf' : List ℕ} {b r : ℕ} {es : List Event}
      → ReadCall w w₁ d d₁ v v₁ b buf buf' r → Through w₁ d₁ v₁ es w' d' v' → Through w d v (read_of b buf buf' r ∷ es) w' d' v'
  write : {w d v w₁ d₁ v₁ w' d' v' buf : List ℕ} {b r : ℕ} {es : List Event}
      → WriteCall w w₁ d d₁ v v₁ b buf r → Through w₁ d₁ v₁ es w' d' v' → Through w d v (write_of b buf r ∷ es) w' d' v'
  sync : {w d v w₁ v₁ w' d' v' : List ℕ} {r : ℕ} {es : List Event}
      → SyncCall w w₁ d v v₁ r → Through w₁ d v₁ es w' d' v' → Through w d v (sync_of r ∷ es) w' d' v'

-- what the device p alone asks of a read or a write of block b
pub record Asked (p : List ℕ) (b : ℕ) (buf : List ℕ) : Type 0 where
  pub inside : Inside p b
  pub one : length buf ≡ 4096

-- the same calls made straight on the device, from p to p': a read copies the block out, a write in, a sync has nothing to do
pub data Straight : (p : List ℕ) → List Event → (p' : List ℕ) → Type 0 where
  alone_none : {p : List ℕ} → Straight p [] p
  alone_read : {p p' buf buf' : List ℕ} {b r : ℕ} {es : List Event}
      → Call (Asked p b buf) (buf' ≡ copied buf 0 p (4096 * b) 4096) (buf' ≡ buf) r → Straight p es p' → Straight p (read_of b buf buf' r ∷ es) p'
  alone_write : {p p₁ p' buf : List ℕ} {b r : ℕ} {es : List Event}
      → Call (Asked p b buf) (p₁ ≡ copied p (4096 * b) buf 0 4096) (p₁ ≡ p) r → Straight p₁ es p' → Straight p (write_of b buf r ∷ es) p'
  alone_sync : {p p' : List ℕ} {es : List Event} → Straight p es p' → Straight p (sync_of 0 ∷ es) p'
