-- The calls on any slots, data, device and buffer: each answers 0 or 12 and leaves one state of all four. A prime is for what a call leaves.
use Rattle.std.specs.Prelude.{ℕ, ◌≡◌, List}
use Rattle.cache_order.specs.Slots.{Sound, Fit}
use Rattle.cache.specs.Effects.{read_slots, used_device, read_data, read_buf, write_slots, write_data, sync_device}
use Rattle.cache_order.specs.Order.{sync_slots}

-- where A holds the call is made, answers 0 and leaves B; else it is refused, answers 12 and leaves C
pub data Call (A B C : Type 0) : ℕ → Type 0 where
  done : A → B → Call A B C 0
  refused : (A → ⊥) → C → Call A B C 12

abbrev pub ReadCall : (w w' d d' v v' : List ℕ) → ℕ → (buf buf' : List ℕ) → ℕ → Type 0
ReadCall w w' d d' v v' b buf buf' r =
    Call (Fit w d v b buf)
    ((w' ≡ read_slots w b) × (d' ≡ read_data w d v b) × (v' ≡ used_device w d v b) × (buf' ≡ read_buf w d v b buf))
    ((w' ≡ w) × (d' ≡ d) × (v' ≡ v) × (buf' ≡ buf))
    r

abbrev pub WriteCall : (w w' d d' v v' : List ℕ) → ℕ → List ℕ → ℕ → Type 0
WriteCall w w' d d' v v' b buf r =
    Call (Fit w d v b buf)
    ((w' ≡ write_slots w b) × (d' ≡ write_data w d b buf) × (v' ≡ used_device w d v b))
    ((w' ≡ w) × (d' ≡ d) × (v' ≡ v))
    r

-- a sync only reads the data
abbrev pub SyncCall : (w w' d v v' : List ℕ) → ℕ → Type 0
SyncCall w w' d v v' r =
    Call (Sound w d v)
    ((w' ≡ sync_slots w) × (v' ≡ sync_device w d v))
    ((w' ≡ w) × (v' ≡ v))
    r
