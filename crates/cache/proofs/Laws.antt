-- What a call leaves, by the slot that it used. Assumes nothing.
use Prim.Native.Nat.{ℕ, ◌<◌}
use mathlib.Core.Path.{◌≡◌}
use mathlib.Core.List.{List}
use native.Mathlib.Omega.{arith}
use Rattle.cache_order.proofs.Laws.{slot_below}
use Rattle.cache_order.specs.Slots.{slots_in, Fit}
use Rattle.cache_order.specs.Order.{slot_for, entered, read_status}
use Rattle.cache.specs.Effects.{Fetched, Stored, read_slots, read_data, used_device, read_buf, write_slots, write_data}

-- the slot that a call uses
pub used_below : (w d v : List ℕ) (b i : ℕ) (buf : List ℕ) → Fit w d v b buf → i ≡ slot_for w b → i < slots_in w
used_below w d v b i buf f e = let z = f.sound.sizes.two in rw e (slot_below w b (omega arith))

pub read_made : (w w' d d' v v' : List ℕ) (b i : ℕ) (buf buf' : List ℕ) → i ≡ slot_for w b → w' ≡ entered w i (read_status w b i) b
    → Fetched w d d' v v' b i buf buf'
    → (w' ≡ read_slots w b) × (d' ≡ read_data w d v b) × (v' ≡ used_device w d v b) × (buf' ≡ read_buf w d v b buf)
unfolding read_slots read_data used_device read_buf
read_made w w' d d' v v' b i buf buf' e h f =
    (rw (← e) h, rw (← e, ← f.device) f.bytes, rw (← e) f.device, rw (← e, ← f.device, ← f.bytes) f.buffer)

pub write_made : (w w' d d' v v' : List ℕ) (b i : ℕ) (buf : List ℕ) → i ≡ slot_for w b → w' ≡ entered w i 2 b
    → Stored w d d' v v' b i buf
    → (w' ≡ write_slots w b) × (d' ≡ write_data w d b buf) × (v' ≡ used_device w d v b)
unfolding write_slots write_data used_device
write_made w w' d d' v v' b i buf e h f = (rw (← e) h, rw (← e) f.bytes, rw (← e) f.device)
