-- What a call leaves of slots w, data d, device v and buffer, where it is not refused (request 11). A block is 4,096 bytes.
use Rattle.std.specs.Prelude.{ℕ, ◌*◌, List, ◌≡◌, eqb}
use Rattle.words.specs.Words.{pick}
use Rattle.words.specs.Runs.{copied, turns}
use Rattle.cache_order.specs.Slots.{slots_in, status_at, block_at}
use Rattle.cache_order.specs.Order.{holds, slot_for, entered, read_status}

-- the device with slot i written back, where it is dirty
unfoldable pub flushed : List ℕ → List ℕ → List ℕ → ℕ → List ℕ
flushed w d v i = pick (eqb (status_at w i) 2) (copied v (4096 * block_at w i) d (4096 * i) 4096) v

-- the device when slot i is used for block b: what gives way is written back
unfoldable pub roomed : List ℕ → List ℕ → List ℕ → ℕ → ℕ → List ℕ
roomed w d v b i = pick (holds w b i) v (flushed w d v i)

-- the data when slot i is read for block b: the block comes from the device v where the slot has another
unfoldable pub loaded : List ℕ → List ℕ → List ℕ → ℕ → ℕ → List ℕ
loaded w d v b i = pick (holds w b i) d (copied d (4096 * i) v (4096 * b) 4096)

-- data, device and buffer when slot i is read for block b
pub record Fetched (w d d' v v' : List ℕ) (b i : ℕ) (buf buf' : List ℕ) : Type 0 where
  pub device : v' ≡ roomed w d v b i
  pub bytes : d' ≡ loaded w d v' b i
  pub buffer : buf' ≡ copied buf 0 d' (4096 * i) 4096

-- data and device when the buffer is written to slot i for block b
pub record Stored (w d d' v v' : List ℕ) (b i : ℕ) (buf : List ℕ) : Type 0 where
  pub device : v' ≡ roomed w d v b i
  pub bytes : d' ≡ copied d (4096 * i) buf 0 4096

-- ---- a read of block b

unfoldable pub read_slots : List ℕ → ℕ → List ℕ
read_slots w b = entered w (slot_for w b) (read_status w b (slot_for w b)) b

unfoldable pub used_device : List ℕ → List ℕ → List ℕ → ℕ → List ℕ
used_device w d v b = roomed w d v b (slot_for w b)

unfoldable pub read_data : List ℕ → List ℕ → List ℕ → ℕ → List ℕ
read_data w d v b = loaded w d (used_device w d v b) b (slot_for w b)

unfoldable pub read_buf : List ℕ → List ℕ → List ℕ → ℕ → List ℕ → List ℕ
read_buf w d v b buf = copied buf 0 (read_data w d v b) (4096 * slot_for w b) 4096

-- ---- a write of block b: the block is in its slot, dirty; the device is as for a read

unfoldable pub write_slots : List ℕ → ℕ → List ℕ
write_slots w b = entered w (slot_for w b) 2 b

unfoldable pub write_data : List ℕ → List ℕ → ℕ → List ℕ → List ℕ
write_data w d b buf = copied d (4096 * slot_for w b) buf 0 4096

-- ---- a sync: every dirty slot is written back, and is valid

unfoldable pub sync_device : List ℕ → List ℕ → List ℕ → List ℕ
sync_device w d v = turns (λ i x. flushed w d x i) 0 (slots_in w) v
