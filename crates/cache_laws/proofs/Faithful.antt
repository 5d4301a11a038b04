-- The cache is the device alone: over any run, and after a sync the device is it. Assumes nothing.
use Prim.Native.Nat.{ℕ, ◌+◌, ◌*◌, ◌<◌}
use mathlib.Core.Path.{◌≡◌, refl, sym, ap, ◌∙◌}
use mathlib.Core.List.{List}
use native.Mathlib.Omega.{arith}
use native.Mathlib.Decide.{ℕ_discrete}
use Rattle.words.specs.Words.{byte}
use Rattle.words.specs.Inner.{Apart}
use Rattle.words.specs.Runs.{copied}
use Rattle.cache_order.specs.Slots.{slots_in, status_at, block_at, Fit}
use Rattle.cache.specs.Calls.{Call, ReadCall, SyncCall}
use Rattle.cache.specs.Calls.Call.{done, refused}
use Rattle.cache_laws.specs.Runs.{Event, Through, Asked}
use Rattle.cache_laws.specs.Runs.Through.{none, read, write, sync}
use Rattle.cache_laws.specs.Runs.Straight.{alone_none, alone_read, alone_write, alone_sync}
use Rattle.cache_laws.specs.Faithful.{Fresh, Stands, Same, Faithful}
use Rattle.cache_laws.proofs.Search.{one_block}
use Rattle.cache_laws.proofs.Step.{read_stands, read_buffer_lem, write_stands, sync_device_lem, sync_stands}
use Rattle.cache_laws.proofs.Start.{start_fresh}

module _ {w d v p : List ℕ} (s : Stands w d v p) {b : ℕ} {buf : List ℕ} where
  -- where the slots stand for p, a call asks what p alone asks
  asked : Fit w d v b buf → Asked p b buf
  asked f = let l = s.long in let i = f.inside in record { inside = omega arith; one = f.one }

  fit : Asked p b buf → Fit w d v b buf
  fit a = let l = s.long in let i = a.inside in record { sound = s.sound; inside = omega arith; one = a.one }

module _ {w w' d d' v v' p : List ℕ} {b : ℕ} {buf : List ℕ} (s : Stands w d v p) where
  -- what a read tells, and what it leaves
  read_tells : {buf' : List ℕ} {r : ℕ} → ReadCall w w' d d' v v' b buf buf' r
      → Call (Asked p b buf) (buf' ≡ copied buf 0 p (4096 * b) 4096) (buf' ≡ buf) r
  read_tells (done f (x, y, z, e)) = done (asked s f) (e ∙ read_buffer_lem s b f.inside buf)
  read_tells (refused n (x, y, z, e)) = refused (λ a. n (fit s a)) e

  read_leaves : {buf' : List ℕ} {r : ℕ} → ReadCall w w' d d' v v' b buf buf' r → Stands w' d' v' p
  read_leaves (done f (x, y, z, e)) = rw (x, y, z) (read_stands s b f.inside)
  read_leaves (refused n (x, y, z, e)) = rw (x, y, z) s

sync_leaves : {w w' d v v' p : List ℕ} {r : ℕ} → Stands w d v p → SyncCall w w' d v v' r → (r ≡ 0) × (v' ≡ p) × Stands w' d v' p
sync_leaves s (done f (x, y)) = (refl, y ∙ sync_device_lem s, rw (x, y) (sync_stands s))
sync_leaves s (refused n (x, y)) = absurd (n s.sound)

run : {w d v p w' d' v' : List ℕ} {es : List Event} → Stands w d v p → Through w d v es w' d' v' → Same p es w' d' v'
run {p = p} s none = record { alone = p; straight = alone_none; stands = s }
run {p = p} s (read c t) =
    let q = run {p = p} (read_leaves s c) t in record { alone = q.alone; straight = alone_read (read_tells s c) q.straight; stands = q.stands }
run {p = p} s (write {buf = buf} {b = b} (done f (x, y, z)) t) =
    let q = run {p = copied p (4096 * b) buf 0 4096} (rw (x, y, z) (write_stands s b f.inside buf)) t in
    record { alone = q.alone; straight = alone_write (done (asked s f) refl) q.straight; stands = q.stands }
run {p = p} s (write (refused n (x, y, z)) t) =
    let q = run {p = p} (rw (x, y, z) s) t in
    record { alone = q.alone; straight = alone_write (refused (λ a. n (fit s a)) refl) q.straight; stands = q.stands }
run {p = p} s (sync (done f (x, y)) t) =
    let q = run {p = p} (rw (x, y) (sync_stands s)) t in record { alone = q.alone; straight = alone_sync q.straight; stands = q.stands }
run {p = p} s (sync (refused n (x, y)) t) = absurd (n s.sound)

fresh_stands : {w d v : List ℕ} → Fresh w d v → Stands w d v v
fresh_stands f =
    record {
      sound = f.sound;
      long = refl;
      held = λ i k l u h. absurd (u (f.unused i l));
      rest = λ q c. refl;
    }

-- two reads of one block of one device agree
one_answer : {A : Type 0} {x y z buf : List ℕ} {s t : ℕ} → Call A (x ≡ z) (x ≡ buf) s → Call A (y ≡ z) (y ≡ buf) t → (s ≡ t) × (x ≡ y)
one_answer (done a e) (done b f) = (refl, e ∙ sym f)
one_answer (done a e) (refused n f) = absurd (n a)
one_answer (refused n e) (done b f) = absurd (n b)
one_answer (refused n e) (refused m f) = (refl, e ∙ sym f)

clean_slot : {w d v p : List ℕ} → Stands w d v p → (i k : ℕ) → i < slots_in w → status_at w i ≡ 1 → k < 4096
    → byte d (4096 * i + k) ≡ byte v (4096 * block_at w i + k)
clean_slot {w} {d} {v} {p} s i k l e h =
    s.held i k l (λ z. omega arith) h ∙ sym (s.rest (4096 * block_at w i + k) (λ j a f. go j a f (ℕ_discrete (block_at w j) (block_at w i))))
  where
    go : (j : ℕ) → j < slots_in w → status_at w j ≡ 2 → Dec (block_at w j ≡ block_at w i) → Apart (4096 * block_at w i + k) 1 (4096 * block_at w j) 4096
    go j a f (yes x) =
        let o = one_block s.sound j i a l (λ z. omega arith) (λ z. omega arith) x in
        let c : status_at w j ≡ status_at w i = ap (λ (n : ℕ). status_at w n) o in absurd (omega arith)
    go j a f (no m) = λ x y. omega arith

pub faithful : Faithful
faithful =
    record {
      same = λ f t. run (fresh_stands f) t;
      synced = λ s c. let e = sync_leaves s c in (e.0, e.1);
      still = λ s c x y. let e = sync_leaves s c in one_answer (read_tells s x) (read_tells e.2 y);
      clean = clean_slot;
      starts = start_fresh;
    }
