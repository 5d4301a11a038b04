-- One call: what slots, data and device stand for after a read, a write and a sync. Assumes nothing.
use Prim.Native.Nat.{ℕ, suc, ◌+◌, ◌*◌, ◌≤◌, ◌<◌}
use mathlib.Core.Path.{◌≡◌, refl, sym, ap, ◌∙◌, subst}
use mathlib.Core.Logic.{◌≢◌}
use mathlib.Core.Bool.{Bool, true, false}
use mathlib.Core.List.{List}
use native.Mathlib.Omega.{arith}
use native.Mathlib.Decide.{ℕ_discrete}
use borrow.Author.Tests.{ne_eqb}
use lib.ListN.{length}
use lib.Seq.{ext_get_or}
use lib.Dec.{eqb}
use Rattle.words.specs.Words.{byte, pick}
use Rattle.words.specs.Inner.{Apart}
use Rattle.words.specs.Runs.{copied, turns}
use Rattle.words.proofs.Runs.{length-copied, byte-copied_off, byte-copied_in, puts_is, length-puts, byte-puts_off, byte-puts_in, turns_keep}
use Rattle.cache_order.specs.Slots.{slots_in, status_at, block_at, place_at, Inside, Sound}
use Rattle.cache_order.specs.Order.{holds, slot_for, entered, read_status, clean_status, sync_slots}
use Rattle.cache.specs.Effects.{flushed, roomed, loaded, read_slots, used_device, read_data, read_buf, write_slots, write_data, sync_device}
use Rattle.cache_order.proofs.Laws.{slot_below, sound_device}
use Rattle.cache_laws.specs.Faithful.{Stands}
use Rattle.cache_laws.proofs.Search.{Held, holds_true, only}
use Rattle.cache_laws.proofs.Enter.{entered_slots, entered_status, entered_block, entered_status_off, entered_block_off}
use Rattle.cache_laws.proofs.Keep.{sound_entered, flushed-length, Clear, flush_rest}

-- every slot
abbrev Any : ℕ → Type 0
Any j = 0 ≤ j

module _ {w d v p : List ℕ} (s : Stands w d v p) (b : ℕ) (here : Inside v b) where
  below : slot_for w b < slots_in w
  below = let z = s.sound.sizes.two in slot_below w b (omega arith)

  alone : (j : ℕ) → j < slots_in w → j ≢ slot_for w b → status_at w j ≢ 0 → block_at w j ≢ b
  alone j = only s.sound b j

  -- the device after room was made: p at each byte that no dirty slot but the one used has, and the one used has another block
  room_rest : (t : Bool) → holds w b (slot_for w b) ≡ t → (q : ℕ) → Clear w (λ j. j ≢ slot_for w b) q
      → (t ≡ true → status_at w (slot_for w b) ≡ 2 → Apart q 1 (4096 * b) 4096)
      → byte (pick t v (flushed w d v (slot_for w b))) q ≡ byte p q
  room_rest true h q c o = s.rest q (λ j a e. go j a e (ℕ_discrete j (slot_for w b)))
    where
      go : (j : ℕ) → j < slots_in w → status_at w j ≡ 2 → Dec (j ≡ slot_for w b) → Apart q 1 (4096 * block_at w j) 4096
      go j a e (yes f) =
          let z = holds_true w b (slot_for w b) h in
          subst (λ (x : ℕ). Apart q 1 (4096 * x) 4096) (sym (ap (λ (x : ℕ). block_at w x) f ∙ z.block))
          (o refl (subst (λ (x : ℕ). status_at w x ≡ 2) f e))
      go j a e (no m) = c j a m e
  room_rest false h q c o =
      flush_rest w d v p Any s.long (λ x y. s.rest x (λ j a e. y j a (omega arith) e)) (slot_for w b) below (s.sound.fits.each (slot_for w b) below)
      (λ k u l. s.held (slot_for w b) k below u l) q (λ j a x e. c j a x.1 e)

  room_length : length (used_device w d v b) ≡ length v
  unfolding used_device roomed
  room_length = go (holds w b (slot_for w b))
    where
      go : (t : Bool) → length (pick t v (flushed w d v (slot_for w b))) ≡ length v
      go true = refl
      go false = flushed-length w d v (slot_for w b)

  -- ---- a write

  module _ (buf : List ℕ) where
    write_held : (j k : ℕ) → j < slots_in w → status_at (write_slots w b) j ≢ 0 → k < 4096
        → byte (write_data w d b buf) (4096 * j + k) ≡ byte (copied p (4096 * b) buf 0 4096) (4096 * block_at (write_slots w b) j + k)
    unfolding write_slots write_data
    write_held j k a u l = go (ℕ_discrete j (slot_for w b))
      where
        go : Dec (j ≡ slot_for w b)
            → byte (copied d (4096 * slot_for w b) buf 0 4096) (4096 * j + k) ≡ byte (copied p (4096 * b) buf 0 4096) (4096 * block_at (entered w (slot_for w b) 2 b) j + k)
        go (yes e) =
            let dl = s.sound.sizes.long in
            let lo = s.long in
            let z = below in
            rw (e, entered_block w (slot_for w b) 2 b below)
            (byte-copied_in d (4096 * slot_for w b) buf 0 4096 k (omega arith) l ∙ sym (byte-copied_in p (4096 * b) buf 0 4096 k (omega arith) l))
        go (no m) =
            let u' = rw (entered_status_off w (slot_for w b) 2 b below j m) at u in
            let o = alone j a m u' in
            rw (entered_block_off w (slot_for w b) 2 b below j m)
            (byte-copied_off d (4096 * slot_for w b) buf 0 4096 (4096 * j + k) (λ x y. omega arith)
            ∙ s.held j k a u' l
            ∙ sym (byte-copied_off p (4096 * b) buf 0 4096 (4096 * block_at w j + k) (λ x y. omega arith)))

    write_rest : (q : ℕ) → ((j : ℕ) → j < slots_in w → status_at (write_slots w b) j ≡ 2 → Apart q 1 (4096 * block_at (write_slots w b) j) 4096)
        → byte (used_device w d v b) q ≡ byte (copied p (4096 * b) buf 0 4096) q
    unfolding write_slots used_device roomed
    write_rest q c =
        let o : Apart q 1 (4096 * b) 4096 =
        subst (λ (x : ℕ). Apart q 1 (4096 * x) 4096) (entered_block w (slot_for w b) 2 b below) (c (slot_for w b) below (entered_status w (slot_for w b) 2 b below)) in
        room_rest (holds w b (slot_for w b)) refl q
        (λ j a m e. subst (λ (x : ℕ). Apart q 1 (4096 * x) 4096) (entered_block_off w (slot_for w b) 2 b below j m)
        (c j a (entered_status_off w (slot_for w b) 2 b below j m ∙ e)))
        (λ h e. o)
        ∙ sym (byte-copied_off p (4096 * b) buf 0 4096 q o)

    pub write_stands : Stands (write_slots w b) (write_data w d b buf) (used_device w d v b) (copied p (4096 * b) buf 0 4096)
    unfolding write_slots write_data
    write_stands =
        let n = entered_slots w (slot_for w b) 2 b below in
        record {
          sound = sound_entered s.sound (slot_for w b) 2 b below (omega arith) here alone (length-copied d (4096 * slot_for w b) buf 0 4096) room_length;
          long = room_length ∙ s.long ∙ sym (length-copied p (4096 * b) buf 0 4096);
          held = λ j k a u l. write_held j k (omega arith) u l;
          rest = λ q c. write_rest q (λ j a e. c j (omega arith) e);
        }

  -- ---- a read

  -- a slot but the one used is as before
  entered_off : (t : ℕ) (q : ℕ) → ((j : ℕ) → j < slots_in w → status_at (entered w (slot_for w b) t b) j ≡ 2 → Apart q 1 (4096 * block_at (entered w (slot_for w b) t b) j) 4096)
      → Clear w (λ j. j ≢ slot_for w b) q
  entered_off t q c j a m e =
      subst (λ (x : ℕ). Apart q 1 (4096 * x) 4096) (entered_block_off w (slot_for w b) t b below j m)
      (c j a (entered_status_off w (slot_for w b) t b below j m ∙ e))

  hit_stands : holds w b (slot_for w b) ≡ true → Stands (entered w (slot_for w b) (status_at w (slot_for w b)) b) d v p
  hit_stands h =
      let z = holds_true w b (slot_for w b) h in
      let n = entered_slots w (slot_for w b) (status_at w (slot_for w b)) b below in
      record {
        sound = sound_entered s.sound (slot_for w b) (status_at w (slot_for w b)) b below (s.sound.fits.each (slot_for w b) below).status here alone refl refl;
        long = s.long;
        held = λ j k a u l. held z j k (omega arith) u l (ℕ_discrete j (slot_for w b));
        rest = λ q c. room_rest true h q (entered_off (status_at w (slot_for w b)) q (λ j a e. c j (omega arith) e))
            (λ x e. subst (λ (y : ℕ). Apart q 1 (4096 * y) 4096) (entered_block w (slot_for w b) (status_at w (slot_for w b)) b below)
            (c (slot_for w b) (omega (arith, below)) (entered_status w (slot_for w b) (status_at w (slot_for w b)) b below ∙ e)));
      }
    where
      held : Held w b (slot_for w b) → (j k : ℕ) → j < slots_in w → status_at (entered w (slot_for w b) (status_at w (slot_for w b)) b) j ≢ 0 → k < 4096 → Dec (j ≡ slot_for w b)
          → byte d (4096 * j + k) ≡ byte p (4096 * block_at (entered w (slot_for w b) (status_at w (slot_for w b)) b) j + k)
      held z j k a u l (yes e) =
          rw (e, entered_block w (slot_for w b) (status_at w (slot_for w b)) b below)
          (s.held (slot_for w b) k below z.used l ∙ ap (λ (x : ℕ). byte p (4096 * x + k)) z.block)
      held z j k a u l (no m) =
          rw (entered_block_off w (slot_for w b) (status_at w (slot_for w b)) b below j m)
          (s.held j k a (rw (entered_status_off w (slot_for w b) (status_at w (slot_for w b)) b below j m) at u) l)

  never : (q : ℕ) → false ≡ true → status_at w (slot_for w b) ≡ 2 → Apart q 1 (4096 * b) 4096
  never q x e = let o : ◌≡◌ {A = ℕ} 0 1 = cc in absurd (omega arith)

  miss_stands : holds w b (slot_for w b) ≡ false
      → Stands (entered w (slot_for w b) 1 b) (copied d (4096 * slot_for w b) (flushed w d v (slot_for w b)) (4096 * b) 4096) (flushed w d v (slot_for w b)) p
  miss_stands h =
      let n = entered_slots w (slot_for w b) 1 b below in
      let f = flushed-length w d v (slot_for w b) in
      record {
        sound = sound_entered s.sound (slot_for w b) 1 b below (omega arith) here alone
            (length-copied d (4096 * slot_for w b) (flushed w d v (slot_for w b)) (4096 * b) 4096) f;
        long = f ∙ s.long;
        held = λ j k a u l. held j k (omega arith) u l (ℕ_discrete j (slot_for w b));
        rest = λ q c. room_rest false h q (entered_off 1 q (λ j a e. c j (omega arith) e)) (never q);
      }
    where
      -- the block in the device is p's: no dirty slot has it
      block : (k : ℕ) → k < 4096 → byte (flushed w d v (slot_for w b)) (4096 * b + k) ≡ byte p (4096 * b + k)
      block k l =
          room_rest false h (4096 * b + k) (λ j a m e x y. let o = alone j a m (λ z. omega arith) in omega arith) (never (4096 * b + k))

      held : (j k : ℕ) → j < slots_in w → status_at (entered w (slot_for w b) 1 b) j ≢ 0 → k < 4096 → Dec (j ≡ slot_for w b)
          → byte (copied d (4096 * slot_for w b) (flushed w d v (slot_for w b)) (4096 * b) 4096) (4096 * j + k) ≡ byte p (4096 * block_at (entered w (slot_for w b) 1 b) j + k)
      held j k a u l (yes e) =
          let dl = s.sound.sizes.long in
          let z = below in
          rw (e, entered_block w (slot_for w b) 1 b below)
          (byte-copied_in d (4096 * slot_for w b) (flushed w d v (slot_for w b)) (4096 * b) 4096 k (omega arith) l ∙ block k l)
      held j k a u l (no m) =
          rw (entered_block_off w (slot_for w b) 1 b below j m)
          (byte-copied_off d (4096 * slot_for w b) (flushed w d v (slot_for w b)) (4096 * b) 4096 (4096 * j + k) (λ x y. omega arith)
          ∙ s.held j k a (rw (entered_status_off w (slot_for w b) 1 b below j m) at u) l)

  pub read_stands : Stands (read_slots w b) (read_data w d v b) (used_device w d v b) p
  unfolding read_slots read_status read_data loaded used_device roomed
  read_stands = go (holds w b (slot_for w b)) refl
    where
      go : (t : Bool) → holds w b (slot_for w b) ≡ t
          → Stands (entered w (slot_for w b) (pick t (status_at w (slot_for w b)) 1) b)
          (pick t d (copied d (4096 * slot_for w b) (pick t v (flushed w d v (slot_for w b))) (4096 * b) 4096))
          (pick t v (flushed w d v (slot_for w b)))
          p
      go true h = hit_stands h
      go false h = miss_stands h

  read_used : read_status w b (slot_for w b) ≢ 0
  unfolding read_status
  read_used = go (holds w b (slot_for w b)) refl
    where
      go : (t : Bool) → holds w b (slot_for w b) ≡ t → pick t (status_at w (slot_for w b)) 1 ≢ 0
      go true h = (holds_true w b (slot_for w b) h).used
      go false h = λ e. omega arith

  -- the buffer has the block of p
  pub read_buffer_lem : (buf : List ℕ) → read_buf w d v b buf ≡ copied buf 0 p (4096 * b) 4096
  unfolding read_slots read_buf copied
  read_buffer_lem buf =
      puts_is buf _ _ (λ k. 0 + k) (λ k. byte p (4096 * b + k)) 4096 (λ k l. refl) (λ k l. at k l)
    where
      at : (k : ℕ) → k < 4096 → byte (read_data w d v b) (4096 * slot_for w b + k) ≡ byte p (4096 * b + k)
      at k l =
          let n = entered_slots w (slot_for w b) (read_status w b (slot_for w b)) b below in
          let z = below in
          read_stands.held (slot_for w b) k (omega arith) (rw (entered_status w (slot_for w b) (read_status w b (slot_for w b)) b below) read_used) l
          ∙ ap (λ (x : ℕ). byte p (4096 * x + k)) (entered_block w (slot_for w b) (read_status w b (slot_for w b)) b below)

-- ---- a sync

module _ (w : List ℕ) where
  sync_length : length (sync_slots w) ≡ length w
  unfolding sync_slots
  sync_length = length-puts w _ _ (slots_in w)

  sync_status : (j : ℕ) → j < slots_in w → status_at (sync_slots w) j ≡ clean_status (status_at w j)
  unfolding sync_slots
  sync_status j l = byte-puts_in w (λ k. 3 * k) (λ k. clean_status (status_at w k)) (slots_in w) j l (omega arith) (λ k a m e. omega arith)

  sync_block : (j : ℕ) → block_at (sync_slots w) j ≡ block_at w j
  unfolding sync_slots
  sync_block j = byte-puts_off w _ _ (slots_in w) (3 * j + 1) (λ k l e. omega arith)

  sync_place : (j : ℕ) → place_at (sync_slots w) j ≡ place_at w j
  unfolding sync_slots
  sync_place j = byte-puts_off w _ _ (slots_in w) (3 * j + 2) (λ k l e. omega arith)

clean_small : (t : ℕ) → t ≤ 2 → clean_status t ≤ 2
unfolding clean_status
clean_small t l = go (eqb t 2)
  where
    go : (x : Bool) → pick x 1 t ≤ 2
    go true = omega arith
    go false = l

-- only what was used is used
clean_used : (t : ℕ) → clean_status t ≢ 0 → t ≢ 0
unfolding clean_status
clean_used t u e = u (rw (ne_eqb t 2 (λ z. omega arith)) e)

pub sync_sound : {w d v v' : List ℕ} → length v' ≡ length v → Sound w d v → Sound (sync_slots w) d v'
sync_sound {w} {d} {v} {v'} e s =
    let z = s.sizes in
    let n = sync_length w in
    record {
      sizes = record { whole = omega arith; two = omega arith; most = omega arith; long = omega arith };
      fits = record {
        each = λ j a. let l : j < slots_in w = omega arith in
            record {
              status = rw (sync_status w j l) (clean_small (status_at w j) (s.fits.each j l).status);
              inside = λ u. rw (sync_block w j) (let h = (s.fits.each j l).inside (clean_used (status_at w j) (rw (sync_status w j l) at u)) in omega arith);
            };
      };
      apart = record {
        each = λ j a. record {
          before = λ k c. let l : j < slots_in w = omega arith in
              let x = (s.apart.each j l).before k c in
              record {
                places = rw (sync_place w k, sync_place w j) x.places;
                blocks = λ u t. rw (sync_block w k, sync_block w j)
                    (x.blocks (clean_used (status_at w k) (rw (sync_status w k (omega arith)) at u)) (clean_used (status_at w j) (rw (sync_status w j l) at t)));
              };
        };
      };
    }

module _ {w d v p : List ℕ} (s : Stands w d v p) where
  -- the slots before k are written back
  record Back (k : ℕ) (x : List ℕ) : Type 0 where
    long : length x ≡ length v
    rest : (q : ℕ) → Clear w (λ j. k ≤ j) q → byte x q ≡ byte p q

  back_none : Back 0 v
  back_none = record { long = refl; rest = λ q c. s.rest q (λ j a e. c j a (omega arith) e) }

  back_more : (k : ℕ) (x : List ℕ) → k < slots_in w → Back k x → Back (suc k) (flushed w d x (0 + k))
  back_more k x l b =
      let e : 0 + k ≡ k = omega arith in
      rw e
      (record {
        long = flushed-length w d x k ∙ b.long;
        rest = λ q c. flush_rest w d x p (λ j. k ≤ j) (b.long ∙ s.long) b.rest k l ((sound_device b.long s.sound).fits.each k l)
            (λ y u h. s.held k y l u h) q (λ j a m h. c j a (let o = m.1 in let i = m.0 in omega arith) h);
      })

  pub sync_device_lem : sync_device w d v ≡ p
  unfolding sync_device
  sync_device_lem =
      let b : Back (slots_in w) (turns (λ i x. flushed w d x i) 0 (slots_in w) v) =
      turns_keep (λ i x. flushed w d x i) 0 v Back back_none (slots_in w) (λ j x l h. back_more j x l h) in
      ext_get_or 0 (turns (λ i x. flushed w d x i) 0 (slots_in w) v) p (b.long ∙ s.long) (λ q l. b.rest q (λ j a m e. absurd (omega arith)))

  pub sync_stands : Stands (sync_slots w) d (sync_device w d v) p
  sync_stands =
      let n = sync_length w in
      record {
        sound = sync_sound (ap length sync_device_lem ∙ sym s.long) s.sound;
        long = ap length sync_device_lem;
        held = λ j k a u l. let a' : j < slots_in w = omega arith in
            rw (sync_block w j) (s.held j k a' (clean_used (status_at w j) (rw (sync_status w j a') at u)) l);
        rest = λ q c. ap (λ (x : List ℕ). byte x q) sync_device_lem;
      }
