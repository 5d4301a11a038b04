-- A call over the words of a list of slots is the call over the slots. Assumes nothing.
use mathlib.Core.Path.{◌≡◌, refl, sym, ap, ◌∙◌, subst}
use Prim.Native.Nat.{ℕ, ◌*◌, ◌<◌, ◌≤◌}
use native.Mathlib.Omega.{arith}
use native.Mathlib.Decide.{dec_lt}
use mathlib.Core.Bool.{Bool, true, false}
use mathlib.Core.List.{List}
use lib.Dec.{ltb}
use lib.ListN.{length, get_or, take}
use lib.Seq.{get_or-take, length-take-le}
use borrow.Author.Tests.{lt-ltb, le-ltb}
use Rattle.words.specs.Words.{pick}
use Rattle.cache_order.specs.Slots.{slots_in, status_at, Sound, Fit}
use Rattle.cache_order.specs.Order.{holds, slot_for, read_status}
use Rattle.cache_order.proofs.Laws.{slot_below}
use Rattle.cache.specs.Effects.{read_slots, write_slots}
use Rattle.refusals.specs.declared.Refusal.{Refusal}
use Rattle.refusals.specs.declared.Refusal.TheVariants.{ScratchShort, WrongFs, Damaged, NoInode, NotFile, NotDir, IsDir, BadName, EntryExist, EntryNotFound, DirNotEmpty, InvalidParam, TooManyLinks, NoDeviceSpace}
use Rattle.refusals.specs.Refusals.{refusal_no}
use Rattle.cache.specs.Calls.{Call, ReadCall, WriteCall, SyncCall}
use Rattle.cache.specs.Calls.Call.{done, refused}
use Rattle.cache_laws.proofs.Search.{only}
use Rattle.cache_laws.proofs.Keep.{sound_entered}
use Rattle.cache_laws.proofs.Step.{sync_sound}
use Rattle.cache_slots.specs.declared.Slot.{Slot}
use Rattle.cache_slots.specs.declared.Plain.{Plain}
use Rattle.cache_slots.specs.Slots.{none}
use Rattle.cache_slots.specs.Plain.{words_of, few, slot_of, load_to, spread_to, PlainCall, PlainRead, PlainWrite, PlainSync}
use Rattle.cache_slots.proofs.RecordLaws.{words_slots, words_status, status_small, loaded, spread_same, spread_words, load_words}

few_is : (n : ℕ) → n ≤ 64 → few n ≡ n
unfolding few
few_is n l = go (dec_lt n 64)
  where
    go : Dec (n < 64) → pick (ltb n 64) n 64 ≡ n
    go (yes h) = rw (lt-ltb n 64 h) refl
    go (no h) = rw (le-ltb n 64 (omega arith)) (omega arith)

few-most : (n : ℕ) → 64 < n → few n ≡ 64
unfolding few
few-most n l = rw (le-ltb n 64 (omega arith)) refl

-- a call that is done leaves slots that are sound
module _ {w d v : List ℕ} {b : ℕ} {buf : List ℕ} (f : Fit w d v b buf) where
  below : slot_for w b < slots_in w
  below = let z = f.sound.sizes.two in slot_below w b (omega arith)

  small : read_status w b (slot_for w b) ≤ 2
  unfolding read_status
  small = go (holds w b (slot_for w b))
    where
      go : (t : Bool) → pick t (status_at w (slot_for w b)) 1 ≤ 2
      go true = (f.sound.fits.each (slot_for w b) below).status
      go false = omega arith

  read_sound : Sound (read_slots w b) d v
  unfolding read_slots
  read_sound = sound_entered f.sound (slot_for w b) (read_status w b (slot_for w b)) b below small f.inside (λ j. only f.sound b j) refl refl

  write_sound : Sound (write_slots w b) d v
  unfolding write_slots
  write_sound = sound_entered f.sound (slot_for w b) 2 b below (omega arith) f.inside (λ j. only f.sound b j) refl refl

-- a refusal is not done, and leaves what it does of other parts too
not_done : (e : Refusal) → 0 < refusal_no e
not_done ScratchShort = omega arith
not_done WrongFs = omega arith
not_done Damaged = omega arith
not_done NoInode = omega arith
not_done NotFile = omega arith
not_done NotDir = omega arith
not_done IsDir = omega arith
not_done BadName = omega arith
not_done EntryExist = omega arith
not_done EntryNotFound = omega arith
not_done DirNotEmpty = omega arith
not_done InvalidParam = omega arith
not_done TooManyLinks = omega arith
not_done NoDeviceSpace = omega arith

refused_only : {A B C B' C' : Type 0} {n : ℕ} → Call A B C n → 0 < n → (C → C') → Call A B' C' n
refused_only (done f k) l g = absurd (omega arith)
refused_only (refused f k) l g = refused f (g k)

pub refused_as : {A B C B' C' : Type 0} (e : Refusal) → Call A B C (refusal_no e) → (C → C') → Call A B' C' (refusal_no e)
refused_as e c g = refused_only c (not_done e) g

module _ (ss : List Slot) where
  same_slot : (a r : Plain) (i : ℕ) → r.words ≡ a.words → slot_of r i ≡ slot_of a i
  unfolding slot_of
  same_slot a r i e = rw e refl

  -- a call over the words, of which it is known that it leaves statuses, and that it may be refused where there are more than 64 slots
  records_call : (r : Plain) (Nothing : Type 0) (On : List ℕ → List ℕ → ℕ → Type 0) (n : ℕ)
      → ((w' : List ℕ) → 64 < length ss → w' ≡ words_of ss → Nothing → On (words_of ss) w' 12)
      → ((w' : List ℕ) → length w' ≡ 3 * length ss → On (words_of ss) w' n → (i : ℕ) → i < length ss → status_at w' i ≤ 2)
      → PlainCall (load_to ss (few (length ss))) r Nothing On n → On (words_of ss) (words_of (spread_to ss r (few (length ss)))) n
  records_call r Nothing On n refuse leave p = go (dec_lt 64 (length ss))
    where
      go : Dec (64 < length ss) → On (words_of ss) (words_of (spread_to ss r (few (length ss)))) n
      go (yes l) =
          let p' : PlainCall (load_to ss 64) r Nothing On n = rw (few-most (length ss) l) at p in
          let a = loaded ss 64 (omega arith) in
          let q = p'.many (let k = a.counted in omega arith) in
          rw (few-most (length ss) l)
          (subst (λ (z : ℕ). On (words_of ss) (words_of (spread_to ss r 64)) z) (sym q.1)
          (refuse _ l (ap words_of (spread_same ss r 64 (λ i h. same_slot (load_to ss 64) r i q.0 ∙ a.slot i h))) q.2))
      go (no m) =
          let l : length ss ≤ 64 = omega arith in
          let p' : PlainCall (load_to ss (length ss)) r Nothing On n = rw (few_is (length ss) l) at p in
          let a = loaded ss (length ss) l in
          let c : On (words_of ss) (take (3 * length ss) r.words) n = rw (a.counted, load_words ss l) at (p'.call (let k = a.counted in omega arith)) in
          let w : length r.words ≡ 192 = p'.long ∙ a.long in
          let t : length (take (3 * length ss) r.words) ≡ 3 * length ss = length-take-le (3 * length ss) r.words (omega arith) in
          rw (
            few_is (length ss) l,
            spread_words ss r l w (λ i h. subst (λ (z : ℕ). z ≤ 2) (get_or-take (3 * length ss) r.words (3 * i) 0 (omega arith)) (leave _ t c i h)),
          )
          c

  -- more slots than any call takes
  crowd : {d v : List ℕ} → 64 < length ss → Sound (words_of ss) d v → ⊥
  crowd l f = let k = f.sizes.most in let n = words_slots ss in omega arith

  -- the statuses of what is sound, and of the slots themselves
  sound_statuses : {w x d v : List ℕ} → length w ≡ 3 * length ss → w ≡ x → Sound x d v → (i : ℕ) → i < length ss → status_at w i ≤ 2
  sound_statuses n x s i l = rw x (s.fits.each i (let k = ap (λ (u : List ℕ). slots_in u) x in omega arith)).status

  own_statuses : {w : List ℕ} → w ≡ words_of ss → (i : ℕ) → i < length ss → status_at w i ≤ 2
  own_statuses x i l = rw (x, words_status ss i l) (status_small (get_or ss i none).status)

  read_statuses : {w' d d' v v' : List ℕ} {b : ℕ} {buf buf' : List ℕ} {n : ℕ} → length w' ≡ 3 * length ss
      → ReadCall (words_of ss) w' d d' v v' b buf buf' n → (i : ℕ) → i < length ss → status_at w' i ≤ 2
  read_statuses l (done f k) = sound_statuses l k.0 (read_sound f)
  read_statuses l (refused f k) = own_statuses k.0

  pub records_read : (r : Plain) {d d' v v' : List ℕ} {b : ℕ} {buf buf' : List ℕ} {n : ℕ}
      → PlainRead (load_to ss (few (length ss))) r d d' v v' b buf buf' n
      → ReadCall (words_of ss) (words_of (spread_to ss r (few (length ss)))) d d' v v' b buf buf' n
  records_read r {d} {d'} {v} {v'} {b} {buf} {buf'} {n} =
      records_call r _ (λ w w' m. ReadCall w w' d d' v v' b buf buf' m) n
      (λ w' l e k. refused (λ f. crowd l f.sound) (e, k.0, k.1, k.2)) (λ w'. read_statuses)

  write_statuses : {w' d d' v v' : List ℕ} {b : ℕ} {buf : List ℕ} {n : ℕ} → length w' ≡ 3 * length ss
      → WriteCall (words_of ss) w' d d' v v' b buf n → (i : ℕ) → i < length ss → status_at w' i ≤ 2
  write_statuses l (done f k) = sound_statuses l k.0 (write_sound f)
  write_statuses l (refused f k) = own_statuses k.0

  pub records_write : (r : Plain) {d d' v v' : List ℕ} {b : ℕ} {buf : List ℕ} {n : ℕ} → PlainWrite (load_to ss (few (length ss))) r d d' v v' b buf n
      → WriteCall (words_of ss) (words_of (spread_to ss r (few (length ss)))) d d' v v' b buf n
  records_write r {d} {d'} {v} {v'} {b} {buf} {n} =
      records_call r _ (λ w w' m. WriteCall w w' d d' v v' b buf m) n
      (λ w' l e k. refused (λ f. crowd l f.sound) (e, k.0, k.1)) (λ w'. write_statuses)

  sync_statuses : {w' d v v' : List ℕ} {n : ℕ} → length w' ≡ 3 * length ss
      → SyncCall (words_of ss) w' d v v' n → (i : ℕ) → i < length ss → status_at w' i ≤ 2
  sync_statuses {w'} {d} {v} l (done f k) = sound_statuses l k.0 (sync_sound {v' = v} refl f)
  sync_statuses l (refused f k) = own_statuses k.0

  pub records_sync : (r : Plain) {d v v' : List ℕ} {n : ℕ} → PlainSync (load_to ss (few (length ss))) r d v v' n
      → SyncCall (words_of ss) (words_of (spread_to ss r (few (length ss)))) d v v' n
  records_sync r {d} {v} {v'} {n} =
      records_call r _ (λ w w' m. SyncCall w w' d v v' m) n
      (λ w' l e k. refused (λ f. crowd l f) (e, k)) (λ w'. sync_statuses)
