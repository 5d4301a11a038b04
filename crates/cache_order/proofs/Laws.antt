-- Laws of the search for a slot, and of what is sound on a device. Assumes nothing.
use Prim.Native.Nat.{ℕ, zero, suc, ◌+◌, ◌%◌, ◌≤◌, ◌<◌}
use mathlib.Core.Path.{◌≡◌, ap, ◌∙◌}
use mathlib.Core.Bool.{Bool, true, false}
use mathlib.Core.List.{List}
use mathlib.Core.Logic.{◌≢◌}
use native.Mathlib.Omega.{arith}
use native.Mathlib.Decide.{dec_lt, ℕ_discrete}
use borrow.Author.Tests.{lt-ltb, le-ltb}
use lib.ListN.{length, get_or, set}
use lib.Seq.{get_or-set_same, get_or-set_other}
use lib.Dec.{ltb}
use Rattle.words.specs.Words.{byte, pick}
use Rattle.words.specs.Runs.{puts}
use Rattle.words.proofs.Runs.{puts_more, byte-puts_off}
use Rattle.cache_order.specs.Slots.{slots_in, status_at, block_at, place_at, Alone, Sound, Marked}
use Rattle.cache_order.specs.Order.{hit_of, spare_of, older_of, oldest, room_of, slot_for}

-- a turn of a loop that changes by g the words at addr
pub change_more : (w x : List ℕ) (addr g : ℕ → ℕ) (i v : ℕ) → ((k : ℕ) → k < i → addr i ≢ addr k)
    → x ≡ puts w addr (λ k. g (byte w (addr k))) i → v ≡ g (byte x (addr i)) → set x (addr i) v ≡ puts w addr (λ k. g (byte w (addr k))) (i + 1)
change_more w x addr g i v off e f =
    ap (λ (y : ℕ). set x (addr i) y) (f ∙ ap (λ (y : List ℕ). g (byte y (addr i))) e ∙ ap g (byte-puts_off w addr _ i (addr i) off))
    ∙ ap (λ (y : List ℕ). set y (addr i) (g (byte w (addr i)))) e
    ∙ puts_more w addr _ i

pub older_below : (w : List ℕ) (i j n : ℕ) → i < n → j < n → older_of w i j < n
unfolding older_of
older_below w i j n a b = go (ltb (place_at w i) (place_at w j))
  where
    go : (t : Bool) → pick t j i < n
    go true = b
    go false = a

pub oldest_below : (w : List ℕ) (n m : ℕ) → n ≤ m → 0 < m → oldest w n < m
unfolding oldest
oldest_below w zero m l z = z
oldest_below w (suc n) m l z = older_below w (oldest w n) n m (oldest_below w n m (omega arith) z) (omega arith)

pub room_below : (w : List ℕ) → 0 < slots_in w → room_of w < slots_in w
unfolding room_of
room_below w z = go (dec_lt (spare_of w) (slots_in w))
  where
    go : Dec (spare_of w < slots_in w) → pick (ltb (spare_of w) (slots_in w)) (spare_of w) (oldest w (slots_in w)) < slots_in w
    go (yes l) = rw (lt-ltb _ _ l) l
    go (no m) = rw (le-ltb (spare_of w) (slots_in w) (omega arith)) (oldest_below w (slots_in w) (slots_in w) (omega arith) z)

pub slot_below : (w : List ℕ) (b : ℕ) → 0 < slots_in w → slot_for w b < slots_in w
unfolding slot_for
slot_below w b z = go (dec_lt (hit_of w b) (slots_in w))
  where
    go : Dec (hit_of w b < slots_in w) → pick (ltb (hit_of w b) (slots_in w)) (hit_of w b) (room_of w) < slots_in w
    go (yes l) = rw (lt-ltb _ _ l) l
    go (no m) = rw (le-ltb (hit_of w b) (slots_in w) (omega arith)) (room_below w z)

-- only the device's length counts
pub sound_device : {w d v v' : List ℕ} → length v' ≡ length v → Sound w d v → Sound w d v'
sound_device {w} {d} {v} {v'} e s =
    record {
      sizes = s.sizes;
      fits = record {
        each = λ i l. record { status = (s.fits.each i l).status; inside = λ u. let h = (s.fits.each i l).inside u in omega arith };
      };
      apart = s.apart;
    }

-- ---- the tables of marks

-- one mark more
marks : (t : List ℕ) (f : ℕ → ℕ) (j : ℕ) → f j < length t → ((k : ℕ) → k < j → get_or t (f k) 0 ≢ 0) → (k : ℕ) → k < j + 1
    → get_or (set t (f j) 1) (f k) 0 ≢ 0
marks t f j l all k h = go (ℕ_discrete (f k) (f j)) (ℕ_discrete k j)
  where
    go : Dec (f k ≡ f j) → Dec (k ≡ j) → get_or (set t (f j) 1) (f k) 0 ≢ 0
    go (yes e) x = rw (e, get_or-set_same t (f j) 1 0 l) (λ z. omega arith)
    go (no m) (yes x) = absurd (m (ap f x))
    go (no m) (no x) = rw (get_or-set_other t (f j) (f k) 1 0 m) (all k (omega arith))

pub marked_none : (p b w : List ℕ) → Marked p b w 0
marked_none p b w = record { place = λ k l. absurd (omega arith); block = λ k l. absurd (omega arith) }

pub marked_more : (p b w : List ℕ) (j : ℕ) → length p ≡ 256 → length b ≡ 1024 → Marked p b w j
    → Marked (set p (place_at w j % 256) 1) (set b (block_at w j % 1024) 1) w (j + 1)
marked_more p b w j x y m =
    record {
      place = marks p (λ k. place_at w k % 256) j (omega arith) m.place;
      block = marks b (λ k. block_at w k % 1024) j (omega arith) m.block;
    }

-- a slot whose entries are free is alone
pub alone_free : (p b w : List ℕ) (j : ℕ) → Marked p b w j → get_or p (place_at w j % 256) 0 ≡ 0
    → (status_at w j ≢ 0 → get_or b (block_at w j % 1024) 0 ≡ 0) → Alone w j
alone_free p b w j m x y =
    record {
      before = λ k l. record {
        places = λ e. m.place k l (ap (λ (z : ℕ). get_or p (z % 256) 0) e ∙ x);
        blocks = λ u t e. m.block k l (ap (λ (z : ℕ). get_or b (z % 1024) 0) e ∙ y t);
      };
    }
