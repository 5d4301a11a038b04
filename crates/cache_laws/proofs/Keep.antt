-- What a call keeps: the slots stay sound, and a block written back leaves the device as it stands for. Assumes nothing.
use Prim.Native.Nat.{ℕ, ◌+◌, ◌-◌, ◌*◌, ◌≤◌, ◌<◌}
use mathlib.Core.Path.{◌≡◌, refl, sym, ◌∙◌, subst}
use mathlib.Core.Logic.{◌≢◌}
use mathlib.Core.Bool.{Bool, true, false}
use mathlib.Core.List.{List}
use native.Mathlib.Omega.{arith}
use native.Mathlib.Decide.{dec_lt, ℕ_discrete}
use borrow.Author.Tests.{eq-eqb, ne_eqb}
use lib.ListN.{length}
use lib.Dec.{eqb}
use Rattle.words.specs.Words.{byte, pick}
use Rattle.words.specs.Inner.{Apart}
use Rattle.words.specs.Runs.{copied}
use Rattle.words.proofs.Runs.{length-copied, byte-copied_off, byte-copied_in}
use Rattle.cache_order.specs.Slots.{slots_in, status_at, block_at, place_at, Inside, Fits, Differ, Sound}
use Rattle.cache_order.specs.Order.{entered}
use Rattle.cache.specs.Effects.{flushed}
use Rattle.cache_laws.proofs.Enter.{entered-length, entered_slots, entered_status, entered_block, entered_place, entered_status_off, entered_block_off, entered_place_off, after_not_first, after_differ}

-- slot i of a sound list, entered for a block of the device that no other slot holds
module _ {w d v : List ℕ} (s : Sound w d v) (i t b : ℕ) (l : i < slots_in w) (small : t ≤ 2) (here : Inside v b)
    (none : (j : ℕ) → j < slots_in w → j ≢ i → status_at w j ≢ 0 → block_at w j ≢ b) where
  fits_entered : (j : ℕ) → j < slots_in w → Fits (entered w i t b) v j
  fits_entered j a = go (ℕ_discrete j i)
    where
      go : Dec (j ≡ i) → Fits (entered w i t b) v j
      go (yes e) =
          record {
            status = rw (e, entered_status w i t b l) small;
            inside = λ u. rw (e, entered_block w i t b l) here;
          }
      go (no m) =
          record {
            status = rw (entered_status_off w i t b l j m) (s.fits.each j a).status;
            inside = λ u. rw (entered_block_off w i t b l j m) ((s.fits.each j a).inside (rw (entered_status_off w i t b l j m) at u));
          }

  -- two slots of the list before, in either order
  differ : (j k : ℕ) → j < slots_in w → k < slots_in w → j ≢ k → Differ w j k
  differ j k a c m = go (dec_lt j k)
    where
      go : Dec (j < k) → Differ w j k
      go (yes z) = (s.apart.each k c).before j z
      go (no z) =
          let x = (s.apart.each j a).before k (omega arith) in
          record { places = λ e. x.places (sym e); blocks = λ u q e. x.blocks q u (sym e) }

  differ_entered : (j k : ℕ) → j < k → k < slots_in w → Differ (entered w i t b) j k
  differ_entered j k a c = go (ℕ_discrete j i) (ℕ_discrete k i)
    where
      go : Dec (j ≡ i) → Dec (k ≡ i) → Differ (entered w i t b) j k
      go (yes e) (yes f) = absurd (omega arith)
      go (yes e) (no m) =
          record {
            places = rw (e, entered_place w i t b l, entered_place_off w i t b l k c m)
                (λ z. after_not_first (place_at w i) (place_at w k) (differ k i c l m).places (sym z));
            blocks = λ u q. rw (e, entered_block w i t b l, entered_block_off w i t b l k m)
                (λ z. none k c m (rw (entered_status_off w i t b l k m) at q) (sym z));
          }
      go (no m) (yes f) =
          record {
            places = rw (f, entered_place w i t b l, entered_place_off w i t b l j (omega arith) m)
                (after_not_first (place_at w i) (place_at w j) (differ j i (omega arith) l m).places);
            blocks = λ u q. rw (f, entered_block w i t b l, entered_block_off w i t b l j m)
                (none j (omega arith) m (rw (entered_status_off w i t b l j m) at u));
          }
      go (no m) (no n) =
          record {
            places = rw (entered_place_off w i t b l j (omega arith) m, entered_place_off w i t b l k c n)
                (after_differ (place_at w i) (place_at w j) (differ j i (omega arith) l m).places (place_at w k)
                (differ k i c l n).places (differ j k (omega arith) c (λ z. omega arith)).places);
            blocks = λ u q. rw (entered_block_off w i t b l j m, entered_block_off w i t b l k n)
                ((differ j k (omega arith) c (λ z. omega arith)).blocks
                (rw (entered_status_off w i t b l j m) at u) (rw (entered_status_off w i t b l k n) at q));
          }

  pub sound_entered : {d' v' : List ℕ} → length d' ≡ length d → length v' ≡ length v → Sound (entered w i t b) d' v'
  sound_entered {d'} {v'} dl vl =
      let n = entered_slots w i t b l in
      let wl = entered-length w i t b l in
      let z = s.sizes in
      record {
        sizes = record { whole = omega arith; two = omega arith; most = omega arith; long = omega arith };
        fits = record {
          each = λ j a. let f = fits_entered j (omega arith) in
              record { status = f.status; inside = λ u. let g = f.inside u in omega arith };
        };
        apart = record { each = λ j a. record { before = λ k c. differ_entered k j c (omega arith) } };
      }

-- ---- a slot written back

pub flushed-length : (w d v : List ℕ) (i : ℕ) → length (flushed w d v i) ≡ length v
unfolding flushed
flushed-length w d v i = go (eqb (status_at w i) 2)
  where
    go : (t : Bool) → length (pick t (copied v (4096 * block_at w i) d (4096 * i) 4096) v) ≡ length v
    go true = length-copied v (4096 * block_at w i) d (4096 * i) 4096
    go false = refl

-- no dirty slot of those in D has byte q of the device
abbrev pub Clear : List ℕ → (ℕ → Type 0) → ℕ → Type 0
Clear w D q = (j : ℕ) → j < slots_in w → D j → status_at w j ≡ 2 → Apart q 1 (4096 * block_at w j) 4096

-- where the device is p but for the dirty slots in D, after slot i is written back it is p but for the others
module _ (w d v p : List ℕ) (D : ℕ → Type 0) (long : length v ≡ length p)
    (rest : (q : ℕ) → Clear w D q → byte v q ≡ byte p q) (i : ℕ) (l : i < slots_in w) (fits : Fits w v i)
    (held : (k : ℕ) → status_at w i ≢ 0 → k < 4096 → byte d (4096 * i + k) ≡ byte p (4096 * block_at w i + k)) where
  -- what is not in slot i's block is in none
  clear_more : (q : ℕ) → (status_at w i ≡ 2 → Apart q 1 (4096 * block_at w i) 4096) → Clear w (λ j. D j × (j ≢ i)) q → Clear w D q
  clear_more q out c j a x e = go (ℕ_discrete j i)
    where
      go : Dec (j ≡ i) → Apart q 1 (4096 * block_at w j) 4096
      go (yes f) = subst (λ (z : ℕ). Apart q 1 (4096 * block_at w z) 4096) (sym f) (out (subst (λ (z : ℕ). status_at w z ≡ 2) f e))
      go (no m) = c j a (x, m) e

  pub flush_rest : (q : ℕ) → Clear w (λ j. D j × (j ≢ i)) q → byte (flushed w d v i) q ≡ byte p q
  unfolding flushed
  flush_rest q c = go (ℕ_discrete (status_at w i) 2)
    where
      at : status_at w i ≡ 2 → Dec (q < 4096 * block_at w i) → Dec (q < 4096 * block_at w i + 4096) → byte (copied v (4096 * block_at w i) d (4096 * i) 4096) q ≡ byte p q
      at e (no a) (yes h) =
          let k = q - 4096 * block_at w i in
          let x : q ≡ 4096 * block_at w i + k = omega arith in
          let f = fits.inside (λ z. omega arith) in
          rw x (byte-copied_in v (4096 * block_at w i) d (4096 * i) 4096 k f (omega arith) ∙ held k (λ z. omega arith) (omega arith))
      at e (yes a) h =
          byte-copied_off v (4096 * block_at w i) d (4096 * i) 4096 q (λ x y. omega arith) ∙ rest q (clear_more q (λ z x y. omega arith) c)
      at e (no a) (no h) =
          byte-copied_off v (4096 * block_at w i) d (4096 * i) 4096 q (λ x y. omega arith) ∙ rest q (clear_more q (λ z x y. omega arith) c)

      go : Dec (status_at w i ≡ 2) → byte (flushed w d v i) q ≡ byte p q
      go (yes e) = rw (eq-eqb (status_at w i) 2 e) (at e (dec_lt q (4096 * block_at w i)) (dec_lt q (4096 * block_at w i + 4096)))
      go (no m) = rw (ne_eqb (status_at w i) 2 m) (rest q (clear_more q (λ z. absurd (m z)) c))
