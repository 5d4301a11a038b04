-- Records and words say the same: what a call over the words of a list of slots leaves, said of the slots. Assumes nothing.
use mathlib.Core.Path.{◌≡◌, refl, sym, ap, ◌∙◌, subst}
use Prim.Native.Nat.{ℕ, zero, suc, ◌+◌, ◌*◌, ◌/◌, ◌%◌, ◌<◌, ◌≤◌}
use native.Mathlib.Omega.{arith}
use native.Mathlib.Decide.{ℕ_discrete}
use mathlib.Core.List.{List, [], ◌∷◌}
use lib.ListN.{length, get_or, set, take, length-set, length-replicate}
use lib.Seq.{get_or-set_same, get_or-set_other, ext_get_or, get_or-take, length-take-le, set-get_or}
use Rattle.cache_order.specs.Slots.{slots_in, status_at, block_at, place_at}
use Rattle.cache_order.specs.declared.Status.{Status}
use Rattle.cache_order.specs.declared.Status.TheVariants.{Unused, Valid, Dirty}
use Rattle.cache_slots.specs.declared.Slot.{Slot}
use Rattle.cache_slots.specs.declared.Plain.{Plain}
use Rattle.cache_slots.specs.Slots.{none}
use Rattle.cache_order.specs.Status.{status_no, status_by}
use Rattle.cache_slots.specs.Plain.{words_of, blank_of, put_of, slot_of, load_to, spread_to}
use Rattle.cache_slots.proofs.PlainLaws.{spread_length}

-- ---- the words of a list of slots

pub words-length : (ss : List Slot) → length (words_of ss) ≡ 3 * length ss
unfolding words_of
words-length [] = refl
words-length (s ∷ ss) = let e = words-length ss in omega arith

pub words_slots : (ss : List Slot) → slots_in (words_of ss) ≡ length ss
words_slots ss = let e = words-length ss in omega arith

pub words_status : (ss : List Slot) (i : ℕ) → i < length ss → status_at (words_of ss) i ≡ status_no (get_or ss i none).status
unfolding words_of
words_status [] i l = absurd (omega arith)
words_status (s ∷ ss) zero l = refl
words_status (s ∷ ss) (suc i) l =
    let e : 3 * suc i ≡ suc (suc (suc (3 * i))) = omega arith in
    ap (λ (k : ℕ). get_or (words_of (s ∷ ss)) k 0) e ∙ words_status ss i (omega arith)

pub words-block : (ss : List Slot) (i : ℕ) → i < length ss → block_at (words_of ss) i ≡ (get_or ss i none).block
unfolding words_of
words-block [] i l = absurd (omega arith)
words-block (s ∷ ss) zero l = refl
words-block (s ∷ ss) (suc i) l =
    let e : 3 * suc i + 1 ≡ suc (suc (suc (3 * i + 1))) = omega arith in
    ap (λ (k : ℕ). get_or (words_of (s ∷ ss)) k 0) e ∙ words-block ss i (omega arith)

pub words-place : (ss : List Slot) (i : ℕ) → i < length ss → place_at (words_of ss) i ≡ (get_or ss i none).order
unfolding words_of
words-place [] i l = absurd (omega arith)
words-place (s ∷ ss) zero l = refl
words-place (s ∷ ss) (suc i) l =
    let e : 3 * suc i + 2 ≡ suc (suc (suc (3 * i + 2))) = omega arith in
    ap (λ (k : ℕ). get_or (words_of (s ∷ ss)) k 0) e ∙ words-place ss i (omega arith)

-- two lists of n slots that have the same three words each
pub same_slots : (n : ℕ) (x y : List ℕ) → length x ≡ 3 * n → length y ≡ 3 * n → ((i : ℕ) → i < n → status_at x i ≡ status_at y i)
    → ((i : ℕ) → i < n → block_at x i ≡ block_at y i) → ((i : ℕ) → i < n → place_at x i ≡ place_at y i) → x ≡ y
same_slots n x y a b s t u = ext_get_or 0 x y (a ∙ sym b) (λ q l. at q (omega arith))
  where
    at : (q : ℕ) → q < 3 * n → get_or x q 0 ≡ get_or y q 0
    at q l = go (ℕ_discrete (q % 3) 0) (ℕ_discrete (q % 3) 1)
      where
        go : Dec (q % 3 ≡ 0) → Dec (q % 3 ≡ 1) → get_or x q 0 ≡ get_or y q 0
        go (yes e) f = let k : q ≡ 3 * (q / 3) = omega arith in subst (λ (z : ℕ). get_or x z 0 ≡ get_or y z 0) (sym k) (s (q / 3) (omega arith))
        go (no e) (yes f) = let k : q ≡ 3 * (q / 3) + 1 = omega arith in subst (λ (z : ℕ). get_or x z 0 ≡ get_or y z 0) (sym k) (t (q / 3) (omega arith))
        go (no e) (no f) = let k : q ≡ 3 * (q / 3) + 2 = omega arith in subst (λ (z : ℕ). get_or x z 0 ≡ get_or y z 0) (sym k) (u (q / 3) (omega arith))

-- ---- statuses

status_back : (s : Status) → status_by (status_no s) ≡ s
status_back Unused = refl
status_back Valid = refl
status_back Dirty = refl

pub status_small : (s : Status) → status_no s ≤ 2
status_small Unused = omega arith
status_small Valid = omega arith
status_small Dirty = omega arith

number_back : (x : ℕ) → x ≤ 2 → status_no (status_by x) ≡ x
number_back zero l = refl
number_back (suc zero) l = refl
number_back (suc (suc zero)) l = refl
number_back (suc (suc (suc x))) l = absurd (omega arith)

-- ---- what is loaded

-- the words of the first k slots
pub record Loaded (ss : List Slot) (k : ℕ) (a : Plain) : Type 0 where
  pub long : length a.words ≡ 192
  pub counted : a.count ≡ length ss
  pub slot : (i : ℕ) → i < k → slot_of a i ≡ get_or ss i none
  pub status : (i : ℕ) → i < k → status_at a.words i ≡ status_no (get_or ss i none).status
  pub block : (i : ℕ) → i < k → block_at a.words i ≡ (get_or ss i none).block
  pub place : (i : ℕ) → i < k → place_at a.words i ≡ (get_or ss i none).order

-- one slot more
module _ (w : List ℕ) (k s b p : ℕ) (l : 3 * k + 3 ≤ length w) where
  abbrev put3 : List ℕ
  put3 = set (set (set w (3 * k) s) (3 * k + 1) b) (3 * k + 2) p

  put_length : length put3 ≡ length w
  put_length = length-set (set (set w (3 * k) s) (3 * k + 1) b) (3 * k + 2) p ∙ length-set (set w (3 * k) s) (3 * k + 1) b ∙ length-set w (3 * k) s

  put_status : status_at put3 k ≡ s
  put_status =
      get_or-set_other (set (set w (3 * k) s) (3 * k + 1) b) (3 * k + 2) (3 * k) p 0 (λ e. omega arith)
      ∙ get_or-set_other (set w (3 * k) s) (3 * k + 1) (3 * k) b 0 (λ e. omega arith)
      ∙ get_or-set_same w (3 * k) s 0 (omega arith)

  put_block : block_at put3 k ≡ b
  put_block =
      get_or-set_other (set (set w (3 * k) s) (3 * k + 1) b) (3 * k + 2) (3 * k + 1) p 0 (λ e. omega arith)
      ∙ get_or-set_same (set w (3 * k) s) (3 * k + 1) b 0 (omega (arith, length-set w (3 * k) s))

  put_place : place_at put3 k ≡ p
  put_place =
      get_or-set_same (set (set w (3 * k) s) (3 * k + 1) b) (3 * k + 2) p 0 (omega (arith, length-set (set w (3 * k) s) (3 * k + 1) b, length-set w (3 * k) s))

  put_off : (q : ℕ) → (3 * k ≤ q → q < 3 * k + 3 → ⊥) → get_or put3 q 0 ≡ get_or w q 0
  put_off q h =
      get_or-set_other (set (set w (3 * k) s) (3 * k + 1) b) (3 * k + 2) q p 0 (λ e. h (omega arith) (omega arith))
      ∙ get_or-set_other (set w (3 * k) s) (3 * k + 1) q b 0 (λ e. h (omega arith) (omega arith))
      ∙ get_or-set_other w (3 * k) q s 0 (λ e. h (omega arith) (omega arith))

pub loaded : (ss : List Slot) (k : ℕ) → k ≤ 64 → Loaded ss k (load_to ss k)
unfolding load_to blank_of put_of slot_of
loaded ss zero l =
    record {
      long = length-replicate {A = ℕ} 192 0;
      counted = refl;
      slot = λ i h. absurd (omega arith);
      status = λ i h. absurd (omega arith);
      block = λ i h. absurd (omega arith);
      place = λ i h. absurd (omega arith);
    }
loaded ss (suc k) l = go (loaded ss k (omega arith))
  where
    x : Slot
    x = get_or ss k none

    go : Loaded ss k (load_to ss k) → Loaded ss (suc k) (put_of (load_to ss k) k (get_or ss k none))
    go h =
        record {
          long = put_length (load_to ss k).words k _ _ _ room ∙ h.long;
          counted = h.counted;
          slot = λ i z. slot i z;
          status = λ i z. status i z (ℕ_discrete i k);
          block = λ i z. block i z (ℕ_discrete i k);
          place = λ i z. place i z (ℕ_discrete i k);
        }
      where
        room : 3 * k + 3 ≤ length (load_to ss k).words
        room = omega (arith, h.long)

        status : (i : ℕ) → i < suc k → Dec (i ≡ k)
            → status_at (put_of (load_to ss k) k (get_or ss k none)).words i ≡ status_no (get_or ss i none).status
        status i z (yes e) = rw e (put_status (load_to ss k).words k _ _ _ room)
        status i z (no m) = put_off (load_to ss k).words k _ _ _ room (3 * i) (λ p q. m (omega arith)) ∙ h.status i (omega arith)

        block : (i : ℕ) → i < suc k → Dec (i ≡ k) → block_at (put_of (load_to ss k) k (get_or ss k none)).words i ≡ (get_or ss i none).block
        block i z (yes e) = rw e (put_block (load_to ss k).words k _ _ _ room)
        block i z (no m) = put_off (load_to ss k).words k _ _ _ room (3 * i + 1) (λ p q. m (omega arith)) ∙ h.block i (omega arith)

        place : (i : ℕ) → i < suc k → Dec (i ≡ k) → place_at (put_of (load_to ss k) k (get_or ss k none)).words i ≡ (get_or ss i none).order
        place i z (yes e) = rw e (put_place (load_to ss k).words k _ _ _ room)
        place i z (no m) = put_off (load_to ss k).words k _ _ _ room (3 * i + 2) (λ p q. m (omega arith)) ∙ h.place i (omega arith)

        slot : (i : ℕ) → i < suc k → slot_of (put_of (load_to ss k) k (get_or ss k none)) i ≡ get_or ss i none
        slot i z =
            let a = status i z (ℕ_discrete i k) in
            let b = block i z (ℕ_discrete i k) in
            let c = place i z (ℕ_discrete i k) in
            rw (a, b, c, status_back (get_or ss i none).status) refl

-- ---- what is spread

pub spread_at : (ss : List Slot) (a : Plain) (k i : ℕ) → k ≤ length ss → i < k → get_or (spread_to ss a k) i none ≡ slot_of a i
unfolding spread_to
spread_at ss a zero i l h = absurd (omega arith)
spread_at ss a (suc k) i l h = go (ℕ_discrete i k) (λ z. spread_at ss a k i (omega arith) z)
  where
    go : Dec (i ≡ k) → (i < k → get_or (spread_to ss a k) i none ≡ slot_of a i)
        → get_or (set (spread_to ss a k) k (slot_of a k)) i none ≡ slot_of a i
    go (yes e) ih =
        rw e (get_or-set_same (spread_to ss a k) k (slot_of a k) none (omega (arith, spread_length ss a k)))
    go (no m) ih = get_or-set_other (spread_to ss a k) k i (slot_of a k) none m ∙ ih (omega arith)

-- the slots that are there are spread: nothing changes
pub spread_same : (ss : List Slot) (a : Plain) (k : ℕ) → ((i : ℕ) → i < k → slot_of a i ≡ get_or ss i none) → spread_to ss a k ≡ ss
unfolding spread_to
spread_same ss a zero h = refl
spread_same ss a (suc k) h =
    rw (spread_same ss a k (λ i l. h i (omega arith)), h k (omega arith)) (set-get_or ss k none)

-- the words that are spread are the words of the slots
pub spread_words : (ss : List Slot) (a : Plain) → length ss ≤ 64 → length a.words ≡ 192
    → ((i : ℕ) → i < length ss → status_at a.words i ≤ 2) → words_of (spread_to ss a (length ss)) ≡ take (3 * length ss) a.words
unfolding slot_of
spread_words ss a l w s =
    let n = spread_length ss a (length ss) in
    let x = words-length (spread_to ss a (length ss)) in
    same_slots (length ss) _ _ (omega arith) (length-take-le (3 * length ss) a.words (omega arith))
    (λ i h. words_status (spread_to ss a (length ss)) i (omega arith)
    ∙ ap (λ (z : Slot). status_no z.status) (spread_at ss a (length ss) i (omega arith) h)
    ∙ number_back (status_at a.words i) (s i h)
    ∙ sym (get_or-take (3 * length ss) a.words (3 * i) 0 (omega arith)))
    (λ i h. words-block (spread_to ss a (length ss)) i (omega arith)
    ∙ ap (λ (z : Slot). z.block) (spread_at ss a (length ss) i (omega arith) h)
    ∙ sym (get_or-take (3 * length ss) a.words (3 * i + 1) 0 (omega arith)))
    (λ i h. words-place (spread_to ss a (length ss)) i (omega arith)
    ∙ ap (λ (z : Slot). z.order) (spread_at ss a (length ss) i (omega arith) h)
    ∙ sym (get_or-take (3 * length ss) a.words (3 * i + 2) 0 (omega arith)))

-- the words that are loaded are the words of the slots
pub load_words : (ss : List Slot) → length ss ≤ 64 → take (3 * length ss) (load_to ss (length ss)).words ≡ words_of ss
load_words ss l =
    let h = loaded ss (length ss) l in
    let w = h.long in
    let x = words-length ss in
    same_slots (length ss) _ _ (length-take-le (3 * length ss) (load_to ss (length ss)).words (omega arith)) x
    (λ i z. get_or-take (3 * length ss) (load_to ss (length ss)).words (3 * i) 0 (omega arith) ∙ h.status i z ∙ sym (words_status ss i z))
    (λ i z. get_or-take (3 * length ss) (load_to ss (length ss)).words (3 * i + 1) 0 (omega arith) ∙ h.block i z ∙ sym (words-block ss i z))
    (λ i z. get_or-take (3 * length ss) (load_to ss (length ss)).words (3 * i + 2) 0 (omega arith) ∙ h.place i z ∙ sym (words-place ss i z))
