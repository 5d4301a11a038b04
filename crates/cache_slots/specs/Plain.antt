-- The slots as plain words and back: a record is three words, as in `cache_order`.
use Rattle.std.specs.Prelude.{ℕ, zero, suc, ◌+◌, ◌*◌, ◌≤◌, ◌<◌, ◌≡◌, List, [], ◌∷◌, length, get_or, set, take, replicate, ltb}
use Rattle.words.specs.Words.{pick}
use Rattle.cache_order.specs.Status.{status_no, status_by}
use Rattle.cache.specs.Calls.{ReadCall, WriteCall, SyncCall}
use Rattle.cache_slots.specs.declared.Slot.{Slot}
use Rattle.cache_slots.specs.declared.Plain.{Plain}
use Rattle.cache_slots.specs.Slots.{none}

-- the words of a list of slots
unfoldable pub words_of : List Slot → List ℕ
words_of [] = []
words_of (s ∷ ss) = status_no s.status ∷ s.block ∷ s.order ∷ words_of ss

-- at most 64
unfoldable pub few : ℕ → ℕ
few n = pick (ltb n 64) n 64

unfoldable pub blank_of : ℕ → Plain
blank_of n = record { words = replicate 192 0; count = n }

-- slot i has the words of s
unfoldable pub put_of : Plain → ℕ → Slot → Plain
put_of a i s =
    record {
      words = set (set (set a.words (3 * i) (status_no s.status)) (3 * i + 1) s.block) (3 * i + 2) s.order;
      count = a.count;
    }

-- the record that slot i's words say
unfoldable pub slot_of : Plain → ℕ → Slot
slot_of a i =
    record { status = status_by (get_or a.words (3 * i) 0); block = get_or a.words (3 * i + 1) 0; order = get_or a.words (3 * i + 2) 0 }

-- the words of the first k slots
unfoldable pub load_to : List Slot → ℕ → Plain
load_to ss zero = blank_of (length ss)
load_to ss (suc k) = put_of (load_to ss k) k (get_or ss k none)

-- the first k slots are what the words say
unfoldable pub spread_to : List Slot → Plain → ℕ → List Slot
spread_to ss a zero = ss
spread_to ss a (suc k) = set (spread_to ss a k) k (slot_of a k)

-- a call over the words of a, which leaves r and answers n: more than 64 slots are refused, and change nothing
pub record PlainCall (a r : Plain) (Nothing : Type 0) (On : List ℕ → List ℕ → ℕ → Type 0) (n : ℕ) : Type 0 where
  pub long : length r.words ≡ length a.words
  pub counted : r.count ≡ a.count
  pub many : 64 < a.count → (r.words ≡ a.words) × (n ≡ 12) × Nothing
  pub call : a.count ≤ 64 → On (take (3 * a.count) a.words) (take (3 * a.count) r.words) n

abbrev pub PlainRead : (a r : Plain) (d d' v v' : List ℕ) → ℕ → (buf buf' : List ℕ) → ℕ → Type 0
PlainRead a r d d' v v' b buf buf' n =
    PlainCall a r ((d' ≡ d) × (v' ≡ v) × (buf' ≡ buf)) (λ w w' m. ReadCall w w' d d' v v' b buf buf' m) n

abbrev pub PlainWrite : (a r : Plain) (d d' v v' : List ℕ) → ℕ → List ℕ → ℕ → Type 0
PlainWrite a r d d' v v' b buf n =
    PlainCall a r ((d' ≡ d) × (v' ≡ v)) (λ w w' m. WriteCall w w' d d' v v' b buf m) n

abbrev pub PlainSync : (a r : Plain) (d v v' : List ℕ) → ℕ → Type 0
PlainSync a r d v v' n = PlainCall a r (v' ≡ v) (λ w w' m. SyncCall w w' d v v' m) n
