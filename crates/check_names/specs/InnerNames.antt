-- Inner: the names of a directory, and chains of names of one hash in lent words.
use Rattle.check_names.specs.declared.directory.Scanned.{Scanned}
use Rattle.std.specs.Prelude.{Option, Some, None, ℕ, ◌+◌, ◌-◌, ◌*◌, ◌/◌, ◌%◌, ◌≤◌, ◌<◌, ◌≡◌, Bool, List, [], ◌∷◌, length, get_or}
use Rattle.words.specs.Inner.{When}
use Rattle.card_layout.specs.Sizes.{block_size, entry_size}
use Rattle.card_layout.specs.Inode.{count}
use Rattle.card_layout.specs.Entry.{Name}
use Rattle.card_rules.specs.View.{name, entries}
use Rattle.card_rules.specs.Whole.{Names}
use Rattle.check_names.specs.InnerReading.{Readable}

-- ---- hashes: any function of the name would do, and no law asks more of it

-- a 32-bit number made of a name, on top of a
unfoldable pub hash_on : List ℕ → ℕ → ℕ
hash_on [] a = a
hash_on (x ∷ xs) a = hash_on xs ((a * 2654435761 + x) % 4294967296)

abbrev pub hash : List ℕ → ℕ
hash x = hash_on x 7

-- its high half, kept beside a chain's link
abbrev pub tag : List ℕ → ℕ
tag x = hash x / 65536

-- what a scan of m bytes says of the name x that stands there: its length and its hash, or that its NUL is not among them
abbrev pub Scans : Option Scanned → List ℕ → ℕ → Type 0
Scans (Some s) x m = (s.len ≡ length x) × (s.hash ≡ hash x) × (s.len < m)
Scans None x m = m ≤ length x

-- ---- a window of names: the k entries from lo on, in h chains

-- key x of the window that starts at lo
abbrev pub key_at : List ℕ → ℕ → ℕ → ℕ → List ℕ
key_at img n lo x = name img n (lo + x)

abbrev pub bucket_at : List ℕ → ℕ → ℕ → ℕ → ℕ → ℕ
bucket_at img n h lo x = hash (key_at img n lo x) % h

-- c is 0, or one more than the largest x below k whose bucket is q
pub record Last (b : ℕ → ℕ) (q c k : ℕ) : Type 0 where
  pub low : c ≤ k
  pub hit : 0 < c → b (c - 1) ≡ q
  pub none : (x : ℕ) → c ≤ x → x < k → b x ≡ q → ⊥

-- words 0 to h - 1 are each chain's last key; word h + x holds the key before x in x's chain, and above 16 bits x's own tag
pub record Chains (img : List ℕ) (n : ℕ) (w : List ℕ) (h lo k : ℕ) : Type 0 where
  pub heads : (q : ℕ) → q < h → Last (bucket_at img n h lo) q (get_or w q 0) k
  pub backs : (x : ℕ) → x < k → Last (bucket_at img n h lo) (bucket_at img n h lo x) (get_or w (h + x) 0 % 65536) x
  pub tags : (x : ℕ) → x < k → get_or w (h + x) 0 / 65536 ≡ tag (key_at img n lo x)

-- what looking entry j up in it asks: v is the hash of its name
abbrev pub AloneAsks : List ℕ → List ℕ → ℕ → ℕ → ℕ → ℕ → ℕ → ℕ → Type 0
AloneAsks img w n h lo k j v =
    (0 < h) × (h + k ≤ length w) × (k ≤ 65535) × Chains img n w h lo k × (lo + k ≤ j) × (entry_size * j + entry_size ≤ block_size * count img n)
    × Readable img n × (v ≡ hash (name img n j)) × Name (name img n j)

-- a name differs from those of the k entries from lo on
abbrev pub Alone : List ℕ → ℕ → ℕ → ℕ → List ℕ → Type 0
Alone img n lo k x = (i : ℕ) → i < k → key_at img n lo i ≡ x → ⊥

-- what one window shows of the entries from lo on: each can be stored, and those below lo + m differ from all later ones
pub record Window (img : List ℕ) (n lo m e : ℕ) : Type 0 where
  pub named : (k : ℕ) → lo ≤ k → k < e → Name (name img n k)
  pub apart : (i k : ℕ) → lo ≤ i → i < lo + m → i < k → k < e → name img n i ≡ name img n k → ⊥

-- what looking through a window of m of the e entries asks
abbrev pub WindowAsks : List ℕ → List ℕ → ℕ → ℕ → ℕ → ℕ → ℕ → Type 0
WindowAsks img w n e h m lo =
    (0 < h) × (h + m ≤ length w) × (m ≤ 65535) × (lo < e) × (e ≡ entries img n) × (e < 16777216) × (entry_size * e ≤ block_size * count img n)
    × Readable img n

-- and what looking through all of them asks
abbrev pub NamesAsk : List ℕ → List ℕ → ℕ → ℕ → Type 0
NamesAsk img w n e =
    (16 ≤ length w) × (0 < e) × (e ≡ entries img n) × (e < 16777216) × (entry_size * e ≤ block_size * count img n) × Readable img n

-- what looking through a window answers: that, or that the names are not as rule 6 asks
abbrev pub Windowed : Bool → List ℕ → ℕ → ℕ → ℕ → ℕ → Type 0
Windowed r img n lo m e = When r (Window img n lo m e) (Names img n → ⊥)
