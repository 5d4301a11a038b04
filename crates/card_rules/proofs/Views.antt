-- Laws of the views of a card: where a file's blocks stand, how many a file owns, which blocks an inode uses, a directory's children, a file's
-- bytes. Above this file nobody unfolds a view. Assumes nothing.
use mathlib.Core.Path.{◌≡◌, refl, sym, ap, ◌∙◌}
use mathlib.Core.List.{List}
use mathlib.Core.Logic.{◌⊎◌, ⊎_elim}
use Prim.Native.Nat.{ℕ, zero, suc, ◌+◌, ◌-◌, ◌*◌, ◌/◌, ◌%◌, ◌≤◌, ◌<◌}
use native.Mathlib.Omega.{arith}
use native.Mathlib.Decide.{dec_lt, ℕ_discrete}
use borrow.Author.Tests.{lt-ltb, le-ltb, eq-eqb, ne_eqb}
use lib.Dec.{ltb}
use lib.ListN.{length, get_or}
use lib.Seq.{ext_get_or}
use Rattle.words.specs.Words.{pick, byte, word}
use Rattle.words.specs.Sums.{δ, sum_to, sum_on}
use Rattle.words.proofs.Sums.{δ_same, sum_to_zero}
use Rattle.card_layout.specs.Super.{maps}
use Rattle.card_layout.specs.Inode.{kind, count, direct, indirect, double}
use Rattle.card_layout.specs.Slots.{slot_of, seconds, owned}
use Rattle.card_layout.specs.Entry.{upto_nul}
use Rattle.card_rules.specs.View.{slot, second, data_at, file_byte, file_bytes, entries, entry, name, kids, owns, uses}

-- ---- where the blocks of a file stand

module _ (img : List ℕ) (n i : ℕ) where
  pub data_direct : i < 12 → data_at img n i ≡ direct img n i
  unfolding data_at slot_of
  data_direct l = simp (lt-ltb i 12 l)

  pub data_indirect : 12 ≤ i → i < 1036 → data_at img n i ≡ slot img (indirect img n) (i - 12)
  unfolding data_at slot_of
  data_indirect a l = simp (le-ltb i 12 a, lt-ltb i 1036 l)

  pub data_double : 1036 ≤ i → i < 1049612 → data_at img n i ≡ slot img (second img n ((i - 1036) / 1024)) ((i - 1036) % 1024)
  unfolding data_at slot_of
  data_double a l = simp (le-ltb i 12 (omega arith), le-ltb i 1036 a, lt-ltb i 1049612 l)

  pub data_past : 1049612 ≤ i → data_at img n i ≡ 0
  unfolding data_at slot_of
  data_past a = simp (le-ltb i 12 (omega arith), le-ltb i 1036 (omega arith), le-ltb i 1049612 a)

-- ---- how many blocks a file of b blocks has: pointer blocks of the second level, and all

pub seconds_none : (c : ℕ) → c < 1036 → seconds c ≡ 0
unfolding seconds
seconds_none c l = simp (lt-ltb c 1036 l)

pub seconds_some : (c : ℕ) → 1036 ≤ c → seconds c ≡ 1 + (c - 1036) / 1024
unfolding seconds
seconds_some c a = simp (le-ltb c 1036 a)

-- a pointer block is there for each block of data that is reached through it
pub seconds_reach : (c i : ℕ) → i < c → 1036 ≤ i → (i - 1036) / 1024 < seconds c
seconds_reach c i l a = omega (arith, seconds_some c (omega arith))

pub seconds_many : (c : ℕ) → 0 < seconds c → 1036 ≤ c
seconds_many c h = go (dec_lt c 1036)
  where
    go : Dec (c < 1036) → 1036 ≤ c
    go (yes l) = absurd (omega (arith, seconds_none c l))
    go (no l) = omega arith

pub seconds_mono : (b c : ℕ) → b ≤ c → seconds b ≤ seconds c
seconds_mono b c h = go (dec_lt b 1036)
  where
    go : Dec (b < 1036) → seconds b ≤ seconds c
    go (yes l) = omega (arith, seconds_none b l)
    go (no l) = omega (arith, seconds_some b (omega arith), seconds_some c (omega arith))

pub owned_few : (b : ℕ) → b < 12 → owned b ≡ b
unfolding owned
owned_few b l = simp (lt-ltb b 12 l, lt-ltb b 1036 (omega arith)) (omega arith)

pub owned_mid : (b : ℕ) → 12 ≤ b → b < 1036 → owned b ≡ b + 1
unfolding owned
owned_mid b a l = simp (le-ltb b 12 a, lt-ltb b 1036 l) (omega arith)

pub owned_many : (b : ℕ) → 1036 ≤ b → owned b ≡ b + 2 + seconds b
unfolding owned
owned_many b a = simp (le-ltb b 12 (omega arith), le-ltb b 1036 a) (omega (arith, seconds_some b a))

-- the three ranges of a block count
pub ranges : (b : ℕ) → (b < 12) ⊎ (((12 ≤ b) × (b < 1036)) ⊎ (1036 ≤ b))
ranges b = go (dec_lt b 12) (dec_lt b 1036)
  where
    go : Dec (b < 12) → Dec (b < 1036) → (b < 12) ⊎ (((12 ≤ b) × (b < 1036)) ⊎ (1036 ≤ b))
    go (yes l) q = ◌⊎◌.inl l
    go (no l) (yes m) = ◌⊎◌.inr (◌⊎◌.inl (omega arith, m))
    go (no l) (no m) = ◌⊎◌.inr (◌⊎◌.inr (omega arith))

-- an optional block counts as 0 or 1, by the count
pub none_below : (c m x : ℕ) → c < m → pick (ltb c m) 0 x ≡ 0
none_below c m x l = simp (lt-ltb c m l)

pub some_from : (c m x : ℕ) → m ≤ c → pick (ltb c m) 0 x ≡ x
some_from c m x a = simp (le-ltb c m a)

-- data, indirect, double indirect, second level: as `owns` has them
pub owned_parts : (b : ℕ) → owned b ≡ b + pick (ltb b 12) 0 1 + pick (ltb b 1036) 0 1 + seconds b
owned_parts b =
    ⊎_elim
    (λ l. omega (arith, owned_few b l, none_below b 12 1 l, none_below b 1036 1 (omega arith), seconds_none b (omega arith)))
    (⊎_elim
    (λ w. omega (arith, owned_mid b w.0 w.1, some_from b 12 1 w.0, none_below b 1036 1 w.1, seconds_none b w.1))
    (λ a. omega (arith, owned_many b a, some_from b 12 1 (omega arith), some_from b 1036 1 a)))
    (ranges b)

pub owned_least : (b : ℕ) → b ≤ owned b
owned_least b = omega (arith, owned_parts b)

pub owned_mono : (b c : ℕ) → b ≤ c → owned b ≤ owned c
owned_mono b c h = omega (arith, owned_parts b, owned_parts c, seconds_mono b c h, from 12, from 1036)
  where
    -- what b has, c has too
    from : (m : ℕ) → pick (ltb b m) 0 1 ≤ pick (ltb c m) 0 1
    from m = go (dec_lt b m)
      where
        go : Dec (b < m) → pick (ltb b m) 0 1 ≤ pick (ltb c m) 0 1
        go (yes l) = omega (arith, none_below b m 1 l)
        go (no l) = omega (arith, some_from b m 1 (omega arith), some_from c m 1 (omega arith))

-- ---- which blocks an inode uses

module _ (img : List ℕ) (n b : ℕ) where
  abbrev pub own_indirect : ℕ
  own_indirect = pick (ltb (count img n) 12) 0 (δ (indirect img n) b)

  abbrev pub own_double : ℕ
  own_double = pick (ltb (count img n) 1036) 0 (δ (double img n) b)

  abbrev pub own_seconds : ℕ
  own_seconds = sum_to (λ j. δ (second img n j) b) (seconds (count img n))

  abbrev pub own_data : ℕ
  own_data = sum_to (λ i. δ (data_at img n i) b) (count img n)

  pub owns_parts : owns img n b ≡ δ n b + own_indirect + own_double + own_seconds + own_data
  unfolding owns
  owns_parts = refl

  no_seconds : count img n < 1036 → own_seconds ≡ 0
  no_seconds l = rw (seconds_none (count img n) l, sum_to_zero)

  -- the parts that there are, by the count
  pub owns_few : count img n < 12 → owns img n b ≡ δ n b + own_data
  owns_few l =
      omega (
        arith,
        owns_parts,
        none_below (count img n) 12 (δ (indirect img n) b) l,
        none_below (count img n) 1036 (δ (double img n) b) (omega arith),
        no_seconds (omega arith),
      )

  pub owns_mid : 12 ≤ count img n → count img n < 1036 → owns img n b ≡ δ n b + δ (indirect img n) b + own_data
  owns_mid a l =
      omega (
        arith,
        owns_parts,
        some_from (count img n) 12 (δ (indirect img n) b) a,
        none_below (count img n) 1036 (δ (double img n) b) l,
        no_seconds (omega arith),
      )

  pub owns_many : 1036 ≤ count img n → owns img n b ≡ δ n b + δ (indirect img n) b + δ (double img n) b + own_seconds + own_data
  owns_many a =
      omega (
        arith,
        owns_parts,
        some_from (count img n) 12 (δ (indirect img n) b) (omega arith),
        some_from (count img n) 1036 (δ (double img n) b) a,
      )

-- an inode uses its own block
pub owns_own : (img : List ℕ) (n : ℕ) → 0 < owns img n n
owns_own img n = omega (arith, owns_parts img n n, δ_same n n refl)

-- which blocks are in use: superblock, map, inodes
pub uses_parts : (img l : List ℕ) (b : ℕ) → uses img l b ≡ δ 0 b + sum_to (λ i. δ (2 + i) b) (maps img) + sum_on (λ n. owns img n b) l
unfolding uses
uses_parts img l b = refl

-- ---- a directory's children

module _ (img : List ℕ) (n : ℕ) where
  pub kids_of_dir : kind img n ≡ 2 → kids img n ≡ entries img n - 2
  unfolding kids
  kids_of_dir e = simp (eq-eqb (kind img n) 2 e)

  pub kids_of_other : (kind img n ≡ 2 → ⊥) → kids img n ≡ 0
  unfolding kids
  kids_of_other d = simp (ne_eqb (kind img n) 2 d)

  -- what has a child is a directory, and the child is one of its entries
  pub kids_dir : (j : ℕ) → j < kids img n → (kind img n ≡ 2) × (2 + j < entries img n)
  kids_dir j l = go (ℕ_discrete (kind img n) 2)
    where
      go : Dec (kind img n ≡ 2) → (kind img n ≡ 2) × (2 + j < entries img n)
      go (yes e) = (e, omega (arith, kids_of_dir e))
      go (no d) = absurd (omega (arith, kids_of_other d))

-- ---- the bytes of a file, and the entries in them

pub file_byte_at : (img : List ℕ) (n o : ℕ) → file_byte img n o ≡ byte img (4096 * data_at img n (o / 4096) + o % 4096)
unfolding file_byte
file_byte_at img n o = refl

pub entry_at : (img : List ℕ) (n k : ℕ) → entry img n k ≡ word (file_bytes img n (260 * k) 4) 0
unfolding entry
entry_at img n k = refl

pub name_at : (img : List ℕ) (n k : ℕ) → name img n k ≡ upto_nul (file_bytes img n (260 * k + 4) 256)
unfolding name
name_at img n k = refl

pub length-file_bytes : (img : List ℕ) (n o k : ℕ) → length (file_bytes img n o k) ≡ k
unfolding file_bytes
length-file_bytes img n o zero = refl
length-file_bytes img n o (suc k) = ap suc (length-file_bytes img n (o + 1) k)

pub get_or-file_bytes : (img : List ℕ) (n o k i : ℕ) → i < k → get_or (file_bytes img n o k) i 0 ≡ file_byte img n (o + i)
unfolding file_bytes
get_or-file_bytes img n o zero i l = absurd (omega arith)
get_or-file_bytes img n o (suc k) zero l = ap (file_byte img n) (let e : o ≡ o + 0 = omega arith in e)
get_or-file_bytes img n o (suc k) (suc i) l =
    get_or-file_bytes img n (o + 1) k i (omega arith) ∙ ap (file_byte img n) (let e : o + 1 + i ≡ o + suc i = omega arith in e)

-- k bytes of one file on one card and k bytes of a file on another are the same where each byte is; so are numbers and names of entries
module _ (img img' : List ℕ) (n n' : ℕ) where
  pub file_bytes_cong : (o o' k : ℕ) → ((i : ℕ) → i < k → file_byte img n (o + i) ≡ file_byte img' n' (o' + i))
      → file_bytes img n o k ≡ file_bytes img' n' o' k
  file_bytes_cong o o' k h =
      ext_get_or 0 (file_bytes img n o k) (file_bytes img' n' o' k)
      (length-file_bytes img n o k ∙ sym (length-file_bytes img' n' o' k))
      (λ i l.
      let b : i < k = omega (arith, length-file_bytes img n o k) in
      get_or-file_bytes img n o k i b ∙ h i b ∙ sym (get_or-file_bytes img' n' o' k i b))

  pub entry_cong : (k k' : ℕ) → ((i : ℕ) → i < 4 → file_byte img n (260 * k + i) ≡ file_byte img' n' (260 * k' + i)) → entry img n k ≡ entry img' n' k'
  unfolding entry
  entry_cong k k' h = ap (λ (x : List ℕ). word x 0) (file_bytes_cong (260 * k) (260 * k') 4 h)

  pub name_cong : (k k' : ℕ) → ((i : ℕ) → i < 256 → file_byte img n (260 * k + 4 + i) ≡ file_byte img' n' (260 * k' + 4 + i)) → name img n k ≡ name img' n' k'
  unfolding name
  name_cong k k' h = ap upto_nul (file_bytes_cong (260 * k + 4) (260 * k' + 4) 256 h)
