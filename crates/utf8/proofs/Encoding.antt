-- The bytes of numbers: one number by its size, the number read back from the front of a list, and so no two lists of numbers with one encoding. Assumes
-- nothing.
use Prim.Native.Nat.{ℕ, ◌+◌, ◌-◌, ◌*◌, ◌/◌, ◌≤◌, ◌<◌}
use mathlib.Core.Path.{◌≡◌, refl, sym, ap, ◌∙◌}
use mathlib.Core.Bool.{Bool, true, false}
use mathlib.Core.List.{List, [], ◌∷◌, ◌++◌, append_assoc}
use native.Mathlib.Omega.{arith}
use native.Mathlib.Nat.{div-div-eq-div-mul}
use borrow.Author.Tests.{ltb-true, ltb-false, lt-ltb, le-ltb}
use lib.Dec.{ltb}
use lib.ListN.{length, drop, length-append}
use lib.Seq.{drop-append_seam}
use Rattle.words.specs.Words.{byte, pick}
use Rattle.utf8.specs.Utf8.{six, encoding, encodings}

-- ---- one number by its size

pub data Sized (c : ℕ) : List ℕ → Type 0 where
  one : c < 0x80 → Sized c (c ∷ [])
  two : 0x80 ≤ c → c < 0x800 → Sized c ((0xC0 + c / 64) ∷ six c ∷ [])
  three : 0x800 ≤ c → c < 0x10000 → Sized c ((0xE0 + c / 4096) ∷ six (c / 64) ∷ six c ∷ [])
  four : 0x10000 ≤ c → Sized c ((0xF0 + c / 262144) ∷ six (c / 4096) ∷ six (c / 64) ∷ six c ∷ [])

pub sized : (c : ℕ) → Sized c (encoding c)
unfolding encoding
sized c = go (ltb c 0x80) (ltb c 0x800) (ltb c 0x10000) refl refl refl
  where
    go : (p q r : Bool) → ltb c 0x80 ≡ p → ltb c 0x800 ≡ q → ltb c 0x10000 ≡ r
        → Sized c (pick p (c ∷ [])
        (pick q ((0xC0 + c / 64) ∷ six c ∷ [])
        (pick r ((0xE0 + c / 4096) ∷ six (c / 64) ∷ six c ∷ [])
        ((0xF0 + c / 262144) ∷ six (c / 4096) ∷ six (c / 64) ∷ six c ∷ []))))
    go true q r e f g = one (ltb-true _ _ e)
    go false true r e f g = two (ltb-false _ _ e) (ltb-true _ _ f)
    go false false true e f g = three (ltb-false _ _ f) (ltb-true _ _ g)
    go false false false e f g = four (ltb-false _ _ g)

pub encoding-one : (c : ℕ) → c < 0x80 → encoding c ≡ c ∷ []
unfolding encoding
encoding-one c h = rw (lt-ltb c 0x80 h)

pub encoding-two : (c : ℕ) → 0x80 ≤ c → c < 0x800 → encoding c ≡ (0xC0 + c / 64) ∷ six c ∷ []
unfolding encoding
encoding-two c l h = rw (le-ltb c 0x80 l, lt-ltb c 0x800 h)

pub encoding-three : (c : ℕ) → 0x800 ≤ c → c < 0x10000 → encoding c ≡ (0xE0 + c / 4096) ∷ six (c / 64) ∷ six c ∷ []
unfolding encoding
encoding-three c l h = rw (le-ltb c 0x80 (omega arith), le-ltb c 0x800 l, lt-ltb c 0x10000 h)

pub encoding-four : (c : ℕ) → 0x10000 ≤ c → encoding c ≡ (0xF0 + c / 262144) ∷ six (c / 4096) ∷ six (c / 64) ∷ six c ∷ []
unfolding encoding
encoding-four c l = rw (le-ltb c 0x80 (omega arith), le-ltb c 0x800 (omega arith), le-ltb c 0x10000 l)

-- ---- a number read back

-- division by 64 twice and three times, as `omega` needs it
pub sixes_two : (c : ℕ) → c / 4096 ≡ c / 64 / 64
sixes_two c = sym (div-div-eq-div-mul c 64 64)

pub sixes_three : (c : ℕ) → c / 262144 ≡ c / 4096 / 64
sixes_three c = sym (div-div-eq-div-mul c 4096 64)

-- the number whose bytes are at the front
unfoldable pub decoded : List ℕ → ℕ
decoded x =
    pick (ltb (byte x 0) 0x80) (byte x 0)
    (pick (ltb (byte x 0) 0xE0) ((byte x 0 - 0xC0) * 64 + (byte x 1 - 0x80))
    (pick (ltb (byte x 0) 0xF0) ((byte x 0 - 0xE0) * 4096 + (byte x 1 - 0x80) * 64 + (byte x 2 - 0x80))
    ((byte x 0 - 0xF0) * 262144 + (byte x 1 - 0x80) * 4096 + (byte x 2 - 0x80) * 64 + (byte x 3 - 0x80))))

decoded_sized : {c : ℕ} {e : List ℕ} (s : List ℕ) → Sized c e → decoded (e ++ s) ≡ c
unfolding decoded
decoded_sized {c} s (one h) = rw (lt-ltb c 0x80 h)
decoded_sized {c} s (two l h) = rw (le-ltb (0xC0 + c / 64) 0x80 (omega arith), lt-ltb (0xC0 + c / 64) 0xE0 (omega arith)) (omega arith)
decoded_sized {c} s (three l h) =
    rw (le-ltb (0xE0 + c / 4096) 0x80 (omega arith), le-ltb (0xE0 + c / 4096) 0xE0 (omega arith), lt-ltb (0xE0 + c / 4096) 0xF0 (omega arith)) (omega arith)
decoded_sized {c} s (four l) =
    rw (le-ltb (0xF0 + c / 262144) 0x80 (omega arith), le-ltb (0xF0 + c / 262144) 0xE0 (omega arith), le-ltb (0xF0 + c / 262144) 0xF0 (omega arith))
    (omega (arith, sixes_two c, sixes_three c))

pub decoded-encoding : (c : ℕ) (s : List ℕ) → decoded (encoding c ++ s) ≡ c
decoded-encoding c s = decoded_sized s (sized c)

-- ---- no two with one encoding

-- the front tells its number, and what is behind it
pub encoding_front : (c d : ℕ) (s t : List ℕ) → encoding c ++ s ≡ encoding d ++ t → (c ≡ d) × (s ≡ t)
encoding_front c d s t e =
    let p : c ≡ d = sym (decoded-encoding c s) ∙ ap decoded e ∙ decoded-encoding d t in
    let q : encoding c ++ s ≡ encoding c ++ t = cc in
    (p, sym (drop-append_seam (encoding c) s) ∙ ap (drop (length (encoding c))) q ∙ drop-append_seam (encoding c) t)

pub encoding_differs : (c d : ℕ) → (c ≡ d → ⊥) → encoding c ≡ encoding d → ⊥
encoding_differs c d n e = n (encoding_front c d [] [] (rw e refl)).0

-- every number has a byte
pub encoding_some : (c : ℕ) → 0 < length (encoding c)
encoding_some c = go (sized c)
  where
    go : {x : List ℕ} → Sized c x → 0 < length x
    go (one h) = omega arith
    go (two l h) = omega arith
    go (three l h) = omega arith
    go (four l) = omega arith

pub some_bytes : (c : ℕ) (s : List ℕ) → encoding c ++ s ≡ [] → ⊥
some_bytes c s e = omega (arith, encoding_some c, length-append (encoding c) s, ap length e)

pub encodings-one : (cs ds : List ℕ) → encodings cs ≡ encodings ds → cs ≡ ds
unfolding encodings
encodings-one [] [] e = refl
encodings-one [] (d ∷ ds) e = absurd (some_bytes d (encodings ds) (sym e))
encodings-one (c ∷ cs) [] e = absurd (some_bytes c (encodings cs) e)
encodings-one (c ∷ cs) (d ∷ ds) e =
    let f = encoding_front c d (encodings cs) (encodings ds) e in
    let i = encodings-one cs ds f.1 in
    cc (f.0, i)

pub encodings_append : (cs ds : List ℕ) → encodings (cs ++ ds) ≡ encodings cs ++ encodings ds
unfolding encodings
encodings_append [] ds = refl
encodings_append (c ∷ cs) ds = rw (encodings_append cs ds, append_assoc)
