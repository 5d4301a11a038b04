-- The laws of `num` and `put_num`, over the number of bytes: what a caller goes by, and never their text.
use Prim.Native.Nat.{ℕ, zero, suc, ◌+◌, ◌*◌, ◌/◌, ◌%◌, ◌^◌, ◌<◌, ◌≤◌}
use mathlib.Core.Path.{◌≡◌, refl, ap, ◌∙◌}
use mathlib.Core.List.{List}
use mathlib.Core.Bool.{Bool, true, false, ◌||◌}
use mathlib.Core.Logic.{◌⊎◌, inl, inr, ⊎_elim}
use lib.Dec.{T, leb, leb→le}
use native.Mathlib.Omega.{arith}
use native.Mathlib.Nat.{div-lt_iff_lt-mul, pow-suc}
use lib.ListN.{length, get_or, set, length-set}
use native.Mathlib.Decide.{dec_lt, ℕ_discrete}
use lib.Seq.{get_or-set_same, get_or-set_other, set_comm, set-set, set_out, set-get_or}
use Rattle.words.specs.Words.{byte, num, put_num, Bytes}
use Rattle.words.specs.Inner.{Apart}

pub length-put : (n : ℕ) (xs : List ℕ) (at v : ℕ) → length (put_num n xs at v) ≡ length xs
unfolding put_num
length-put zero xs at v = refl
length-put (suc n) xs at v = length-put n (set xs at (v % 256)) (at + 1) (v / 256) ∙ length-set xs at (v % 256)

-- a byte outside the part that was written
pub byte_out : (n : ℕ) (xs : List ℕ) (at v k : ℕ) → Apart k 1 at n → get_or (put_num n xs at v) k 0 ≡ get_or xs k 0
unfolding put_num
byte_out zero xs at v k h = refl
byte_out (suc n) xs at v k h =
    byte_out n (set xs at (v % 256)) (at + 1) (v / 256) k (λ p q. h (omega arith) (omega arith))
    ∙ get_or-set_other xs at k (v % 256) 0 (λ e. h (omega arith) (omega arith))

-- a number outside it
pub num_out : (m n : ℕ) (xs : List ℕ) (b at v : ℕ) → Apart b m at n → num m (put_num n xs at v) b ≡ num m xs b
unfolding num
num_out zero n xs b at v h = refl
num_out (suc m) n xs b at v h =
    rw (
      byte_out n xs at v b (λ p q. h (omega arith) (omega arith)),
      num_out m n xs (b + 1) at v (λ p q. h (omega arith) (omega arith)),
    )

pub num_same : (n : ℕ) (xs : List ℕ) (at v : ℕ) → at + n ≤ length xs → v < 256 ^ n → num n (put_num n xs at v) at ≡ v
unfolding num put_num
num_same zero xs at v l h = omega arith
num_same (suc n) xs at v l h =
    let ys = set xs at (v % 256) in
    let low : get_or (put_num n ys (at + 1) (v / 256)) at 0 ≡ v % 256 =
    byte_out n ys (at + 1) (v / 256) at (λ p q. omega arith) ∙ get_or-set_same xs at (v % 256) 0 (omega arith) in
    let high : num n (put_num n ys (at + 1) (v / 256)) (at + 1) ≡ v / 256 =
    num_same n ys (at + 1) (v / 256) (rw length-set (omega arith)) ((div-lt_iff_lt-mul (omega arith)).1 (omega (arith, pow-suc 256 n))) in
    omega arith

-- a number goes by its own bytes alone: the frame law, of which `num_out` is a case
pub num_frame : (n : ℕ) (xs ys : List ℕ) (at : ℕ) → ((k : ℕ) → at ≤ k → k < at + n → get_or xs k 0 ≡ get_or ys k 0) → num n xs at ≡ num n ys at
unfolding num
num_frame zero xs ys at h = refl
num_frame (suc n) xs ys at h =
    rw (h at (omega arith) (omega arith), num_frame n xs ys (at + 1) (λ k p q. h k (omega arith) (omega arith)))

-- a number goes by its bytes, wherever they stand
pub num_moved : (m : ℕ) (xs ys : List ℕ) (a b : ℕ) → ((i : ℕ) → i < m → byte xs (a + i) ≡ byte ys (b + i)) → num m xs a ≡ num m ys b
unfolding num
num_moved zero xs ys a b h = refl
num_moved (suc m) xs ys a b h =
    let a₀ : a + 0 ≡ a = omega arith in
    let b₀ : b + 0 ≡ b = omega arith in
    let first : byte xs a ≡ byte ys b = rw (a₀, b₀) at (h 0 (omega arith)) in
    let rest : num m xs (a + 1) ≡ num m ys (b + 1) =
    num_moved m xs ys (a + 1) (b + 1)
    (λ i l.
    let a₁ : a + suc i ≡ a + 1 + i = omega arith in
    let b₁ : b + suc i ≡ b + 1 + i = omega arith in
    rw (a₁, b₁) at (h (suc i) (omega arith))) in
    omega arith

pub num_lt : (n : ℕ) (xs : List ℕ) (at : ℕ) → Bytes xs → num n xs at < 256 ^ n
unfolding num
num_lt zero xs at h = omega arith
num_lt (suc n) xs at h = omega (arith, pow-suc 256 n, h.below at, num_lt n xs (at + 1) h)

pub bytes_set : {xs : List ℕ} (i v : ℕ) → v < 256 → Bytes xs → Bytes (set xs i v)
bytes_set {xs} i v l h = record { below = λ k. go k (ℕ_discrete k i) (dec_lt i (length xs)) }
  where
    go : (k : ℕ) → Dec (k ≡ i) → Dec (i < length xs) → byte (set xs i v) k < 256
    go k (yes e) (yes p) = rw (e, get_or-set_same xs i v 0 p) l
    go k (yes e) (no p) = rw (set_out xs i v (omega arith)) (h.below k)
    go k (no d) p = rw (get_or-set_other xs i k v 0 d) (h.below k)

pub bytes_put : (n : ℕ) (xs : List ℕ) (at v : ℕ) → Bytes xs → Bytes (put_num n xs at v)
unfolding put_num
bytes_put zero xs at v h = h
bytes_put (suc n) xs at v h = bytes_put n (set xs at (v % 256)) (at + 1) (v / 256) (bytes_set at (v % 256) (omega arith) h)

-- a store outside the part goes before it or after it
pub set_put : (n : ℕ) (xs : List ℕ) (at v i x : ℕ) → Apart i 1 at n → set (put_num n xs at v) i x ≡ put_num n (set xs i x) at v
unfolding put_num
set_put zero xs at v i x h = refl
set_put (suc n) xs at v i x h =
    set_put n (set xs at (v % 256)) (at + 1) (v / 256) i x (λ p q. h (omega arith) (omega arith))
    ∙ ap (λ (l : List ℕ). put_num n l (at + 1) (v / 256)) (set_comm xs at i (v % 256) x (λ e. h (omega arith) (omega arith)))

pub put_comm : (m n : ℕ) (xs : List ℕ) (a v b w : ℕ) → Apart a m b n → put_num m (put_num n xs b w) a v ≡ put_num n (put_num m xs a v) b w
unfolding put_num
put_comm zero n xs a v b w h = refl
put_comm (suc m) n xs a v b w h =
    rw (set_put n xs b w a (v % 256) (λ p q. h (omega arith) (omega arith)))
    (put_comm m n (set xs a (v % 256)) (a + 1) (v / 256) b w (λ p q. h (omega arith) (omega arith)))

-- the second of two writes at one place is all that is left
pub put_put : (n : ℕ) (xs : List ℕ) (at v w : ℕ) → put_num n (put_num n xs at v) at w ≡ put_num n xs at w
unfolding put_num
put_put zero xs at v w = refl
put_put (suc n) xs at v w =
    rw (set_put n (set xs at (v % 256)) (at + 1) (v / 256) at (w % 256) (λ p q. omega arith), set-set)
    (put_put n (set xs at (w % 256)) (at + 1) (v / 256) (w / 256))

-- writing what is there changes nothing
pub put_num_lem : (n : ℕ) (xs : List ℕ) (at : ℕ) → Bytes xs → put_num n xs at (num n xs at) ≡ xs
unfolding num put_num
put_num_lem zero xs at h = refl
put_num_lem (suc n) xs at h =
    let b : byte xs at < 256 = h.below at in
    let low : (get_or xs at 0 + 256 * num n xs (at + 1)) % 256 ≡ get_or xs at 0 = omega arith in
    let high : (get_or xs at 0 + 256 * num n xs (at + 1)) / 256 ≡ num n xs (at + 1) = omega arith in
    rw (low, high, set-get_or xs at 0) (put_num_lem n xs (at + 1) h)

-- Fields of one record at `at`, by literal offsets: the premises compute to `Unit`, so `search` closes them by `tt`.
abbrev pub apart : ℕ → ℕ → ℕ → ℕ → Bool
apart a m b n = leb (a + m) b || leb (b + n) a

or_cases : (p q : Bool) → T (p || q) → T p ⊎ T q
or_cases true q h = inl tt
or_cases false q h = inr h

pub apart_cases : (a m b n : ℕ) → T (apart a m b n) → (a + m ≤ b) ⊎ (b + n ≤ a)
apart_cases a m b n t =
    ⊎_elim (λ (h : T (leb (a + m) b)). inl (leb→le _ _ h)) (λ (h : T (leb (b + n) a)). inr (leb→le _ _ h)) (or_cases (leb (a + m) b) (leb (b + n) a) t)

pub field_out : (m n b a : ℕ) (xs : List ℕ) (at v : ℕ) → T (apart b m a n) → num m (put_num n xs (at + a) v) (at + b) ≡ num m xs (at + b)
field_out m n b a xs at v t =
    num_out m n xs (at + b) (at + a) v
    (λ p q. ⊎_elim (λ (h : b + m ≤ a). omega arith) (λ (h : a + n ≤ b). omega arith) (apart_cases b m a n t))

pub field_same : (n a N : ℕ) (xs : List ℕ) (at v : ℕ) → at + N ≤ length xs → T (leb (a + n) N) → v < 256 ^ n → num n (put_num n xs (at + a) v) (at + a) ≡ v
field_same n a N xs at v l t h =
    let k : a + n ≤ N = leb→le _ _ t in num_same n xs (at + a) v (omega arith) h

-- the same where one of the two stands at the record's first byte, `at` itself
pub first_out : (m n a : ℕ) (xs : List ℕ) (at v : ℕ) → T (leb m a) → num m (put_num n xs (at + a) v) at ≡ num m xs at
first_out m n a xs at v t = let k : m ≤ a = leb→le _ _ t in num_out m n xs at (at + a) v (λ p q. omega arith)

pub past_first : (m n b : ℕ) (xs : List ℕ) (at v : ℕ) → T (leb n b) → num m (put_num n xs at v) (at + b) ≡ num m xs (at + b)
past_first m n b xs at v t = let k : n ≤ b = leb→le _ _ t in num_out m n xs (at + b) at v (λ p q. omega arith)
