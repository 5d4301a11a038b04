-- A part of a list that is read or written through `&s[a..a + k]`, said of the whole.
use Prim.Native.Nat.{ℕ, zero, suc, ◌+◌, ◌-◌, ◌*◌, ◌/◌, ◌%◌, ◌<◌, ◌≤◌}
use mathlib.Core.Path.{◌≡◌, refl, sym, ap, ◌∙◌}
use mathlib.Core.Logic.{◌≢◌}
use mathlib.Core.List.{List, ◌++◌}
use native.Mathlib.Omega.{arith}
use native.Mathlib.Decide.{dec_lt}
use lib.ListN.{length, get_or, set, take, drop, replicate, length-take, length-drop, length-replicate, get_or-append, get_or-replicate}
use lib.Seq.{get_or-take, get_or-drop, drop-set-add, take-set-lt, take-set-le, drop-set-lt, drop_at, take_at, length-take-le}
use borrow.Rule.Slice.PartMut.{mid_of, put_mid, post_of, put_same}
use Rattle.std.proofs.lemmas.Slice.{put_mid-paste}
use Rattle.words.specs.Words.{byte, num, put_num}
use Rattle.words.specs.Runs.{puts, copied, zeroed}
use Rattle.words.specs.Inner.{Apart}
use Rattle.words.proofs.Numbers.{num_out, num_frame}
use Rattle.words.proofs.Runs.{puts_paste}

pub length_mid : (a k : ℕ) (xs : List ℕ) → a + k ≤ length xs → length (mid_of a k xs) ≡ k
length_mid a k xs h = simp (length-take, length-drop) (omega arith)

pub byte_mid : (a k : ℕ) (xs : List ℕ) (i : ℕ) → i < k → get_or (mid_of a k xs) i 0 ≡ get_or xs (a + i) 0
byte_mid a k xs i h = rw (get_or-take, get_or-drop)

-- a number in a part is a number of the whole
pub num_mid : (n a k : ℕ) (xs : List ℕ) (o : ℕ) → o + n ≤ k → num n (mid_of a k xs) o ≡ num n xs (a + o)
unfolding num
num_mid zero a k xs o h = refl
num_mid (suc n) a k xs o h =
    let e : a + (o + 1) ≡ a + o + 1 = omega arith in
    rw (byte_mid a k xs o (omega arith), num_mid n a k xs (o + 1) (omega arith), e)

-- two blocks that are not one have no byte in common: `omega` takes the two cases of ≢ itself
pub block_out : (m n : ℕ) (xs : List ℕ) (b c o p v : ℕ) → b ≢ c → o + m ≤ 4096 → p + n ≤ 4096
    → num m (put_num n xs (4096 * c + p) v) (4096 * b + o) ≡ num m xs (4096 * b + o)
block_out m n xs b c o p v d h g = num_out m n xs (4096 * b + o) (4096 * c + p) v (λ q r. omega arith)

set_mid : (a k : ℕ) (xs : List ℕ) (o d : ℕ) → o < k → set (mid_of a k xs) o d ≡ mid_of a k (set xs (a + o) d)
set_mid a k xs o d h = rw (drop-set-add a xs o d, take-set-lt k (drop a xs) o d h)

around_set : (a k : ℕ) (xs ys : List ℕ) (o d : ℕ) → o < k → put_mid a k xs ys ≡ put_mid a k (set xs (a + o) d) ys
around_set a k xs ys o d h =
    let l : a ≤ a + o = omega arith in
    rw (drop-set-add a xs o d, take-set-le a xs (a + o) d l, drop-set-lt k (drop a xs) o d h)

-- a number written in a part is written in the whole
pub put_mid_lem : (n a k : ℕ) (xs : List ℕ) (o v : ℕ) → o + n ≤ k → put_mid a k xs (put_num n (mid_of a k xs) o v) ≡ put_num n xs (a + o) v
unfolding put_num
put_mid_lem zero a k xs o v h = put_same a k xs
put_mid_lem (suc n) a k xs o v h =
    let e : a + (o + 1) ≡ a + o + 1 = omega arith in
    let xs' = set xs (a + o) (v % 256) in
    rw (set_mid a k xs o (v % 256) (omega arith))
    (around_set a k xs (put_num n (mid_of a k xs') (o + 1) (v / 256)) o (v % 256) (omega arith)
    ∙ put_mid_lem n a k xs' (o + 1) (v / 256) (omega arith)
    ∙ ap (λ (p : ℕ). put_num n xs' p (v / 256)) e)

-- a part that a write does not touch, and a part that was put
mid_set_out : (a k : ℕ) (xs : List ℕ) (i v : ℕ) → Apart i 1 a k → mid_of a k (set xs i v) ≡ mid_of a k xs
mid_set_out a k xs i v h =
    elim (dec_lt i a) [
      | yes l ↦ rw (drop-set-lt a xs i v l)
      | no d ↦ let j = i - a in
          let e : i ≡ a + j = omega arith in
          let g : k ≤ j = elim (dec_lt j k) [ yes p ↦ absurd (h (omega arith) (omega arith)) | no p ↦ omega arith ] in
          rw (e, drop-set-add a xs j v, take-set-le k (drop a xs) j v g)
    ]

pub mid_put_out : (n a k : ℕ) (xs : List ℕ) (at v : ℕ) → Apart at n a k → mid_of a k (put_num n xs at v) ≡ mid_of a k xs
unfolding put_num
mid_put_out zero a k xs at v h = refl
mid_put_out (suc n) a k xs at v h =
    mid_put_out n a k (set xs at (v % 256)) (at + 1) (v / 256) (λ p q. h (omega arith) (omega arith))
    ∙ mid_set_out a k xs at (v % 256) (λ p q. h (omega arith) (omega arith))

pub mid_same : (a k : ℕ) (xs ys : List ℕ) → a ≤ length xs → length ys ≡ k → mid_of a k (put_mid a k xs ys) ≡ ys
mid_same a k xs ys l e =
    rw (drop_at (take a xs) (ys ++ post_of a k xs) a (length-take-le a xs l), take_at ys (post_of a k xs) k e)

-- a number before a part that was put (one after it: by `drop_put`)
pub num_before : (n a k : ℕ) (xs ys : List ℕ) (at : ℕ) → at + n ≤ a → a ≤ length xs → num n (put_mid a k xs ys) at ≡ num n xs at
num_before n a k xs ys at h l =
    num_frame n (put_mid a k xs ys) xs at
    (λ i p q. let g : i < length (take a xs) = rw (length-take-le a xs l) (omega arith) in
    let f : i < a = omega arith in
    get_or-append (take a xs) (ys ++ post_of a k xs) 0 i g ∙ get_or-take a xs i 0 f)

-- a part that was put by a copy or by a fill: a run of stores
module _ (d : List ℕ) (at n : ℕ) (l : at + n ≤ length d) where
  put_mid-run : (f : ℕ → ℕ) (ys : List ℕ) → length ys ≡ n → ((k : ℕ) → k < n → f k ≡ byte ys k) → put_mid at (at + n - at) d ys ≡ puts d (λ k. at + k) f n
  put_mid-run f ys e h =
      let k : n ≡ at + n - at = omega arith in
      let m : n ≤ length ys = omega arith in
      put_mid-paste at (at + n - at) d ys ys n refl k (sym e) ∙ sym (puts_paste d at f ys n l m h)

  pub put_mid-copied : (s : List ℕ) (from : ℕ) → from + n ≤ length s → put_mid at (at + n - at) d (mid_of from (from + n - from) s) ≡ copied d at s from n
  unfolding copied
  put_mid-copied s from m =
      let k : from + n - from ≡ n = omega arith in
      put_mid-run (λ k. byte s (from + k)) (mid_of from (from + n - from) s) (rw k (length_mid from n s m))
      (λ i h. sym (byte_mid from (from + n - from) s i (omega arith)))

  pub put_mid-zeroed : (m : ℕ) → m ≡ n → put_mid at (at + n - at) d (replicate m 0) ≡ zeroed d at n
  unfolding zeroed
  put_mid-zeroed m e =
      put_mid-run (λ k. 0) (replicate m 0) (length-replicate m 0 ∙ e) (λ i h. sym (get_or-replicate m i 0 0 (omega arith)))
