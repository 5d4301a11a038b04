-- Runs of words: the laws of `words` and `put_words`. Assumes nothing.
use Prim.Native.Nat.{ℕ, zero, suc, ◌+◌, ◌*◌, ◌^◌, ◌<◌, ◌≤◌}
use mathlib.Core.Path.{◌≡◌, refl, sym, ap, ◌∙◌}
use mathlib.Core.List.{List, [], ◌∷◌}
use native.Mathlib.Omega.{arith}
use native.Mathlib.Numerals.{add-one}
use lib.ListN.{length, get_or, drop}
use lib.Seq.{ext_get_or, drop-cons}
use Rattle.words.specs.Words.{Bytes, num, word, put_word}
use Rattle.words.specs.Inner.{Apart}
use Rattle.words.proofs.Numbers.{length-put, num_out, num_same, byte_out, bytes_put, num_lt, put_num_lem}
use Rattle.card_layout.specs.declared.BlockId.{BlockId}
use Rattle.card_layout.specs.Inode.{block_id, words, put_words, number_at}

pub length-words : (n : ℕ) (xs : List ℕ) (at : ℕ) → length (words n xs at) ≡ n
unfolding words
length-words zero xs at = refl
length-words (suc n) xs at = ap suc (length-words n xs (at + 4))

pub get_or-words : (n : ℕ) (xs : List ℕ) (at k : ℕ) → k < n → number_at (words n xs at) k ≡ word xs (at + 4 * k)
unfolding words
get_or-words zero xs at k h = absurd (omega arith)
get_or-words (suc n) xs at zero h = ap (word xs) (omega arith)
get_or-words (suc n) xs at (suc k) h = get_or-words n xs (at + 4) k (omega arith) ∙ ap (word xs) (omega arith)

-- one turn of a loop that writes d from the front, p its running place
pub put_words_step : (xs : List ℕ) (p : ℕ) (d : List BlockId) (i : ℕ) → i < length d
    → put_words xs p (drop i d) ≡ put_words (put_word xs p (number_at d i)) (p + 4) (drop (i + 1) d)
unfolding put_words
put_words_step xs p d i l = rw (drop-cons d i (block_id 0) l, ← add-one i)

-- The round trip.
pub length-put_words : (xs : List ℕ) (at : ℕ) (bs : List BlockId) → length (put_words xs at bs) ≡ length xs
unfolding put_words
length-put_words xs at [] = refl
length-put_words xs at (b ∷ bs) = length-put_words (put_word xs at b.0) (at + 4) bs ∙ length-put 4 xs at b.0

pub num_out_words : (m : ℕ) (xs : List ℕ) (c at : ℕ) (bs : List BlockId) → Apart c m at (4 * length bs) → num m (put_words xs at bs) c ≡ num m xs c
unfolding put_words
num_out_words m xs c at [] h = refl
num_out_words m xs c at (b ∷ bs) h =
    num_out_words m (put_word xs at b.0) c (at + 4) bs (λ p q. h (omega arith) (omega arith))
    ∙ num_out m 4 xs c at b.0 (λ p q. h (omega arith) (omega arith))

pub byte_out_words : (xs : List ℕ) (at : ℕ) (bs : List BlockId) (k : ℕ) → Apart k 1 at (4 * length bs) → get_or (put_words xs at bs) k 0 ≡ get_or xs k 0
unfolding put_words
byte_out_words xs at [] k h = refl
byte_out_words xs at (b ∷ bs) k h =
    byte_out_words (put_word xs at b.0) (at + 4) bs k (λ p q. h (omega arith) (omega arith))
    ∙ byte_out 4 xs at b.0 k (λ p q. h (omega arith) (omega arith))

-- every element is a word
abbrev pub Words : List BlockId → Type 0
Words bs = (k : ℕ) → number_at bs k < 2 ^ 32

pub words_same : (xs : List ℕ) (at : ℕ) (bs : List BlockId) → at + 4 * length bs ≤ length xs → Words bs → words (length bs) (put_words xs at bs) at ≡ bs
unfolding words put_words
words_same xs at [] l h = refl
words_same xs at (b ∷ bs) l h =
    let here : num 4 (put_words (put_word xs at b.0) (at + 4) bs) at ≡ b.0 =
    num_out_words 4 (put_word xs at b.0) at (at + 4) bs (λ p q. omega arith) ∙ num_same 4 xs at b.0 (omega arith) (h 0) in
    let rest : words (length bs) (put_words (put_word xs at b.0) (at + 4) bs) (at + 4) ≡ bs =
    words_same (put_word xs at b.0) (at + 4) bs (rw (length-put 4 xs at b.0) (omega arith)) (λ k. h (suc k)) in
    λ i. block_id (here i) ∷ rest i

pub words_same_of : (n : ℕ) (xs : List ℕ) (at : ℕ) (bs : List BlockId) → length bs ≡ n → at + 4 * n ≤ length xs → Words bs → words n (put_words xs at bs) at ≡ bs
words_same_of n xs at bs e l h = rw e at (words_same xs at bs (omega arith) h)

pub bytes_put_words : (xs : List ℕ) (at : ℕ) (bs : List BlockId) → Bytes xs → Bytes (put_words xs at bs)
unfolding put_words
bytes_put_words xs at [] h = h
bytes_put_words xs at (b ∷ bs) h = bytes_put_words (put_word xs at b.0) (at + 4) bs (bytes_put 4 xs at b.0 h)

-- writing the words that are there changes nothing
pub put_words_lem : (n : ℕ) (xs : List ℕ) (at : ℕ) → Bytes xs → put_words xs at (words n xs at) ≡ xs
unfolding words put_words
put_words_lem zero xs at h = refl
put_words_lem (suc n) xs at h = ap (λ (l : List ℕ). put_words l (at + 4) (words n xs (at + 4))) (put_num_lem 4 xs at h) ∙ put_words_lem n xs (at + 4) h

-- words go by their own bytes alone
pub words_frame : (n : ℕ) (xs ys : List ℕ) (at : ℕ) → ((i : ℕ) → i < n → word xs (at + 4 * i) ≡ word ys (at + 4 * i)) → words n xs at ≡ words n ys at
words_frame n xs ys at h =
    ext_get_or (block_id 0) (words n xs at) (words n ys at) (length-words n xs at ∙ sym (length-words n ys at))
    (λ i l. let b : i < n = omega (arith, length-words n xs at) in
    ap block_id (get_or-words n xs at i b ∙ h i b ∙ sym (get_or-words n ys at i b)))

pub words_lt : (n : ℕ) (xs : List ℕ) (at : ℕ) → Bytes xs → (k : ℕ) → number_at (words n xs at) k < 2 ^ 32
unfolding words
words_lt zero xs at h k = omega arith
words_lt (suc n) xs at h zero = num_lt 4 xs at h
words_lt (suc n) xs at h (suc k) = words_lt n xs (at + 4) h k
