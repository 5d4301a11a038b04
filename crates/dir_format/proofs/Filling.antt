-- A map byte that is filled whole is its eight bits set one after the other, and a run of bits goes on where another ended. Assumes nothing.
use mathlib.Core.Path.{◌≡◌, refl, sym, ap, ◌∙◌}
use mathlib.Core.Logic.{◌≢◌}
use mathlib.Core.List.{List}
use Prim.Native.Nat.{ℕ, zero, suc, ◌+◌, ◌-◌, ◌*◌, ◌/◌, ◌^◌, ◌≤◌, ◌<◌}
use native.Mathlib.Nat.{add-suc}
use native.Mathlib.Omega.{arith}
use native.Mathlib.Decide.{ℕ_discrete}
use lib.ListN.{length, set, length-set, replicate, length-replicate, get_or-replicate}
use borrow.Rule.Slice.PartMut.{put_mid}
use Rattle.std.proofs.lemmas.Slice.{put_mid-paste}
use lib.Seq.{ext_get_or, get_or-set_same, get_or-set_other}
use Rattle.words.specs.Words.{byte, Bytes}
use Rattle.words.specs.Runs.{puts, turns}
use Rattle.words.proofs.Runs.{bytes_puts, length-puts, puts_paste, turns_keep}
use Rattle.card_map.specs.Bits.{map_bit, set_bit}
use Rattle.card_map.proofs.Bits.{bit_of, bit_of_zero, bit_of_suc}
use Rattle.card_map.proofs.Map.{length-set_bit, byte-set_bit_off, bit_set_same, bit_set_other, bit_at, bytes_set_bit}

-- a bit for each block from i on below n
abbrev pub bits_set : ℕ → ℕ → List ℕ → List ℕ
bits_set i n img = turns (λ b x. set_bit x b) i (n - i) img

-- ---- one run after the other

after : {A : Type 0} (f : ℕ → A → A) (i m n : ℕ) (a : A) → turns f (i + m) n (turns f i m a) ≡ turns f i (m + n) a
unfolding turns
after f i m zero a = let e : m ≡ m + 0 = omega arith in ap (λ (k : ℕ). turns f i k a) e
after f i m (suc n) a =
    let e : i + m + n ≡ i + (m + n) = omega arith in
    ap (λ (k : ℕ). f k (turns f (i + m) n (turns f i m a))) e ∙ ap (f (i + (m + n))) (after f i m n a)
    ∙ ap (λ (k : ℕ). turns f i k a) (sym (add-suc m n))

pub goes_on : (i j n : ℕ) (img : List ℕ) → i ≤ j → j ≤ n → bits_set j n (bits_set i j img) ≡ bits_set i n img
goes_on i j n img p q =
    let e : i + (j - i) ≡ j = omega arith in
    let e' : j - i + (n - j) ≡ n - i = omega arith in
    ap (λ (k : ℕ). turns (λ b x. set_bit x b) k (n - j) (bits_set i j img)) (sym e)
    ∙ after (λ b x. set_bit x b) i (j - i) (n - j) img
    ∙ ap (λ (k : ℕ). turns (λ b x. set_bit x b) i k img) e'

-- ---- a byte

all_bits : (n x : ℕ) → x < 2 ^ n → ((k : ℕ) → k < n → bit_of x k ≡ 1) → x + 1 ≡ 2 ^ n
all_bits zero x l h = omega arith
all_bits (suc n) x l h =
    let low = h 0 (omega arith) in
    let high = all_bits n (x / 2) (omega arith) (λ k b. sym (bit_of_suc x k) ∙ h (suc k) (omega arith)) in
    omega (arith, bit_of_zero x)

-- the card x with the first k bits of map byte j of the card img set
record Some (img : List ℕ) (j k : ℕ) (x : List ℕ) : Type 0 where
  as_long : length x ≡ length img
  others : (b : ℕ) → b ≢ 8192 + j → byte x b ≡ byte img b
  bytes : Bytes x
  ones : (t : ℕ) → t < k → map_bit x (8 * j + t) ≡ 1

module _ (img : List ℕ) (j : ℕ) (inside : 8192 + j < length img) where
  one_more : (k : ℕ) (x : List ℕ) → k < 8 → Some img j k x → Some img j (suc k) (set_bit x (8 * j + k))
  one_more k x l s = record {
    as_long = length-set_bit x (8 * j + k) ∙ s.as_long;
    others = λ b d. byte-set_bit_off x (8 * j + k) b (λ e. d (omega arith)) ∙ s.others b d;
    bytes = bytes_set_bit x (8 * j + k) s.bytes;
    ones = each;
  }
    where
      in_x : 8192 + (8 * j + k) / 8 < length x
      in_x = omega (arith, s.as_long)

      each : (t : ℕ) → t < suc k → map_bit (set_bit x (8 * j + k)) (8 * j + t) ≡ 1
      each t h = go (ℕ_discrete t k)
        where
          go : Dec (t ≡ k) → map_bit (set_bit x (8 * j + k)) (8 * j + t) ≡ 1
          go (yes e) = rw e (bit_set_same x (8 * j + k) in_x)
          go (no d) = bit_set_other x (8 * j + k) in_x (8 * j + t) (omega arith) ∙ s.ones t (omega arith)

  all_set : Bytes img → Some img j 8 (turns (λ b x. set_bit x b) (8 * j) 8 img)
  all_set small =
      turns_keep (λ b x. set_bit x b) (8 * j) img (Some img j)
      (record { as_long = refl; others = λ b d. refl; bytes = small; ones = λ t h. absurd (omega arith) })
      8
      (λ k x l s. one_more k x l s)

  pub byte_filled : Bytes img → set img (8192 + j) 255 ≡ turns (λ b x. set_bit x b) (8 * j) 8 img
  byte_filled small = ext_get_or 0 (set img (8192 + j) 255) out (simp length-set (sym s.as_long)) (λ b l. same b)
    where
      out : List ℕ
      out = turns (λ b x. set_bit x b) (8 * j) 8 img

      s : Some img j 8 out
      s = all_set small

      full : byte out (8192 + j) ≡ 255
      full = omega (arith, all_bits 8 (byte out (8192 + j)) (s.bytes.below (8192 + j)) (λ k l. sym (bit_at out j k l) ∙ s.ones k l))

      same : (b : ℕ) → byte (set img (8192 + j) 255) b ≡ byte out b
      same b = go (ℕ_discrete b (8192 + j))
        where
          go : Dec (b ≡ 8192 + j) → byte (set img (8192 + j) 255) b ≡ byte out b
          go (yes e) = rw (e, get_or-set_same) (sym full)
          go (no d) = rw get_or-set_other (sym (s.others b d))

-- the next byte of a run
pub byte_more : (i j : ℕ) (img x : List ℕ) → i ≤ j → x ≡ bits_set (8 * i) (8 * j) img → 8192 + j < length x → Bytes x
    → set x (8192 + j) 255 ≡ bits_set (8 * i) (8 * (j + 1)) img
byte_more i j img x l e inside small =
    let n : 8 ≡ 8 * (j + 1) - 8 * j = omega arith in
    byte_filled x j inside small ∙ ap (λ (k : ℕ). turns (λ b y. set_bit y b) (8 * j) k x) n ∙ ap (bits_set (8 * j) (8 * (j + 1))) e
    ∙ goes_on (8 * i) (8 * j) (8 * (j + 1)) img (omega arith) (omega arith)

-- a run of bytes that is filled whole
run_filled : (img : List ℕ) (i k : ℕ) → 8192 + (i + k) ≤ length img → Bytes img
    → puts img (λ j. 8192 + i + j) (λ j. 255) k ≡ bits_set (8 * i) (8 * (i + k)) img
unfolding puts turns
run_filled img i zero l small = let e : 0 ≡ 8 * (i + 0) - 8 * i = omega arith in ap (λ (k : ℕ). turns (λ b x. set_bit x b) (8 * i) k img) e
run_filled img i (suc k) l small =
    let a : 8192 + i + k ≡ 8192 + (i + k) = omega arith in
    let b : i + k + 1 ≡ i + suc k = omega arith in
    let long = length-puts img (λ j. 8192 + i + j) (λ j. 255) k in
    ap (λ (n : ℕ). set (puts img (λ j. 8192 + i + j) (λ j. 255) k) n 255) a
    ∙ byte_more i (i + k) img (puts img (λ j. 8192 + i + j) (λ j. 255) k) (omega arith) (run_filled img i k (omega arith) small) (omega arith)
    (bytes_puts img (λ j. 8192 + i + j) (λ j. 255) k small (λ j h. omega arith))
    ∙ ap (λ (n : ℕ). bits_set (8 * i) (8 * n) img) b

pub bytes_filled : (img : List ℕ) (i e m : ℕ) → i ≤ e → 8192 + e ≤ length img → Bytes img → m ≡ 8192 + e - (8192 + i)
    → put_mid (8192 + i) (8192 + e - (8192 + i)) img (replicate m 255) ≡ bits_set (8 * i) (8 * e) img
bytes_filled img i e m l h small q =
    let n : i + (e - i) ≡ e = omega arith in
    let k : m ≡ e - i = omega arith in
    let w = length-replicate {A = ℕ} m 255 in
    put_mid-paste (8192 + i) (8192 + e - (8192 + i)) img (replicate m 255) (replicate m 255) (e - i) refl (omega arith) (omega arith)
    ∙ sym
    (puts_paste img (8192 + i) (λ j. 255) (replicate m 255) (e - i) (omega arith) (omega arith)
    (λ j b. sym (get_or-replicate m j 255 0 (omega arith))))
    ∙ run_filled img i (e - i) (omega arith) small
    ∙ ap (λ (n : ℕ). bits_set (8 * i) (8 * n) img) n
