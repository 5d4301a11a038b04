-- The laws of a stored entry: its number and name are read back, and every byte after the name is zero. Assumes nothing.
use Prim.Native.Nat.{ℕ, ◌+◌, ◌^◌, ◌<◌, ◌≤◌}
use mathlib.Core.Path.{◌≡◌, ap, ◌∙◌}
use mathlib.Core.List.{List}
use native.Mathlib.Omega.{arith}
use borrow.Author.Tests.{eq-eqb, lt-ltb}
use lib.ListN.{length, drop, replicate, length-drop, length-replicate, get_or-replicate}
use lib.Seq.{get_or-drop}
use Rattle.words.specs.Words.{byte, put_word}
use Rattle.words.proofs.Numbers.{length-put, num_frame, num_same, byte_out}
use Rattle.words.proofs.Runs.{length-copied, byte-copied_off, byte-copied_in}
use Rattle.card_layout.specs.Entry.{upto_nul, name_in, number_in, Name, entry_of}
use Rattle.card_layout.proofs.Names.{upto_is}

-- the entry before its name is stored
bare : ℕ → List ℕ
bare n = put_word (replicate 260 0) 0 n

length_bare : (n : ℕ) → length (bare n) ≡ 260
unfolding bare
length_bare n = length-put 4 (replicate 260 0) 0 n ∙ length-replicate {A = ℕ} 260 0

module _ (n : ℕ) (x : List ℕ) (high : length x ≤ 255) where
  pub length_entry : length (entry_of n x) ≡ 260
  unfolding entry_of bare
  length_entry = length-copied (bare n) 4 x 0 (length x) ∙ length_bare n

  pub entry_number : n < 2 ^ 32 → number_in (entry_of n x) ≡ n
  unfolding entry_of
  entry_number h =
      num_frame 4 (entry_of n x) (put_word (replicate 260 0) 0 n) 0
      (λ k p q. byte-copied_off (put_word (replicate 260 0) 0 n) 4 x 0 (length x) k (omega arith))
      ∙ num_same 4 (replicate 260 0) 0 n (omega (arith, length-replicate {A = ℕ} 260 0)) h

  pub entry_name_byte : (k : ℕ) → k < length x → byte (entry_of n x) (4 + k) ≡ byte x k
  unfolding entry_of bare
  entry_name_byte k h =
      byte-copied_in (bare n) 4 x 0 (length x) k (omega (arith, length_bare n)) h ∙ ap (byte x) (omega arith)

  -- "a call that stores a name makes all bytes after it zero"
  pub entry_after : (k : ℕ) → 4 + length x ≤ k → k < 260 → byte (entry_of n x) k ≡ 0
  unfolding entry_of
  entry_after k a b =
      byte-copied_off (put_word (replicate 260 0) 0 n) 4 x 0 (length x) k (omega arith)
      ∙ byte_out 4 (replicate 260 0) 0 n k (omega arith)
      ∙ get_or-replicate 260 k 0 0 b

-- a name that can be stored is read back
pub entry_name : (n : ℕ) (x : List ℕ) → Name x → name_in (entry_of n x) ≡ x
unfolding name_in
entry_name n x g =
    let e = entry_of n x in
    let len : length e ≡ 260 = length_entry n x g.high in
    let rest : length (drop 4 e) ≡ 256 = length-drop 4 e ∙ omega arith in
    let u : upto_nul (drop 4 e) ≡ x =
    upto_is (drop 4 e) x (omega (arith, g.high)) g.no_nul
    (λ k h. get_or-drop 4 e k 0 ∙ entry_name_byte n x g.high k h)
    (get_or-drop 4 e (length x) 0 ∙ entry_after n x g.high (4 + length x) (omega arith) (omega (arith, g.high))) in
    rw (eq-eqb (length e) 260 len, u, lt-ltb (length x) 256 (omega (arith, g.high)))
