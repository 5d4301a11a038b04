-- `check_walk::map::bytes_agree` meets its contract. The loop's invariant: each block of the bytes before i is in use once or free. Assumes nothing.
use mathlib.Core.Path.{◌≡◌, ap}
use mathlib.Core.List.{List}
use Prim.Native.Nat.{ℕ, ◌+◌, ◌-◌, ◌*◌, ◌≤◌, ◌<◌}
use native.Mathlib.Omega.{arith}
use native.Mathlib.Decide.{dec_lt}
use lib.ListN.{get_or}
use Rattle.words.specs.Words.{byte}
use Rattle.card_map.specs.Bits.{map_bit}
use Rattle.card_map.proofs.Bits.{bit_of}
use Rattle.card_map.proofs.Map.{bit_at}
use Rattle.check_walk.specs.Inner.{own_at}
use Rattle.check_walk.proofs.map.bytes_agree.Goals as goal

-- each block below n is in use once or free
abbrev Each : List ℕ → List ℕ → ℕ → ℕ → Type 0
Each img s nb n = (b : ℕ) → b < n → own_at s nb b + map_bit img b ≡ 1

-- the eight blocks of map byte i, as they are asked for by their marks and the byte
abbrev Eight : List ℕ → List ℕ → ℕ → ℕ → Type 0
Eight img s nb i = (k : ℕ) → k < 8 → get_or s (3 * nb + 8 * i + k) 0 + bit_of (byte img (8192 + i)) k ≡ 1

module _ (img s : List ℕ) (nb i : ℕ) where
  own-at : (k : ℕ) → own_at s nb (8 * i + k) ≡ get_or s (3 * nb + 8 * i + k) 0
  own-at k = let e : 3 * nb + (8 * i + k) ≡ 3 * nb + 8 * i + k = omega arith in ap (λ (a : ℕ). get_or s a 0) e

  of-each : (n : ℕ) → 8 * i + 8 ≤ n → Each img s nb n → Eight img s nb i
  of-each n p h k l = omega (arith, h (8 * i + k) (omega arith), own-at k, bit_at img i k l)

  more : Each img s nb (8 * i) → Eight img s nb i → Each img s nb (8 * (i + 1))
  more h g b l = go (dec_lt b (8 * i))
    where
      go : Dec (b < 8 * i) → own_at s nb b + map_bit img b ≡ 1
      go (yes p) = h b p
      go (no p) =
          let k = b - 8 * i in
          let e : 8 * i + k ≡ b = omega arith in
          omega (arith, g k (omega arith), own-at k, bit_at img i k (omega arith), ap (own_at s nb) e, ap (map_bit img) e)

pub returns-then-not-eight_agree : goal.returns-then-not-eight_agree
returns-then-not-eight_agree c =
    let a = c.args in
    let i = c.loop-i.i in
    λ h. c.if-not-eight_agree.ensures (of-each a.image.now a.s.now a.nb i (8 * a.n) (omega arith) h)

pub loop-i-preserved : goal.loop-i-preserved
loop-i-preserved c =
    let a = c.args in
    let i = c.loop-i.i in
    more a.image.now a.s.now a.nb i c.loop-i.invariant c.if-not-eight_agree.ensures
