-- Blocks that are freed one after another: their bits get set, the unused count goes up with them, and nothing else changes. That a block's bit was
-- clear before needs no word on the blocks being different: each of them is counted, and bit and count together are at most 1. Assumes nothing.
use mathlib.Core.Path.{◌≡◌, refl, sym, ap, ◌∙◌, subst}
use mathlib.Core.Bool.{Bool, true, false}
use mathlib.Core.List.{List}
use Prim.Native.Nat.{ℕ, zero, suc, ◌+◌, ◌-◌, ◌*◌, ◌≤◌, ◌<◌}
use native.Mathlib.Nat.{add-zero}
use native.Mathlib.Numerals.{add-one}
use native.Mathlib.Omega.{arith}
use lib.ListN.{length}
use Rattle.std.proofs.lemmas.Grind.{common_steps}
use Rattle.words.specs.Words.{pick, byte, num, word, Bytes}
use Rattle.words.specs.Sums.{δ, sum_to}
use Rattle.words.proofs.Numbers.{num_frame}
use Rattle.words.proofs.Sums.{δ_same, δ_other, sum_to_zero, sum_to_suc, sum_to_mono, sum_to_ones, sum_to_more}
use Rattle.card_layout.specs.Super.{unused}
use Rattle.card_map.specs.Bits.{map_byte, map_bit, free_bits}
use Rattle.card_map.specs.Free.{freed}
use Rattle.card_map.proofs.Map.{bit_below}
use Rattle.card_map.proofs.Laws.{length-freed, bytes_freed, byte-freed_off, bit_freed_same, bit_freed_other, unused-freed, free_freed}
use Rattle.file_blocks.specs.Inner.{Sizes}
use Rattle.file_blocks.specs.Taking.{freed_in, free_run}
use Rattle.file_shrink.proofs.Freeing.{freed_in_in, free_run_none, free_run_more}
use Rattle.file_grow.proofs.Runs.{Clear}

-- cur is img with blocks below nb freed: block x `gone x` times
pub record Freed (nb : ℕ) (img : List ℕ) (gone : ℕ → ℕ) (cur : List ℕ) : Type 0 where
  pub len : length cur ≡ length img
  pub bytes : Bytes cur
  pub bits : (x : ℕ) → x < nb → map_bit cur x ≡ map_bit img x + gone x
  pub past : (x : ℕ) → nb ≤ x → map_bit cur x ≡ map_bit img x
  pub free : unused cur ≡ free_bits cur nb
  pub kept : (p : ℕ) → Clear p 1 → byte cur p ≡ byte img p

-- the k words from `at` on are apart from map and unused count, and list the blocks f 0, .., f (k - 1)
pub record Listed (nb : ℕ) (img : List ℕ) (at k : ℕ) (f : ℕ → ℕ) : Type 0 where
  pub clear : (j : ℕ) → j < k → Clear (at + 4 * j) 4
  pub lists : (j : ℕ) → j < k → word img (at + 4 * j) ≡ f j
  pub below : (j : ℕ) → j < k → f j < nb

-- no block is free and gone, or gone twice
pub record Once (nb : ℕ) (img : List ℕ) (gone : ℕ → ℕ) : Type 0 where
  pub most : (x : ℕ) → x < nb → map_bit img x + gone x ≤ 1

-- f i + .. + f (j - 1)
abbrev pub span : (ℕ → ℕ) → ℕ → ℕ → ℕ
span f i j = sum_to (λ k. f (i + k)) (j - i)

pub span_sum : (f : ℕ → ℕ) (i j : ℕ) → i ≤ j → sum_to f i + span f i j ≡ sum_to f j
span_sum f i j l = let e : i + (j - i) ≡ j = omega arith in sym (sum_to_more f i (j - i)) ∙ ap (sum_to f) e

-- a part of it, and that part and the next
pub span-most : (f : ℕ → ℕ) (i j k : ℕ) → i ≤ j → j ≤ k → span f i j ≤ span f i k
span-most f i j k p q = omega (arith, span_sum f i j p, span_sum f i k (omega arith), sum_to_mono f j k q)

pub span_join : (f : ℕ → ℕ) (i j j' k k' : ℕ) → i ≤ j → j ≡ j' → k ≡ k' → j' ≤ k' → span f i k ≡ span f i j + span f j' k'
span_join f i j j' k k' p e e' q =
    omega (arith, span_sum f i j p, span_sum f i k (omega arith), span_sum f j' k' q, ap (sum_to f) e, ap (sum_to f) e')

module _ (nb : ℕ) (img : List ℕ) where
  pub freed_none : Bytes img → free_bits img nb ≡ unused img → Freed nb img (λ x. 0) img
  freed_none b e =
      record { len = refl; bytes = b; bits = λ x q. sym (add-zero (map_bit img x)); past = λ x q. refl; free = sym e; kept = λ p c. refl }

  -- the same count, said otherwise
  pub freed_is : (gone more : ℕ → ℕ) (cur : List ℕ) → ((x : ℕ) → more x ≡ gone x) → Freed nb img gone cur → Freed nb img more cur
  freed_is gone more cur e f = grind (arith, common_steps)

  -- a number that is apart from map and unused count
  pub num_kept : (gone : ℕ → ℕ) (cur : List ℕ) (w at : ℕ) → Freed nb img gone cur → Clear at w → num w cur at ≡ num w img at
  num_kept gone cur w at f c = grind (arith, common_steps, num_frame)

  module _ (sizes : Sizes img nb) where
    module _ (gone : ℕ → ℕ) (cur : List ℕ) (f : Freed nb img gone cur) (v : ℕ) (l : v < nb) (once : map_bit img v + (gone v + δ v v) ≤ 1) where
      inside : map_byte v < length cur
      inside = omega (arith, f.len, sizes.few, sizes.many, sizes.long)

      was : map_bit cur v ≡ 0
      was = omega (arith, f.bits v l, once, δ_same v v refl)

      unused_low : unused cur ≤ 32768
      unused_low = omega (arith, f.free, sizes.many, sum_to_ones (map_bit cur) nb (λ x. let b = bit_below cur x in omega arith))

      free_more : unused (freed cur v) ≡ free_bits (freed cur v) nb
      free_more = omega (arith, f.free, was, unused-freed cur v inside (omega (arith, unused_low)), free_freed cur v inside nb l)

      -- one block more
      pub freed_one : Freed nb img (λ x. gone x + δ v x) (freed cur v)
      freed_one = grind (arith, common_steps, length-freed, bytes_freed, bit_freed_other, free_more, byte-freed_off, bit_freed_same, δ_same, δ_other)

      pub freed_in_one : Freed nb img (λ x. gone x + δ v x) (freed_in nb v cur)
      freed_in_one = rw (freed_in_in nb v cur l) freed_one

    -- the blocks that a run of words lists
    pub freed_run : (gone : ℕ → ℕ) (cur : List ℕ) → Freed nb img gone cur → (at k : ℕ) (f : ℕ → ℕ) → Listed nb img at k f
        → Once nb img (λ x. gone x + sum_to (λ j. δ (f j) x) k) → Freed nb img (λ x. gone x + sum_to (λ j. δ (f j) x) k) (free_run nb at k cur)
    freed_run gone cur c at zero f h o =
        rw (← free_run_none nb at cur) (freed_is gone (λ x. gone x + sum_to (λ j. δ (f j) x) 0) cur (λ x. omega (arith, sum_to_zero (λ j. δ (f j) x))) c)
    freed_run gone cur c at (suc k) f h o =
        let r : Freed nb img (λ x. gone x + sum_to (λ j. δ (f j) x) k) (free_run nb at k cur)
        = freed_run gone cur c at k f
        (record { clear = λ j l. h.clear j (omega arith); lists = λ j l. h.lists j (omega arith); below = λ j l. h.below j (omega arith) })
        (record { most = λ x q. omega (arith, o.most x q, sum_to_suc (λ j. δ (f j) x) k) }) in
        let mid : List ℕ = free_run nb at k cur in
        let w : word mid (at + 4 * k) ≡ f k
        = num_kept (λ x. gone x + sum_to (λ j. δ (f j) x) k) mid 4 (at + 4 * k) r (h.clear k (omega arith)) ∙ h.lists k (omega arith) in
        let e : freed_in nb (f k) mid ≡ free_run nb at (suc k) cur
        = ap (λ (v : ℕ). freed_in nb v mid) (sym w) ∙ free_run_more nb at k cur ∙ ap (λ (i : ℕ). free_run nb at i cur) (add-one k) in
        subst (Freed nb img (λ x. gone x + sum_to (λ j. δ (f j) x) (suc k))) e
        (freed_is (λ x. gone x + sum_to (λ j. δ (f j) x) k + δ (f k) x) (λ x. gone x + sum_to (λ j. δ (f j) x) (suc k)) (freed_in nb (f k) mid)
        (λ x. omega (arith, sum_to_suc (λ j. δ (f j) x) k))
        (freed_in_one (λ x. gone x + sum_to (λ j. δ (f j) x) k) mid r (f k) (h.below k (omega arith))
        (omega (arith, o.most (f k) (h.below k (omega arith)), sum_to_suc (λ j. δ (f j) (f k)) k))))

    -- a block that is freed where t holds and u does not
    pub freed_gap : (gone : ℕ → ℕ) (cur : List ℕ) → Freed nb img gone cur → (v : ℕ) → v < nb → (t u : Bool)
        → Once nb img (λ x. gone x + pick t (pick u 0 (δ v x)) 0)
        → Freed nb img (λ x. gone x + pick t (pick u 0 (δ v x)) 0) (pick t (pick u cur (freed_in nb v cur)) cur)
    freed_gap gone cur f v l true true o = freed_is gone (λ x. gone x + 0) cur (λ x. add-zero (gone x)) f
    freed_gap gone cur f v l true false o = freed_in_one gone cur f v l (o.most v l)
    freed_gap gone cur f v l false u o = freed_is gone (λ x. gone x + 0) cur (λ x. add-zero (gone x)) f
