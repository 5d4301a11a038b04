-- A run takes the next blocks in rising order and lists them, and changes nothing else. Assumes nothing.
use mathlib.Core.Path.{◌≡◌, refl, sym, ap, ◌∙◌}
use mathlib.Core.List.{List}
use Prim.Native.Nat.{ℕ, zero, suc, ◌+◌, ◌*◌, ◌≤◌, ◌<◌}
use native.Mathlib.Nat.{add-zero, add-suc}
use native.Mathlib.Numerals.{add-one}
use native.Mathlib.Omega.{arith}
use native.Mathlib.Decide.{ℕ_discrete}
use lib.ListN.{length, length-set}
use lib.Seq.{get_or-set_same, get_or-set_other}
use Rattle.words.specs.Words.{byte, word, put_word}
use Rattle.words.specs.Inner.{Apart}
use Rattle.words.specs.Runs.{turns}
use Rattle.words.proofs.Numbers.{length-put, byte_out, num_out, num_same, num_frame}
use Rattle.card_layout.specs.Inode.{block_id, number_at}
use Rattle.card_layout.specs.Super.{unused}
use Rattle.card_layout.specs.declared.BlockId.{BlockId}
use Rattle.card_map.specs.Bits.{map_byte, free_bits}
use Rattle.card_map.specs.Free.{taken}
use Rattle.card_map.proofs.Map.{bit_is}
use Rattle.card_map.proofs.Laws.{length_taken}
use Rattle.file_blocks.specs.Taking.{Cursor, Growing, next_of, took_next, into_word, into_direct, grow_run}
use Rattle.file_blocks.specs.Inner.{Sizes}
use Rattle.file_blocks.proofs.Growth.{grow_run_none, grow_run_more}
use Rattle.file_grow.proofs.Taken.{nth_free, nth_below, TookLowest, took_kept, next_is, took_next_lem, byte-took_next}

-- n bytes at `at` that are apart from the unused count and from the map
pub record Clear (at n : ℕ) : Type 0 where
  pub count : Apart at n 8 4
  pub map : Apart at n 8192 4096

-- c is c₀ after k more blocks, which are listed from `at` on; n had been taken before
pub record Ran (nb : ℕ) (img : List ℕ) (n at k : ℕ) (c₀ c : Cursor) : Type 0 where
  pub took : TookLowest nb img (n + k) c
  pub listed : (j : ℕ) → j < k → word c.img (at + 4 * j) ≡ nth_free nb img (n + j)
  pub kept : (p : ℕ) → Clear p 1 → Apart p 1 at (4 * k) → byte c.img p ≡ byte c₀.img p

-- g is g₀ after k more blocks, which stand in the direct slots from i on
pub record RanDirect (nb : ℕ) (img : List ℕ) (n i k : ℕ) (g₀ g : Growing) : Type 0 where
  pub took : TookLowest nb img (n + k) g.cur
  pub head : g.inode.head ≡ g₀.inode.head
  pub long : length g.inode.direct ≡ length g₀.inode.direct
  pub listed : (j : ℕ) → j < k → number_at g.inode.direct (i + j) ≡ nth_free nb img (n + j)
  pub others : (m : ℕ) → Apart m 1 i k → number_at g.inode.direct m ≡ number_at g₀.inode.direct m
  pub kept : (p : ℕ) → Clear p 1 → byte g.cur.img p ≡ byte g₀.cur.img p

module _ (nb : ℕ) (img : List ℕ) (sizes : Sizes img nb) (exact : unused img ≡ free_bits img nb) where
  module _ (k : ℕ) (more : k < free_bits img nb) (c : Cursor) (t : TookLowest nb img k c) (at : ℕ) where
    -- one more, whose number is written at `at`
    pub took_word : Clear at 4 → TookLowest nb img (suc k) (into_word nb at c)
    took_word clear =
        took_kept nb img (suc k) (took_next nb c) (put_word out at (next_of nb c)) sizes (omega arith) (took_next_lem nb img sizes exact k more c t)
        (length-put 4 out at (next_of nb c))
        (λ b l.
        bit_is out (put_word out at (next_of nb c)) b
        (byte_out 4 out at (next_of nb c) (map_byte b) (λ p q. clear.map (omega arith) (omega arith))))
        (num_out 4 4 out 8 at (next_of nb c) (λ p q. clear.count (omega arith) (omega arith)))
      where
        out : List ℕ
        out = taken c.img c.from nb

    pub word-into_word : at + 4 ≤ length img → word (into_word nb at c).img at ≡ nth_free nb img k
    word-into_word h =
        let e = next_is nb img sizes exact k more c t in
        let l = length_taken c.img c.from nb in
        let b = (nth_below nb img k more).0 in
        num_same 4 (taken c.img c.from nb) at (next_of nb c) (omega (arith, t.len)) (omega (arith, sizes.many)) ∙ e

    pub byte-into_word : (p : ℕ) → Clear p 1 → Apart p 1 at 4 → byte (into_word nb at c).img p ≡ byte c.img p
    byte-into_word p clear a =
        let b = (nth_below nb img k more).0 in
        byte_out 4 (taken c.img c.from nb) at (next_of nb c) p a
        ∙ byte-took_next nb img sizes exact k more c t p clear.count
        (λ e. clear.map (omega (arith, sizes.many)) (omega (arith, sizes.many)))

  module _ (n at : ℕ) (c₀ : Cursor) (t₀ : TookLowest nb img n c₀) where
    ran_none : Ran nb img n at 0 c₀ c₀
    ran_none = record { took = rw (add-zero n) t₀; listed = λ j l. omega arith; kept = λ p h a. refl }

    ran_more : (k : ℕ) (c : Cursor) → n + k < free_bits img nb → Clear at (4 * suc k) → at + 4 * suc k ≤ length img → Ran nb img n at k c₀ c
        → Ran nb img n at (suc k) c₀ (into_word nb (at + 4 * k) c)
    ran_more k c more clear room r =
        record {
          took =
              rw (add-suc n k)
              (took_word (n + k) more c r.took (at + 4 * k)
              (record { count = λ p q. clear.count (omega arith) (omega arith); map = λ p q. clear.map (omega arith) (omega arith) }));
          listed = λ j l. lists j l (ℕ_discrete j k);
          kept = λ p h a.
              byte-into_word (n + k) more c r.took (at + 4 * k) p h (λ x y. a (omega arith) (omega arith))
              ∙ r.kept p h (λ x y. a (omega arith) (omega arith));
        }
      where
        lists : (j : ℕ) → j < suc k → Dec (j ≡ k) → word (into_word nb (at + 4 * k) c).img (at + 4 * j) ≡ nth_free nb img (n + j)
        lists j l (yes e) =
            ap (λ (i : ℕ). word (into_word nb (at + 4 * k) c).img (at + 4 * i)) e
            ∙ word-into_word (n + k) more c r.took (at + 4 * k) (omega arith)
            ∙ ap (λ (i : ℕ). nth_free nb img (n + i)) (sym e)
        lists j l (no d) =
            num_frame 4 (into_word nb (at + 4 * k) c).img c.img (at + 4 * j)
            (λ p x y.
            byte-into_word (n + k) more c r.took (at + 4 * k) p
            (record { count = λ u v. clear.count (omega arith) (omega arith); map = λ u v. clear.map (omega arith) (omega arith) })
            (λ u v. omega arith))
            ∙ r.listed j (omega arith)

    -- the run takes the free blocks n, .., n + k - 1 and lists them in this order
    pub ran : (k : ℕ) → n + k ≤ free_bits img nb → Clear at (4 * k) → at + 4 * k ≤ length img → Ran nb img n at k c₀ (grow_run nb at k c₀)
    ran zero h clear room = rw (← grow_run_none nb at c₀) ran_none
    ran (suc k) h clear room =
        rw (ap (λ (x : ℕ). grow_run nb at x c₀) (sym (add-one k)) ∙ sym (grow_run_more nb at k c₀))
        (ran_more k (grow_run nb at k c₀) (omega arith) clear room
        (ran k (omega arith)
        (record { count = λ p q. clear.count (omega arith) (omega arith); map = λ p q. clear.map (omega arith) (omega arith) })
        (omega arith)))

  module _ (n i : ℕ) (g₀ : Growing) (t₀ : TookLowest nb img n g₀.cur) where
    direct_none : RanDirect nb img n i 0 g₀ g₀
    direct_none =
        record { took = rw (add-zero n) t₀; head = refl; long = refl; listed = λ j l. omega arith; others = λ m h. refl; kept = λ p h. refl }

    direct-more : (k : ℕ) (g : Growing) → n + k < free_bits img nb → i + suc k ≤ length g₀.inode.direct → RanDirect nb img n i k g₀ g
        → RanDirect nb img n i (suc k) g₀ (into_direct nb (i + k) g)
    direct-more k g more room r =
        record {
          took = rw (add-suc n k) (took_next_lem nb img sizes exact (n + k) more g.cur r.took);
          head = r.head;
          long = length-set d (i + k) v ∙ r.long;
          listed = λ j l. lists j l (ℕ_discrete j k);
          others = λ m h. ap (λ (x : BlockId). x.0) (get_or-set_other d (i + k) m v (block_id 0) (λ e. h (omega arith) (omega arith))) ∙ r.others m (λ x y. h (omega arith) (omega arith));
          kept = λ p h.
              byte-took_next nb img sizes exact (n + k) more g.cur r.took p h.count
              (λ e. h.map (omega (arith, low, sizes.many)) (omega (arith, low, sizes.many)))
              ∙ r.kept p h;
        }
      where
        d : List BlockId
        d = g.inode.direct

        v : BlockId
        v = block_id (next_of nb g.cur)

        low : nth_free nb img (n + k) < nb
        low = (nth_below nb img (n + k) more).0

        lists : (j : ℕ) → j < suc k → Dec (j ≡ k) → number_at (into_direct nb (i + k) g).inode.direct (i + j) ≡ nth_free nb img (n + j)
        lists j l (yes e) =
            ap (λ (x : ℕ). number_at (into_direct nb (i + k) g).inode.direct (i + x)) e
            ∙ ap (λ (x : BlockId). x.0) (get_or-set_same d (i + k) v (block_id 0) (omega (arith, r.long)))
            ∙ next_is nb img sizes exact (n + k) more g.cur r.took
            ∙ ap (λ (x : ℕ). nth_free nb img (n + x)) (sym e)
        lists j l (no m) = ap (λ (x : BlockId). x.0) (get_or-set_other d (i + k) (i + j) v (block_id 0) (λ e. m (omega arith))) ∙ r.listed j (omega arith)

    -- the direct slots i, .., i + k - 1 get the free blocks n, .., n + k - 1
    pub direct_ran : (k : ℕ) → n + k ≤ free_bits img nb → i + k ≤ length g₀.inode.direct
        → RanDirect nb img n i k g₀ (turns (λ j x. into_direct nb j x) i k g₀)
    unfolding turns
    direct_ran zero h room = direct_none
    direct_ran (suc k) h room =
        direct-more k (turns (λ j x. into_direct nb j x) i k g₀) (omega arith) room (direct_ran k (omega arith) (omega arith))
