-- A file that has grown by the plan is a change of one inode's length: what it took was free, and nothing else changed. `img` is the card before, `mid`
-- the card with the new length, before any byte of the new data is zeroed. Assumes nothing.
use mathlib.Core.Path.{◌≡◌, sym, ap, ◌∙◌, subst}
use mathlib.Core.Logic.{◌≢◌}
use mathlib.Core.List.{List}
use Prim.Native.Nat.{ℕ, ◌+◌, ◌-◌, ◌*◌, ◌≤◌, ◌<◌}
use native.Mathlib.Omega.{arith}
use native.Mathlib.Decide.{ℕ_discrete}
use lib.Dec.{ltb}
use Rattle.std.proofs.lemmas.Grind.{common_steps}
use Rattle.words.specs.Words.{pick, num}
use Rattle.words.specs.Inner.{Apart}
use Rattle.words.specs.Sums.{δ, sum_to, cnt}
use Rattle.words.proofs.Numbers.{num_frame}
use Rattle.words.proofs.Sums.{δ_same, δ_other, δ_pos, sum_to_zero, sum_to_suc, sum_to_pos, sum_to_cong, sum_to_add, sum_to_more, sum_to-δ}
use Rattle.card_layout.specs.Sizes.{maps_for, blocks_for}
use Rattle.card_layout.specs.Super.{blocks, unused, maps}
use Rattle.card_layout.specs.Inode.{count, indirect, double}
use Rattle.card_layout.specs.Slots.{seconds, owned}
use Rattle.card_map.specs.Bits.{map_bit, free_bits}
use Rattle.card_rules.specs.View.{second, data_at, owns}
use Rattle.card_rules.specs.Places.{Place, at_indirect, at_double, at_second, at_data, held, InUse}
use Rattle.card_rules.specs.Whole.{Sized, Sound, Inode}
use Rattle.card_rules.proofs.Views.{seconds_mono, owns_parts}
use Rattle.card_rules.proofs.Cells.{rank, held-owned, owned-held}
use Rattle.card_rules.proofs.Owners.{held_below, not_zero, not_map}
use Rattle.card_rules.proofs.Counting.{sum_to_numbers}
use Rattle.card_rules.specs.Same.{SameBlock}
use Rattle.card_rules.proofs.Kept.{Steady}
use Rattle.card_rules.proofs.Isolation.{Within}
use Rattle.file_grow.proofs.Taken.{nth_free, nth_free_lem, nth_below}
use Rattle.file_grow.proofs.Runs.{Clear}
use Rattle.law_files.proofs.Change.{Changed}
use Rattle.law_files.proofs.Plan.{Had, in_use_had, new_one, new_two, turn_of, planned, more, Planning, Grown}
use Rattle.law_files.proofs.PlanLaws.{nth_same, turns_all, planning}

-- ---- sums

-- c terms that stay, and then those of g
grown_sum : (f f' g : ℕ → ℕ) (c d : ℕ) → c ≤ d → ((i : ℕ) → i < c → f' i ≡ f i) → ((i : ℕ) → c ≤ i → i < d → f' i ≡ g (i - c))
    → sum_to f' d ≡ sum_to f c + sum_to g (d - c)
grown_sum f f' g c d l old new =
    let e : d ≡ c + (d - c) = omega arith in
    omega (
      arith,
      ap (sum_to f') e,
      sum_to_more f' c (d - c),
      sum_to_cong f' f c old,
      sum_to_cong (λ i. f' (c + i)) g (d - c)
          (λ i k. new (c + i) (omega arith) (omega arith) ∙ ap g (let q : c + i - c ≡ i = omega arith in q)),
    )

-- the same of what there is one of, from m on
grown_one : (m a b v w : ℕ) (g : ℕ → ℕ) → a ≤ b → (m ≤ a → w ≡ v) → (a < m → m ≤ b → w ≡ g 0)
    → pick (ltb b m) 0 w ≡ pick (ltb a m) 0 v + sum_to g (pick (ltb a m) (pick (ltb b m) 0 1) 0)
grown_one m a b v w g l old new = grind (arith, common_steps, sum_to_zero, sum_to_suc)

sum_to_four : (f : ℕ → ℕ) (i j k m : ℕ)
    → sum_to f (i + j + k + m) ≡ sum_to f i + sum_to (λ x. f (i + x)) j + sum_to (λ x. f (i + j + x)) k + sum_to (λ x. f (i + j + k + x)) m
sum_to_four f i j k m = omega (arith, sum_to_more f (i + j + k) m, sum_to_more f (i + j) k, sum_to_more f i j)

-- how often x is one of the m lowest free blocks
abbrev takes : List ℕ → ℕ → ℕ → ℕ
takes img m x = sum_to (λ j. δ (nth_free (blocks img) img j) x) m

-- once, where it is the j-th
takes_one : (img : List ℕ) (m x j : ℕ) → m ≤ free_bits img (blocks img) → j < m → nth_free (blocks img) img j ≡ x → takes img m x ≡ 1
takes_one img m x j h l e =
    sum_to_cong (λ i. δ (nth_free (blocks img) img i) x) (δ j) m (λ i k. go i k (ℕ_discrete j i)) ∙ sum_to-δ j m l
  where
    go : (i : ℕ) → i < m → Dec (j ≡ i) → δ (nth_free (blocks img) img i) x ≡ δ j i
    go i k (yes q) = δ_same (nth_free (blocks img) img i) x (ap (nth_free (blocks img) img) (sym q) ∙ e) ∙ sym (δ_same j i q)
    go i k (no q) =
        δ_other (nth_free (blocks img) img i) x
        (λ y. q (nth_same (blocks img) img j i (omega arith) (omega arith) (e ∙ sym y)))
        ∙ sym (δ_other j i q)

clear_positive : (x : ℕ) → Clear (4096 * x) 4096 → 0 < x
clear_positive x c = grind (arith, common_steps)

-- a card has one block of map
mapped_once : (img : List ℕ) → Sized img → maps img ≤ 1
unfolding maps_for
mapped_once img z = omega (arith, z.mapped, z.many)

module _ {img mid l : List ℕ} {n len : ℕ} (s : Sound img l) (h : 0 < cnt n l) (up : count img n < blocks_for len)
    (room : owned (blocks_for len) ≤ owned (count img n) + unused img) (g : Grown img mid n len) where
  plan : Planning img n (blocks_for len)
  plan = planning img l s n h (blocks_for len) (omega arith) room

  enough : more img n (blocks_for len) ≤ free_bits img (blocks img)
  enough = omega (arith, s.free)

  -- ---- places

  had_now : (p : Place) → InUse mid n p → Had (blocks_for len) p
  had_now p u = subst (λ (c : ℕ). Had c p) g.count_is (in_use_had mid n p u)

  old_placed : (p : Place) → Had (blocks_for len) p → InUse img n p → held mid n p ≡ held img n p
  old_placed p a u = g.placed p a ∙ plan.old p u

  data_same : (i : ℕ) → i < count img n → SameBlock img mid (data_at img n i)
  data_same i u =
      g.kept (data_at img n i) (held_below img l s n (at_data i) h u) (not_zero img l s n (at_data i) h u) (not_map img l s n (at_data i) h u)
      (λ p a r e.
      plan.apart (at_data i) p (omega arith) a (λ q. omega (arith, ap rank q)) (plan.old (at_data i) u ∙ e))

  -- what is neither n's nor free is not in the plan
  not_planned : (x : ℕ) → owns img n x ≡ 0 → map_bit img x ≡ 0 → (p : Place) → Had (blocks_for len) p → x ≢ planned img n (blocks_for len) p
  not_planned x o f p a e = grind (arith, common_steps, plan, held-owned)

  within : Within img mid n
  within = record { other = λ x q o f z y. g.kept x q z y (λ p a r. not_planned x o f p a) }

  -- ---- what n has, and what is free

  new_placed : (p : Place) → Had (blocks_for len) p → (InUse img n p → ⊥) → held mid n p ≡ nth_free (blocks img) img (turn_of (count img n) (blocks_for len) p)
  new_placed p a d = g.placed p a ∙ plan.new p a d

  owns-more : (x : ℕ) → owns mid n x ≡ owns img n x + takes img (more img n (blocks_for len)) x
  owns-more x =
      let a : ℕ = count img n in
      let b : ℕ = blocks_for len in
      let one : ℕ = new_one a b in
      let two : ℕ = one + new_two a b in
      let level : ℕ = two + (seconds b - seconds a) in
      let f : ℕ → ℕ = λ j. δ (nth_free (blocks img) img j) x in
      let now : ℕ → ℕ = λ y. δ y x in
      omega (
        arith,
        owns_parts mid n x,
        owns_parts img n x,
        ap (λ (c : ℕ). pick (ltb c 12) 0 (δ (indirect mid n) x)) g.count_is,
        ap (λ (c : ℕ). pick (ltb c 1036) 0 (δ (double mid n) x)) g.count_is,
        ap (λ (c : ℕ). sum_to (λ j. δ (second mid n j) x) (seconds c)) g.count_is,
        ap (λ (c : ℕ). sum_to (λ i. δ (data_at mid n i) x) c) g.count_is,
        grown_one 12 a b (δ (indirect img n) x) (δ (indirect mid n) x) f (omega arith)
            (λ u. ap now (old_placed at_indirect (omega arith) u))
            (λ d q. ap now (new_placed at_indirect q (λ u. omega arith))),
        grown_one 1036 a b (δ (double img n) x) (δ (double mid n) x) (λ k. f (one + k)) (omega arith)
            (λ u. ap now (old_placed at_double (omega arith) u))
            (λ d q. ap now (new_placed at_double q (λ u. omega arith)) ∙ ap f (let e : one ≡ one + 0 = omega arith in e)),
        grown_sum (λ j. δ (second img n j) x) (λ j. δ (second mid n j) x) (λ k. f (two + k)) (seconds a) (seconds b) (seconds_mono a b (omega arith))
            (λ j u. ap now (old_placed (at_second j) (omega (arith, seconds_mono a b (omega arith))) u))
            (λ j d q. ap now (new_placed (at_second j) q (λ u. omega arith))),
        grown_sum (λ i. δ (data_at img n i) x) (λ i. δ (data_at mid n i) x) (λ k. f (level + k)) a b (omega arith)
            (λ i u. ap now (old_placed (at_data i) (omega arith) u))
            (λ i d q. ap now (new_placed (at_data i) q (λ u. omega arith))),
        ap (sum_to f) (turns_all a b (omega arith)),
        sum_to_four f one (new_two a b) (seconds b - seconds a) (b - a),
      )

  bits_less : (x : ℕ) → x < blocks img → map_bit img x ≡ map_bit mid x + takes img (more img n (blocks_for len)) x
  bits_less x q = grind (arith, common_steps, sum_to_pos, δ_pos, takes_one, nth_free_lem)

  below : (x : ℕ) → blocks img ≤ x → owns mid n x ≡ 0
  below x q = grind (arith, common_steps, owned-held, plan)

  -- ---- superblock, map and record

  super_word : (at : ℕ) → at + 4 ≤ 48 → Apart at 4 8 4 → num 4 mid at ≡ num 4 img at
  super_word at q d = num_frame 4 mid img at (λ k a b. g.super_same k (omega arith) (λ u v. d (omega arith) (omega arith)))

  steady : Steady img mid
  steady =
      record {
        length_same = g.len_same;
        magic_same = super_word 0 (omega arith) (λ u v. omega arith);
        blocks_same = super_word 4 (omega arith) (λ u v. omega arith);
        maps_same = super_word 44 (omega arith) (λ u v. omega arith);
        past = λ x a q.
            g.others x (omega (arith, mapped_once img s.sized))
            (λ j b e. omega (arith, (nth_below (blocks img) img j (omega (arith, enough))).0));
        free =
            omega (
              arith,
              sum_to_add (map_bit mid) (takes img (more img n (blocks_for len))) (map_bit img) (blocks img) bits_less,
              sum_to_numbers (nth_free (blocks img) img) (more img n (blocks_for len)) (blocks img)
                  (λ j b. (nth_below (blocks img) img j (omega (arith, enough))).0),
              s.free,
              g.left,
            );
      }

  inode : Inode mid n
  inode =
      record {
        kind_low = rw g.kind_is (s.inode n h).kind_low;
        kind_high = rw g.kind_is (s.inode n h).kind_high;
        shape = record {
          counted = g.count_is ∙ ap blocks_for (sym g.size_is);
          single = record { from = λ a. some at_indirect (had_now at_indirect a); to = λ a. g.one_not (rw g.count_is at a) };
          twofold = record { from = λ a. some at_double (had_now at_double a); to = λ a. g.two_not (rw g.count_is at a) };
        };
      }
    where
      some : (p : Place) → Had (blocks_for len) p → 0 < held mid n p
      some p a = rw (g.placed p a) (clear_positive (planned img n (blocks_for len) p) (plan.clear p a))

  pub grown_changed : Changed img mid n len
  grown_changed =
      record {
        within = within;
        balanced =
            record { steady = steady; balance = λ x q. omega (arith, owns-more x, bits_less x q); below = below; inode = inode };
        bytes = g.bytes;
        size_is = g.size_is;
        kind_is = g.kind_is;
        links_is = g.links_is;
        places = λ p u v. old_placed p (had_now p v) u;
        data_same = λ i u v. data_same i u;
      }
