-- Where a name is: `where_is` is the first entry with it, and the number of entries where none has it. Assumes nothing.
use mathlib.Core.Path.{◌≡◌, refl, sym, ap, ◌∙◌}
use mathlib.Core.Bool.{Bool, true, false}
use mathlib.Core.List.{List}
use Prim.Native.Nat.{ℕ, ◌+◌, ◌≤◌, ◌<◌}
use native.Mathlib.Omega.{arith}
use native.Mathlib.Decide.{ℕ_discrete, dec_lt}
use Rattle.words.specs.Words.{pick}
use Rattle.card_map.proofs.First.{first_hit, first_least, first_range}
use Rattle.card_rules.specs.View.{entries, name}
use Rattle.dir_entries.specs.Entries.{eqs, same_as, where_is, there}
use lib.Dec.{ltb}
use borrow.Author.Tests.{lt-ltb, le-ltb}
use Rattle.file_blocks.proofs.Picks.{pick_yes, pick_no}
use Rattle.std.specs.Prelude.{Option, Some, None}
use Rattle.dir_entries.proofs.Comparing.{eqs_same, eqs_is}

some_same : (a b : ℕ) → Some a ≡ Some b → a ≡ b
some_same a b e = cc

some_none : (a : ℕ) → Some a ≡ None → ⊥
some_none a e = let z : ◌≡◌ {A = ℕ} 0 1 = cc in omega arith

module _ (img : List ℕ) (n : ℕ) (x : List ℕ) where
  same_1 : (k : ℕ) → name img n k ≡ x → same_as img n x k ≡ 1
  same_1 k e = ap (λ (t : Bool). pick t 1 0) (eqs_is (name img n k) x e)

  same_of : (k : ℕ) → same_as img n x k ≡ 1 → name img n k ≡ x
  same_of k e = go (eqs (name img n k) x) refl
    where
      go : (t : Bool) → eqs (name img n k) x ≡ t → name img n k ≡ x
      go true p = eqs_same (name img n k) x p
      go false p = absurd (let z : same_as img n x k ≡ 0 = ap (λ (t : Bool). pick t 1 0) p in omega arith)

  pub where_range : where_is img n x ≤ entries img n
  unfolding where_is
  where_range = omega (arith, (first_range (same_as img n x) 0 (entries img n)).1)

  pub where_hit : where_is img n x < entries img n → name img n (where_is img n x) ≡ x
  unfolding where_is
  where_hit l = same_of (where_is img n x) (first_hit (same_as img n x) 0 (entries img n) (omega arith))

  pub where_least : (k : ℕ) → k < entries img n → name img n k ≡ x → where_is img n x ≤ k
  unfolding where_is
  where_least k l e = first_least (same_as img n x) 0 (entries img n) k (omega arith) (omega arith) (same_1 k e)

  -- an entry has it: it is found
  pub where_below : (k : ℕ) → k < entries img n → name img n k ≡ x → where_is img n x < entries img n
  where_below k l e = omega (arith, where_least k l e)

  -- no entry before it has it
  pub where_before : (k : ℕ) → k < where_is img n x → name img n k ≡ x → ⊥
  where_before k l e = omega (arith, where_range, where_least k (omega (arith, where_range)) e)

  -- none has it
  pub where_none : ((k : ℕ) → k < entries img n → name img n k ≡ x → ⊥) → where_is img n x ≡ entries img n
  where_none d = go (dec_lt (where_is img n x) (entries img n))
    where
      go : Dec (where_is img n x < entries img n) → where_is img n x ≡ entries img n
      go (yes l) = absurd (d (where_is img n x) l (where_hit l))
      go (no l) = omega (arith, where_range)

  pub where_not : where_is img n x ≡ entries img n → (k : ℕ) → k < entries img n → name img n k ≡ x → ⊥
  where_not p k l e = omega (arith, where_below k l e)

  -- the entry that it is
  pub where_is_lem : (k : ℕ) → k < entries img n → name img n k ≡ x → ((j : ℕ) → j < k → name img n j ≡ x → ⊥) → where_is img n x ≡ k
  where_is_lem k l e d = go (dec_lt (where_is img n x) k)
    where
      go : Dec (where_is img n x < k) → where_is img n x ≡ k
      go (yes q) = absurd (d (where_is img n x) q (where_hit (omega arith)))
      go (no q) = omega (arith, where_least k l e)

  pub there_at : (k : ℕ) → k < entries img n → name img n k ≡ x → ((j : ℕ) → j < k → name img n j ≡ x → ⊥) → there img n x ≡ Some k
  there_at k l e d =
      let w = where_is_lem k l e d in
      let t : ltb (where_is img n x) (entries img n) ≡ true = lt-ltb _ _ (omega (arith, w)) in
      rw (t, w)

  pub there_none : ((k : ℕ) → k < entries img n → name img n k ≡ x → ⊥) → there img n x ≡ None
  there_none d = let t : ltb (where_is img n x) (entries img n) ≡ false = le-ltb _ _ (omega (arith, where_none d)) in rw t

  -- what is answered, by the place
  pub there_is : (k : ℕ) → there img n x ≡ Some k → (where_is img n x ≡ k) × (k < entries img n)
  there_is k e = go (dec_lt (where_is img n x) (entries img n))
    where
      go : Dec (where_is img n x < entries img n) → (where_is img n x ≡ k) × (k < entries img n)
      go (yes l) = let w : where_is img n x ≡ k = some_same _ k (sym (pick_yes (where_is img n x) (entries img n) (Some (where_is img n x)) None l) ∙ e) in (w, omega arith)
      go (no l) = absurd (some_none k (sym e ∙ pick_no (where_is img n x) (entries img n) (Some (where_is img n x)) None (omega arith)))

  pub there_no : there img n x ≡ None → entries img n ≤ where_is img n x
  there_no e = go (dec_lt (where_is img n x) (entries img n))
    where
      go : Dec (where_is img n x < entries img n) → entries img n ≤ where_is img n x
      go (yes l) = absurd (some_none _ (sym (pick_yes (where_is img n x) (entries img n) (Some (where_is img n x)) None l) ∙ e))
      go (no l) = omega arith

  -- where no two entries have one name, any entry with it
  pub where_only : ((i j : ℕ) → i < j → j < entries img n → name img n i ≡ name img n j → ⊥) → (k : ℕ) → k < entries img n → name img n k ≡ x → where_is img n x ≡ k
  where_only d k l e = where_is_lem k l e (λ j q p. d j k q l (p ∙ sym e))

-- the entries before k have other names
pub record Unmet (img : List ℕ) (n : ℕ) (x : List ℕ) (k : ℕ) : Type 0 where
  pub none : (j : ℕ) → j < k → name img n j ≡ x → ⊥

module _ (img : List ℕ) (n : ℕ) (x : List ℕ) where
  pub unmet_none : Unmet img n x 0
  unmet_none = record { none = λ j l. absurd (omega arith) }

  pub unmet_more : (k : ℕ) → Unmet img n x k → (name img n k ≡ x → ⊥) → Unmet img n x (k + 1)
  unmet_more k u d = record { none = λ j l. go j l (ℕ_discrete j k) }
    where
      go : (j : ℕ) → j < k + 1 → Dec (j ≡ k) → name img n j ≡ x → ⊥
      go j l (yes p) q = d (ap (name img n) (sym p) ∙ q)
      go j l (no m) q = u.none j (omega arith) q
