-- Read, write and resize say 5, 12 and 14 exactly for their causes: from what is said its cause follows, with a whole card, scratch enough, the inode reached
-- and no earlier cause; and from all these it is said. Assumes nothing. (1 to 4: OpenCauses.)
use mathlib.Core.Path.{◌≡◌, refl}
use mathlib.Core.Logic.{◌≢◌, ◌⊎◌}
use mathlib.Core.List.{List}
use Prim.Native.Nat.{ℕ, ◌+◌, ◌*◌, ◌≤◌, ◌<◌, max}
use native.Mathlib.Omega.{arith}
use lib.ListN.{length}
use Rattle.std.proofs.lemmas.Grind.{common_steps}
use Rattle.card_layout.specs.Super.{blocks}
use Rattle.card_layout.specs.Inode.{size, kind}
use Rattle.card_rules.specs.Whole.{Reached, Whole}
use Rattle.file_requests.specs.Requests.{longest}
use Rattle.call_said.specs.Said.{Said}
use Rattle.call_files.specs.FileCalls.{Read, Written, Resized}
use Rattle.law_calls.specs.Tests.{Tests, fine, test, First, TooFull, write_tests, resize_tests}
use Rattle.refusals.proofs.Refused.{giving_no}
use Rattle.law_calls.proofs.First.{first_one}
use Rattle.law_calls.proofs.FirstOpen.{whole_first}
use Rattle.law_calls.proofs.FirstFiles.{write_own, resize_own, read_own_lem, write_own_lem, resize_own_lem, write_first, resize_first}
use Rattle.refusals.specs.Refusals.{answer_no}

-- ---- 5, 12 and 14, for any causes

module _ (A B C : Type 0) (k : ℕ) where
  abbrev three : Tests
  three = test 5 A (test 12 B (test 14 C fine))

  at_5 : First three k → k ≡ 5 → A
  at_5 (◌⊎◌.inl a) e = a.0
  at_5 (◌⊎◌.inr (n, ◌⊎◌.inl b)) e = absurd (omega (arith, b.1))
  at_5 (◌⊎◌.inr (n, ◌⊎◌.inr (m, ◌⊎◌.inl c))) e = absurd (omega (arith, c.1))
  at_5 (◌⊎◌.inr (n, ◌⊎◌.inr (m, ◌⊎◌.inr (o, z)))) e = absurd (omega arith)

  at_12 : First three k → k ≡ 12 → (A → ⊥) × B
  at_12 t₁ e = grind (arith, common_steps)

  at_14 : First three k → k ≡ 14 → (A → ⊥) × (B → ⊥) × C
  at_14 t₁ e = grind (arith, common_steps)

-- ---- read

module _ {img s s' buf buf' : List ℕ} {n off : ℕ} {r : Said} (c : Read img s s' buf buf' n off r) where
  pub read_5 : (answer_no r ≡ 5 → Whole img × (4 * blocks img ≤ length s) × Reached img n × (kind img n ≡ 2))
      × (Whole img → 4 * blocks img ≤ length s → Reached img n → kind img n ≡ 2 → answer_no r ≡ 5)
  read_5 = grind (arith, common_steps, read_own_lem)

-- ---- write: to byte off + length src

module _ {img img' s s' src : List ℕ} {n off : ℕ} {r : Said} (c : Written img img' s s' src n off r) where
  write-past : 4 < answer_no r → Whole img × (4 * blocks img ≤ length s) × Reached img n × Reached img n × First (write_own img n off src) (answer_no r)
  write-past = grind (arith, common_steps, write_own_lem)

  write_says : (k : ℕ) → Whole img → 4 * blocks img ≤ length s → Reached img n → First (write_own img n off src) k → answer_no r ≡ k
  write_says k w l x f = first_one (write_tests img s n off src) (write_first c) (whole_first img s n n (write_own img n off src) k l w x x f)

  abbrev write_long : Type 0
  write_long = longest < off + length src

  abbrev write_full : Type 0
  write_full = TooFull img n (max (size img n) (off + length src))

  pub write_5 : (answer_no r ≡ 5 → Whole img × (4 * blocks img ≤ length s) × Reached img n × (kind img n ≡ 2))
      × (Whole img → 4 * blocks img ≤ length s → Reached img n → kind img n ≡ 2 → answer_no r ≡ 5)
  write_5 = (
    λ e. let x = write-past (omega arith) in (x.0, x.1, x.2, at_5 (kind img n ≡ 2) write_long write_full (answer_no r) x.4 e),
    λ w l x d. write_says 5 w l x (◌⊎◌.inl (d, refl)),
  )

  pub write_12 : (answer_no r ≡ 12 → Whole img × (4 * blocks img ≤ length s) × Reached img n × (kind img n ≢ 2) × (longest < off + length src))
      × (Whole img → 4 * blocks img ≤ length s → Reached img n → kind img n ≢ 2 → longest < off + length src → answer_no r ≡ 12)
  write_12 = (
    λ e.
        let x = write-past (omega arith) in
        let y = at_12 (kind img n ≡ 2) write_long write_full (answer_no r) x.4 e in
        (x.0, x.1, x.2, y.0, y.1),
    λ w l x d a. write_says 12 w l x (◌⊎◌.inr (d, ◌⊎◌.inl (a, refl))),
  )

  pub write_14 : (answer_no r ≡ 14 → Whole img × (4 * blocks img ≤ length s) × Reached img n × (kind img n ≢ 2) × (off + length src ≤ longest)
      × TooFull img n (max (size img n) (off + length src)))
      × (Whole img → 4 * blocks img ≤ length s → Reached img n → kind img n ≢ 2 → off + length src ≤ longest
      → TooFull img n (max (size img n) (off + length src)) → answer_no r ≡ 14)
  write_14 = (
    λ e.
        let x = write-past (omega arith) in
        let y = at_14 (kind img n ≡ 2) write_long write_full (answer_no r) x.4 e in
        (x.0, x.1, x.2, y.0, omega (arith, y.1), y.2),
    λ w l x d a b. write_says 14 w l x (◌⊎◌.inr (d, ◌⊎◌.inr (λ q. omega arith, ◌⊎◌.inl (b, refl)))),
  )

-- ---- resize

module _ {img img' s s' : List ℕ} {n len : ℕ} {r : Said} (c : Resized img img' s s' n len r) where
  resize_past : 4 < answer_no r → Whole img × (4 * blocks img ≤ length s) × Reached img n × Reached img n × First (resize_own img n len) (answer_no r)
  resize_past = grind (arith, common_steps, giving_no, resize_own_lem)

  resize_says : (k : ℕ) → Whole img → 4 * blocks img ≤ length s → Reached img n → First (resize_own img n len) k → answer_no r ≡ k
  resize_says k w l x f = first_one (resize_tests img s n len) (resize_first c) (whole_first img s n n (resize_own img n len) k l w x x f)

  pub resize_5 : (answer_no r ≡ 5 → Whole img × (4 * blocks img ≤ length s) × Reached img n × (kind img n ≡ 2))
      × (Whole img → 4 * blocks img ≤ length s → Reached img n → kind img n ≡ 2 → answer_no r ≡ 5)
  resize_5 = (
    λ e. let x = resize_past (omega arith) in (x.0, x.1, x.2, at_5 (kind img n ≡ 2) (longest < len) (TooFull img n len) (answer_no r) x.4 e),
    λ w l x d. resize_says 5 w l x (◌⊎◌.inl (d, refl)),
  )

  pub resize_12 : (answer_no r ≡ 12 → Whole img × (4 * blocks img ≤ length s) × Reached img n × (kind img n ≢ 2) × (longest < len))
      × (Whole img → 4 * blocks img ≤ length s → Reached img n → kind img n ≢ 2 → longest < len → answer_no r ≡ 12)
  resize_12 = (
    λ e.
        let x = resize_past (omega arith) in
        let y = at_12 (kind img n ≡ 2) (longest < len) (TooFull img n len) (answer_no r) x.4 e in
        (x.0, x.1, x.2, y.0, y.1),
    λ w l x d a. resize_says 12 w l x (◌⊎◌.inr (d, ◌⊎◌.inl (a, refl))),
  )

  pub resize_14 : (answer_no r ≡ 14
      → Whole img × (4 * blocks img ≤ length s) × Reached img n × (kind img n ≢ 2) × (len ≤ longest) × TooFull img n len)
      × (Whole img → 4 * blocks img ≤ length s → Reached img n → kind img n ≢ 2 → len ≤ longest → TooFull img n len → answer_no r ≡ 14)
  resize_14 = (
    λ e.
        let x = resize_past (omega arith) in
        let y = at_14 (kind img n ≡ 2) (longest < len) (TooFull img n len) (answer_no r) x.4 e in
        (x.0, x.1, x.2, y.0, omega (arith, y.1), y.2),
    λ w l x d a b. resize_says 14 w l x (◌⊎◌.inr (d, ◌⊎◌.inr (λ q. omega arith, ◌⊎◌.inl (b, refl)))),
  )
