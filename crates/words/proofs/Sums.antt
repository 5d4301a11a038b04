-- Laws of sums and counts. Assumes nothing.
use mathlib.Core.Path.{◌≡◌, refl, sym, ap, ◌∙◌, subst}
use mathlib.Core.Bool.{Bool}
use mathlib.Core.List.{List, [], ◌∷◌, ◌++◌}
use mathlib.Core.Logic.{◌⊎◌, ⊎_elim}
use Prim.Native.Nat.{ℕ, zero, suc, ◌+◌, ◌≤◌, ◌<◌}
use native.Mathlib.Nat.{add-zero, add-suc}
use native.Mathlib.Omega.{arith}
use native.Mathlib.Decide.{ℕ_discrete, dec_lt}
use borrow.Author.Tests.{eq-eqb, ne_eqb}
use Rattle.words.specs.Words.{pick}
use Rattle.words.specs.Sums.{δ, sum_to, sum_on, cnt, without}

pub δ_same : (a b : ℕ) → a ≡ b → δ a b ≡ 1
unfolding δ
δ_same a b e = ap (λ (t : Bool). pick {A = ℕ} t 1 0) (eq-eqb a b e)

pub δ_other : (a b : ℕ) → (a ≡ b → ⊥) → δ a b ≡ 0
unfolding δ
δ_other a b e = ap (λ (t : Bool). pick {A = ℕ} t 1 0) (ne_eqb a b e)

-- by cases on a ≡ b
pub δ_cases : (a b : ℕ) → ((a ≡ b) × (δ a b ≡ 1)) ⊎ ((a ≡ b → ⊥) × (δ a b ≡ 0))
δ_cases a b = go (ℕ_discrete a b)
  where
    go : Dec (a ≡ b) → ((a ≡ b) × (δ a b ≡ 1)) ⊎ ((a ≡ b → ⊥) × (δ a b ≡ 0))
    go (yes e) = ◌⊎◌.inl (e, δ_same a b e)
    go (no h) = ◌⊎◌.inr (h, δ_other a b h)

pub δ_le : (a b : ℕ) → δ a b ≤ 1
δ_le a b = ⊎_elim (λ w. omega (arith, w.1)) (λ w. omega (arith, w.1)) (δ_cases a b)

pub δ_pos : (a b : ℕ) → 0 < δ a b → a ≡ b
δ_pos a b h = ⊎_elim (λ w. w.0) (λ w. absurd (omega (arith, w.1))) (δ_cases a b)

pub δ_comm : (a b : ℕ) → δ a b ≡ δ b a
δ_comm a b = ⊎_elim (λ w. w.1 ∙ sym (δ_same b a (sym w.0))) (λ w. w.1 ∙ sym (δ_other b a (λ e. w.0 (sym e)))) (δ_cases a b)

pub sum_to_suc : (f : ℕ → ℕ) (n : ℕ) → sum_to f (suc n) ≡ sum_to f n + f n
unfolding sum_to
sum_to_suc f n = refl

pub sum_to_zero : (f : ℕ → ℕ) → sum_to f 0 ≡ 0
unfolding sum_to
sum_to_zero f = refl

-- i is below n + 1: it is n, or below n
pub split_last : (i n : ℕ) → i < suc n → (i ≡ n) ⊎ (i < n)
split_last i n h = go (ℕ_discrete i n)
  where
    go : Dec (i ≡ n) → (i ≡ n) ⊎ (i < n)
    go (yes e) = ◌⊎◌.inl e
    go (no d) = ◌⊎◌.inr (omega arith)

pub sum_to_mono : (f : ℕ → ℕ) (n m : ℕ) → n ≤ m → sum_to f n ≤ sum_to f m
sum_to_mono f n zero h = subst (λ (k : ℕ). sum_to f k ≤ sum_to f 0) (let e : 0 ≡ n = omega arith in e) (omega arith)
sum_to_mono f n (suc m) h =
    let r = sum_to_mono f n m in
    ⊎_elim
    (λ e. subst (λ (k : ℕ). sum_to f k ≤ sum_to f (suc m)) (sym e) (omega arith))
    (λ l. let q : sum_to f n ≤ sum_to f m = r (omega arith) in omega (arith, sum_to_suc f m))
    (split_last n (suc m) (omega arith))

pub sum_to_term : (f : ℕ → ℕ) (n i : ℕ) → i < n → f i ≤ sum_to f n
sum_to_term f n i h = omega (arith, sum_to_mono f (suc i) n h, sum_to_suc f i)

-- one more term than the first i, where i is below n
pub sum_to_next : (f : ℕ → ℕ) (n i : ℕ) → i < n → sum_to f i + f i ≤ sum_to f n
sum_to_next f n i h = omega (arith, sum_to_mono f (suc i) n h, sum_to_suc f i)

pub sum_to_cong : (f g : ℕ → ℕ) (n : ℕ) → ((i : ℕ) → i < n → f i ≡ g i) → sum_to f n ≡ sum_to g n
sum_to_cong f g zero h = sum_to_zero f ∙ sym (sum_to_zero g)
sum_to_cong f g (suc n) h =
    omega (arith, sum_to_suc f n, sum_to_suc g n, h n (omega arith), sum_to_cong f g n (λ i l. h i (omega arith)))

-- f and g differ at j alone
pub sum_to_point : (f g : ℕ → ℕ) (n j : ℕ) → j < n → ((i : ℕ) → i < n → (i ≡ j → ⊥) → g i ≡ f i) → sum_to g n + f j ≡ sum_to f n + g j
sum_to_point f g zero j l h = absurd (omega arith)
sum_to_point f g (suc n) j l h =
    let r = sum_to_point f g n j in
    ⊎_elim
    (λ e.
    subst (λ (k : ℕ). sum_to g (suc n) + f k ≡ sum_to f (suc n) + g k) (sym e)
    (omega (arith, sum_to_suc f n, sum_to_suc g n, sum_to_cong g f n (λ i b. h i (omega arith) (λ q. omega arith)))))
    (λ b. omega (arith, sum_to_suc f n, sum_to_suc g n, r b (λ i c d. h i (omega arith) d), h n (omega arith) (λ q. omega arith)))
    (split_last j n l)

pub sum_to_ones : (f : ℕ → ℕ) (n : ℕ) → ((i : ℕ) → f i ≤ 1) → sum_to f n ≤ n
sum_to_ones f zero h = omega (arith, sum_to_zero f)
sum_to_ones f (suc n) h = omega (arith, sum_to_suc f n, h n, sum_to_ones f n h)

-- a term that is 0 leaves the sum below n
pub sum_to_room : (f : ℕ → ℕ) (n j : ℕ) → ((i : ℕ) → f i ≤ 1) → j < n → f j ≡ 0 → sum_to f n < n
sum_to_room f zero j h l z = absurd (omega arith)
sum_to_room f (suc n) j h l z =
    let r = sum_to_room f n j h in
    ⊎_elim
    (λ e. let q : f n ≡ 0 = subst (λ (k : ℕ). f k ≡ 0) e z in omega (arith, sum_to_suc f n, sum_to_ones f n h))
    (λ b. omega (arith, sum_to_suc f n, r b z, h n))
    (split_last j n l)

pub sum_on_nil : (f : ℕ → ℕ) → sum_on f [] ≡ 0
unfolding sum_on
sum_on_nil f = refl

pub sum_on_cons : (f : ℕ → ℕ) (x : ℕ) (a : List ℕ) → sum_on f (x ∷ a) ≡ f x + sum_on f a
unfolding sum_on
sum_on_cons f x a = refl

pub sum_on_append : (f : ℕ → ℕ) (a b : List ℕ) → sum_on f (a ++ b) ≡ sum_on f a + sum_on f b
unfolding sum_on
sum_on_append f [] b = omega arith
sum_on_append f (x ∷ a) b = omega (arith, sum_on_append f a b)

pub sum_on_snoc : (f : ℕ → ℕ) (a : List ℕ) (x : ℕ) → sum_on f (a ++ (x ∷ [])) ≡ sum_on f a + f x
sum_on_snoc f a x = omega (arith, sum_on_append f a (x ∷ []), sum_on_cons f x [], sum_on_nil f)

without_here : (m x : ℕ) (xs : List ℕ) → m ≡ x → without m (x ∷ xs) ≡ xs
unfolding without
without_here m x xs e = ap (λ (t : Bool). pick {A = List ℕ} t xs (x ∷ without m xs)) (eq-eqb m x e)

without_there : (m x : ℕ) (xs : List ℕ) → (m ≡ x → ⊥) → without m (x ∷ xs) ≡ x ∷ without m xs
unfolding without
without_there m x xs e = ap (λ (t : Bool). pick {A = List ℕ} t xs (x ∷ without m xs)) (ne_eqb m x e)

pub sum_on-without : (f : ℕ → ℕ) (m : ℕ) (l : List ℕ) → 0 < cnt m l → sum_on f l ≡ f m + sum_on f (without m l)
sum_on-without f m [] h = absurd (omega (arith, sum_on_nil (δ m)))
sum_on-without f m (x ∷ xs) h =
    let r = sum_on-without f m xs in
    ⊎_elim
    (λ w. rw (without_here m x xs w.0) (omega (arith, sum_on_cons f x xs, ap f w.0)))
    (λ w.
    rw (without_there m x xs w.0)
    (omega (arith, sum_on_cons f x xs, sum_on_cons f x (without m xs), r (omega (arith, sum_on_cons (δ m) x xs, w.1)))))
    (δ_cases m x)

-- what is listed at most as often as in l has at most l's sum
pub sum_on_sub : (f : ℕ → ℕ) (q l : List ℕ) → ((m : ℕ) → cnt m q ≤ cnt m l) → sum_on f q ≤ sum_on f l
sum_on_sub f [] l h = omega (arith, sum_on_nil f)
sum_on_sub f (x ∷ q) l h =
    let here : 0 < cnt x l = omega (arith, h x, sum_on_cons (δ x) x q, δ_same x x refl) in
    omega (
      arith,
      sum_on_cons f x q,
      sum_on-without f x l here,
      sum_on_sub f q (without x l) (λ m. omega (arith, h m, sum_on_cons (δ m) x q, sum_on-without (δ m) x l here)),
    )

pub sum_on_term : (f : ℕ → ℕ) (m : ℕ) (l : List ℕ) → 0 < cnt m l → f m ≤ sum_on f l
sum_on_term f m l h = omega (arith, sum_on-without f m l h)

pub sum_on_cong : (f g : ℕ → ℕ) (l : List ℕ) → ((n : ℕ) → 0 < cnt n l → f n ≡ g n) → sum_on f l ≡ sum_on g l
sum_on_cong f g [] h = sum_on_nil f ∙ sym (sum_on_nil g)
sum_on_cong f g (x ∷ l) h =
    omega (
      arith,
      sum_on_cons f x l,
      sum_on_cons g x l,
      h x (omega (arith, sum_on_cons (δ x) x l, δ_same x x refl)),
      sum_on_cong f g l (λ n c. h n (omega (arith, sum_on_cons (δ n) x l))),
    )

pub sum_on_two : (f : ℕ → ℕ) (l : List ℕ) (a b : ℕ) → (a ≡ b → ⊥) → 0 < cnt a l → 0 < cnt b l → f a + f b ≤ sum_on f l
sum_on_two f l a b d ca cb =
    omega (
      arith,
      sum_on-without f a l ca,
      sum_on_term f b (without a l) (omega (arith, sum_on-without (δ b) a l ca, δ_other b a (λ e. d (sym e)))),
    )

-- f and g differ at p alone, which is listed once
pub sum_on_point : (f g : ℕ → ℕ) (l : List ℕ) (p : ℕ) → cnt p l ≡ 1 → ((n : ℕ) → 0 < cnt n l → (n ≡ p → ⊥) → g n ≡ f n) → sum_on g l + f p ≡ sum_on f l + g p
sum_on_point f g l p c h =
    let i : 0 < cnt p l = omega arith in
    omega (
      arith,
      sum_on-without f p l i,
      sum_on-without g p l i,
      sum_on_cong g f (without p l)
          (λ n k. h n (omega (arith, sum_on-without (δ n) p l i))
          (λ e. omega (arith, sum_on-without (δ n) p l i, ap (λ (x : ℕ). cnt x l) e, δ_same n p e))),
    )

pub sum_to_two : (f : ℕ → ℕ) (n i j : ℕ) → i < j → j < n → f i + f j ≤ sum_to f n
sum_to_two f n i j a b = omega (arith, sum_to_next f n j b, sum_to_term f j i a)

-- two different terms of a sum, in any order
pub sum_to_apart : (f : ℕ → ℕ) (n i j : ℕ) → (i ≡ j → ⊥) → i < n → j < n → f i + f j ≤ sum_to f n
sum_to_apart f n i j d a b = go (dec_lt i j)
  where
    go : Dec (i < j) → f i + f j ≤ sum_to f n
    go (yes l) = omega (arith, sum_to_two f n i j l b)
    go (no l) = omega (arith, sum_to_two f n j i (omega arith) a)

pub sum_to_pos : (f : ℕ → ℕ) (n : ℕ) → 0 < sum_to f n → (i : ℕ) × (i < n) × (0 < f i)
sum_to_pos f zero h = absurd (omega (arith, sum_to_zero f))
sum_to_pos f (suc n) h =
    let r = sum_to_pos f n in
    let e = sum_to_suc f n in
    go r (dec_lt 0 (f n))
  where
    go : (0 < sum_to f n → (i : ℕ) × (i < n) × (0 < f i)) → Dec (0 < f n) → (i : ℕ) × (i < suc n) × (0 < f i)
    go r (yes l) = (n, omega arith, l)
    go r (no l) = let w = r (omega (arith, sum_to_suc f n)) in (w.0, omega (arith, w.1), w.2)

pub sum_on_pos : (f : ℕ → ℕ) (l : List ℕ) → 0 < sum_on f l → (n : ℕ) × (0 < cnt n l) × (0 < f n)
sum_on_pos f [] h = absurd (omega (arith, sum_on_nil f))
sum_on_pos f (x ∷ l) h = go (sum_on_pos f l) (dec_lt 0 (f x))
  where
    go : (0 < sum_on f l → (n : ℕ) × (0 < cnt n l) × (0 < f n)) → Dec (0 < f x) → (n : ℕ) × (0 < cnt n (x ∷ l)) × (0 < f n)
    go r (yes p) = (x, omega (arith, sum_on_cons (δ x) x l, δ_same x x refl), p)
    go r (no p) = let w = r (omega (arith, sum_on_cons f x l)) in (w.0, omega (arith, w.1, sum_on_cons (δ w.0) x l), w.2)

-- ---- sums of sums

pub sum_to_add : (f g h : ℕ → ℕ) (n : ℕ) → ((i : ℕ) → i < n → h i ≡ f i + g i) → sum_to h n ≡ sum_to f n + sum_to g n
sum_to_add f g h zero e = omega (arith, sum_to_zero f, sum_to_zero g, sum_to_zero h)
sum_to_add f g h (suc n) e =
    omega (arith, sum_to_suc f n, sum_to_suc g n, sum_to_suc h n, e n (omega arith), sum_to_add f g h n (λ i l. e i (omega arith)))

pub sum_on_add : (f g h : ℕ → ℕ) (l : List ℕ) → ((n : ℕ) → h n ≡ f n + g n) → sum_on h l ≡ sum_on f l + sum_on g l
sum_on_add f g h [] e = omega (arith, sum_on_nil f, sum_on_nil g, sum_on_nil h)
sum_on_add f g h (x ∷ l) e = omega (arith, sum_on_cons f x l, sum_on_cons g x l, sum_on_cons h x l, e x, sum_on_add f g h l e)

pub sum_to_none : (f : ℕ → ℕ) (n : ℕ) → ((i : ℕ) → i < n → f i ≡ 0) → sum_to f n ≡ 0
sum_to_none f zero h = sum_to_zero f
sum_to_none f (suc n) h = omega (arith, sum_to_suc f n, h n (omega arith), sum_to_none f n (λ i l. h i (omega arith)))

pub sum_to_each : (f : ℕ → ℕ) (n : ℕ) → ((i : ℕ) → i < n → f i ≡ 1) → sum_to f n ≡ n
sum_to_each f zero h = sum_to_zero f
sum_to_each f (suc n) h = omega (arith, sum_to_suc f n, h n (omega arith), sum_to_each f n (λ i l. h i (omega arith)))

-- n terms, and then m more
pub sum_to_more : (f : ℕ → ℕ) (n m : ℕ) → sum_to f (n + m) ≡ sum_to f n + sum_to (λ i. f (n + i)) m
sum_to_more f n zero = omega (arith, ap (sum_to f) (add-zero n), sum_to_zero (λ i. f (n + i)))
sum_to_more f n (suc m) = omega (arith, ap (sum_to f) (add-suc n m), sum_to_suc f (n + m), sum_to_suc (λ i. f (n + i)) m, sum_to_more f n m)

-- the order of two sums does not matter
pub sum_to_swap : (f : ℕ → ℕ → ℕ) (n m : ℕ) → sum_to (λ i. sum_to (f i) m) n ≡ sum_to (λ j. sum_to (λ i. f i j) n) m
sum_to_swap f zero m =
    sum_to_zero (λ i. sum_to (f i) m) ∙ sym (sum_to_none (λ j. sum_to (λ i. f i j) 0) m (λ j l. sum_to_zero (λ i. f i j)))
sum_to_swap f (suc n) m =
    omega (
      arith,
      sum_to_suc (λ i. sum_to (f i) m) n,
      sum_to_swap f n m,
      sum_to_add (λ j. sum_to (λ i. f i j) n) (f n) (λ j. sum_to (λ i. f i j) (suc n)) m (λ j l. sum_to_suc (λ i. f i j) n),
    )

pub sum_on_swap : (f : ℕ → ℕ → ℕ) (l : List ℕ) (m : ℕ) → sum_on (λ x. sum_to (f x) m) l ≡ sum_to (λ j. sum_on (λ x. f x j) l) m
sum_on_swap f [] m =
    sum_on_nil (λ x. sum_to (f x) m) ∙ sym (sum_to_none (λ j. sum_on (λ x. f x j) []) m (λ j l. sum_on_nil (λ x. f x j)))
sum_on_swap f (x ∷ l) m =
    omega (
      arith,
      sum_on_cons (λ y. sum_to (f y) m) x l,
      sum_on_swap f l m,
      sum_to_add (f x) (λ j. sum_on (λ y. f y j) l) (λ j. sum_on (λ y. f y j) (x ∷ l)) m (λ j b. sum_on_cons (λ y. f y j) x l),
    )

-- a number below n is one of them, once
pub sum_to-δ : (a n : ℕ) → a < n → sum_to (δ a) n ≡ 1
sum_to-δ a zero l = absurd (omega arith)
sum_to-δ a (suc n) l =
    let r = sum_to-δ a n in
    ⊎_elim
    (λ e. omega (arith, sum_to_suc (δ a) n, δ_same a n e, sum_to_none (δ a) n (λ i b. δ_other a i (λ q. omega arith))))
    (λ b. omega (arith, sum_to_suc (δ a) n, r b, δ_other a n (λ q. omega arith)))
    (split_last a n l)
