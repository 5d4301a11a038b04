-- Laws of the chains, and of what windows of names show together. Assumes nothing.
use mathlib.Core.Path.{◌≡◌, sym, ap, ◌∙◌, subst}
use mathlib.Core.List.{List}
use Prim.Native.Nat.{ℕ, ◌+◌, ◌-◌, ◌*◌, ◌/◌, ◌%◌, ◌≤◌, ◌<◌, min}
use native.Mathlib.Nat.{mod-lt}
use native.Mathlib.Omega.{arith}
use native.Mathlib.Decide.{ℕ_discrete, dec_lt}
use lib.ListN.{length, get_or, set, length-set}
use lib.Seq.{get_or-set_same, get_or-set_other}
use Rattle.words.specs.Runs.{zeroed}
use Rattle.words.proofs.Runs.{byte-zeroed_in}
use Rattle.card_layout.specs.Entry.{Name}
use Rattle.card_rules.specs.View.{name, entries}
use Rattle.card_rules.specs.Whole.{Names}
use Rattle.check_names.specs.InnerNames.{hash, tag, key_at, bucket_at, Last, Chains, Alone, Window}

-- ---- the chains of a window, key by key

pub chains_none : (img : List ℕ) (n : ℕ) (w w' : List ℕ) (h lo : ℕ) → h ≤ length w → w' ≡ zeroed w 0 h → Chains img n w' h lo 0
chains_none img n w w' h lo l e =
    record {
      heads = λ q b.
          let s : 0 + q ≡ q = omega arith in
          let z : get_or w' q 0 ≡ 0 = ap (λ (x : List ℕ). get_or x q 0) e ∙ (rw s at (byte-zeroed_in w 0 h q (omega arith) b)) in
          record { low = omega arith; hit = λ p. absurd (omega arith); none = λ x a c. absurd (omega arith) };
      backs = λ x b. absurd (omega arith);
      tags = λ x b. absurd (omega arith);
    }

-- the bound grows past a key of another bucket
last_more : (b : ℕ → ℕ) (q c k : ℕ) → Last b q c k → (b k ≡ q → ⊥) → Last b q c (k + 1)
last_more b q c k l d = record { low = omega (arith, l.low); hit = l.hit; none = λ x a y. go x a y (ℕ_discrete x k) }
  where
    go : (x : ℕ) → c ≤ x → x < k + 1 → Dec (x ≡ k) → b x ≡ q → ⊥
    go x a y (yes e) p = d (ap b (sym e) ∙ p)
    go x a y (no n) p = l.none x a (omega arith) p

module _ (img : List ℕ) (n : ℕ) (w w' : List ℕ) (h lo k v : ℕ)
    (c : Chains img n w h lo k) (ph : 0 < h) (kb : k < 65535) (kw : h + k < length w)
    (ev : v ≡ hash (key_at img n lo k)) (e : w' ≡ set (set w (h + k) (v / 65536 * 65536 + get_or w (v % h) 0)) (v % h) (k + 1)) where
  abbrev b : ℕ → ℕ
  b x = bucket_at img n h lo x

  eb : v % h ≡ b k
  eb = ap (λ (x : ℕ). x % h) ev

  qh : v % h < h
  qh = mod-lt v ph

  at_head : get_or w' (v % h) 0 ≡ k + 1
  at_head =
      ap (λ (x : List ℕ). get_or x (v % h) 0) e
      ∙ get_or-set_same (set w (h + k) (v / 65536 * 65536 + get_or w (v % h) 0)) (v % h) (k + 1) 0 (simp length-set (omega (arith, qh)))

  at_back : get_or w' (h + k) 0 ≡ v / 65536 * 65536 + get_or w (v % h) 0
  at_back =
      ap (λ (x : List ℕ). get_or x (h + k) 0) e
      ∙ get_or-set_other (set w (h + k) (v / 65536 * 65536 + get_or w (v % h) 0)) (v % h) (h + k) (k + 1) 0 (λ p. omega (arith, qh))
      ∙ get_or-set_same w (h + k) (v / 65536 * 65536 + get_or w (v % h) 0) 0 kw

  at_other : (i : ℕ) → (i ≡ v % h → ⊥) → (i ≡ h + k → ⊥) → get_or w' i 0 ≡ get_or w i 0
  at_other i p q =
      ap (λ (x : List ℕ). get_or x i 0) e
      ∙ get_or-set_other (set w (h + k) (v / 65536 * 65536 + get_or w (v % h) 0)) (v % h) i (k + 1) 0 p
      ∙ get_or-set_other w (h + k) i (v / 65536 * 65536 + get_or w (v % h) 0) 0 q

  back_other : (x : ℕ) → x < k + 1 → (x ≡ k → ⊥) → get_or w' (h + x) 0 ≡ get_or w (h + x) 0
  back_other x l d = at_other (h + x) (λ q. omega (arith, qh)) (λ q. d (omega arith))

  heads' : (g : ℕ) → g < h → Dec (g ≡ v % h) → Last (bucket_at img n h lo) g (get_or w' g 0) (k + 1)
  heads' g l (yes p) =
      let r : get_or w' g 0 ≡ k + 1 = ap (λ (x : ℕ). get_or w' x 0) p ∙ at_head in
      subst (λ (x : ℕ). Last (bucket_at img n h lo) g x (k + 1)) (sym r)
      (record {
        low = omega arith;
        hit = λ q. ap (bucket_at img n h lo) (let z : k + 1 - 1 ≡ k = omega arith in z) ∙ sym eb ∙ sym p;
        none = λ x a y. absurd (omega arith);
      })
  heads' g l (no d) =
      subst (λ (x : ℕ). Last (bucket_at img n h lo) g x (k + 1)) (sym (at_other g d (λ q. omega arith)))
      (last_more (bucket_at img n h lo) g (get_or w g 0) k (c.heads g l) (λ q. d (sym (eb ∙ q))))

  backs' : (x : ℕ) → x < k + 1 → Dec (x ≡ k) → Last (bucket_at img n h lo) (b x) (get_or w' (h + x) 0 % 65536) x
  backs' x l (yes p) =
      let r : get_or w' (h + k) 0 % 65536 ≡ get_or w (v % h) 0 = omega (arith, at_back, (c.heads (v % h) qh).low) in
      subst (λ (y : ℕ). Last (bucket_at img n h lo) (b y) (get_or w' (h + y) 0 % 65536) y) (sym p)
      (subst (λ (y : ℕ). Last (bucket_at img n h lo) (b k) y k) (sym r)
      (subst (λ (g : ℕ). Last (bucket_at img n h lo) g (get_or w (v % h) 0) k) eb (c.heads (v % h) qh)))
  backs' x l (no d) =
      subst (λ (y : ℕ). Last (bucket_at img n h lo) (b x) (y % 65536) x) (sym (back_other x l d)) (c.backs x (omega arith))

  tags' : (x : ℕ) → x < k + 1 → Dec (x ≡ k) → get_or w' (h + x) 0 / 65536 ≡ tag (key_at img n lo x)
  tags' x l (yes p) =
      let r : get_or w' (h + k) 0 / 65536 ≡ v / 65536 = omega (arith, at_back, (c.heads (v % h) qh).low) in
      subst (λ (y : ℕ). get_or w' (h + y) 0 / 65536 ≡ tag (key_at img n lo y)) (sym p) (r ∙ ap (λ (y : ℕ). y / 65536) ev)
  tags' x l (no d) = ap (λ (y : ℕ). y / 65536) (back_other x l d) ∙ c.tags x (omega arith)

  pub chains_put : Chains img n w' h lo (k + 1)
  chains_put =
      record {
        heads = λ g l. heads' g l (ℕ_discrete g (v % h));
        backs = λ x l. backs' x l (ℕ_discrete x k);
        tags = λ x l. tags' x l (ℕ_discrete x k);
      }

-- ---- along the chain of name x: it differs from the keys that were passed, c and on

pub record Passed (img : List ℕ) (n h lo k : ℕ) (x : List ℕ) (c : ℕ) : Type 0 where
  pub low : c ≤ k
  pub hit : 0 < c → bucket_at img n h lo (c - 1) ≡ hash x % h
  pub apart : (i : ℕ) → c ≤ i → i < k → key_at img n lo i ≡ x → ⊥

module _ (img : List ℕ) (n h lo k : ℕ) (x : List ℕ) where
  pub passed_none : (c : ℕ) → Last (bucket_at img n h lo) (hash x % h) c k → Passed img n h lo k x c
  passed_none c l =
      record { low = l.low; hit = l.hit; apart = λ i a b q. l.none i a b (ap (λ (y : List ℕ). hash y % h) q) }

  pub passed_more : (c c' : ℕ) → 0 < c → Passed img n h lo k x c
      → Last (bucket_at img n h lo) (bucket_at img n h lo (c - 1)) c' (c - 1) → (key_at img n lo (c - 1) ≡ x → ⊥) → Passed img n h lo k x c'
  passed_more c c' pc p l d =
      record {
        low = omega (arith, l.low, p.low);
        hit = λ z. l.hit z ∙ p.hit pc;
        apart = λ i a b q. go i a b q (ℕ_discrete i (c - 1));
      }
    where
      far : (i : ℕ) → c' ≤ i → i < k → key_at img n lo i ≡ x → (i ≡ c - 1 → ⊥) → Dec (i < c - 1) → ⊥
      far i a b q n' (yes y) = l.none i a y (ap (λ (y : List ℕ). hash y % h) q ∙ sym (p.hit pc))
      far i a b q n' (no y) = p.apart i (omega arith) b q

      go : (i : ℕ) → c' ≤ i → i < k → key_at img n lo i ≡ x → Dec (i ≡ c - 1) → ⊥
      go i a b q (yes e) = d (ap (key_at img n lo) (sym e) ∙ q)
      go i a b q (no n') = far i a b q n' (dec_lt i (c - 1))

-- ---- a window, entry by entry

pub window_none : (img : List ℕ) (n lo m : ℕ) → Window img n lo m lo
window_none img n lo m = record { named = λ k a b. absurd (omega arith); apart = λ i k a b d e. absurd (omega arith) }

pub window_more : (img : List ℕ) (n lo m k j : ℕ) → lo ≤ j → k ≡ min (j - lo) m → Window img n lo m j
    → Name (name img n j) → Alone img n lo k (name img n j) → Window img n lo m (j + 1)
window_more img n lo m k j l e w s a =
    record { named = λ y p q. fit y p q (ℕ_discrete y j); apart = λ i y p q r t u. go i y p q r t u (ℕ_discrete y j) }
  where
    fit : (y : ℕ) → lo ≤ y → y < j + 1 → Dec (y ≡ j) → Name (name img n y)
    fit y p q (yes f) = subst (λ (x : ℕ). Name (name img n x)) (sym f) s
    fit y p q (no d) = w.named y p (omega arith)

    go : (i y : ℕ) → lo ≤ i → i < lo + m → i < y → y < j + 1 → name img n i ≡ name img n y → Dec (y ≡ j) → ⊥
    go i y p q r t u (yes f) =
        let z : lo + (i - lo) ≡ i = omega arith in
        a (i - lo) (omega arith) (ap (name img n) z ∙ u ∙ ap (name img n) f)
    go i y p q r t u (no d) = w.apart i y p q r (omega arith) u

-- a name that is not alone
pub names_alone : (img : List ℕ) (n lo k j : ℕ) → lo + k ≤ j → j < entries img n → Names img n → Alone img n lo k (name img n j)
names_alone img n lo k j l b s i p q = s.differ (lo + i) j (omega arith) b q

-- ---- window by window: lo names are known to differ from all later ones, and after the first window all can be stored

pub record Before (img : List ℕ) (n lo e : ℕ) : Type 0 where
  pub named : 0 < lo → (k : ℕ) → k < e → Name (name img n k)
  pub apart : (i k : ℕ) → i < lo → i < k → k < e → name img n i ≡ name img n k → ⊥

pub before_none : (img : List ℕ) (n e : ℕ) → Before img n 0 e
before_none img n e = record { named = λ p. absurd (omega arith); apart = λ i k p. absurd (omega arith) }

pub before_more : (img : List ℕ) (n lo m e : ℕ) → Before img n lo e → Window img n lo m e → Before img n (lo + m) e
before_more img n lo m e b w =
    record { named = λ p k q. fit k q (dec_lt 0 lo); apart = λ i k p q r u. go i k p q r u (dec_lt i lo) }
  where
    fit : (k : ℕ) → k < e → Dec (0 < lo) → Name (name img n k)
    fit k q (yes z) = b.named z k q
    fit k q (no z) = w.named k (omega arith) q

    go : (i k : ℕ) → i < lo + m → i < k → k < e → name img n i ≡ name img n k → Dec (i < lo) → ⊥
    go i k p q r u (yes z) = b.apart i k z q r u
    go i k p q r u (no z) = w.apart i k (omega arith) p q r u

pub before_all : (img : List ℕ) (n lo e : ℕ) → 0 < e → e ≤ lo → e ≡ entries img n → Before img n lo e → Names img n
before_all img n lo e p l q b =
    record { named = λ k r. b.named (omega arith) k (omega arith); differ = λ i k r t. b.apart i k (omega arith) r (omega arith) }
