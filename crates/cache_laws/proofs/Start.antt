-- What a start leaves is fresh. Assumes nothing.
use Prim.Native.Nat.{ℕ, suc, ◌+◌, ◌*◌, ◌%◌, ◌<◌}
use mathlib.Core.Path.{◌≡◌, refl, ◌∙◌}
use mathlib.Core.List.{List}
use native.Mathlib.Omega.{arith}
use native.Mathlib.Decide.{ℕ_discrete}
use lib.ListN.{length, set, length-set}
use lib.Seq.{get_or-set_same, get_or-set_other}
use Rattle.words.proofs.Runs.{turns_keep}
use Rattle.cache_order.specs.Slots.{slots_in, status_at, place_at, Sizes}
use Rattle.cache_order.specs.Order.{named, fresh_slot, started}
use Rattle.cache_laws.specs.Faithful.{Fresh}
use Rattle.cache_laws.proofs.Enter.{named-length, named_status, named_status_off, named_place}

module _ (w : List ℕ) where
  -- the slots before k are fresh
  record Begun (k : ℕ) (x : List ℕ) : Type 0 where
    long : length x ≡ length w
    unused : (j : ℕ) → j < k → status_at x j ≡ 0
    placed : (j : ℕ) → j < k → place_at x j ≡ j % 4294967296

  begun_more : (k : ℕ) (x : List ℕ) → k < slots_in w → Begun k x → Begun (suc k) (fresh_slot (0 + k) x)
  unfolding fresh_slot
  begun_more k x l b =
      let e : 0 + k ≡ k = omega arith in
      rw e
      (record {
        long = length-set (named x k 0 0) (3 * k + 2) (k % 4294967296) ∙ named-length x k 0 0 in_x ∙ b.long;
        unused = λ j a. get_or-set_other (named x k 0 0) (3 * k + 2) (3 * j) (k % 4294967296) 0 (λ z. omega arith) ∙ unused j a (ℕ_discrete j k);
        placed = λ j a. placed j a (ℕ_discrete j k);
      })
    where
      in_x : k < slots_in x
      in_x = omega (arith, b.long)

      unused : (j : ℕ) → j < suc k → Dec (j ≡ k) → status_at (named x k 0 0) j ≡ 0
      unused j a (yes e) = rw e (named_status x k 0 0 in_x)
      unused j a (no m) = named_status_off x k 0 0 in_x j m ∙ b.unused j (omega arith)

      placed : (j : ℕ) → j < suc k → Dec (j ≡ k) → place_at (set (named x k 0 0) (3 * k + 2) (k % 4294967296)) j ≡ j % 4294967296
      placed j a (yes e) =
          let n = named-length x k 0 0 in_x in
          let z = in_x in
          rw e (get_or-set_same (named x k 0 0) (3 * k + 2) (k % 4294967296) 0 (omega arith))
      placed j a (no m) =
          get_or-set_other (named x k 0 0) (3 * k + 2) (3 * j + 2) (k % 4294967296) 0 (λ z. m (omega arith))
          ∙ named_place x k 0 0 in_x j
          ∙ b.placed j (omega arith)

  begun : Begun (slots_in w) (started w)
  unfolding started
  begun =
      turns_keep fresh_slot 0 w Begun (record { long = refl; unused = λ j a. absurd (omega arith); placed = λ j a. absurd (omega arith) }) (slots_in w)
      (λ j x l h. begun_more j x l h)

pub start_fresh : (w d v : List ℕ) → Sizes w d → Fresh (started w) d v
start_fresh w d v z =
    let b = begun w in
    let n = b.long in
    record {
      sound = record {
        sizes = record { whole = omega (arith, z.whole); two = omega (arith, z.two); most = omega (arith, z.most); long = omega (arith, z.long) };
        fits = record {
          each = λ j a. let u = b.unused j (omega arith) in record { status = omega arith; inside = λ t. absurd (t u) };
        };
        apart = record {
          each = λ j a. record {
            before = λ k c. record {
              places = λ e. let m = z.most in let x = b.placed j (omega arith) in let y = b.placed k (omega arith) in omega arith;
              blocks = λ u t. absurd (u (b.unused k (omega arith)));
            };
          };
        };
      };
      unused = λ i l. b.unused i (omega arith);
    }
