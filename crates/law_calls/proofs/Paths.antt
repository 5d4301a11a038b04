-- What a path from the root leads to stays there, and is not removed, as long as no call that is done asks about a name on the way: calls on other names cannot
-- take it away, since what an unlink removes had no other name. Assumes nothing.
use mathlib.Core.Path.{◌≡◌, refl, sym, ap, ◌∙◌, subst}
use mathlib.Core.Logic.{◌≢◌}
use mathlib.Core.Bool.{false}
use mathlib.Core.List.{List}
use Prim.Native.Nat.{ℕ, ◌+◌, ◌-◌, ◌≤◌, ◌<◌}
use native.Mathlib.Omega.{arith}
use native.Mathlib.Decide.{ℕ_discrete}
use Rattle.std.proofs.lemmas.Grind.{common_steps}
use Rattle.words.specs.Words.{Bytes}
use Rattle.words.specs.Sums.{δ, cnt}
use Rattle.words.proofs.Sums.{δ_same, sum_to_apart, sum_on_nil, sum_on_term, sum_on_two}
use Rattle.card_layout.specs.Inode.{kind}
use Rattle.card_rules.specs.View.{entries, entry, name, kids, kid, times_named, naming}
use Rattle.card_rules.specs.Whole.{Reached, root, down as below, Whole}
use Rattle.card_rules.proofs.Views.{kids_of_dir}
use Rattle.card_rules.proofs.Tree.{names_some, reached_listed, unnamed_root}
use Rattle.dir_entries.specs.Entries.{where_is}
use Rattle.dir_entries.specs.Names.{is_dots}
use Rattle.dir_entries.proofs.Lookup.{where_hit}
use Rattle.dir_answers.specs.Answers.{the_inode, named_by}
use Rattle.dir_look.specs.Look.{find_answer}
use Rattle.law_dirs.proofs.LookTests.{find_tests_lem}
use Rattle.law_dirs.proofs.UnlinkTests.{has_past}
use Rattle.law_calls.specs.SameData.{SameData}
use Rattle.law_calls.specs.Made.{Asked, unlinking, Made, filed, create, link, unlink, move, find, list, describe, check, OfBytesAll, removes_of, Asks}
use Rattle.law_calls.specs.Runs.{Call, Done, Unwritten, Unremoved, Unasked, Run, none, next}
use Rattle.law_calls.specs.Paths.{Path, end, down, OnWay, first, later}
use Rattle.law_calls.proofs.Frame.{same_data_refl, same_data_trans}
use Rattle.law_calls.proofs.DoneCalls.{unlinked_parent, unlinked_target}
use Rattle.law_calls.proofs.Made.{made_whole, made_bytes}
use Rattle.law_calls.proofs.Stays.{not_in, made_stays}
use Rattle.law_calls.proofs.Finds.{made_finds}
use Rattle.law_calls.proofs.Runs.{call_data}
use Rattle.call_said.specs.Said.{Said}
use Rattle.refusals.specs.Refusals.{answer_no}

-- ---- what is named once

-- entry j of n and entry i of k, counted after "." and "..", both name m, which is named once
module _ {img : List ℕ} (w : Whole img) {n k m j i : ℕ} (rn : Reached img n) (rk : Reached img k) (lj : j < kids img n) (li : i < kids img k)
    (ej : kid img n j ≡ m) (ei : kid img k i ≡ m) (one : naming img w.inodes m ≤ 1) where
  once_dir : n ≡ k
  once_dir = grind (arith, common_steps, names_some, sum_on_two)

  once_place : j ≡ i
  once_place = go (ℕ_discrete j i)
    where
      go : Dec (j ≡ i) → j ≡ i
      go (yes e) = e
      go (no f) =
          absurd (omega (
            arith,
            one,
            sum_to_apart (λ x. δ (kid img k x) m) (kids img k) j i f (subst (λ (x : ℕ). j < kids img x) once_dir lj) li,
            δ_same (kid img k j) m (ap (λ (x : ℕ). kid img x j) (sym once_dir) ∙ ej),
            δ_same (kid img k i) m ei,
            sum_on_term (λ x. times_named img x m) k w.inodes (reached_listed img w k rk),
          ))

-- ---- one step down

-- entry `place` of directory n, counted after "." and "..", has the name x and the number m
pub record Named (img : List ℕ) (n : ℕ) (x : List ℕ) (m : ℕ) : Type 0 where
  pub dir : kind img n ≡ 2
  pub place : ℕ
  pub inside : place < kids img n
  pub number : kid img n place ≡ m
  pub called : name img n (2 + place) ≡ x

named_at : {img : List ℕ} {n : ℕ} {x : List ℕ} (j : ℕ) → kind img n ≡ 2 → 2 ≤ j → j < entries img n → name img n j ≡ x → Named img n x (entry img n j)
named_at {img} {n} j d low high q =
    let e : 2 + (j - 2) ≡ j = omega arith in
    record {
      dir = d;
      place = j - 2;
      inside = omega (arith, kids_of_dir img n d);
      number = ap (entry img n) e;
      called = ap (name img n) e ∙ q;
    }

module _ {img : List ℕ} (w : Whole img) {n : ℕ} (r : Reached img n) {x : List ℕ} where
  pub step_named : {m : ℕ} → is_dots x ≡ false → find_answer img n x ≡ the_inode m → Named img n x m
  step_named {m} p f = grind (arith, common_steps, find_tests_lem, named_at, has_past)

  pub named_reached : {m : ℕ} → Named img n x m → Reached img m
  named_reached {m} a = below m a.place r a.inside a.number

  -- an inode that is named once has one name
  once_named : {k m : ℕ} {y : List ℕ} → Reached img k → Named img n x m → Named img k y m → naming img w.inodes m ≤ 1 → (n ≡ k) × (x ≡ y)
  once_named {k} {m} {y} q a b o = grind (arith, common_steps, once_dir, once_place)

-- ---- what a call that is done does not remove

module _ {img : List ℕ} (w : Whole img) (p : ℕ) (y : List ℕ) (r : Reached img (named_by img p y)) (m : ℕ) where
  abbrev c : ℕ
  c = named_by img p y

  unlink_spares : (m ≡ c → naming img w.inodes m ≤ 1 → ⊥) → cnt m (removes_of img (unlinking p y)) ≡ 0
  unlink_spares f = grind (arith, common_steps, not_in, sum_on_nil)

module _ {img img' : List ℕ} (w : Whole img) (b : Bytes img) where
  -- all but what an unlink names by its one name
  spares : {q : Asked} {r : Said} → Made img img' q r → answer_no r ≡ 0 → (m : ℕ)
      → ((p : ℕ) (y : List ℕ) → q ≡ unlinking p y → Reached img p → Named img p y m → naming img w.inodes m ≤ 1 → ⊥) → cnt m (removes_of img q) ≡ 0
  spares (filed c) z m f = sum_on_nil (δ m)
  spares (create s s' p x k r c) z m f = sum_on_nil (δ m)
  spares (link s s' p x n r c) z m f = sum_on_nil (δ m)
  spares (unlink s s' p x r c) z m f =
      let t = (unlinked_target w b c z).1 in
      let n = named_at (where_is img p x) t.parent t.past t.there (where_hit img p x t.there) in
      unlink_spares w p x t.reached m (λ e. f p x refl (unlinked_parent w b c z) (subst (Named img p x) (sym e) n))
  spares (move s s' p old t new r c) z m f = sum_on_nil (δ m)
  spares (find s s' p x r c e) z m f = sum_on_nil (δ m)
  spares (list s s' p k r x c e) z m f = sum_on_nil (δ m)
  spares (describe s s' n r k l v x c e) z m f = sum_on_nil (δ m)
  spares (check s s' a r c i e) z m f = sum_on_nil (δ m)

  module _ {q : Asked} {r : Said} (c : Made img img' q r) (z : answer_no r ≡ 0) where
    pub root_spared : cnt 1 (removes_of img q) ≡ 0
    root_spared = spares c z 1 (λ p y _ h a _. unnamed_root img w p a.place h a.inside a.number)

    -- what a name leads to that the call does not ask about
    pub named_spared : {n m : ℕ} {x : List ℕ} → Reached img n → Named img n x m → (Asks img q n x → ⊥) → cnt m (removes_of img q) ≡ 0
    named_spared {n} {m} {x} h a f =
        spares c z m (λ p y e k g o. subst (λ (v : Asked). Asks img v n x → ⊥) e f (once_named w h k a g o))

-- ---- a path, and one call

module _ {img : List ℕ} (w : Whole img) where
  reached_from : {n m : ℕ} {xs : List (List ℕ)} → Reached img n → Path img n xs m → Reached img m
  reached_from h end = h
  reached_from h (down p f y) = reached_from (named_reached w h (step_named w h p f)) y

  pub reached_path : {m : ℕ} {xs : List (List ℕ)} → Path img 1 xs m → Reached img m
  reached_path = reached_from root

module _ {img img' : List ℕ} (w : Whole img) (b : Bytes img) {q : Asked} {r : Said} (o : OfBytesAll q) (c : Made img img' q r) where
  path_from : {n m : ℕ} {xs : List (List ℕ)} → Reached img n → (answer_no r ≡ 0 → cnt n (removes_of img q) ≡ 0) → Path img n xs m
      → (answer_no r ≡ 0 → (d : ℕ) (x : List ℕ) → OnWay img n xs d x → Asks img q d x → ⊥) → Path img' n xs m × (answer_no r ≡ 0 → cnt m (removes_of img q) ≡ 0)
  path_from h s end a = (end, s)
  path_from {n} h s (down {x = x} p f y) a =
      let g = step_named w h p f in
      let i = made_finds w b o c n h g.dir x s (λ z. a z n x first) in
      let j = path_from (named_reached w h g) (λ z. named_spared w b c z h g (a z n x first)) y (λ z d v u. a z d v (later f u)) in
      (down p (i.1 ∙ f) j.0, j.1)

  pub made_path : {m : ℕ} {xs : List (List ℕ)} → Path img 1 xs m
      → (answer_no r ≡ 0 → (d : ℕ) (x : List ℕ) → OnWay img 1 xs d x → Asks img q d x → ⊥) → Path img' 1 xs m × (answer_no r ≡ 0 → cnt m (removes_of img q) ≡ 0)
  made_path = path_from root (root_spared w b c)

-- ---- runs, no call of which asks about a name on the way

module _ {P : List ℕ → List ℕ → Call → Type 0} (m : ℕ) (xs : List (List ℕ))
    (alone : (img mid : List ℕ) (c : Call) → P img mid c → Done c → (d : ℕ) (x : List ℕ) → OnWay img 1 xs d x → Asks img c.asked d x → ⊥) where
  pub run_path : {img out : List ℕ} {cs : List Call} → Whole img → Bytes img → Path img 1 xs m → Run P img out cs → Path out 1 xs m
  run_path w b y none = y
  run_path {img} w b y (next {mid = mid} {c = c} o a p r) =
      run_path (made_whole w b o a) (made_bytes w b o a) (made_path w b o a y (alone img mid c p)).0 r

  -- and a file at its end that is not written
  pub run_path_data : {img out : List ℕ} {cs : List Call} → ((img mid : List ℕ) (c : Call) → P img mid c → Unwritten m c) → Whole img → Bytes img
      → Path img 1 xs m → kind img m ≢ 2 → Run P img out cs → Path out 1 xs m × SameData img out m
  run_path_data {img} f w b y d none = (y, same_data_refl img m)
  run_path_data {img} f w b y d (next {mid = mid} {c = c} o a p r) =
      let x = call_data w b o a m (reached_path w y) d (f img mid c p) in
      let z =
      run_path_data f (made_whole w b o a) (made_bytes w b o a) (made_path w b o a y (alone img mid c p)).0 (λ e. d (sym x.kind_is ∙ e)) r in
      (z.0, same_data_trans x z.1)

-- ---- runs, no call of which asks about one name in a directory, or removes the directory, or writes the file that the name leads to

module _ {P : List ℕ → List ℕ → Call → Type 0} (d : ℕ) (x : List ℕ) (m : ℕ) (stays : (img mid : List ℕ) (c : Call) → P img mid c → Unremoved d img c)
    (alone : (img mid : List ℕ) (c : Call) → P img mid c → Unasked d x img c) (still : (img mid : List ℕ) (c : Call) → P img mid c → Unwritten m c)
    (plain : is_dots x ≡ false) where
  pub run_name_data : {img out : List ℕ} {cs : List Call} → Whole img → Bytes img → Reached img d → kind img d ≡ 2 → find_answer img d x ≡ the_inode m
      → kind img m ≢ 2 → Run P img out cs → (find_answer out d x ≡ the_inode m) × Reached out m × SameData img out m
  run_name_data {img} w b h k f n none = (f, named_reached w h (step_named w h plain f), same_data_refl img m)
  run_name_data {img} w b h k f n (next {mid = mid} {c = c} o a p r) =
      let g = step_named w h plain f in
      let y = made_finds w b o a d h k x (stays img mid c p) (alone img mid c p) in
      let v = call_data w b o a m (named_reached w h g) n (still img mid c p) in
      let i = made_stays w b o a d h (stays img mid c p) in
      let z = run_name_data (made_whole w b o a) (made_bytes w b o a) i y.0 (y.1 ∙ f) (λ e. n (sym v.kind_is ∙ e)) r in
      (z.0, z.1, same_data_trans v z.2)
