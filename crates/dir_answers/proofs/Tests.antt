-- The tests that the calls share, case by case: a new name, and room. Assumes nothing.
use mathlib.Core.Path.{◌≡◌, refl, sym, ◌∙◌}
use mathlib.Core.Bool.{Bool, true, false}
use mathlib.Core.List.{List}
use Prim.Native.Nat.{ℕ, ◌≤◌, ◌<◌}
use native.Mathlib.Omega.{arith}
use native.Mathlib.Decide.{dec_lt}
use lib.Dec.{ltb}
use Rattle.words.specs.Words.{pick}
use Rattle.card_layout.specs.Super.{unused}
use Rattle.card_rules.specs.View.{entries}
use Rattle.file_blocks.proofs.Picks.{pick_yes, pick_no}
use Rattle.dir_entries.specs.Entries.{where_is}
use Rattle.dir_entries.specs.Names.{storable}
use Rattle.dir_answers.specs.Answers.{place_of, new_name, room_for}
use Rattle.dir_answers.proofs.Refused.{held, failed, test_passed, test_held}
use Rattle.refusals.specs.Refusals.{answer_no, done}
use Rattle.refusals.specs.declared.Refusal.TheVariants.{BadName, EntryExist, EntryNotFound, NoDeviceSpace}
use Rattle.refusals.specs.declared.Refusal.{Refusal}
use Rattle.refusals.proofs.Refused.{refusal_above}
use Rattle.std.specs.Prelude.{Result, Ok, Err}

-- ---- a new name

module _ {A : Type 0} (img : List ℕ) (p : ℕ) (x : List ℕ) (r : Result A Refusal) where
  pub new_bad : storable x ≡ false → new_name img p x r ≡ Err BadName
  new_bad s = failed _ _ _ s

  module _ (s : storable x ≡ true) where
    pub new_there : where_is img p x < entries img p → new_name img p x r ≡ Err EntryExist
    new_there l = held _ _ _ s ∙ pick_yes (where_is img p x) (entries img p) _ _ l

    pub new_free : entries img p ≤ where_is img p x → new_name img p x r ≡ r
    new_free l = held _ _ _ s ∙ pick_no (where_is img p x) (entries img p) _ _ l

  by_tests : (a b : Bool) {v : Result A Refusal} → answer_no v ≡ 0 → pick a (pick b (Err EntryExist) r) (Err BadName) ≡ v → (a ≡ true) × (b ≡ false) × (r ≡ v)
  by_tests a b z e =
      let s = test_held a (pick b (Err EntryExist) r) (Err BadName) z (refusal_above BadName) e in
      let t = test_passed b (Err EntryExist) r z (refusal_above EntryExist) s.1 in
      (s.0, t.0, t.1)

  -- what is done has one
  pub new_asked : {v : Result A Refusal} → answer_no v ≡ 0 → new_name img p x r ≡ v → (storable x ≡ true) × (r ≡ v)
  new_asked z e =
      let t = by_tests (storable x) (ltb (where_is img p x) (entries img p)) z e in
      (t.0, t.2)

-- a test of the name alone decides, and what is asked else follows where it refuses nothing
name_err : {A : Type 0} (a b : Bool) (r : Result A Refusal) (e : Refusal) → pick a (pick b (Err EntryExist) done) (Err BadName) ≡ Err e
    → pick a (pick b (Err EntryExist) r) (Err BadName) ≡ Err e
name_err true true r e q = cc
name_err true false r e q = let z : ◌≡◌ {A = ℕ} 0 1 = cc in absurd (omega arith)
name_err false b r e q = cc

module _ {A : Type 0} (img : List ℕ) (p : ℕ) (x : List ℕ) (r : Result A Refusal) where
  pub new_refused : (e : Refusal) → new_name img p x done ≡ Err e → new_name img p x r ≡ Err e
  new_refused e q = name_err (storable x) (ltb (where_is img p x) (entries img p)) r e q

  pub new_fine : new_name img p x done ≡ Ok tt → new_name img p x r ≡ r
  new_fine e =
      let t = by_tests img p x done (storable x) (ltb (where_is img p x) (entries img p)) refl e in
      held _ _ _ t.0 ∙ failed _ _ _ t.1

-- ---- the place of a name

ok_same : (a b : ℕ) → ◌≡◌ {A = Result ℕ Refusal} (Ok a) (Ok b) → a ≡ b
ok_same a b q = cc

err_ok : (e : Refusal) (k : ℕ) → ◌≡◌ {A = Result ℕ Refusal} (Err e) (Ok k) → ⊥
err_ok e k q = let z : ◌≡◌ {A = ℕ} 0 1 = cc in omega arith

pub place_is : (img : List ℕ) (p : ℕ) (x : List ℕ) (k : ℕ) → place_of img p x ≡ Ok k → (where_is img p x ≡ k) × (k < entries img p)
place_is img p x k e = go (dec_lt (where_is img p x) (entries img p))
  where
    go : Dec (where_is img p x < entries img p) → (where_is img p x ≡ k) × (k < entries img p)
    go (yes l) =
        let w = ok_same _ k (sym (pick_yes (where_is img p x) (entries img p) (Ok (where_is img p x)) (Err EntryNotFound) l) ∙ e) in
        (w, omega (arith, w))
    go (no l) =
        absurd (err_ok EntryNotFound k (sym (pick_no (where_is img p x) (entries img p) (Ok (where_is img p x)) (Err EntryNotFound) (omega arith)) ∙ e))

-- ---- room

module _ {A : Type 0} (img : List ℕ) (k : ℕ) (r : Result A Refusal) where
  pub room_full : unused img < k → room_for img k r ≡ Err NoDeviceSpace
  room_full l = pick_yes (unused img) k _ _ l

  pub room_free : k ≤ unused img → room_for img k r ≡ r
  room_free l = pick_no (unused img) k _ _ l

-- the same for room
room_err : {A : Type 0} (t : Bool) (r : Result A Refusal) (e : Refusal) → pick t (Err NoDeviceSpace) done ≡ Err e → pick t (Err NoDeviceSpace) r ≡ Err e
room_err true r e q = cc
room_err false r e q = let z : ◌≡◌ {A = ℕ} 0 1 = cc in absurd (omega arith)

module _ {A : Type 0} (img : List ℕ) (k : ℕ) (r : Result A Refusal) where
  pub room_refused : (e : Refusal) → room_for img k done ≡ Err e → room_for img k r ≡ Err e
  room_refused e q = room_err (ltb (unused img) k) r e q

  pub room_fine : room_for img k done ≡ Ok tt → room_for img k r ≡ r
  room_fine e = failed _ _ _ (test_passed (ltb (unused img) k) (Err NoDeviceSpace) done refl (refusal_above NoDeviceSpace) e).0
