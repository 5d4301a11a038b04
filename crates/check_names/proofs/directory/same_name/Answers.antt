-- `check_names::directory::same_name` meets its contract: the name that is compared with is a part of the loaded entry. Assumes nothing.
use mathlib.Core.Path.{◌≡◌, refl, ap, ◌∙◌, subst}
use mathlib.Core.List.{List}
use native.Mathlib.Omega.{arith}
use Prim.Native.Nat.{ℕ}
use lib.ListN.{length}
use Rattle.words.specs.Inner.{Tells}
use Rattle.card_rules.specs.View.{name}
use Rattle.check_names.proofs.Scanning.{is_name}
use Rattle.check_names.proofs.directory.same_name.Goals as goal

pub is_named-requires : goal.is_named-requires
is_named-requires c =
    let a = c.args in
    let e = c.name_of.ensures ∙ is_name a.image.now a.n.0 a.k _ _ c.load_entry-e.ensures (omega arith) refl in
    (c.requires.0, omega (arith, ap length e), omega (arith, ap length e))

pub returns : goal.returns
returns c =
    let a = c.args in
    let e = c.name_of.ensures ∙ is_name a.image.now a.n.0 a.k _ _ c.load_entry-e.ensures (omega arith) refl in
    subst (λ (x : List ℕ). Tells c.is_named.result (name a.image.now a.n.0 a.i ≡ x)) e c.is_named.ensures
