-- What follows for a caller from the marks of all that inode n uses: its record and all that it points to are on the card. Assumes nothing.
use mathlib.Core.List.{List}
use Prim.Native.Nat.{ℕ, ◌≤◌, ◌<◌}
use lib.ListN.{length}
use Rattle.card_layout.specs.Inode.{count, indirect, double}
use Rattle.card_layout.specs.Slots.{seconds}
use Rattle.card_rules.specs.View.{second, data_at, owns}
use Rattle.card_rules.specs.Places.{Place, at_inode, at_indirect, at_double, at_second, at_data, held, InUse}
use Rattle.card_rules.proofs.Cells.{held-owned}
use Rattle.check_marks.specs.Inner.{Marks}
use Rattle.check_marks.proofs.Marking.{marked_inside}

module _ (img : List ℕ) (n : ℕ) {u u' : List ℕ} (m : Marks u u' (owns img n)) where
  pub place_in : (p : Place) → InUse img n p → held img n p < length u
  place_in p h = marked_inside (owns img n) (held img n p) m (held-owned img n p h)

  pub inode_in : n < length u
  inode_in = place_in at_inode tt

  pub indirect_in : 12 ≤ count img n → indirect img n < length u
  indirect_in l = place_in at_indirect l

  pub double_in : 1036 ≤ count img n → double img n < length u
  double_in l = place_in at_double l

  pub second_in : (j : ℕ) → j < seconds (count img n) → second img n j < length u
  second_in j l = place_in (at_second j) l

  pub data_in : (i : ℕ) → i < count img n → data_at img n i < length u
  data_in i l = place_in (at_data i) l
