-- `check_names::loading::get_disk_block_id` meets its contract: in each arm the slot says where i falls (`falls`),
-- and so that the words read are on the card. Assumes nothing.
use native.Mathlib.Omega.{arith}
use mathlib.Core.Path.{◌≡◌, sym, ap, ◌∙◌}
use mathlib.Core.List.{List}
use Prim.Native.Nat.{ℕ, ◌<◌}
use Rattle.card_layout.specs.Inode.{count, double}
use Rattle.card_layout.specs.Slots.{seconds, slot_of}
use Rattle.card_layout.specs.declared.slot.Slot.{Slot}
use Rattle.card_rules.specs.View.{slot, second}
use Rattle.card_rules.proofs.Views.{seconds_reach}
use Rattle.check_names.proofs.Entries.{Falls, falls}
use Rattle.check_names.proofs.loading.get_disk_block_id.Goals as goal

-- what a slot says of the block that it is of
falls_at : (s : Slot) (i : ℕ) → slot_of i ≡ s → Falls s i
falls_at s i e = rw e at (falls i)

-- the pointer block of the second level, read by way of the double indirect one
second_read : (img : List ℕ) (n j d r : ℕ) → d ≡ double img n → r ≡ slot img d j → r ≡ second img n j
second_read img n j d r p q = q ∙ ap (λ (b : ℕ). slot img b j) p

pub overflow_mul-k : goal.overflow_mul-k
overflow_mul-k c = omega (arith, falls_at _ c.args.i (sym c.slot_of.ensures ∙ c.in-Direct.is))

pub overflow_add-at-in-Direct : goal.overflow_add-at-in-Direct
overflow_add-at-in-Direct c = omega (arith, falls_at _ c.args.i (sym c.slot_of.ensures ∙ c.in-Direct.is))

pub get-requires : goal.get-requires
get-requires c = omega (arith, falls_at _ c.args.i (sym c.slot_of.ensures ∙ c.in-Direct.is))

pub overflow_mul-k-in-Indirect : goal.overflow_mul-k-in-Indirect
overflow_mul-k-in-Indirect c = omega (arith, falls_at _ c.args.i (sym c.slot_of.ensures ∙ c.in-Indirect.is))

pub overflow_add-p : goal.overflow_add-p
overflow_add-p c = omega (arith, falls_at _ c.args.i (sym c.slot_of.ensures ∙ c.in-Indirect.is))

pub get-requires-in-Indirect-2 : goal.get-requires-in-Indirect-2
get-requires-in-Indirect-2 c =
    let f = falls_at _ c.args.i (sym c.slot_of.ensures ∙ c.in-Indirect.is) in
    omega (arith, c.get-in-Indirect.ensures, c.requires.0.indirect_in (omega arith))

pub overflow_mul-j : goal.overflow_mul-j
overflow_mul-j c = omega (arith, falls_at _ c.args.i (sym c.slot_of.ensures ∙ c.in-Double.is))

pub overflow_add-d : goal.overflow_add-d
overflow_add-d c = omega (arith, falls_at _ c.args.i (sym c.slot_of.ensures ∙ c.in-Double.is))

pub get-requires-in-Double-2 : goal.get-requires-in-Double-2
get-requires-in-Double-2 c =
    let f = falls_at _ c.args.i (sym c.slot_of.ensures ∙ c.in-Double.is) in
    omega (arith, c.get-in-Double.ensures, c.requires.0.double_in (omega arith))

pub overflow_mul-k-in-Double : goal.overflow_mul-k-in-Double
overflow_mul-k-in-Double c = omega (arith, falls_at _ c.args.i (sym c.slot_of.ensures ∙ c.in-Double.is))

pub overflow_add-q : goal.overflow_add-q
overflow_add-q c = omega (arith, falls_at _ c.args.i (sym c.slot_of.ensures ∙ c.in-Double.is))

pub get-requires-in-Double-3 : goal.get-requires-in-Double-3
get-requires-in-Double-3 c =
    let f = falls_at _ c.args.i (sym c.slot_of.ensures ∙ c.in-Double.is) in
    let j = c.in-Double.j in
    let few : j < seconds (count c.args.image.now c.args.n.0) =
    omega (arith, seconds_reach (count c.args.image.now c.args.n.0) c.args.i c.requires.1 f.0) in
    omega (arith, second_read c.args.image.now c.args.n.0 j _ _ c.get-in-Double.ensures c.get-in-Double-2.ensures, c.requires.0.second_in j few)
