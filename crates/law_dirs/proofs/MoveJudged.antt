-- What a move's answer says: 0 means that all of RULES' tests were passed, anything else that the card stays as it is. Assumes nothing.
use mathlib.Core.Path.{◌≡◌, ap, ◌∙◌}
use mathlib.Core.List.{List}
use mathlib.Core.Logic.{◌≢◌}
use Prim.Native.Nat.{ℕ, ◌+◌, ◌-◌, ◌≤◌, ◌<◌}
use native.Mathlib.Omega.{arith}
use borrow.Author.Tests.{eq-eqb}
use Rattle.std.proofs.lemmas.Grind.{common_steps}
use Rattle.card_layout.specs.Super.{blocks}
use Rattle.card_layout.specs.Inode.{kind, links, head_at}
use Rattle.card_layout.specs.Entry.{Name, entry_of}
use Rattle.card_layout.specs.declared.inode.FileType.{FileType}
use Rattle.card_layout.specs.declared.inode.FileType.TheVariants.{Dir}
use Rattle.card_rules.specs.View.{entries, entry, kids, kid}
use Rattle.card_rules.specs.Whole.{Reached, Whole}
use Rattle.card_rules.proofs.Views.{kids_of_dir}
use Rattle.dir_entries.specs.Entries.{where_is, entry_put}
use Rattle.dir_answers.specs.Answers.{named_by}
use Rattle.dir_move.specs.Move.{move_answer, up_put, moved_dir, moved, moved_at, move_card}
use Rattle.law_files.proofs.Requests.{OfKind, of_kind, kinds}
use Rattle.law_dirs.proofs.Tests.{whole_inode}
use Rattle.law_dirs.proofs.NameTests.{can_where}
use Rattle.law_dirs.proofs.UnlinkTests.{HasName, has_where, has_past, has_child}
use Rattle.law_dirs.proofs.MoveTests.{CanMove, Roomy, move_tests_lem, move_can}
use Rattle.law_dirs.proofs.MoveCarry.{carried_out}
use Rattle.refusals.specs.Refusals.{answer_no}
use Rattle.std.specs.Prelude.{Ok}

-- ---- done: what the tests say

pub record Judged (img : List ℕ) (p : ℕ) (old : List ℕ) (t : ℕ) (new : List ℕ) : Type 0 where
  pub p_dir : kind img p ≡ 2
  pub t_dir : kind img t ≡ 2
  pub low : 2 ≤ where_is img p old
  pub there : where_is img p old < entries img p
  pub new_name_lem : Name new
  pub new_free : where_is img t new ≡ entries img t
  pub c_reached : Reached img (named_by img p old)
  pub c_kid : kid img p (where_is img p old - 2) ≡ named_by img p old
  pub c_below : where_is img p old - 2 < kids img p
  pub roomy : p ≢ t → Roomy img t (named_by img p old)

module _ {img : List ℕ} (w : Whole img) (p t : ℕ) (old new : List ℕ) (rp : Reached img p) (rt : Reached img t)
    (done : move_answer (blocks img) img p old t new ≡ Ok tt) where
  abbrev j : ℕ
  j = where_is img p old

  abbrev c : ℕ
  c = named_by img p old

  asked : (i : ℕ) × CanMove img p old t new i × (p ≢ t → Roomy img t (entry img p i)) × (move_answer (blocks img) img p old t new ≡ Ok tt)
  asked = move_can (move_tests_lem w p rp old t rt new) (ap answer_no done)

  here : j ≡ asked.0
  here = has_where w rp asked.1.from

  has : HasName img p old j
  has = rw here asked.1.from

  p_of : OfKind img p Dir
  p_of = of_kind img p Dir has.parent

  t_of : OfKind img t Dir
  t_of = of_kind img t Dir asked.1.to.dir

  c_of : (k : FileType) × OfKind img c k
  c_of = kinds img c (whole_inode w c (has_child w rp has))

  pub judged : Judged img p old t new
  judged = grind (arith, common_steps, has_past, asked, can_where, has_child, kids_of_dir, here)

  -- the card then
  move_is : move_card (blocks img) img p old t new ≡ moved (blocks img) p (head_at img p Dir) j c (head_at img c c_of.0) t (head_at img t Dir) new img
  unfolding move_card moved_at
  move_is = rw (p_of.decodes, t_of.decodes, c_of.1.decodes, done)

  pub move_here : p ≡ t → move_card (blocks img) img p old t new ≡ entry_put (blocks img) p j (entry_of c new) img
  unfolding moved
  move_here e = move_is ∙ rw (eq-eqb p t e)

  pub move_file : p ≢ t → kind img c ≢ 2 → move_card (blocks img) img p old t new ≡ carried_out img p (links img p) j t (links img t) c new
  unfolding moved
  move_file d f = grind (arith, common_steps, move_is)

  pub move_dir : p ≢ t → kind img c ≡ 2
      → move_card (blocks img) img p old t new ≡ up_put (blocks img) c t (carried_out img p (links img p - 1) j t (links img t + 1) c new)
  unfolding moved moved_dir
  move_dir d e = grind (arith, common_steps, move_is)
