-- Move's tests on a whole card, and what is left of it. Assumes nothing.
use mathlib.Core.Path.{◌≡◌, sym, ap, ◌∙◌, subst}
use mathlib.Core.Bool.{true}
use mathlib.Core.List.{List}
use Prim.Native.Nat.{ℕ, ◌<◌}
use native.Mathlib.Omega.{arith}
use Rattle.std.proofs.lemmas.Grind.{common_steps}
use Rattle.card_layout.specs.Sizes.{full_links}
use Rattle.card_layout.specs.Super.{blocks}
use Rattle.card_layout.specs.Inode.{kind, links, decoded}
use Rattle.card_layout.specs.declared.inode.Head.{Head}
use Rattle.card_rules.specs.View.{entry}
use Rattle.card_rules.specs.Whole.{Reached, Whole}
use Rattle.file_blocks.specs.Inner.{Sizes}
use Rattle.dir_entries.specs.Entries.{where_is}
use Rattle.dir_entries.proofs.Given.{storable_name}
use Rattle.dir_answers.specs.Answers.{is_dir}
use Rattle.dir_move.specs.Move.{move_room, move_answer, moved_at, move_card}
use Rattle.dir_move.specs.Inner.{MoveReady, MovePassed, move_placed}
use Rattle.dir_answers.proofs.Ready.{sizes_whole, below_ready}
use Rattle.dir_answers.proofs.Heads.{head_is, head_small}
use Rattle.dir_answers.proofs.Dirs.{dir_is, dir_kind, dir_least, entry_small, named_reached}
use Rattle.refusals.specs.Refusals.{done}
use Rattle.refusals.proofs.Refused.{Refused, if_refused}
use Rattle.std.specs.Prelude.{Some, Ok}

-- a directory that is taken on leaves the target's links room
target_open : (nb : ℕ) (img : List ℕ) (c : ℕ) (g : Head) (t : ℕ) (h : Head) → decoded img t ≡ Some h → decoded img c ≡ Some g
    → move_room nb img c g t h ≡ done → kind img c ≡ 2 → links img t ≡ full_links → ⊥
unfolding move_room
target_open nb img c g t h u e r k f =
    let d = dir_is g.type_ ((head_is img c g e).kind_is ∙ k) in
    let l = (head_is img t h u).links_is in
    grind (arith, common_steps)

module _ (nb : ℕ) (img : List ℕ) (p : ℕ) (old : List ℕ) (t : ℕ) (new : List ℕ) where
  -- what is taken on has passed the tests, and the place that is told is the entry's
  pub move_asks : (k : ℕ) → move_placed nb img p old t new ≡ Ok k → MovePassed img p k t new
  unfolding move_answer
  move_asks k e = (
    grind (arith, common_steps, dir_kind),
    grind (arith, common_steps),
    λ n d f. grind (arith, common_steps, target_open),
    grind (arith, common_steps, storable_name),
  )

  pub move_refused : Refused (move_answer nb img p old t new) → move_card nb img p old t new ≡ img
  unfolding move_card
  move_refused r = if_refused (move_answer nb img p old t new) (moved_at nb img p (where_is img p old) t new) img r

-- what the act asks, on a whole card, of entry k of p, which names c
module _ (nb : ℕ) (img : List ℕ) (w : Whole img) (p k t : ℕ) (new : List ℕ) (r : Reached img p) (z : Reached img t) (c : ℕ) (j : c ≡ entry img p k) where
  pub move_ready : nb ≡ blocks img → MovePassed img p k t new
      → (s h g : Head) → decoded img p ≡ Some s → decoded img t ≡ Some h → decoded img c ≡ Some g
      → (c < nb) × ((p ≡ t → ⊥) → is_dir g.type_ ≡ true → h.nlinks ≡ full_links → ⊥) × MoveReady nb img p s k t h new
  move_ready b m s h g q u e = (
    omega (arith, below_ready img w c (named_reached img w p r k m.1 m.0 c j)),
    λ n i f. m.2 n (ap (kind img) (sym j) ∙ dir_kind img c g e i) (sym (head_is img t h u).links_is ∙ f),
    (
      subst (Sizes img) (sym b) (sizes_whole img w),
      omega (arith, below_ready img w p r),
      omega (arith, below_ready img w t z),
      dir_least img w p r s q m.0,
      entry_small img w p r k m.1,
      head_small img w t z h u,
      m.3,
    ),
  )
