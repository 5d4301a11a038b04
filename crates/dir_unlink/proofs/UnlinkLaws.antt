-- Unlink's tests on a whole card, and what is left of it. Assumes nothing.
use mathlib.Core.Path.{◌≡◌, sym, subst}
use mathlib.Core.List.{List}
use Prim.Native.Nat.{ℕ, ◌+◌, ◌*◌, ◌≤◌}
use lib.ListN.{length}
use Rattle.card_layout.specs.Super.{blocks}
use Rattle.card_layout.specs.declared.inode.Head.{Head}
use Rattle.card_rules.specs.View.{entry}
use Rattle.card_rules.specs.Whole.{Reached, Whole}
use Rattle.file_blocks.specs.Inner.{Sizes}
use Rattle.dir_answers.specs.Answers.{in_dir, place_of}
use Rattle.dir_unlink.specs.Unlink.{unlink_answer, unlink_card}
use Rattle.dir_answers.proofs.Ready.{sizes_whole, here_ready}
use Rattle.dir_answers.proofs.Heads.{dir_good}
use Rattle.dir_answers.proofs.Dirs.{dir_kind, named_reached}
use Rattle.dir_answers.proofs.Tests.{place_is}
use Rattle.refusals.proofs.Refused.{Refused, if_refused}
use Rattle.std.specs.Prelude.{Ok}

module _ (img : List ℕ) (p : ℕ) (x : List ℕ) (nb : ℕ) where
  pub unlink_refused : Refused (unlink_answer img p x) → unlink_card nb img p x ≡ img
  unfolding unlink_card
  unlink_refused t = if_refused (unlink_answer img p x) _ img t

-- the inode that directory p names x
pub child_here : (img : List ℕ) (w : Whole img) (p : ℕ) (r : Reached img p) (h : Head) → in_dir img p (λ g. Ok g) ≡ Ok h
    → (x : List ℕ) (k : ℕ) → place_of img p x ≡ Ok k → (c : ℕ) → c ≡ entry img p k → 4096 * c + 80 ≤ length img
child_here img w p r h d x k e c j =
    let g = dir_good img p h d in
    here_ready img w c (named_reached img w p r k (place_is img p x k e).1 (dir_kind img p h g.0 g.1) c j)

pub sizes_are : (img : List ℕ) → Whole img → (nb : ℕ) → nb ≡ blocks img → Sizes img nb
sizes_are img w nb b = subst (Sizes img) (sym b) (sizes_whole img w)
