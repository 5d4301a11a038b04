-- What link leaves of a whole card, in RULES' words. Assumes nothing.
use mathlib.Core.Path.{◌≡◌}
use mathlib.Core.List.{List}
use Prim.Native.Nat.{ℕ}
use native.Mathlib.Omega.{arith}
use Rattle.std.proofs.lemmas.Grind.{common_steps}
use Rattle.words.specs.Words.{Bytes}
use Rattle.card_layout.specs.Super.{blocks}
use Rattle.card_rules.specs.Whole.{Reached, Whole}
use Rattle.dir_link.specs.Link.{link_answer, link_card}
use Rattle.law_dirs.specs.Effects.{LinkEffect}
use Rattle.law_dirs.proofs.CreateEffect.{needs-more}
use Rattle.law_dirs.proofs.LinkCard.{LinkDone, link}
use Rattle.std.specs.Prelude.{Ok}

module _ {img out : List ℕ} (w : Whole img) {p : ℕ} {x : List ℕ} {c : ℕ} (r : Reached img p) (d : LinkDone w.inodes img out p x c) where
  pub link_by : LinkEffect img out p x c
  link_by = grind (arith, common_steps, needs-more)

module _ {img : List ℕ} (w : Whole img) (bytes : Bytes img) {p : ℕ} (r : Reached img p) {x : List ℕ} (src : Bytes x) {c : ℕ} (u : Reached img c)
    (done : link_answer img p x c ≡ Ok tt) where
  pub link_effect : LinkEffect img (link_card (blocks img) img p x c) p x c
  link_effect = link_by w r (link w bytes p r x src c u done)
