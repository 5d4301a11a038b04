-- What unlink leaves of a whole card, in RULES' words. Assumes nothing.
use mathlib.Core.Path.{◌≡◌, ap}
use mathlib.Core.Logic.{◌≢◌}
use mathlib.Core.List.{List}
use Prim.Native.Nat.{ℕ, ◌≤◌}
use native.Mathlib.Omega.{arith}
use Rattle.std.proofs.lemmas.Grind.{common_steps}
use Rattle.words.specs.Words.{Bytes}
use Rattle.card_layout.specs.Super.{blocks}
use Rattle.card_layout.specs.Inode.{kind, links}
use Rattle.card_rules.specs.Whole.{Reached, Whole}
use Rattle.card_rules.proofs.Views.{owned_mono}
use Rattle.dir_answers.specs.Answers.{named_by}
use Rattle.dir_unlink.specs.Unlink.{unlink_answer, unlink_card}
use Rattle.law_dirs.specs.Effects.{UnlinkEffect}
use Rattle.law_dirs.proofs.UnlinkTests.{target}
use Rattle.law_dirs.proofs.UnlinkCard.{UnlinkDone, some_link, unlink_done}
use Rattle.refusals.specs.Refusals.{answer_no}
use Rattle.std.specs.Prelude.{Ok}

module _ {l img out : List ℕ} {p : ℕ} {x : List ℕ} (d : UnlinkDone l img out p x)
    (some : kind img (named_by img p x) ≢ 2 → 1 ≤ links img (named_by img p x)) where
  abbrev c : ℕ
  c = named_by img p x

  pub unlink_by : UnlinkEffect img out p x c
  unlink_by = grind (arith, common_steps, owned_mono)

module _ {img : List ℕ} (w : Whole img) (bytes : Bytes img) {p : ℕ} (r : Reached img p) {x : List ℕ} (done : unlink_answer img p x ≡ Ok tt) where
  pub unlink_effect : UnlinkEffect img (unlink_card (blocks img) img p x) p x (named_by img p x)
  unlink_effect =
      let t = target w p r x (ap answer_no done) in
      unlink_by (unlink_done w bytes p r x done) (some_link w bytes p r x t.0 t.1)
