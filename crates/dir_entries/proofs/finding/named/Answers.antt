-- `dir_entries::finding::named` meets its contract: the bytes that tell stand in the entry's first block (`name_told`). Assumes nothing.
use native.Mathlib.Omega.{arith}
use mathlib.Core.Path.{◌≡◌, refl, ap, ◌∙◌}
use Prim.Native.Nat.{ℕ, ◌+◌, ◌-◌, ◌*◌, ◌/◌, ◌%◌}
use lib.ListN.{take, drop}
use Rattle.card_layout.specs.Entry.{upto_nul}
use Rattle.dir_entries.specs.Entries.{eqs}
use Rattle.dir_entries.proofs.Comparing.{name_told}
use Rattle.dir_entries.proofs.finding.named.Goals as goal

pub returns : goal.returns
returns c =
    let a = c.args in
    let at = 4096 * a.b.0 + 260 * a.k % 4096 + 4 in
    let l = c.requires.0.data_in (260 * a.k / 4096) (omega arith) in
    let fit = c.if-r-w-gt-BLKSIZE.false in
    let q : at + a.w - at ≡ a.w = omega arith in
    let told = name_told a.image.now a.n.0 a.k a.b.0 at a.w a.x.now c.requires.2 refl fit c.requires.3 (omega arith) in
    c.same.ensures ∙ ap (λ (m : ℕ). eqs (upto_nul (take m (drop at a.image.now))) a.x.now) q ∙ told
