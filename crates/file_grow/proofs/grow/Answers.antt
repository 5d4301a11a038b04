-- `file_grow::grow` meets its contract: six steps, one after the other (`grown_by`). Assumes nothing.
use mathlib.Core.Path.{ap}
use borrow.Author.Rules.{rules}
use Rattle.file_grow.proofs.Growers.{grown_by}
use Rattle.file_grow.specs.declared.Grower.{Grower}
use Rattle.file_grow.proofs.grow.Goals as goal

pub returns : goal.returns
returns c =
    let a = c.args in
    let done = grown_by _ a.a a.b _ _ _ _ _ _ c.grow_indirect.ensures.grew c.grow_double.ensures.grew c.grow_level.ensures.grew
    c.grow_direct.ensures.grew c.indirect.ensures.walked c.double.ensures.walked in
    record {
      img_is = search rules;
      from_is = ap (λ (g : Grower). g.from.0) done;
      inode_is = ap (λ (g : Grower). g.inode) done;
    }
