-- `file_grow::take_next` meets its contract. What the search answers is the next free block, and 0 where there is none. Assumes nothing.
use mathlib.Core.Path.{ap, ◌∙◌}
use Rattle.card_layout.specs.declared.BlockId.{BlockId}
use Rattle.file_blocks.proofs.Growth.{next_free_is}
use Rattle.file_grow.proofs.Growers.{unwrapped}
use Rattle.file_grow.proofs.take_next.Goals as goal

pub returns : goal.returns
returns c =
    let a = c.args in
    let f = c.alloc_block.result in
    let e = c.alloc_block.ensures in (
      ap (λ (b : BlockId). b.0) c.unwrap_or.ensures ∙ unwrapped f ∙ next_free_is a.nb a.image.now a.from.0 f e.0,
      e.1,
    )
