-- `dir_create::make_dir` meets its contract. The block that is taken is on the card; a link more changes no size. Assumes nothing.
use Prim.Native.Nat.{◌<◌}
use native.Mathlib.Omega.{arith}
use Rattle.file_blocks.proofs.Growth.{next_free_below}
use Rattle.dir_create.specs.Create.{made_dir}
use borrow.Author.Rules.{rules}
use Rattle.dir_create.proofs.make_dir.Goals as goal

pub make_empty-requires : goal.make_empty-requires
make_empty-requires c =
    let t = c.take_first-n in
    let l = next_free_below c.args.nb c.args.image.now 0 (omega (arith, c.requires.1.0.few)) in
    let m : t.result.0 < c.args.nb = rw t.ensures.0 l in
    search rules

pub returns : goal.returns
unfolding made_dir
returns c =
    rw (c.append_direntry.ensures, c.with_links.ensures.0, c.with_links.ensures.1, c.entry_of-e.ensures, c.make_empty.ensures, c.take_first-n.ensures.0, c.take_first-n.ensures.1)
