-- `dir_create::make_file` meets its contract. The block that is taken is on the card. Assumes nothing.
use Prim.Native.Nat.{◌<◌}
use native.Mathlib.Omega.{arith}
use Rattle.file_blocks.proofs.Growth.{next_free_below}
use Rattle.dir_create.specs.Create.{made_file}
use borrow.Author.Rules.{rules}
use Rattle.dir_create.proofs.make_file.Goals as goal

pub encode-requires : goal.encode-requires
encode-requires c =
    let t = c.take_first-n in
    let l = next_free_below c.args.nb c.args.image.now 0 (omega (arith, c.requires.0.few)) in
    let m : t.result.0 < c.args.nb = rw t.ensures.0 l in
    search rules

pub returns : goal.returns
unfolding made_file
returns c =
    rw (c.append_direntry.ensures, c.entry_of-e.ensures, c.encode.ensures, c.set_nlinks.ensures, c.new-f.ensures, c.take_first-n.ensures.0, c.take_first-n.ensures.1)
