-- What a whole card says of an inode that is reached, as the code of the calls asks it: its blocks can be read, its numbers are small, and what its
-- entries name is reached too. Assumes nothing.
use mathlib.Core.Path.{◌≡◌, sym, ap, ◌∙◌, subst}
use mathlib.Core.List.{List}
use Prim.Native.Nat.{ℕ, ◌+◌, ◌-◌, ◌*◌, ◌≤◌, ◌<◌}
use native.Mathlib.Omega.{arith}
use native.Mathlib.Decide.{ℕ_discrete}
use lib.ListN.{length}
use Rattle.words.specs.Sums.{cnt}
use Rattle.card_layout.specs.Sizes.{blocks_for}
use Rattle.card_layout.specs.Super.{blocks}
use Rattle.card_layout.specs.Inode.{size, kind, count}
use Rattle.card_rules.specs.View.{entries, entry, kids}
use Rattle.card_rules.specs.Whole.{Reached, root, down, Inode, Dir, Whole}
use Rattle.card_rules.specs.Places.{Place, at_inode, at_indirect, at_double, at_second, at_data, held, InUse}
use Rattle.card_rules.proofs.Views.{kids_of_dir}
use Rattle.card_rules.proofs.Owners.{held_below}
use Rattle.card_rules.proofs.Counting.{count_below}
use Rattle.card_rules.proofs.Tree.{reached_listed}
use Rattle.check_names.specs.InnerReading.{Readable}
use Rattle.file_blocks.specs.Inner.{Sizes}

pub sizes_whole : (img : List ℕ) → Whole img → Sizes img (blocks img)
sizes_whole img w = let z = w.sound.sized in record { few = z.few; many = z.many; long = z.long }

-- a count that fits a card, and what follows for sizes
size_small : (c z nb : ℕ) → c ≡ blocks_for z → c < nb → nb ≤ 32768 → z + 260 ≤ 4294967295
size_small c z nb e l m = omega arith

-- ".." has "its parent's (the root's is itself)"
up_reached : (img : List ℕ) → Whole img → (m : ℕ) → Reached img m → kind img m ≡ 2 → Reached img (entry img m 1)
up_reached img w m root d = subst (Reached img) (sym w.tree.root_up) root
up_reached img w m (down {n} x j r l e) d =
    let u : entry img m 1 ≡ n = subst (λ (y : ℕ). entry img y 1 ≡ n) e (w.tree.up n j r l (ap (kind img) e ∙ d)) in
    subst (Reached img) (sym u) r

module _ (img : List ℕ) (w : Whole img) (n : ℕ) (r : Reached img n) where
  listed : 0 < cnt n w.inodes
  listed = reached_listed img w n r

  place_below : (p : Place) → InUse img n p → 4096 * held img n p + 4096 ≤ 4096 * blocks img
  place_below p u = omega (arith, held_below img w.inodes w.sound n p listed u)

  pub inode_ready : Inode img n
  inode_ready = w.sound.inode n listed

  pub below_ready : n < blocks img
  below_ready = omega (arith, place_below at_inode tt)

  pub counted_ready : count img n ≡ blocks_for (size img n)
  counted_ready = inode_ready.shape.counted

  pub count_ready : count img n < blocks img
  count_ready = count_below img w.inodes w.sound n listed

  pub size_ready : size img n + 260 ≤ 4294967295
  size_ready = size_small (count img n) (size img n) (blocks img) counted_ready count_ready w.sound.sized.many

  pub readable_ready : Readable img n
  readable_ready =
      let z = w.sound.sized in
      record {
        here = omega (arith, z.long, place_below at_inode tt);
        small = omega (arith, z.many, count_ready);
        indirect_in = λ l. omega (arith, z.long, place_below at_indirect l);
        double_in = λ l. omega (arith, z.long, place_below at_double l);
        second_in = λ j l. omega (arith, z.long, place_below (at_second j) l);
        data_in = λ i l. omega (arith, z.long, place_below (at_data i) l);
      }

  pub here_ready : 4096 * n + 80 ≤ length img
  here_ready = omega (arith, readable_ready.here)

  -- its entries, those of a directory or not
  pub entries_inside : 260 * entries img n ≤ 4096 * count img n
  entries_inside = omega (arith, counted_ready)

  pub entries-few : entries img n < 16777216
  entries-few = omega (arith, size_ready)

  -- ---- what the entries of a directory name

  module _ (d : kind img n ≡ 2) where
    pub dir_ready : Dir img n
    dir_ready = w.tree.dir n r d

    pub parent_reached : Reached img (entry img n 1)
    parent_reached = up_reached img w n r d

    pub entry_reached : (k : ℕ) → k < entries img n → Reached img (entry img n k)
    entry_reached k l = go (ℕ_discrete k 0) (ℕ_discrete k 1)
      where
        go : Dec (k ≡ 0) → Dec (k ≡ 1) → Reached img (entry img n k)
        go (yes e) b = subst (Reached img) (sym (ap (entry img n) e ∙ dir_ready.first.self)) r
        go (no f) (yes e) = subst (λ (x : ℕ). Reached img (entry img n x)) (sym e) parent_reached
        go (no f) (no g) =
            let e : 2 + (k - 2) ≡ k = omega arith in
            let q : k - 2 < kids img n = omega (arith, kids_of_dir img n d) in
            down (entry img n k) (k - 2) r q (ap (entry img n) e)
