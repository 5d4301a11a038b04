-- The rules of a whole card go by what they read: where superblock, map, records, pointer blocks and directories are as they were, a sound card is
-- sound, a tree a tree, and a whole card whole. `img` is the card before, `out` the card after. Assumes nothing.
use mathlib.Core.Path.{◌≡◌, refl, sym, ap, ◌∙◌}
use mathlib.Core.List.{List}
use Prim.Native.Nat.{ℕ, ◌+◌, ◌*◌, ◌/◌, ◌≤◌, ◌<◌}
use native.Mathlib.Omega.{arith}
use native.Mathlib.Decide.{ℕ_discrete}
use lib.ListN.{length}
use Rattle.words.specs.Words.{byte, num}
use Rattle.words.specs.Sums.{δ, sum_to, cnt}
use Rattle.words.proofs.Numbers.{num_frame}
use Rattle.words.proofs.Sums.{sum_on_cong}
use Rattle.card_layout.specs.Sizes.{maps_for}
use Rattle.card_layout.specs.Super.{magic, blocks, unused, maps}
use Rattle.card_layout.specs.Inode.{kind, links, count}
use Rattle.card_map.specs.Bits.{map_byte, map_bit, free_bits}
use Rattle.card_map.proofs.Map.{bit_is, free_is}
use Rattle.card_rules.specs.View.{entry, kids, kid, times_named, subs, naming, owns, uses}
use Rattle.card_rules.specs.Whole.{Sized, Reached, root, down, Inode, Sound, Tree, Whole}
use Rattle.card_rules.proofs.Views.{uses_parts, kids_of_other, kids_dir}
use Rattle.card_rules.proofs.Counting.{count_below}
use Rattle.card_rules.specs.Same.{SameBlock, SameRecord, SameSlots, SameFile}
use Rattle.card_rules.proofs.Frames.{block_byte, kind_is, links_is, kids_is, inode_is, owns_is, entry_is, kid_is, dir_is, names_by, subs_by}

-- ---- superblock and map

-- the 48 bytes of the superblock
pub record SameSuper (img out : List ℕ) : Type 0 where
  pub bytes : (k : ℕ) → k < 48 → byte out k ≡ byte img k

-- every bit of the map
pub record SameMap (img out : List ℕ) : Type 0 where
  pub bits : (b : ℕ) → b < 32768 * maps img → map_bit out b ≡ map_bit img b

module _ {img out : List ℕ} (s : SameSuper img out) where
  super_word : (at : ℕ) → at + 4 ≤ 48 → num 4 out at ≡ num 4 img at
  super_word at h = num_frame 4 out img at (λ k p q. s.bytes k (omega arith))

  pub magic_is : magic out ≡ magic img
  magic_is = super_word 0 (omega arith)

  pub blocks_is : blocks out ≡ blocks img
  blocks_is = super_word 4 (omega arith)

  pub unused_is : unused out ≡ unused img
  unused_is = super_word 8 (omega arith)

  pub maps_is : maps out ≡ maps img
  maps_is = super_word 44 (omega arith)

module _ {img out : List ℕ} where
  pub super_block : SameBlock img out 0 → SameSuper img out
  super_block s = record { bytes = λ k l. block_byte s k (omega arith) (omega arith) }

  pub map_blocks : ((i : ℕ) → i < maps img → SameBlock img out (2 + i)) → SameMap img out
  map_blocks h =
      record {
        bits = λ b l.
            bit_is img out b (block_byte (h (b / 32768) (omega arith)) (map_byte b) (omega arith) (omega arith));
      }

-- ---- the rules on blocks go by superblock, map, records and pointer blocks

-- a listed inode's second level is within its one block
pub slots_few : {img l : List ℕ} → Sound img l → (n : ℕ) → 0 < cnt n l → count img n < 1049612
slots_few {img} {l} s n h = omega (arith, count_below img l s n h, s.sized.many)

-- each block has its bit
pub bit_of_lem : (img : List ℕ) → Sized img → (b : ℕ) → b < blocks img → b < 32768 * maps img
unfolding maps_for
bit_of_lem img z b l = omega (arith, z.mapped)

-- what every change keeps: length, sizes, the bits past the block count, and that unused is the number of free blocks
pub record Steady (img out : List ℕ) : Type 0 where
  pub length_same : length out ≡ length img
  pub magic_same : magic out ≡ magic img
  pub blocks_same : blocks out ≡ blocks img
  pub maps_same : maps out ≡ maps img
  pub past : (b : ℕ) → blocks img ≤ b → b < 32768 * maps img → map_bit out b ≡ map_bit img b
  pub free : free_bits out (blocks img) ≡ unused out

-- a card is sound with another listing where each block's uses and bit add up to what they did
module _ {img out l l' : List ℕ} (s : Sound img l) (y : Steady img out) (inode : (n : ℕ) → 0 < cnt n l' → Inode out n)
    (balance : (b : ℕ) → b < blocks img → uses out l' b + map_bit out b ≡ uses img l b + map_bit img b)
    (below : (b : ℕ) → blocks img ≤ b → uses out l' b ≡ 0) where
  pub sound_by : Sound out l'
  sound_by =
      record {
        sized =
            record {
              magic_right = y.magic_same ∙ s.sized.magic_right;
              few = rw y.blocks_same s.sized.few;
              many = rw y.blocks_same s.sized.many;
              mapped = rw (y.blocks_same, y.maps_same) s.sized.mapped;
              long = rw (y.blocks_same, y.length_same) s.sized.long;
            };
        past = λ b a q.
            let a' : blocks img ≤ b = rw y.blocks_same at a in
            let q' : b < 32768 * maps img = rw y.maps_same at q in
            y.past b a' q' ∙ s.past b a' q';
        free = rw y.blocks_same y.free;
        inode = inode;
        once = λ b q.
            let q' : b < blocks img = rw y.blocks_same at q in
            balance b q' ∙ s.once b q';
        below = λ b a. below b (rw y.blocks_same at a);
      }

module _ {img out l : List ℕ} (s : Sound img l) (len : length out ≡ length img) (u : SameSuper img out) (m : SameMap img out)
    (h : (n : ℕ) → 0 < cnt n l → SameSlots img out n) where
  pub steady_same : Steady img out
  steady_same =
      record {
        length_same = len;
        magic_same = magic_is u;
        blocks_same = blocks_is u;
        maps_same = maps_is u;
        past = λ b a q. m.bits b q;
        free = free_is img out (blocks img) (λ b q. m.bits b (bit_of_lem img s.sized b q)) ∙ s.free ∙ sym (unused_is u);
      }

  pub uses_is : (b : ℕ) → uses out l b ≡ uses img l b
  uses_is b =
      omega (
        arith,
        uses_parts out l b,
        uses_parts img l b,
        ap (sum_to (λ i. δ (2 + i) b)) (maps_is u),
        sum_on_cong (λ n. owns out n b) (λ n. owns img n b) l (λ n c. owns_is (h n c) (slots_few s n c) b),
      )

  pub sound_same : Sound out l
  sound_same =
      sound_by s steady_same (λ n c. inode_is (h n c).rec (s.inode n c))
      (λ b q. omega (arith, uses_is b, m.bits b (bit_of_lem img s.sized b q)))
      (λ b a. uses_is b ∙ s.below b a)

-- ---- the rules on the tree go by kinds and links of the reached inodes, and the directories' bytes

module _ {img out l : List ℕ} (t : Tree img l)
    (kinds : (n : ℕ) → Reached img n → kind out n ≡ kind img n) (linked : (n : ℕ) → Reached img n → links out n ≡ links img n)
    (inode : (n : ℕ) → Reached img n → kind img n ≡ 2 → Inode img n) (file : (n : ℕ) → Reached img n → kind img n ≡ 2 → SameFile img out n) where
  kids_kept : (n : ℕ) → Reached img n → kids out n ≡ kids img n
  kids_kept n r = go (ℕ_discrete (kind img n) 2)
    where
      go : Dec (kind img n ≡ 2) → kids out n ≡ kids img n
      go (yes e) = kids_is (file n r e).slots.rec
      go (no d) = kids_of_other out n (λ e. d (sym (kinds n r) ∙ e)) ∙ sym (kids_of_other img n d)

  kid_kept : (n j : ℕ) → Reached img n → j < kids img n → kid out n j ≡ kid img n j
  kid_kept n j r b = let d = (kids_dir img n j b).0 in kid_is (file n r d) (inode n r d) j b

  pub reached_to : (n : ℕ) → Reached img n → Reached out n
  reached_to n root = root
  reached_to m (down {n} k j r b e) = down k j (reached_to n r) (rw (kids_kept n r) b) (kid_kept n j r b ∙ e)

  pub reached_from : (n : ℕ) → Reached out n → Reached img n
  reached_from n root = root
  reached_from m (down {n} k j r b e) =
      let q : Reached img n = reached_from n r in
      let b' : j < kids img n = rw (kids_kept n q) at b in
      down k j q b' (sym (kid_kept n j q b') ∙ e)

  kind_was : (n : ℕ) → Reached img n → kind out n ≡ 2 → kind img n ≡ 2
  kind_was n r d = sym (kinds n r) ∙ d

  -- ".." of a directory
  up_kept : (n : ℕ) → Reached img n → kind img n ≡ 2 → entry out n 1 ≡ entry img n 1
  up_kept n r d = entry_is (file n r d) (inode n r d) 1 (omega (arith, (t.dir n r d).least))

  pub naming_is : (m : ℕ) → naming out l m ≡ naming img l m
  naming_is m =
      sum_on_cong (λ n. times_named out n m) (λ n. times_named img n m) l
      (λ n c. let r = t.only n c in names_by img out n (kids_kept n r) (λ j. kid_kept n j r) m)

  subs_kept : (n : ℕ) → Reached img n → subs out n ≡ subs img n
  subs_kept n r =
      subs_by img out n (kids_kept n r) (λ j. kid_kept n j r) (λ j b. kinds (kid img n j) (down (kid img n j) j r b refl))

  pub tree_by : Tree out l
  tree_by =
      record {
        all = λ n r. t.all n (reached_from n r);
        only = λ n c. reached_to n (t.only n c);
        root_dir = kinds 1 root ∙ t.root_dir;
        dir = λ n r d.
            let q = reached_from n r in
            let k = kind_was n q d in
            dir_is (file n q k) (inode n q k) (t.dir n q k);
        root_up = up_kept 1 root t.root_dir ∙ t.root_up;
        up = λ n j r b d.
            let q = reached_from n r in
            let b' : j < kids img n = rw (kids_kept n q) at b in
            let e = kid_kept n j q b' in
            let c : Reached img (kid img n j) = down (kid img n j) j q b' refl in
            let k = kind_was (kid img n j) c (ap (kind out) (sym e) ∙ d) in
            ap (λ (x : ℕ). entry out x 1) e ∙ up_kept (kid img n j) c k ∙ t.up n j q b' k;
        named = λ n r d. let q = reached_from n r in rw (naming_is n) (t.named n q (kind_was n q d));
        file_links = λ n r d.
            let q = reached_from n r in
            linked n q ∙ t.file_links n q (λ k. d (kinds n q ∙ k)) ∙ sym (naming_is n);
        dir_links = λ n r d.
            let q = reached_from n r in
            linked n q ∙ t.dir_links n q (kind_was n q d) ∙ ap (λ (x : ℕ). 2 + x) (sym (subs_kept n q));
      }

pub tree_same : {img out l : List ℕ} → Tree img l → ((n : ℕ) → Reached img n → SameRecord img out n)
    → ((n : ℕ) → Reached img n → kind img n ≡ 2 → Inode img n) → ((n : ℕ) → Reached img n → kind img n ≡ 2 → SameFile img out n) → Tree out l
tree_same t rec inode file = tree_by t (λ n r. kind_is (rec n r)) (λ n r. links_is (rec n r)) inode file

-- ---- a whole card

module _ {img out : List ℕ} (w : Whole img) (len : length out ≡ length img) (u : SameSuper img out) (m : SameMap img out)
    (h : (n : ℕ) → 0 < cnt n w.inodes → SameSlots img out n)
    (f : (n : ℕ) → 0 < cnt n w.inodes → kind img n ≡ 2 → SameFile img out n) where
  listed : (n : ℕ) → Reached img n → 0 < cnt n w.inodes
  listed n r = omega (arith, w.tree.all n r)

  pub whole_sound : Sound out w.inodes
  whole_sound = sound_same w.sound len u m h

  pub whole_tree : Tree out w.inodes
  whole_tree =
      tree_same w.tree (λ n r. (h n (listed n r)).rec) (λ n r _. w.sound.inode n (listed n r)) (λ n r. f n (listed n r))

  -- with the same listing, in sight of a caller
  abbrev pub whole_same : Whole out
  whole_same = record { inodes = w.inodes; sound = whole_sound; tree = whole_tree }
