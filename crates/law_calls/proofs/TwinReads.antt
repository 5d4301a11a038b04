-- "Bytes past its last block are never read" (RULES), of all that the calls read: two images with the same blocks have the same superblock, map, records,
-- entries and file bytes, and if one of them is a whole card, so is the other, with the same inodes: the rules ask of the length only that the blocks are
-- there. Assumes nothing.
use mathlib.Core.Path.{◌≡◌, refl, sym, ap, ◌∙◌}
use mathlib.Core.List.{List}
use Prim.Native.Nat.{ℕ, ◌+◌, ◌*◌, ◌≤◌, ◌<◌, min}
use native.Mathlib.Omega.{arith}
use lib.ListN.{length}
use Rattle.std.proofs.lemmas.Grind.{common_steps}
use Rattle.words.specs.Sums.{cnt}
use Rattle.words.proofs.Sums.{sum_on_cong}
use Rattle.card_layout.specs.Sizes.{fewest}
use Rattle.card_layout.specs.Super.{blocks, unused, maps}
use Rattle.card_layout.specs.Inode.{size, kind, links, count, decoded}
use Rattle.card_layout.specs.declared.inode.Head.{Head}
use Rattle.card_map.specs.Bits.{map_bit}
use Rattle.card_map.proofs.First.{first_cong}
use Rattle.card_map.proofs.Map.{free_is}
use Rattle.card_rules.specs.View.{file_bytes, entries, entry, name, uses}
use Rattle.card_rules.specs.Whole.{Sized, Reached, Sound, Whole}
use Rattle.card_rules.specs.Places.{held}
use Rattle.card_rules.proofs.Owners.{map_below, held_below}
use Rattle.card_rules.proofs.Tree.{reached_listed}
use Rattle.card_rules.proofs.Views.{uses_parts}
use Rattle.card_rules.specs.Same.{SameBlock, SameRecord, SameFile}
use Rattle.card_rules.proofs.Frames.{size_is, kind_is, links_is, count_is, decoded_is, inode_is, owns_is}
use Rattle.card_rules.proofs.Frames.{entries_is, inode_room, file_bytes_is, entry_is, name_is, file_held}
use Rattle.card_rules.proofs.Kept.{SameSuper, SameMap, magic_is, blocks_is, unused_is, maps_is, super_block}
use Rattle.card_rules.proofs.Kept.{map_blocks, slots_few, bit_of_lem, reached_from, tree_same}
use Rattle.file_blocks.specs.Bytes.{read_into}
use Rattle.file_blocks.specs.Taking.{next_free}
use Rattle.file_requests.specs.Requests.{by_kind, by_file, record_with, read_buffer}
use Rattle.dir_entries.specs.Entries.{where_is}
use Rattle.dir_answers.specs.Answers.{named_by}
use Rattle.dir_answers.proofs.Ready.{inode_ready, below_ready, size_ready}
use Rattle.dir_answers.proofs.Heads.{head_is}
use Rattle.law_calls.specs.Tail.{Twin}
use Rattle.law_calls.proofs.TwinSteps.{next_free_twin}
use Rattle.law_calls.proofs.TwinActs.{read_twin, record_with_twin}
use Rattle.std.specs.Prelude.{Option, Some, None}

-- ---- on any bytes

module _ {nb : ℕ} {img out : List ℕ} (t : Twin nb img out) where
  pub twin_sym : Twin nb out img
  twin_sym = record { room = t.room_too; room_too = t.room; below = λ j l. sym (t.below j l) }

  twin_block : (b : ℕ) → b < nb → SameBlock img out b
  twin_block b l = record { bytes = λ k h. t.below (4096 * b + k) (omega arith) }

  pub twin_super : 0 < nb → SameSuper img out
  twin_super l = super_block (twin_block 0 l)

-- right sizes go by the superblock, and room for the blocks
pub sized_twin : {img out : List ℕ} → 0 < blocks img → Twin (blocks img) img out → Sized img → Sized out
sized_twin {img} {out} some t z =
    let s = twin_super t some in
    record {
      magic_right = magic_is s ∙ z.magic_right;
      few = rw (blocks_is s) z.few;
      many = rw (blocks_is s) z.many;
      mapped = rw (blocks_is s, maps_is s) z.mapped;
      long = rw (blocks_is s) t.room_too;
    }

-- ---- the rules on blocks

module _ {img out l : List ℕ} (s : Sound img l) (t : Twin (blocks img) img out) where
  some_blocks : 0 < blocks img
  some_blocks = omega (arith, s.sized.few)

  same_super : SameSuper img out
  same_super = twin_super t some_blocks

  same_map : SameMap img out
  same_map = map_blocks (λ i h. twin_block t (2 + i) (map_below img s.sized i h))

  listed_twin : (n : ℕ) → 0 < cnt n l → SameFile img out n
  listed_twin n h = file_held img out n (λ p u. twin_block t (held img n p) (held_below img l s n p h u))

  uses_twin : (b : ℕ) → uses out l b ≡ uses img l b
  uses_twin b = grind (arith, common_steps, uses_parts, maps_is, sum_on_cong, owns_is, listed_twin, slots_few)

  bit_twin : (b : ℕ) → b < blocks img → map_bit out b ≡ map_bit img b
  bit_twin b q = same_map.bits b (bit_of_lem img s.sized b q)

  pub sound_twin : Sound out l
  sound_twin =
      record {
        sized = sized_twin some_blocks t s.sized;
        past = λ b a q.
            let q' : b < 32768 * maps img = rw (maps_is same_super) at q in
            same_map.bits b q' ∙ s.past b (rw (blocks_is same_super) at a) q';
        free = rw (blocks_is same_super) (free_is img out (blocks img) bit_twin ∙ s.free ∙ sym (unused_is same_super));
        inode = λ n c. inode_is (listed_twin n c).slots.rec (s.inode n c);
        once = λ b q.
            let q' : b < blocks img = rw (blocks_is same_super) at q in
            omega (arith, uses_twin b, bit_twin b q', s.once b q');
        below = λ b a. uses_twin b ∙ s.below b (rw (blocks_is same_super) at a);
      }

-- ---- on a whole card

module _ {img out : List ℕ} (w : Whole img) (t : Twin (blocks img) img out) where
  few : fewest ≤ blocks img
  few = w.sound.sized.few

  pub blocks_twin : blocks out ≡ blocks img
  blocks_twin = blocks_is (same_super w.sound t)

  pub unused_twin : unused out ≡ unused img
  unused_twin = unused_is (same_super w.sound t)

  pub next_twin : next_free (blocks img) out 0 ≡ next_free (blocks img) img 0
  next_twin = sym (next_free_twin (blocks img) few 0 t)

  file_twin : (n : ℕ) → Reached img n → SameFile img out n
  file_twin n r = listed_twin w.sound t n (reached_listed img w n r)

  pub whole_twin : Whole out
  whole_twin =
      record {
        inodes = w.inodes;
        sound = sound_twin w.sound t;
        tree = tree_same w.tree (λ n r. (file_twin n r).slots.rec) (λ n r _. inode_ready img w n r) (λ n r _. file_twin n r);
      }

  -- what is reached there is reached here
  pub reached_back : (n : ℕ) → Reached out n → Reached img n
  reached_back =
      reached_from w.tree (λ n r. kind_is (file_twin n r).slots.rec) (λ n r. links_is (file_twin n r).slots.rec)
      (λ n r _. inode_ready img w n r) (λ n r _. file_twin n r)

  -- ---- a reached inode

  module _ (n : ℕ) (r : Reached img n) where
    same_record : SameRecord img out n
    same_record = (file_twin n r).slots.rec

    pub size_twin : size out n ≡ size img n
    size_twin = size_is same_record

    pub kind_twin : kind out n ≡ kind img n
    kind_twin = kind_is same_record

    pub links_twin : links out n ≡ links img n
    links_twin = links_is same_record

    pub count_twin : count out n ≡ count img n
    count_twin = count_is same_record

    pub decoded_twin : decoded out n ≡ decoded img n
    decoded_twin = decoded_is same_record

    pub record_twin : (h : Head) → record_with out n h ≡ record_with img n h
    record_twin h = sym (record_with_twin (blocks img) few n h (below_ready img w n r) t)

    pub entries_twin : entries out n ≡ entries img n
    entries_twin = entries_is same_record

    -- ---- its bytes

    read_into_twin : (off end : ℕ) → end ≤ size img n → (buf : List ℕ) → read_into out (blocks img) n off end buf ≡ read_into img (blocks img) n off end buf
    read_into_twin off end l buf =
        sym (read_twin (blocks img) few off end t n (below_ready img w n r) (omega (arith, size_ready img w n r)) buf)

    -- ---- its entries

    pub entry_twin : (k : ℕ) → k < entries img n → entry out n k ≡ entry img n k
    entry_twin = entry_is (file_twin n r) (inode_ready img w n r)

    name_twin : (k : ℕ) → k < entries img n → name out n k ≡ name img n k
    name_twin = name_is (file_twin n r) (inode_ready img w n r)

    pub bytes_twin : (k : ℕ) → k < entries img n → file_bytes out n (260 * k) 260 ≡ file_bytes img n (260 * k) 260
    bytes_twin k l = file_bytes_is (file_twin n r) (260 * k) 260 (omega (arith, inode_room (inode_ready img w n r)))

    -- where a name is goes by the names of the entries; where none has it, it is the number of entries
    pub where_twin : (x : List ℕ) → where_is out n x ≡ where_is img n x
    unfolding where_is
    where_twin x = grind (arith, common_steps, entries_twin, first_cong, name_twin)

    -- past the entries there may be no block: what a name stands for is the same where the name is found
    pub named_twin : (x : List ℕ) → where_is img n x < entries img n → named_by out n x ≡ named_by img n x
    named_twin x l = ap (entry out n) (where_twin x) ∙ entry_twin (where_is img n x) l

    -- ---- a buffer that it is read into

    pub read_buffer_twin : (off : ℕ) (buf : List ℕ) → read_buffer (blocks img) out n off buf ≡ read_buffer (blocks img) img n off buf
    unfolding read_buffer
    read_buffer_twin off buf = ap (λ (d : Option Head). by out d) decoded_twin ∙ go (decoded img n) refl
      where
        by : List ℕ → Option Head → List ℕ
        by x d = by_file d buf (λ h. read_into x (blocks img) n (min h.size off) (min h.size (off + length buf)) buf)

        go : (d : Option Head) → decoded img n ≡ d → by out d ≡ by img d
        go None e = refl
        go (Some h) e =
            ap (λ (x : List ℕ). by_kind h.type_ buf x)
            (read_into_twin (min h.size off) (min h.size (off + length buf)) (omega (arith, (head_is img n h e).size_is)) buf)
