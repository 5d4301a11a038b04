-- Isolation: on a sound card, a change within the blocks of some inodes, free blocks, map and superblock leaves every other listed inode as it was;
-- and what such a change has to keep for the card to stay sound, and whole. `img` is the card before, `out` the card after. Assumes nothing.
use mathlib.Core.Path.{◌≡◌, refl, sym, ap, ◌∙◌, subst}
use mathlib.Core.List.{List, ◌∷◌}
use mathlib.Core.Logic.{◌≢◌}
use Prim.Native.Nat.{ℕ, ◌+◌, ◌/◌, ◌≤◌, ◌<◌}
use native.Mathlib.Omega.{arith}
use native.Mathlib.Decide.{dec_lt, ℕ_discrete}
use lib.ListN.{length}
use Rattle.words.specs.Runs.{puts}
use Rattle.words.specs.Sums.{δ, sum_to, sum_on, cnt, without}
use Rattle.words.proofs.Runs.{byte-puts_off}
use Rattle.words.proofs.Sums.{δ_same, δ_other, sum_on_cons, sum_on_cong, sum_on-without, sum_on_point}
use Rattle.card_layout.specs.Super.{blocks, maps}
use Rattle.card_layout.specs.Inode.{size, kind, links, count}
use Rattle.card_map.specs.Bits.{map_bit}
use Rattle.card_rules.specs.View.{data_at, file_byte, file_bytes, owns, uses}
use Rattle.card_rules.specs.Whole.{Reached, Inode, Sound, Tree, Whole}
use Rattle.card_rules.specs.Places.{Place, at_inode, at_indirect, at_double, at_second, at_data, held, InUse}
use Rattle.card_rules.proofs.Views.{uses_parts}
use Rattle.card_rules.proofs.Cells.{rank, held-owned}
use Rattle.card_rules.proofs.Owners.{map_below, listed_once, one_owner, owned_taken, held_below, places_differ, not_zero, not_map}
use Rattle.card_rules.specs.Same.{SameBlock, SameSlots, SameFile}
use Rattle.card_rules.proofs.Frames.{block_from, block_record, block_refl, block_trans, size_is, kind_is, links_is, count_is, inode_is, data_is, owns_is, inode_room, file_byte_is, file_bytes_is, file_held}
use Rattle.card_rules.proofs.Kept.{SameSuper, SameMap, Steady, blocks_is, super_block, map_blocks, slots_few, sound_by, sound_same, tree_by, whole_same}

-- ---- a change within the blocks of some inodes

-- what changed lies in blocks of the inodes of which P holds, in free blocks, in the map's blocks or in block 0
pub record Among (img out : List ℕ) (P : ℕ → Type 0) : Type 0 where
  pub other : (b : ℕ) → b < blocks img → ((k : ℕ) → P k → owns img k b ≡ 0) → map_bit img b ≡ 0 → b ≢ 0 → ((i : ℕ) → i < maps img → b ≢ 2 + i)
      → SameBlock img out b

-- the same for one inode
pub record Within (img out : List ℕ) (n : ℕ) : Type 0 where
  pub other : (b : ℕ) → b < blocks img → owns img n b ≡ 0 → map_bit img b ≡ 0 → b ≢ 0 → ((i : ℕ) → i < maps img → b ≢ 2 + i) → SameBlock img out b

-- what changed lies in the data of n alone
pub record WithinData (img out : List ℕ) (n : ℕ) : Type 0 where
  pub other : (b : ℕ) → b < blocks img → ((i : ℕ) → i < count img n → data_at img n i ≢ b) → SameBlock img out b

pub within_among : {img out : List ℕ} {n : ℕ} → Within img out n → Among img out (λ k. k ≡ n)
within_among {img} {out} {n} w = record { other = λ b q o. w.other b q (o n refl) }

-- a block of one listed inode is no other's
pub apart_owns : {img l : List ℕ} → Sound img l → (m n b : ℕ) → 0 < cnt m l → 0 < cnt n l → m ≢ n → 0 < owns img m b → owns img n b ≡ 0
apart_owns {img} {l} s m n b c h d o = go (dec_lt 0 (owns img n b))
  where
    go : Dec (0 < owns img n b) → owns img n b ≡ 0
    go (yes q) = absurd (d (one_owner img l s m n b c h o q))
    go (no q) = omega arith

module _ {img out l : List ℕ} {P : ℕ → Type 0} (s : Sound img l) (h : (k : ℕ) → P k → 0 < cnt k l) (w : Among img out P) where
  -- every block of another listed inode is as it was, and so is the inode
  pub among_same : (m : ℕ) → 0 < cnt m l → (P m → ⊥) → SameFile img out m
  among_same m c d =
      file_held img out m
      (λ p u.
      w.other (held img m p) (held_below img l s m p c u)
      (λ k y. apart_owns s m k (held img m p) c (h k y) (λ e. d (subst P (sym e) y)) (held-owned img m p u))
      (owned_taken img l s m (held img m p) c (held-owned img m p u)) (not_zero img l s m p c u) (not_map img l s m p c u))

module _ {img out l : List ℕ} {n : ℕ} (s : Sound img l) (h : 0 < cnt n l) (w : Within img out n) (m : ℕ) (c : 0 < cnt m l) (d : m ≢ n) where
  pub others_same : SameFile img out m
  others_same = among_same s (λ k e. subst (λ (x : ℕ). 0 < cnt x l) (sym e) h) (within_among w) m c d

  -- what a reader of m sees
  pub others_size : size out m ≡ size img m
  others_size = size_is others_same.slots.rec

  pub others_kind : kind out m ≡ kind img m
  others_kind = kind_is others_same.slots.rec

  pub others_links : links out m ≡ links img m
  others_links = links_is others_same.slots.rec

  pub others_count : count out m ≡ count img m
  others_count = count_is others_same.slots.rec

  pub others_data : (i : ℕ) → i < count img m → data_at out m i ≡ data_at img m i
  others_data = data_is others_same.slots

  pub others_owns : (b : ℕ) → owns out m b ≡ owns img m b
  others_owns = owns_is others_same.slots (slots_few s m c)

  pub others_byte : (o : ℕ) → o < size img m → file_byte out m o ≡ file_byte img m o
  others_byte o b = file_byte_is others_same o (omega (arith, inode_room (s.inode m c)))

  pub others_bytes : (o k : ℕ) → o + k ≤ size img m → file_bytes out m o k ≡ file_bytes img m o k
  others_bytes o k b = file_bytes_is others_same o k (omega (arith, inode_room (s.inode m c)))

-- one change after another, where the first made no block n's or free that was neither
pub within_trans : {img mid out : List ℕ} {n : ℕ} → blocks mid ≡ blocks img → maps mid ≡ maps img
    → ((b : ℕ) → b < blocks img → owns mid n b + map_bit mid b ≤ owns img n b + map_bit img b) → Within img mid n → Within mid out n → Within img out n
within_trans {img} {mid} {out} {n} eb em h v w =
    record {
      other = λ b q o f z y.
          block_trans (v.other b q o f z y)
          (w.other b (rw eb q) (omega (arith, h b q)) (omega (arith, h b q)) z (λ i k. y i (rw em at k)));
    }

-- ---- changes that keep a card sound: to the blocks of one inode, to make one, to take one away

-- what n gives up is free then, and what it takes was free
pub record Balanced (img out : List ℕ) (n : ℕ) : Type 0 where
  pub steady : Steady img out
  pub balance : (b : ℕ) → b < blocks img → owns out n b + map_bit out b ≡ owns img n b + map_bit img b
  pub below : (b : ℕ) → blocks img ≤ b → owns out n b ≡ 0
  pub inode : Inode out n

-- what a new inode n has was free
pub record Added (img out : List ℕ) (n : ℕ) : Type 0 where
  pub steady : Steady img out
  pub balance : (b : ℕ) → b < blocks img → owns out n b + map_bit out b ≡ map_bit img b
  pub below : (b : ℕ) → blocks img ≤ b → owns out n b ≡ 0
  pub inode : Inode out n

-- all that n had is free
pub record Dropped (img out : List ℕ) (n : ℕ) : Type 0 where
  pub steady : Steady img out
  pub balance : (b : ℕ) → b < blocks img → map_bit out b ≡ owns img n b + map_bit img b

-- blocks in use, by the sum over the listing
uses_sum : (img out l l' : List ℕ) (b x y : ℕ) → maps out ≡ maps img
    → sum_on (λ k. owns out k b) l' + x ≡ sum_on (λ k. owns img k b) l + y → uses out l' b + x ≡ uses img l b + y
uses_sum img out l l' b x y e h = omega (arith, uses_parts out l' b, uses_parts img l b, ap (sum_to (λ i. δ (2 + i) b)) e)

module _ {img out l : List ℕ} {n : ℕ} (s : Sound img l) (h : 0 < cnt n l) (w : Within img out n) where
  -- blocks in use change as n's do
  pub uses_one : (b : ℕ) → maps out ≡ maps img → uses out l b + owns img n b ≡ uses img l b + owns out n b
  uses_one b e =
      uses_sum img out l l b (owns img n b) (owns out n b) e
      (sum_on_point (λ k. owns img k b) (λ k. owns out k b) l n (listed_once img l s n h) (λ m c d. others_owns s h w m c d b))

  pub sound_one : Balanced img out n → Sound out l
  sound_one x =
      sound_by s x.steady (λ m c. go m c (ℕ_discrete m n))
      (λ b q. omega (arith, uses_one b x.steady.maps_same, x.balance b q))
      (λ b a. omega (arith, uses_one b x.steady.maps_same, x.below b a, s.below b a))
    where
      go : (m : ℕ) → 0 < cnt m l → Dec (m ≡ n) → Inode out m
      go m c (yes e) = subst (Inode out) (sym e) x.inode
      go m c (no d) = inode_is (others_same s h w m c d).slots.rec (s.inode m c)

  -- who is listed beside n is another
  left_listed : (m : ℕ) → 0 < cnt m (without n l) → (0 < cnt m l) × (m ≢ n)
  left_listed m c = (
    omega (arith, sum_on-without (δ m) n l h),
    λ e. omega (arith, sum_on-without (δ m) n l h, δ_same m n e, ap (λ (x : ℕ). cnt x l) e, listed_once img l s n h),
  )

  pub sound_drop : Dropped img out n → Sound out (without n l)
  sound_drop x =
      sound_by s x.steady
      (λ m c. let d = left_listed m c in inode_is (others_same s h w m d.0 d.1).slots.rec (s.inode m d.0))
      (λ b q. omega (arith, left b, x.balance b q))
      (λ b a. omega (arith, left b, s.below b a))
    where
      left : (b : ℕ) → uses out (without n l) b + owns img n b ≡ uses img l b + 0
      left b =
          uses_sum img out l (without n l) b (owns img n b) 0 x.steady.maps_same
          (omega (
            arith,
            sum_on-without (λ k. owns img k b) n l h,
            sum_on_cong (λ k. owns out k b) (λ k. owns img k b) (without n l)
                (λ m c. let d = left_listed m c in others_owns s h w m d.0 d.1 b),
          ))

-- nothing changed but free blocks, map and superblock
module _ {img out l : List ℕ} (s : Sound img l) (w : Among img out (λ k. ⊥)) where
  pub listed_same : (m : ℕ) → 0 < cnt m l → SameFile img out m
  listed_same m c = among_same s (λ k y. absurd y) w m c (λ y. y)

  pub sound_add : (n : ℕ) → Added img out n → Sound out (n ∷ l)
  sound_add n x =
      sound_by s x.steady (λ m c. go m c (ℕ_discrete m n))
      (λ b q. omega (arith, more b, x.balance b q))
      (λ b a. omega (arith, more b, x.below b a, s.below b a))
    where
      more : (b : ℕ) → uses out (n ∷ l) b + 0 ≡ uses img l b + owns out n b
      more b =
          uses_sum img out l (n ∷ l) b 0 (owns out n b) x.steady.maps_same
          (omega (
            arith,
            sum_on_cons (λ k. owns out k b) n l,
            sum_on_cong (λ k. owns out k b) (λ k. owns img k b) l (λ m c. owns_is (listed_same m c).slots (slots_few s m c) b),
          ))

      go : (m : ℕ) → 0 < cnt m (n ∷ l) → Dec (m ≡ n) → Inode out m
      go m c (yes e) = subst (Inode out) (sym e) x.inode
      go m c (no d) =
          let c' : 0 < cnt m l = omega (arith, sum_on_cons (δ m) n l, δ_other m n d) in
          inode_is (listed_same m c').slots.rec (s.inode m c')

-- n is no directory, and keeps kind and links: so a file is written, grown or cut
module _ {img out : List ℕ} {n : ℕ} (w : Whole img) (h : 0 < cnt n w.inodes) (c : Within img out n) (k : kind img n ≢ 2)
    (ek : kind out n ≡ kind img n) (el : links out n ≡ links img n) where
  pub tree_one : Tree out w.inodes
  tree_one =
      tree_by w.tree (λ m r. kinds m r (ℕ_discrete m n)) (λ m r. linked m r (ℕ_discrete m n)) (λ m r _. w.sound.inode m (listed m r))
      (λ m r e. others_same w.sound h c m (listed m r) (λ q. k (ap (kind img) (sym q) ∙ e)))
    where
      listed : (m : ℕ) → Reached img m → 0 < cnt m w.inodes
      listed m r = omega (arith, w.tree.all m r)

      kinds : (m : ℕ) → Reached img m → Dec (m ≡ n) → kind out m ≡ kind img m
      kinds m r (yes e) = subst (λ (x : ℕ). kind out x ≡ kind img x) (sym e) ek
      kinds m r (no d) = others_kind w.sound h c m (listed m r) d

      linked : (m : ℕ) → Reached img m → Dec (m ≡ n) → links out m ≡ links img m
      linked m r (yes e) = subst (λ (x : ℕ). links out x ≡ links img x) (sym e) el
      linked m r (no d) = others_links w.sound h c m (listed m r) d

  abbrev pub whole_one : Balanced img out n → Whole out
  whole_one x = record { inodes = w.inodes; sound = sound_one w.sound h c x; tree = tree_one }

-- ---- a change within the data of one inode

pub data_refl : (img : List ℕ) (n : ℕ) → WithinData img img n
data_refl img n = record { other = λ b q d. block_refl img b }

-- a run of stores, each in a block of n's data
pub data_puts : (img : List ℕ) (n : ℕ) (addr f : ℕ → ℕ) (c : ℕ)
    → ((j : ℕ) → j < c → (i : ℕ) × (i < count img n) × (addr j / 4096 ≡ data_at img n i)) → WithinData img (puts img addr f c) n
data_puts img n addr f c h =
    record {
      other = λ b q d.
          block_from img (puts img addr f c) b
          (λ k p l.
          byte-puts_off img addr f c k
          (λ j m e. let i = h j m in d i.0 i.1 (sym i.2 ∙ (let r : addr j / 4096 ≡ b = omega arith in r))));
    }

module _ {img out l : List ℕ} {n : ℕ} (s : Sound img l) (h : 0 < cnt n l) (w : WithinData img out n) where
  pub data_within : Within img out n
  data_within =
      record {
        other = λ b q o f z y.
            w.other b q (λ i k e. omega (arith, o, subst (λ (x : ℕ). 0 < owns img n x) e (held-owned img n (at_data i) k)));
      }

  -- what n has beside its data
  pointer_kept : (p : Place) → InUse img n p → rank p < 4 → SameBlock img out (held img n p)
  pointer_kept p u r =
      w.other (held img n p) (held_below img l s n p h u)
      (λ i k e. omega (arith, ap rank (places_differ img l s n n (at_data i) p h h k u e).1))

  pub data_slots : SameSlots img out n
  data_slots =
      record {
        rec = block_record (pointer_kept at_inode tt (omega arith));
        indirect_same = λ a. pointer_kept at_indirect a (omega arith);
        double_same = λ a. pointer_kept at_double a (omega arith);
        second_same = λ j b. pointer_kept (at_second j) b (omega arith);
      }

  pub data_others : (m : ℕ) → 0 < cnt m l → m ≢ n → SameFile img out m
  data_others = others_same s h data_within

  pub data_super : SameSuper img out
  data_super = super_block (w.other 0 (omega (arith, s.sized.few)) (λ i k. not_zero img l s n (at_data i) h k))

  pub data_map : SameMap img out
  data_map = map_blocks (λ i b. w.other (2 + i) (map_below img s.sized i b) (λ j k. not_map img l s n (at_data j) h k i b))

  -- every listed inode has its slots
  pub data_listed : (m : ℕ) → 0 < cnt m l → SameSlots img out m
  data_listed m c = go (ℕ_discrete m n)
    where
      go : Dec (m ≡ n) → SameSlots img out m
      go (yes e) = subst (SameSlots img out) (sym e) data_slots
      go (no d) = (data_others m c d).slots

  pub sound_data_write : length out ≡ length img → Sound out l
  sound_data_write len = sound_same s len data_super data_map data_listed

pub data_trans : {img mid out l : List ℕ} {n : ℕ} → Sound img l → 0 < cnt n l → WithinData img mid n → WithinData mid out n → WithinData img out n
data_trans {img} {mid} {out} {l} {n} s h v w =
    let e = data_slots s h v in
    record {
      other = λ b q d.
          block_trans (v.other b q d)
          (w.other b (rw (blocks_is (data_super s h v)) q)
          (λ i k. let k' : i < count img n = rw (count_is e.rec) at k in
          λ x. d i k' (sym (data_is e i k') ∙ x)));
    }

-- a write in the data of what is no directory keeps the card whole
abbrev pub whole_data_write : {img out : List ℕ} {n : ℕ} (w : Whole img) → 0 < cnt n w.inodes → kind img n ≢ 2 → WithinData img out n → length out ≡ length img
    → Whole out
whole_data_write {img} {out} {n} w h k d len =
    whole_same w len (data_super w.sound h d) (data_map w.sound h d) (data_listed w.sound h d)
    (λ m c e. data_others w.sound h d m c (λ q. k (ap (kind img) (sym q) ∙ e)))
