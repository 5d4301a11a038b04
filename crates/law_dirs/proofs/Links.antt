-- Other links in the record of an inode of a sound card: alone, and with a change of its length. `img` is the card before, `out` the card after.
-- Assumes nothing.
use mathlib.Core.Path.{◌≡◌, refl, sym, ap, ◌∙◌, subst}
use mathlib.Core.List.{List}
use mathlib.Core.Logic.{◌≢◌, ⊎_elim}
use Prim.Native.Nat.{ℕ, ◌+◌, ◌-◌, ◌*◌, ◌/◌, ◌%◌, ◌≤◌, ◌<◌}
use native.Mathlib.Omega.{arith}
use native.Mathlib.Decide.{dec_lt}
use lib.Dec.{ltb}
use lib.ListN.{length}
use Rattle.std.proofs.lemmas.Grind.{common_steps}
use Rattle.words.specs.Words.{pick, byte, num, Bytes}
use Rattle.words.specs.Inner.{Apart}
use Rattle.words.specs.Sums.{δ, sum_to, cnt}
use Rattle.words.proofs.Numbers.{length-put, byte_out, num_out, num_same, bytes_put, put_put, put_num_lem}
use Rattle.words.proofs.Sums.{sum_to_cong}
use Rattle.card_layout.specs.Sizes.{blocks_for}
use Rattle.card_layout.specs.Super.{blocks, unused}
use Rattle.card_layout.specs.Inode.{size, kind, links, count, indirect, double, kind_no, with_links, encoded}
use Rattle.card_layout.specs.Slots.{seconds, owned}
use Rattle.card_layout.specs.declared.inode.FileType.{FileType}
use Rattle.card_layout.proofs.InodeLaws.{inode_at, encoded-decoded}
use Rattle.card_map.proofs.Map.{free_is}
use Rattle.card_rules.specs.View.{slot, second, data_at, file_byte, owns}
use Rattle.card_rules.specs.Whole.{Inode, Sound}
use Rattle.card_rules.specs.Places.{Place, at_inode, at_indirect, at_double, at_second, at_data, held, InUse}
use Rattle.card_rules.proofs.Views.{data_direct, data_indirect, data_double, seconds_many, seconds_reach, ranges, owns_parts, file_byte_at}
use Rattle.card_rules.proofs.Cells.{rank, held-owned}
use Rattle.card_rules.proofs.Owners.{owns-uses, inode_below, places_differ, not_zero, not_map}
use Rattle.card_rules.specs.Same.{SameBlock, SameFile}
use Rattle.card_rules.proofs.Frames.{block_slot, block_sym, block_trans, seconds_fit, inode_room}
use Rattle.card_rules.proofs.Kept.{SameSuper, SameMap, super_block, map_blocks, bit_of_lem, slots_few, magic_is, blocks_is, unused_is, maps_is}
use Rattle.card_rules.proofs.Isolation.{Within, Balanced, others_same, sound_one}
use Rattle.file_requests.specs.Resizing.{fitted}
use Rattle.file_requests.proofs.Changes.{fitted_up, fitted_down, fitted_within}
use Rattle.file_requests.specs.Requests.{longest, needs}
use Rattle.law_files.proofs.Change.{Changed}
use Rattle.law_files.proofs.PlanLaws.{planning}
use Rattle.law_files.proofs.Pointed.{pointed}
use Rattle.law_files.proofs.Lengthened.{grows}
use Rattle.law_files.proofs.GrownCard.{grown_changed}
use Rattle.law_files.proofs.Shortened.{shorter_changed, same_changed}
use Rattle.law_files.proofs.Resized.{in_use_is, resized_still}
use Rattle.law_files.proofs.Edits.{Edited, edited_trans}
use Rattle.law_dirs.specs.Entries.{Relinked as ButLinks}
use Rattle.law_dirs.proofs.RecordBytes.{SameTail, tail_lengthened, tail_shorter, tail_size}
use Rattle.law_dirs.proofs.LinkBytes.{relinked, encoded_links, lengthened_links, shorter_links, size_links}

-- ---- the two bytes of links

module _ (img l : List ℕ) (s : Sound img l) (n : ℕ) (h : 0 < cnt n l) (v : ℕ) where
  abbrev out : List ℕ
  out = relinked img n v

  byte_far : (k : ℕ) → Apart k 1 (4096 * n + 6) 2 → byte out k ≡ byte img k
  byte_far k a = byte_out 2 img (4096 * n + 6) v k a

  block_far : (b : ℕ) → b ≢ n → SameBlock img out b
  block_far b d = grind (arith, common_steps, byte_far)

  place_far : (p : Place) → InUse img n p → 0 < rank p → SameBlock img out (held img n p)
  place_far p u r = block_far (held img n p) (λ e. omega (arith, ap rank (places_differ img l s n n p at_inode h h u tt e).1))

  field_far : (w a : ℕ) → Apart a w 6 2 → num w out (4096 * n + a) ≡ num w img (4096 * n + a)
  field_far w a d = num_out w 2 img (4096 * n + a) (4096 * n + 6) v (λ p q. d (omega arith) (omega arith))

  size_far : size out n ≡ size img n
  size_far = num_out 4 2 img (4096 * n) (4096 * n + 6) v (λ p q. omega arith)

  kind_far : kind out n ≡ kind img n
  kind_far = field_far 2 4 (λ p q. omega arith)

  count_far : count out n ≡ count img n
  count_far = field_far 4 8 (λ p q. omega arith)

  indirect_far : indirect out n ≡ indirect img n
  indirect_far = field_far 4 60 (λ p q. omega arith)

  double_far : double out n ≡ double img n
  double_far = field_far 4 64 (λ p q. omega arith)

  second_far : (j : ℕ) → 1036 ≤ count img n → j < 1024 → second out n j ≡ second img n j
  second_far j a q = ap (λ (b : ℕ). slot out b j) double_far ∙ block_slot (place_far at_double a (omega arith)) j q

  data_far : (i : ℕ) → i < count img n → data_at out n i ≡ data_at img n i
  data_far i q =
      ⊎_elim
      (λ a. data_direct out n i a ∙ num_out 4 2 img (4096 * n + 12 + 4 * i) (4096 * n + 6) v (λ x y. omega arith) ∙ sym (data_direct img n i a))
      (⊎_elim
      (λ w.
      data_indirect out n i w.0 w.1
      ∙ ap (λ (b : ℕ). slot out b (i - 12)) indirect_far
      ∙ block_slot (place_far at_indirect (omega (arith, w.0)) (omega arith)) (i - 12) (omega (arith, w.1))
      ∙ sym (data_indirect img n i w.0 w.1))
      (λ a.
      let t : i < 1049612 = omega (arith, slots_few s n h) in
      let j : ℕ = (i - 1036) / 1024 in
      data_double out n i a t
      ∙ ap (λ (b : ℕ). slot out b ((i - 1036) % 1024)) (second_far j (omega arith) (omega arith))
      ∙ block_slot (place_far (at_second j) (seconds_reach (count img n) i q a) (omega arith)) ((i - 1036) % 1024) (omega arith)
      ∙ sym (data_double img n i a t)))
      (ranges i)

  held_far : (p : Place) → InUse img n p → held out n p ≡ held img n p
  held_far at_inode u = refl
  held_far at_indirect u = indirect_far
  held_far at_double u = double_far
  held_far (at_second j) u = second_far j (seconds_many (count img n) (omega arith)) (seconds_fit (count img n) j (slots_few s n h) u)
  held_far (at_data i) u = data_far i u

  file_far : (o : ℕ) → o < 4096 * count img n → file_byte out n o ≡ file_byte img n o
  file_far o q =
      let i : o / 4096 < count img n = omega arith in
      file_byte_at out n o
      ∙ ap (λ (b : ℕ). byte out (4096 * b + o % 4096)) (data_far (o / 4096) i)
      ∙ (place_far (at_data (o / 4096)) i (omega arith)).bytes (o % 4096) (omega arith)
      ∙ sym (file_byte_at img n o)

  owns_far : (b : ℕ) → owns out n b ≡ owns img n b
  owns_far b = omega (arith, owns_parts out n b, owns_parts img n b, first, then, level, body)
    where
      first : pick (ltb (count out n) 12) 0 (δ (indirect out n) b) ≡ pick (ltb (count img n) 12) 0 (δ (indirect img n) b)
      first = rw (count_far, indirect_far)

      then : pick (ltb (count out n) 1036) 0 (δ (double out n) b) ≡ pick (ltb (count img n) 1036) 0 (δ (double img n) b)
      then = rw (count_far, double_far)

      level : sum_to (λ j. δ (second out n j) b) (seconds (count out n)) ≡ sum_to (λ j. δ (second img n j) b) (seconds (count img n))
      level =
          ap (λ (c : ℕ). sum_to (λ j. δ (second out n j) b) (seconds c)) count_far
          ∙ sum_to_cong (λ j. δ (second out n j) b) (λ j. δ (second img n j) b) (seconds (count img n))
          (λ j q. ap (λ (x : ℕ). δ x b) (held_far (at_second j) q))

      body : sum_to (λ i. δ (data_at out n i) b) (count out n) ≡ sum_to (λ i. δ (data_at img n i) b) (count img n)
      body =
          ap (λ (c : ℕ). sum_to (λ i. δ (data_at out n i) b) c) count_far
          ∙ sum_to_cong (λ i. δ (data_at out n i) b) (λ i. δ (data_at img n i) b) (count img n) (λ i q. ap (λ (x : ℕ). δ x b) (data_far i q))

  super_far : SameSuper img out
  super_far = super_block (block_far 0 (λ e. not_zero img l s n at_inode h tt (sym e)))

  map_far : SameMap img out
  map_far = map_blocks (λ i q. block_far (2 + i) (λ e. not_map img l s n at_inode h tt i q (sym e)))

  inode_far : Inode out n
  inode_far = grind (arith, common_steps, kind_far, count_far, size_far, indirect_far, double_far)

  edited_far : Bytes img → Edited img out n
  edited_far b =
      record {
        within =
            record {
              other = λ x q o f z m.
                  block_far x (λ e. omega (arith, o, subst (λ (y : ℕ). 0 < owns img n y) (sym e) (held-owned img n at_inode tt)));
            };
        balanced =
            record {
              steady =
                  record {
                    length_same = length-put 2 img (4096 * n + 6) v;
                    magic_same = magic_is super_far;
                    blocks_same = blocks_is super_far;
                    maps_same = maps_is super_far;
                    past = λ x a q. map_far.bits x q;
                    free =
                        free_is img out (blocks img) (λ x q. map_far.bits x (bit_of_lem img s.sized x q)) ∙ s.free ∙ sym (unused_is super_far);
                  };
              balance = λ x q. omega (arith, owns_far x, map_far.bits x (bit_of_lem img s.sized x q));
              below = λ x a. omega (arith, owns_far x, owns-uses img l s n x h, s.below x a);
              inode = inode_far;
            };
        bytes = bytes_put 2 img (4096 * n + 6) v b;
        kind_is = kind_far;
      }

  links_far : v < 65536 → links out n ≡ v
  links_far q = num_same 2 img (4096 * n + 6) v (omega (arith, inode_below img l s n h, s.sized.long)) q

-- ---- nothing but the links

-- what other links alone leave of a card
pub record Relinked (l img out : List ℕ) (n v : ℕ) : Type 0 where
  pub within : Within img out n
  pub balanced : Balanced img out n
  pub sound : Sound out l
  pub bytes : Bytes out
  pub others : (m : ℕ) → 0 < cnt m l → m ≢ n → SameFile img out m
  pub size_is : size out n ≡ size img n
  pub kind_is : kind out n ≡ kind img n
  pub links_is : links out n ≡ v
  pub count_is : count out n ≡ count img n
  pub places : (p : Place) → InUse img n p → held out n p ≡ held img n p
  pub kept : (o : ℕ) → o < 4096 * count img n → file_byte out n o ≡ file_byte img n o
  pub rest : ButLinks img out n

module _ (img l : List ℕ) (s : Sound img l) (bytes : Bytes img) (n : ℕ) (h : 0 < cnt n l) (v : ℕ) (low : v < 65536) where
  pub links_put : Relinked l img (relinked img n v) n v
  links_put =
      let e = edited_far img l s n h v bytes in
      record {
        within = e.within;
        balanced = e.balanced;
        sound = sound_one s h e.within e.balanced;
        bytes = e.bytes;
        others = others_same s h e.within;
        size_is = size_far img l s n h v;
        kind_is = e.kind_is;
        links_is = links_far img l s n h v low;
        count_is = count_far img l s n h v;
        places = held_far img l s n h v;
        kept = file_far img l s n h v;
        rest =
            record {
              kept = λ k q d.
                  byte_far img l s n h v (4096 * n + k) (⊎_elim (λ (a : k < 6). λ x y. omega arith) (λ (a : 8 ≤ k). λ x y. omega arith) d);
            };
      }

  pub links_only : (k : FileType) → kind img n ≡ kind_no k → Relinked l img (encoded img n (with_links (inode_at img n k) v)) n v
  links_only k e =
      subst (λ (x : List ℕ). Relinked l img x n v)
      (sym (encoded_links img n (inode_at img n k) v ∙ ap (λ (x : List ℕ). relinked x n v) (encoded-decoded img n k bytes e))) links_put

-- the record with the links that it has
pub links_plain : (img : List ℕ) (n : ℕ) (k : FileType) → with_links (inode_at img n k) (links img n) ≡ inode_at img n k
links_plain img n k = refl

-- ---- a length change, seen from the card that has the new links already

module _ {img mid l : List ℕ} (s : Sound img l) (bytes : Bytes img) {n len : ℕ} (h : 0 < cnt n l) (v : ℕ) (low : v < 65536) (c : Changed img mid n len) where
  now : Sound mid l
  now = sound_one s h c.within c.balanced

  back : Edited (relinked img n v) img n
  back =
      subst (λ (x : List ℕ). Edited (relinked img n v) x n)
      (put_put 2 img (4096 * n + 6) v (links img n) ∙ put_num_lem 2 img (4096 * n + 6) bytes)
      (edited_far (relinked img n v) l (links_put img l s bytes n h v low).sound n h (links img n) (bytes_put 2 img (4096 * n + 6) v bytes))

  edited : Edited (relinked img n v) (relinked mid n v) n
  edited =
      edited_trans back
      (edited_trans
      (record { within = c.within; balanced = c.balanced; bytes = c.bytes; kind_is = c.kind_is })
      (edited_far mid l now n h v c.bytes))

  -- a place of both cards with the new links is one of both without
  was : (p : Place) → InUse (relinked img n v) n p → InUse img n p
  was = in_use_is img (relinked img n v) n (count_far img l s n h v)

  is : (p : Place) → InUse (relinked mid n v) n p → InUse mid n p
  is = in_use_is mid (relinked mid n v) n (count_far mid l now n h v)

  data_linked : (i : ℕ) → i < count img n → i < count mid n → SameBlock (relinked img n v) (relinked mid n v) (data_at (relinked img n v) n i)
  data_linked i a b =
      subst (SameBlock (relinked img n v) (relinked mid n v)) (sym (data_far img l s n h v i a))
      (block_trans (block_sym (place_far img l s n h v (at_data i) a (omega arith)))
      (block_trans (c.data_same i a b)
      (subst (SameBlock mid (relinked mid n v)) (c.places (at_data i) a b) (place_far mid l now n h v (at_data i) b (omega arith)))))

  pub changed_links : Changed (relinked img n v) (relinked mid n v) n len
  changed_links =
      record {
        within = edited.within;
        balanced = edited.balanced;
        bytes = edited.bytes;
        size_is = size_far mid l now n h v ∙ c.size_is;
        kind_is = edited.kind_is;
        links_is = links_far mid l now n h v low ∙ sym (links_far img l s n h v low);
        places = λ p x y. held_far mid l now n h v p (is p y) ∙ c.places p (was p x) (is p y) ∙ sym (held_far img l s n h v p (was p x));
        data_same = λ i x y. data_linked i (was (at_data i) x) (is (at_data i) y);
      }

-- ---- a length change and other links

-- what a change of inode n's length to len and of its links to v leaves of a card
pub record ResizedWith (img out : List ℕ) (n len v : ℕ) : Type 0 where
  pub within : Within img out n
  pub balanced : Balanced img out n
  pub bytes : Bytes out
  pub size_is : size out n ≡ len
  pub kind_is : kind out n ≡ kind img n
  pub links_is : links out n ≡ v
  -- the places that it had and has hold the same blocks
  pub places : (p : Place) → InUse img n p → InUse out n p → held out n p ≡ held img n p
  -- bytes below both lengths stay
  pub kept : (o : ℕ) → o < size img n → o < len → file_byte out n o ≡ file_byte img n o
  pub tail : SameTail img out n

pub resized_edited : {img out : List ℕ} {n len v : ℕ} → ResizedWith img out n len v → Edited img out n
resized_edited r = record { within = r.within; balanced = r.balanced; bytes = r.bytes; kind_is = r.kind_is }

module _ (img l : List ℕ) (s : Sound img l) (bytes : Bytes img) (n : ℕ) (h : 0 < cnt n l) (v : ℕ) (low : v < 65536) where
  with_links_lem : {out : List ℕ} {len : ℕ} → Changed (relinked img n v) out n len → SameTail img out n → ResizedWith img out n len v
  with_links_lem {out} {len} c tail =
      let t = links_put img l s bytes n h v low in
      let r = resized_still {z = 0} t.sound h (omega arith) c in
      let e : Edited img out n =
      edited_trans (edited_far img l s n h v bytes) (record { within = r.within; balanced = r.balanced; bytes = r.bytes; kind_is = r.kind_is }) in
      record {
        within = e.within;
        balanced = e.balanced;
        bytes = e.bytes;
        size_is = r.size_is;
        kind_is = e.kind_is;
        links_is = r.links_is ∙ t.links_is;
        places = λ p x y. r.places p (in_use_is (relinked img n v) img n (sym t.count_is) p x) y ∙ t.places p x;
        kept = λ o a b. r.kept o (rw t.size_is a) b ∙ t.kept o (omega (arith, inode_room (s.inode n h)));
        tail = tail;
      }

  -- its record is on the card
  on_card : {out : List ℕ} {len : ℕ} → Changed img out n len → 4096 * n + 80 ≤ length out
  on_card c = omega (arith, inode_below img l s n h, s.sized.long, c.balanced.steady.length_same)

  module _ (k : FileType) (e : kind img n ≡ kind_no k) (len : ℕ) (short : len ≤ longest) (room : needs (count img n) len ≤ unused img) where
    up : count img n < blocks_for len → ResizedWith img (fitted (blocks img) n (with_links (inode_at img n k) v) len img) n len v
    up u =
        let r : owned (blocks_for len) ≤ owned (count img n) + unused img = omega arith in
        let plan = planning img l s n h (blocks_for len) (omega arith) r in
        let c = grown_changed s h u r (grows img l s bytes n h len (omega arith) u r plan k e (pointed img l s bytes n h (blocks_for len) u r plan k)) in
        rw (fitted_up (blocks img) n (with_links (inode_at img n k) v) len img u, lengthened_links (blocks img) n (inode_at img n k) v len img)
        (with_links_lem (changed_links s bytes h v low c) (tail_lengthened img bytes n k v len (blocks img) (on_card c)))

    not_up : blocks_for len ≤ count img n → Dec (blocks_for len < count img n)
        → ResizedWith img (fitted (blocks img) n (with_links (inode_at img n k) v) len img) n len v
    not_up d (yes u) =
        let c = shorter_changed img l s bytes n h len (omega arith) k e u in
        rw (fitted_down (blocks img) n (with_links (inode_at img n k) v) len img u, shorter_links (blocks img) n (inode_at img n k) v len img)
        (with_links_lem (changed_links s bytes h v low c) (tail_shorter img bytes n k v len (blocks img) (on_card c)))
    not_up d (no u) =
        rw (fitted_within (blocks img) n (with_links (inode_at img n k) v) len img (omega arith), size_links (blocks img) n (inode_at img n k) v len img)
        (with_links_lem
        (changed_links s bytes h v low (same_changed img l s bytes n h len (omega arith) k e (omega arith)))
        (tail_size img bytes n k v len (omega (arith, inode_below img l s n h, s.sized.long))))

    pub links_change : ResizedWith img (fitted (blocks img) n (with_links (inode_at img n k) v) len img) n len v
    links_change = go (dec_lt (count img n) (blocks_for len))
      where
        go : Dec (count img n < blocks_for len) → ResizedWith img (fitted (blocks img) n (with_links (inode_at img n k) v) len img) n len v
        go (yes u) = up u
        go (no u) = not_up (omega arith) (dec_lt (blocks_for len) (count img n))
