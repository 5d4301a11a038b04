-- Format makes a whole card of a slice of any bytes, with one inode, the root; it changes no other byte; and it is done exactly where its limits hold.
-- Assumes nothing.
use mathlib.Core.Path.{◌≡◌, refl, sym, ap, subst, ◌∙◌}
use mathlib.Core.List.{List}
use mathlib.Core.Logic.{◌⊎◌, ⊎_elim}
use Prim.Native.Nat.{ℕ, ◌+◌, ◌-◌, ◌*◌, ◌/◌, ◌≤◌, ◌<◌}
use native.Mathlib.Omega.{arith}
use native.Mathlib.Decide.{dec_lt}
use lib.ListN.{length, drop}
use lib.Seq.{get_or-take, get_or-drop}
use Rattle.std.proofs.lemmas.Grind.{common_steps}
use Rattle.words.specs.Words.{byte, num, Bytes}
use Rattle.words.specs.Inner.{Apart}
use Rattle.words.specs.Runs.{zeroed, turns}
use Rattle.words.specs.Sums.{δ}
use Rattle.words.proofs.Numbers.{num_frame}
use Rattle.words.proofs.Sums.{δ_other, sum_to_none, sum_to_each, sum_to_more}
use Rattle.card_layout.specs.Sizes.{fewest, most, maps_for, first_after_map, blocks_for}
use Rattle.card_layout.specs.Super.{right_magic, magic, blocks, unused, maps, super_put}
use Rattle.card_layout.specs.Entry.{entry_of}
use Rattle.card_layout.specs.declared.superblock.SuperBlock.{SuperBlock}
use Rattle.card_layout.proofs.SuperLaws.{SuperFits, length_super, magic_super, blocks_super, unused_super, maps_super, info_super, byte_super_off, bytes_super}
use Rattle.card_map.specs.Bits.{map_bit, set_bit, free_bits}
use Rattle.card_map.proofs.Map.{bit_is}
use Rattle.card_rules.specs.View.{uses}
use Rattle.card_rules.specs.Whole.{Inode, Sound, Whole}
use Rattle.card_rules.proofs.Bare.{Bare, one, listed_one, bare_inode, bare_tree, bare_uses}
use Rattle.dir_entries.specs.Names.{dot, dots}
use Rattle.dir_format.specs.Format.{format_answer, info_text, fresh_map, formatted, format_card}
use Rattle.law_dirs.specs.Entries.{entry_in, NewRecord}
use Rattle.law_dirs.proofs.FreshBytes.{bytes_tested, rooted, bytes_rooted, length-rooted, byte-rooted_off, num-rooted, rooted_bare}
use Rattle.law_dirs.proofs.FreshBytes.{rooted_record, rooted_self, rooted_up, Mapped, mapped_is, bytes_mapped}
use Rattle.refusals.specs.Refusals.{answer_no, done}
use Rattle.refusals.specs.declared.Refusal.TheVariants.{InvalidParam}
use Rattle.std.specs.Prelude.{Err}

-- ---- what a fresh card says

pub record Fresh (out : List ℕ) (nb : ℕ) : Type 0 where
  pub magic_right : magic out ≡ right_magic
  pub blocks_are : blocks out ≡ nb
  pub unused_are : unused out ≡ nb - 4
  pub one_map : maps out ≡ 1
  -- size 520, kind 2, 2 links, 1 block, which is block 3; "." and "..", both with the number 1
  pub bare : Bare out
  -- the text, the root's whole record, and all bytes of its entries
  pub text : (k : ℕ) → k < 32 → byte out (12 + k) ≡ byte info_text k
  pub record_is : NewRecord out 1 2 520 2 1
  pub self : entry_in out 1 0 ≡ entry_of 1 dot
  pub up : entry_in out 1 1 ≡ entry_of 1 dots
  pub free : (b : ℕ) → 4 ≤ b → b < nb → map_bit out b ≡ 1
  pub taken : (b : ℕ) → b < 32768 → (4 ≤ b → b < nb → ⊥) → map_bit out b ≡ 0

-- blocks 0 to 3 are in use once
four : (b : ℕ) → b < 4 → δ 0 b + δ 2 b + (δ 1 b + δ 3 b) ≡ 1
unfolding δ
four t₁ l = grind (arith, common_steps)

-- such a card is whole
module _ (out : List ℕ) (nb : ℕ) (few : fewest ≤ nb) (many : nb ≤ most) (long : 4096 * nb ≤ length out) (f : Fresh out nb) where
  all_free : free_bits out nb ≡ nb - 4
  all_free =
      let e : nb ≡ 4 + (nb - 4) = omega arith in
      omega (
        arith,
        ap (free_bits out) e,
        sum_to_more (map_bit out) 4 (nb - 4),
        sum_to_none (map_bit out) 4 (λ b l. f.taken b (omega arith) (λ p q. omega arith)),
        sum_to_each (λ i. map_bit out (4 + i)) (nb - 4) (λ i l. f.free (4 + i) (omega arith) (omega arith)),
      )

  in_use : (b : ℕ) → uses out one b ≡ δ 0 b + δ 2 b + (δ 1 b + δ 3 b)
  in_use = bare_uses out f.bare f.one_map

  unused_from : (b : ℕ) → 4 ≤ b → uses out one b ≡ 0
  unused_from b l = grind (arith, common_steps, in_use, δ_other)

  pub fresh_sound : Sound out one
  unfolding maps_for
  fresh_sound =
      record {
        sized =
            record {
              magic_right = f.magic_right;
              few = omega (arith, f.blocks_are);
              many = omega (arith, f.blocks_are);
              mapped = omega (arith, f.one_map, f.blocks_are);
              long = omega (arith, f.blocks_are);
            };
        past = λ b l m. f.taken b (omega (arith, f.one_map)) (λ p q. omega (arith, f.blocks_are));
        free = ap (free_bits out) f.blocks_are ∙ all_free ∙ sym f.unused_are;
        inode = λ n h. subst (Inode out) (sym (listed_one n h)) (bare_inode out f.bare);
        once = λ b l. once b (omega (arith, f.blocks_are)) (dec_lt b 4);
        below = λ b l. unused_from b (omega (arith, f.blocks_are));
      }
    where
      once : (b : ℕ) → b < nb → Dec (b < 4) → uses out one b + map_bit out b ≡ 1
      once b l (yes h) = omega (arith, in_use b, four b h, f.taken b (omega arith) (λ p q. omega arith))
      once b l (no h) = omega (arith, unused_from b (omega arith), f.free b (omega arith) l)

-- ---- what format writes

-- the superblock, with its numbers
abbrev super_of : ℕ → SuperBlock
super_of nb = record { magic = right_magic; blocks = nb; unused_blocks = nb - 4; info = info_text; freemap_blocks = 1 }

super_fits : (nb : ℕ) → nb ≤ most → SuperFits (super_of nb)
super_fits nb many = record { magic = omega arith; blocks = omega arith; unused = omega arith; maps = omega arith; info = refl }

-- superblock and map
mapped : ℕ → List ℕ → List ℕ
mapped nb img = turns (λ b y. set_bit y b) 4 (nb - 4) (zeroed (super_put img (super_of nb)) 8192 4096)

module _ (img : List ℕ) (nb : ℕ) (few : fewest ≤ nb) (many : nb ≤ most) (long : 4096 * nb ≤ length img) where
  -- one map block, so the root's entries are in block 3
  formatted_is : formatted nb img ≡ rooted (mapped nb img)
  unfolding formatted fresh_map rooted mapped maps_for first_after_map
  formatted_is = let e : (nb + 32767) / 32768 ≡ 1 = omega arith in rw e

  length_titled : length (super_put img (super_of nb)) ≡ length img
  length_titled = length_super img (super_of nb) (omega arith) (super_fits nb many)

  map_is : Mapped (super_put img (super_of nb)) (nb - 4) (mapped nb img)
  unfolding mapped
  map_is = mapped_is (super_put img (super_of nb)) (omega (arith, length_titled)) (nb - 4) (omega arith)

  mapped_long : 65536 ≤ length (mapped nb img)
  mapped_long = omega (arith, map_is.len, length_titled)

  -- a number of the superblock
  title : (m at : ℕ) → at + m ≤ 4096 → num m (rooted (mapped nb img)) at ≡ num m (super_put img (super_of nb)) at
  title m at h =
      num-rooted (mapped nb img) mapped_long m at h
      ∙ num_frame m (mapped nb img) (super_put img (super_of nb)) at (λ k p q. map_is.off k (omega arith))

  -- a bit of the map
  bit : (b : ℕ) → b < 32768 → map_bit (rooted (mapped nb img)) b ≡ map_bit (mapped nb img) b
  bit b l = grind (arith, common_steps, bit_is, byte-rooted_off, mapped_long)

  -- a byte of the text
  info : (k : ℕ) → k < 32 → byte (super_put img (super_of nb)) (12 + k) ≡ byte info_text k
  info k l =
      let y = super_put img (super_of nb) in
      sym (get_or-drop 12 y k 0)
      ∙ sym (get_or-take 32 (drop 12 y) k 0 l)
      ∙ ap (λ (z : List ℕ). byte z k) (info_super img (super_of nb) (omega arith) (super_fits nb many))

  made_fresh : Fresh (rooted (mapped nb img)) nb
  made_fresh =
      record {
        magic_right = title 4 0 (omega arith) ∙ magic_super img (super_of nb) (omega arith) (super_fits nb many);
        blocks_are = title 4 4 (omega arith) ∙ blocks_super img (super_of nb) (omega arith) (super_fits nb many);
        unused_are = title 4 8 (omega arith) ∙ unused_super img (super_of nb) (omega arith) (super_fits nb many);
        one_map = title 4 44 (omega arith) ∙ maps_super img (super_of nb) (omega arith) (super_fits nb many);
        bare = rooted_bare (mapped nb img) mapped_long;
        text = λ k l.
            byte-rooted_off (mapped nb img) mapped_long (12 + k) (omega arith) (omega arith) ∙ map_is.off (12 + k) (omega arith) ∙ info k l;
        record_is = rooted_record (mapped nb img) mapped_long;
        self = rooted_self (mapped nb img) mapped_long;
        up = rooted_up (mapped nb img) mapped_long;
        free = λ b l m. bit b (omega arith) ∙ map_is.free b l (omega arith);
        taken = λ b l h. bit b l ∙ map_is.taken b l (λ p q. h p (omega arith));
      }

  -- ---- the card that format makes

  pub fresh_views : Fresh (formatted nb img) nb
  fresh_views = subst (λ (x : List ℕ). Fresh x nb) (sym formatted_is) made_fresh

  pub fresh_length : length (formatted nb img) ≡ length img
  fresh_length = ap length formatted_is ∙ length-rooted (mapped nb img) mapped_long ∙ map_is.len ∙ length_titled

  -- "all else stays"
  pub fresh_rest : (k : ℕ) → 48 ≤ k → Apart k 1 4096 80 → Apart k 1 8192 4096 → Apart k 1 12288 520 → byte (formatted nb img) k ≡ byte img k
  fresh_rest k a r m d = grind (arith, common_steps, formatted_is, byte-rooted_off, mapped_long, map_is, byte_super_off)

  pub fresh_bytes : Bytes img → Bytes (formatted nb img)
  unfolding mapped
  fresh_bytes h = grind (arith, common_steps, formatted_is, bytes_rooted, bytes_mapped, bytes_super, bytes_tested)

  -- its one inode is the root
  abbrev pub fresh_card : Whole (formatted nb img)
  fresh_card =
      record {
        inodes = one;
        sound = fresh_sound (formatted nb img) nb few many (omega (arith, fresh_length)) fresh_views;
        tree = bare_tree (formatted nb img) fresh_views.bare;
      }

-- ---- when it is done

-- the limits of format for a slice of len bytes
pub record Fits (len space : ℕ) : Type 0 where
  pub few : fewest ≤ blocks_for space
  pub many : blocks_for space ≤ most
  pub long : 4096 * blocks_for space ≤ len

pub format_done : (len space : ℕ) → Fits len space → format_answer len space ≡ done
unfolding format_answer
format_done len space f = grind (arith, common_steps)

fits_or_refused : (len space : ℕ) → Fits len space ⊎ (format_answer len space ≡ Err InvalidParam)
unfolding format_answer
fits_or_refused len space = grind (arith, common_steps)

-- where it is done the limits hold; the card is then the fresh one
pub format_fits : (len space : ℕ) → answer_no (format_answer len space) ≡ 0 → Fits len space
format_fits len space d = ⊎_elim (λ f. f) (λ e. absurd (omega (arith, d, ap answer_no e))) (fits_or_refused len space)

pub format_card_lem : (img : List ℕ) (space : ℕ) → Fits (length img) space → format_card img space ≡ formatted (blocks_for space) img
unfolding format_card
format_card_lem img space f = rw (format_done (length img) space f)

-- 0 exactly within the limits, else 12 and the card as it was
pub format_exactly : (img : List ℕ) (space : ℕ)
    → (Fits (length img) space → answer_no (format_answer (length img) space) ≡ 0)
    × (answer_no (format_answer (length img) space) ≡ 0 → Fits (length img) space)
    × ((Fits (length img) space → ⊥) → (answer_no (format_answer (length img) space) ≡ 12) × (format_card img space ≡ img))
unfolding format_card
format_exactly img space = grind (arith, common_steps, format_done, fits_or_refused)

pub format_whole : (img : List ℕ) (space : ℕ) → answer_no (format_answer (length img) space) ≡ 0 → Whole (format_card img space)
format_whole img space d =
    let f : Fits (length img) space = format_fits (length img) space d in
    subst Whole (sym (format_card_lem img space f)) (fresh_card img (blocks_for space) f.few f.many f.long)
