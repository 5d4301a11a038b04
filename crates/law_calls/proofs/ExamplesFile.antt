-- The file that the first creation makes on a card that format made, inode 4: what a length makes of it and of the card, and reading at its end.
-- Assumes nothing.
use mathlib.Core.Path.{◌≡◌, sym, ap, ◌∙◌, subst}
use mathlib.Core.List.{List, ◌∷◌}
use Prim.Native.Nat.{ℕ, ◌+◌, ◌-◌, ◌≤◌, ◌<◌, min}
use native.Mathlib.Omega.{arith}
use native.Mathlib.Decide.{dec_lt}
use borrow.Author.Tests.{le-ltb}
use lib.Seq.{ext_get_or}
use lib.ListN.{length}
use Rattle.std.proofs.lemmas.Grind.{common_steps}
use Rattle.words.specs.Words.{Bytes}
use Rattle.words.specs.Sums.{δ, cnt}
use Rattle.words.proofs.Sums.{δ_same, δ_other}
use Rattle.card_layout.specs.Sizes.{blocks_for}
use Rattle.card_layout.specs.Super.{blocks, unused}
use Rattle.card_layout.specs.Inode.{size, kind, count, head_at}
use Rattle.card_layout.specs.Slots.{owned}
use Rattle.card_layout.specs.declared.inode.FileType.TheVariants.{File}
use Rattle.card_layout.proofs.InodeLaws.{inode_at}
use Rattle.card_map.specs.Bits.{map_bit}
use Rattle.card_map.proofs.Map.{bit_below}
use Rattle.card_rules.specs.View.{data_at}
use Rattle.card_rules.specs.Whole.{Sound}
use Rattle.card_rules.specs.Places.{at_data}
use Rattle.card_rules.proofs.Views.{owned_few, seconds_none}
use Rattle.card_rules.proofs.Frames.{inode_room}
use Rattle.card_rules.proofs.Isolation.{sound_one}
use Rattle.card_rules.proofs.Bare.{one}
use Rattle.file_blocks.specs.Bytes.{read_into}
use Rattle.file_blocks.proofs.Lengths.{length-read_into}
use Rattle.file_read.proofs.ReadBytes.{read_rest}
use Rattle.file_fill.proofs.Sound.{sound_readable}
use Rattle.file_grow.proofs.Taken.{nth_free}
use Rattle.file_requests.specs.Resizing.{resized}
use Rattle.file_requests.proofs.Answers.{judged-long, judged-full, judged-fits}
use Rattle.file_requests.specs.Requests.{longest, needs, resize_answer, resize_card, read_answer, read_buffer}
use Rattle.dir_create.specs.Create.{create_card}
use Rattle.law_files.proofs.Plan.{turn_of, planned, more}
use Rattle.law_files.proofs.Resized.{Resized}
use Rattle.law_files.proofs.Placed.{Placed, grow_placed}
use Rattle.law_files.proofs.Requests.{OfKind, of_kind, resize_file, resize_done, resize_full, read_file, read_buffer_lem}
use Rattle.law_files.proofs.Lengths.{length_change}
use Rattle.law_files.proofs.Files.{takes_exactly}
use Rattle.law_files.proofs.FreeFrom.{FreeFrom, nth_from, from_taken}
use Rattle.law_dirs.proofs.NewInode.{owns_none}
use Rattle.law_dirs.proofs.Creating.{listed_here}
use Rattle.law_dirs.proofs.CreateTests.{Known}
use Rattle.law_dirs.proofs.CreateCard.{CreateDone}
use Rattle.law_calls.proofs.ExamplesFresh.{Start, Given, start_free, create_4, new_owns}
use Rattle.refusals.specs.declared.Refusal.TheVariants.{InvalidParam, NoDeviceSpace}
use Rattle.std.specs.Prelude.{Ok, Err}

-- a card of nb blocks whose file 4 has len bytes and the blocks from 5 on, all others after it being free
pub record FileCard (c : List ℕ) (nb len : ℕ) : Type 0 where
  pub sound : Sound c (4 ∷ one)
  pub bytes : Bytes c
  pub blocks_are : blocks c ≡ nb
  pub file : kind c 4 ≡ 1
  pub size_is : size c 4 ≡ len
  pub count_is : count c 4 ≡ blocks_for len
  pub unused_are : unused c + owned (blocks_for len) ≡ nb - 5
  pub free : FreeFrom c (5 + owned (blocks_for len)) nb

pub free_at : {c : List ℕ} {nb len : ℕ} → FileCard c nb len → (v : ℕ) → owned (blocks_for len) ≡ v → FreeFrom c (5 + v) nb
free_at {c} {nb} {len} s v e = subst (λ (m : ℕ). FreeFrom c (5 + m) nb) e s.free

listed : 0 < cnt 4 (4 ∷ one)
listed = listed_here 4 one

-- ---- created

pub known_file : Known 1
known_file = record { low = omega arith; high = omega arith }

module _ {c : List ℕ} {nb : ℕ} (s : Start c nb) (x : List ℕ) (g : Given x) where
  abbrev made : List ℕ
  made = create_card (blocks c) c 1 x 1

  done : CreateDone one c made 1 x 1 4
  done = create_4 s x g 1 known_file

  bits : (b : ℕ) → b < nb → δ 4 b + map_bit made b ≡ map_bit c b
  bits b q = omega (arith, new_owns s x g 1 known_file b q, owns_none made 4 b (done.file (λ e. omega arith)).count_is)

  made_free : FreeFrom made 5 nb
  made_free =
      record {
        used = λ b l h. low b h (dec_lt b 4) l;
        free = λ b l h. omega (arith, bits b h, δ_other 4 b (λ e. omega arith), (start_free s).free b (omega arith) h);
      }
    where
      low : (b : ℕ) → b < nb → Dec (b < 4) → b < 5 → map_bit made b ≡ 0
      low b h (yes l) m = omega (arith, bits b h, (start_free s).used b l h)
      low b h (no l) m = omega (arith, bits b h, δ_same 4 b (omega arith), bit_below c b)

  pub file_card : FileCard (create_card nb c 1 x 1) nb 0
  file_card = grind (arith, common_steps, owned_few, done, made_free)

-- ---- resized

-- the turns of the data of a file that has no pointer blocks
turn_few : (b i : ℕ) → b < 12 → turn_of 0 b (at_data i) ≡ i
turn_few b i h = grind (arith, common_steps, seconds_none)

module _ {c : List ℕ} {nb : ℕ} (s : FileCard c nb 0) (len : ℕ) where
  kind_of : OfKind c 4 File
  kind_of = of_kind c 4 File s.file

  needs_are : needs (count c 4) len ≡ owned (blocks_for len)
  needs_are = omega (arith, ap owned s.count_is, owned_few 0 (omega arith))

  unused_here : unused c ≡ nb - 5
  unused_here = omega (arith, s.unused_are, owned_few 0 (omega arith))

  pub too_long : longest < len → resize_answer c 4 len ≡ Err InvalidParam
  too_long h = resize_file kind_of tt len ∙ judged-long (unused c) (head_at c 4 File) len h

  pub no_room : len ≤ longest → nb - 5 < owned (blocks_for len) → (resize_answer c 4 len ≡ Err NoDeviceSpace) × (resize_card nb c 4 len ≡ c)
  no_room short h =
      let r : unused c < needs (count c 4) len = omega (arith, needs_are, unused_here) in
      (resize_file kind_of tt len ∙ judged-full (unused c) (head_at c 4 File) len short (omega arith), resize_full kind_of tt nb len short r)

  module _ (short : len ≤ longest) (some : 0 < len) (room : owned (blocks_for len) ≤ nb - 5) (more-than : 5 ≤ nb) where
    fine : needs (count c 4) len ≤ unused c
    fine = omega (arith, needs_are, unused_here)

    pub sized_done : resize_answer c 4 len ≡ Ok tt
    sized_done = resize_file kind_of tt len ∙ judged-fits (unused c) (head_at c 4 File) len short (omega (arith, fine))

    abbrev out : List ℕ
    out = resized (blocks c) 4 (inode_at c 4 File) len c

    out_is : resize_card nb c 4 len ≡ out
    out_is = resize_done kind_of tt nb len short fine ∙ ap (λ (b : ℕ). resized b 4 (inode_at c 4 File) len c) (sym s.blocks_are)

    change : Resized c out 4 len len
    change = length_change c (4 ∷ one) s.sound s.bytes 4 listed File s.file len short fine

    up : count c 4 < blocks_for len
    up = omega (arith, s.count_is)

    placed : Placed c out 4 len
    placed = grow_placed c (4 ∷ one) s.sound s.bytes 4 listed File s.file len short fine up

    more_are : more c 4 (blocks_for len) ≡ owned (blocks_for len)
    more_are = omega (arith, ap owned s.count_is, owned_few 0 (omega arith))

    from_5 : FreeFrom c 5 nb
    from_5 = free_at s 0 (owned_few 0 (omega arith))

    free_out : FreeFrom out (5 + owned (blocks_for len)) nb
    free_out = grind (arith, common_steps, from_taken, from_5, placed, more_are)

    out_sound : Sound out (4 ∷ one)
    out_sound = sound_one s.sound listed change.within change.balanced

    out_card : FileCard out nb len
    out_card = grind (arith, common_steps, out_sound, change, takes_exactly, listed, free_out)

    pub sized_card : FileCard (resize_card nb c 4 len) nb len
    sized_card = subst (λ (x : List ℕ). FileCard x nb len) (sym out_is) out_card

    -- the blocks of a short file, in rising order
    pub sized_data : blocks_for len < 12 → (i : ℕ) → i < blocks_for len → data_at (resize_card nb c 4 len) 4 i ≡ 5 + i
    sized_data few i l =
        ap (λ (x : List ℕ). data_at x 4 i) out_is
        ∙ placed.places (at_data i) l
        ∙ plan_here
        ∙ nth_from from_5 i (omega (arith, owned_few (blocks_for len) few))
      where
        plan_here : planned c 4 (blocks_for len) (at_data i) ≡ nth_free nb c i
        plan_here = rw (s.count_is, le-ltb i 0 (omega arith), turn_few (blocks_for len) i few, s.blocks_are)

-- ---- read at its end

module _ {c : List ℕ} {nb len : ℕ} (s : FileCard c nb len) (off : ℕ) (past : len ≤ off) where
  of_file : OfKind c 4 File
  of_file = of_kind c 4 File s.file

  pub reads_none : (k : ℕ) → read_answer c 4 off k ≡ Ok 0
  reads_none k =
      read_file of_file tt off k ∙ ap Ok (let e : min (size c 4) (off + k) - min (size c 4) off ≡ 0 = omega (arith, s.size_is) in e)

  pub reads_same : (buf : List ℕ) → read_buffer nb c 4 off buf ≡ buf
  reads_same buf =
      subst (λ (b : ℕ). read_buffer b c 4 off buf ≡ buf) s.blocks_are
      (read_buffer_lem of_file tt (blocks c) off buf
      ∙ ext_get_or 0 (read_into c (blocks c) 4 lo hi buf) buf (length-read_into c (blocks c) lo hi 4 buf)
      (λ k l.
      read_rest c (blocks c) 4 lo hi buf (sound_readable c (4 ∷ one) s.sound s.bytes 4 listed) (omega arith)
      (omega (arith, inode_room (s.sound.inode 4 listed))) (omega (arith, s.size_is)) k (omega (arith, s.size_is))))
    where
      lo : ℕ
      lo = min (size c 4) off

      hi : ℕ
      hi = min (size c 4) (off + length buf)
