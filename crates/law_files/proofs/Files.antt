-- What the calls on files promise on a whole card, one theorem each: it stays whole, no other inode changes, a length is refused exactly if RULES says so,
-- growth takes N's blocks, all free before, and what is written is what is read. Assumes nothing.
use mathlib.Core.Path.{◌≡◌, refl, sym, ap, ◌∙◌}
use mathlib.Core.Logic.{◌≢◌}
use mathlib.Core.List.{List}
use Prim.Native.Nat.{ℕ, ◌+◌, ◌-◌, ◌*◌, ◌≤◌, ◌<◌, min, max}
use native.Mathlib.Omega.{arith}
use native.Mathlib.Decide.{dec_lt}
use lib.ListN.{length}
use lib.Seq.{ext_get_or}
use Rattle.std.proofs.lemmas.Grind.{common_steps}
use Rattle.words.specs.Words.{byte, Bytes}
use Rattle.words.specs.Sums.{sum_to, cnt}
use Rattle.words.proofs.Sums.{sum_to_add, sum_to_cong}
use Rattle.card_layout.specs.Sizes.{blocks_for}
use Rattle.card_layout.specs.Super.{blocks, unused}
use Rattle.card_layout.specs.Inode.{size, kind, count, head_at}
use Rattle.card_layout.specs.Slots.{owned}
use Rattle.card_layout.specs.declared.inode.FileType.{FileType}
use Rattle.card_map.specs.Bits.{map_bit}
use Rattle.card_rules.specs.View.{file_byte, owns}
use Rattle.card_rules.specs.Whole.{Reached, Sound, Whole}
use Rattle.card_rules.proofs.Counting.{owns_total}
use Rattle.card_rules.specs.Same.{SameFile}
use Rattle.card_rules.proofs.Frames.{inode_room}
use Rattle.file_blocks.specs.Bytes.{read_into}
use Rattle.file_blocks.proofs.Lengths.{length-read_into}
use Rattle.file_blocks.proofs.Walk.{Readable}
use Rattle.file_read.proofs.ReadBytes.{read_here, read_rest}
use Rattle.file_fill.proofs.Sound.{sound_readable}
use Rattle.card_rules.proofs.Isolation.{Balanced}
use Rattle.file_requests.proofs.Answers.{judged-long, judged-full, judged-fits}
use Rattle.file_requests.specs.Requests.{longest, needs, judged, resize_answer, write_answer, write_card, read_answer, read_buffer}
use Rattle.law_files.specs.Requests.{Request, writing, named, OfBytes}
use Rattle.law_files.specs.Inner.{after}
use Rattle.law_files.proofs.Requests.{OfKind, kinds, Filelike, filelike, resize_file, read_file, read_buffer_lem}
use Rattle.law_files.proofs.Steps.{Step}
use Rattle.law_files.proofs.Writing.{Wrote, refused, reached, wrote, there, size_wrote, step_write, step}
use Rattle.refusals.specs.Refusals.{answer_no}
use Rattle.std.specs.Prelude.{Ok}

-- ---- whole, and isolated

module _ {img : List ℕ} (w : Whole img) (b : Bytes img) (r : Request) (c : OfBytes r) where
  pub stepped : Step w.inodes img (after w.inodes img r) r
  stepped = step w.sound w.tree b r c

  -- with the same inodes
  abbrev pub keeps_whole : Whole (after w.inodes img r)
  keeps_whole = record { inodes = w.inodes; sound = stepped.sound; tree = stepped.tree }

  -- every other inode, file or directory, has its record, its block list and its bytes
  pub isolation : (m : ℕ) → Reached img m → m ≢ named r → SameFile img (after w.inodes img r) m
  isolation m h d = stepped.others_same m (omega (arith, w.tree.all m h)) d

-- ---- "A length change is refused exactly if too long or short of free blocks by RULES' count"

module _ {img : List ℕ} (w : Whole img) (n : ℕ) (h : Reached img n) (d : kind img n ≢ 2) where
  pub of_file : (k : FileType) × OfKind img n k × Filelike k
  of_file =
      let x = kinds img n (w.sound.inode n (omega (arith, w.tree.all n h))) in
      (x.0, x.1, filelike x.0 (λ e. d (x.1.number ∙ e)))

  answer_is : (len : ℕ) → resize_answer img n len ≡ judged (unused img) (head_at img n of_file.0) len
  answer_is = resize_file of_file.1 of_file.2

  pub refused_exactly : (len : ℕ) → (answer_no (resize_answer img n len) ≡ 0 → (len ≤ longest) × (owned (blocks_for len) ≤ owned (count img n) + unused img))
      × (len ≤ longest → owned (blocks_for len) ≤ owned (count img n) + unused img → answer_no (resize_answer img n len) ≡ 0)
  refused_exactly len = (
    λ e. fine e (dec_lt longest len) (dec_lt (unused img) (needs (count img n) len)),
    λ a r. rw (answer_is len, judged-fits (unused img) (head_at img n of_file.0) len a (omega arith)),
  )
    where
      fine : answer_no (resize_answer img n len) ≡ 0 → Dec (longest < len) → Dec (unused img < needs (count img n) len)
          → (len ≤ longest) × (owned (blocks_for len) ≤ owned (count img n) + unused img)
      fine e (yes a) q =
          absurd (omega (arith, (rw (answer_is len, judged-long (unused img) (head_at img n of_file.0) len a) at e)))
      fine e (no a) (yes q) =
          absurd (omega (arith, (rw (answer_is len, judged-full (unused img) (head_at img n of_file.0) len (omega arith) (omega arith)) at e)))
      fine e (no a) (no q) = (omega arith, omega arith)

-- ---- "N(new) - N(old) in all"

module _ {img out l : List ℕ} {n : ℕ} (s : Sound img l) (t : Sound out l) (h : 0 < cnt n l) (x : Balanced img out n) where
  pub takes_exactly : unused out + owned (count out n) ≡ unused img + owned (count img n)
  takes_exactly =
      omega (
        arith,
        s.free,
        t.free,
        owns_total img l s n h,
        owns_total out l t n h,
        ap (sum_to (map_bit out)) x.steady.blocks_same,
        ap (sum_to (owns out n)) x.steady.blocks_same,
        sum_to_add (owns out n) (map_bit out) (λ b. owns out n b + map_bit out b) (blocks img) (λ b q. refl),
        sum_to_add (owns img n) (map_bit img) (λ b. owns img n b + map_bit img b) (blocks img) (λ b q. refl),
        sum_to_cong (λ b. owns out n b + map_bit out b) (λ b. owns img n b + map_bit img b) (blocks img) x.balance,
      )

-- ---- reading

-- "Read returns min(size, offset + length) - min(size, offset) ..; the buffer past that stays"
module _ {img : List ℕ} (w : Whole img) (bytes : Bytes img) (n : ℕ) (h : Reached img n) (d : kind img n ≢ 2) (off : ℕ) (buf : List ℕ) where
  listed : 0 < cnt n w.inodes
  listed = omega (arith, w.tree.all n h)

  abbrev lo : ℕ
  lo = min (size img n) off

  abbrev hi : ℕ
  hi = min (size img n) (off + length buf)

  pub read_answer_lem : read_answer img n off (length buf) ≡ Ok (hi - lo)
  read_answer_lem = let x = of_file w n h d in read_file x.1 x.2 off (length buf)

  buffer_is : read_buffer (blocks img) img n off buf ≡ read_into img (blocks img) n lo hi buf
  buffer_is = let x = of_file w n h d in read_buffer_lem x.1 x.2 (blocks img) off buf

  readable : Readable img (blocks img) n
  readable = sound_readable img w.inodes w.sound bytes n listed

  inside : hi ≤ 4096 * count img n
  inside = omega (arith, inode_room (w.sound.inode n listed))

  pub read_bytes : (k : ℕ) → k < hi - lo → byte (read_buffer (blocks img) img n off buf) k ≡ file_byte img n (off + k)
  read_bytes k l = grind (arith, common_steps, buffer_is, read_here, readable)

  pub read_past : (k : ℕ) → hi - lo ≤ k → byte (read_buffer (blocks img) img n off buf) k ≡ byte buf k
  read_past k l = rw buffer_is (read_rest img (blocks img) n lo hi buf readable (omega arith) inside (omega arith) k l)

  pub read_length : length (read_buffer (blocks img) img n off buf) ≡ length buf
  read_length = rw buffer_is (length-read_into img (blocks img) lo hi n buf)

-- ---- what was written is read

module _ {img : List ℕ} (w : Whole img) (b : Bytes img) (n : ℕ) (h : Reached img n) (off : ℕ) (src : List ℕ) (c : Bytes src)
    (done : answer_no (write_answer img n off src) ≡ 0) where
  given : 0 < cnt n w.inodes
  given = omega (arith, w.tree.all n h)

  abbrev out : List ℕ
  out = write_card (blocks img) img n off src

  pub write_there : (k : ℕ) → k < length src → file_byte out n (off + k) ≡ byte src k
  write_there k l = go (wrote w.sound w.tree b n given off src)
    where
      go : Wrote w.inodes img n off src → file_byte out n (off + k) ≡ byte src k
      go (refused d e) = absurd (d done)
      go (reached mid x o z g _ _ _ y e) = rw e (there b n given off src o z k l)

  pub write_size : size out n ≡ max (size img n) (off + length src)
  write_size = go (wrote w.sound w.tree b n given off src)
    where
      go : Wrote w.inodes img n off src → size out n ≡ max (size img n) (off + length src)
      go (refused d e) = absurd (d done)
      go (reached mid x o z g _ _ _ y e) = rw e (size_wrote b n given off src o z)

  pub write_count : write_answer img n off src ≡ Ok (length src)
  write_count = go (wrote w.sound w.tree b n given off src)
    where
      go : Wrote w.inodes img n off src → write_answer img n off src ≡ Ok (length src)
      go (refused d e) = absurd (d done)
      go (reached mid x o z g _ _ _ y e) = y

  not_dir : kind img n ≢ 2
  not_dir = go (wrote w.sound w.tree b n given off src)
    where
      go : Wrote w.inodes img n off src → kind img n ≢ 2
      go (refused d e) = absurd (d done)
      go (reached mid x o z g _ _ _ y e) = x

  -- a read of as many bytes from there gives them all
  pub read_back : (buf : List ℕ) → length buf ≡ length src
      → (read_answer out n off (length buf) ≡ Ok (length src)) × (read_buffer (blocks out) out n off buf ≡ src)
  read_back buf e = (
    read_answer_lem v bytes n r k off buf
        ∙ ap Ok (let q : min (size out n) (off + length buf) - min (size out n) off ≡ length src = omega (arith, write_size) in q),
    ext_get_or 0 (read_buffer (blocks out) out n off buf) src (read_length v bytes n r k off buf ∙ e)
        (λ i l. read_bytes v bytes n r k off buf i (omega (arith, write_size, read_length v bytes n r k off buf))
        ∙ write_there i (omega (arith, read_length v bytes n r k off buf))),
  )
    where
      x : Step w.inodes img out (writing n off src)
      x = step_write w.sound w.tree b n given off src c

      v : Whole out
      v = record { inodes = w.inodes; sound = x.sound; tree = x.tree }

      bytes : Bytes out
      bytes = x.bytes

      r : Reached out n
      r = x.tree.only n given

      k : kind out n ≢ 2
      k q = not_dir (sym (x.kinds_same n given) ∙ q)
