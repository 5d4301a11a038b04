-- The tried examples of RULES that are marked *, in its order and with its numbers, over the definitions of the calls (file_requests/specs and those of the
-- directory calls): one claim, `Examples`, which holds of any slice of bytes that is long enough (proofs/Examples). 97 is "a", 100 is "d"; the root is inode
-- 1; the kinds are 1 for a file and 2 for a directory. RULES' numbers of the refusals are those of `answer_no`: 7 IsDir, 8 BadName, 12 InvalidParam, 14
-- NoDeviceSpace.
use Rattle.std.specs.Prelude.{ℕ, ◌*◌, ◌≤◌, ◌≡◌, List, [], ◌∷◌, ◌≢◌, length, replicate, Ok, Err}
use Rattle.words.specs.Words.{byte}
use Rattle.card_layout.specs.Sizes.{block_size}
use Rattle.card_layout.specs.Super.{blocks, unused}
use Rattle.card_layout.specs.Inode.{size, links, direct}
use Rattle.card_layout.specs.Slots.{owned}
use Rattle.card_rules.specs.View.{data_at, name}
use Rattle.check_walk.specs.Opening.{Opening, Opened}
use Rattle.check_line.specs.Line.{check_line, line_of}
use Rattle.dir_entries.specs.Names.{dots}
use Rattle.file_requests.specs.Requests.{resize_answer, resize_card, read_answer, read_buffer}
use Rattle.dir_format.specs.Format.{format_answer, format_card}
use Rattle.dir_create.specs.Create.{create_answer, create_card}
use Rattle.dir_unlink.specs.Unlink.{unlink_answer, unlink_card}
use Rattle.dir_answers.specs.Answers.{the_inode}
use Rattle.refusals.specs.Refusals.{answer_no, done}
use Rattle.refusals.specs.declared.Refusal.TheVariants.{IsDir, BadName, InvalidParam, NoDeviceSpace}

-- ---- the cards that the examples speak of

-- the slice formatted to nb blocks
abbrev pub fresh : ℕ → List ℕ → List ℕ
fresh nb img = format_card img (block_size * nb)

-- then an inode of kind k created in the root under the name x
abbrev pub created : ℕ → List ℕ → ℕ → List ℕ → List ℕ
created nb x k img = create_card nb (fresh nb img) 1 x k

-- the file "a" so created, which is inode 4, and then resized to len
abbrev pub with_a : ℕ → List ℕ → List ℕ
with_a nb img = created nb (97 ∷ []) 1 img

abbrev pub sized_a : ℕ → ℕ → List ℕ → List ℕ
sized_a nb len img = resize_card nb (with_a nb img) 4 len

-- "status 0 blocks 16 free 12" and a newline
abbrev pub fresh_line : List ℕ
fresh_line =
    115 ∷ 116 ∷ 97 ∷ 116 ∷ 117 ∷ 115 ∷ 32 ∷ 48 ∷ 32 ∷ 98 ∷ 108 ∷ 111 ∷ 99 ∷ 107 ∷ 115 ∷ 32 ∷ 49 ∷ 54 ∷ 32 ∷ 102 ∷ 114 ∷ 101 ∷ 101 ∷ 32 ∷ 49 ∷ 50 ∷ 10 ∷ []

-- ---- the claim

pub record Examples (img : List ℕ) : Type 0 where
  -- "16 blocks formatted: unused 12, map starts f0 ff, root size 520, links 2, slot 3."
  pub formatted : (format_answer (length img) 65536 ≡ done) × (blocks (fresh 16 img) ≡ 16) × (unused (fresh 16 img) ≡ 12)
      × (byte (fresh 16 img) 8192 ≡ 0xf0) × (byte (fresh 16 img) 8193 ≡ 0xff)
      × (size (fresh 16 img) 1 ≡ 520) × (links (fresh 16 img) 1 ≡ 2) × (direct (fresh 16 img) 1 0 ≡ 3)
  -- "The program prints the single line `status 0 blocks 16 free 12`": the answer of the check, with scratch enough, and its line
  pub checked : (s s' : List ℕ) (o : Opened) → Opening (fresh 16 img) s s' 1 1 o → 64 ≤ length s
      → (o ≡ Ok (record { blocks = 16; unused = 12 })) × (line_of o ≡ fresh_line)
  -- "a refusal prints its number and two zeros"
  pub refused_line : (o : Opened) → answer_no o ≢ 0 → line_of o ≡ check_line (answer_no o) 0 0
  -- "Then create file "a": number 4, unused 11, map byte e0, root size 780."
  pub file_a : (create_answer 16 (fresh 16 img) 1 (97 ∷ []) 1 ≡ the_inode 4) × (unused (with_a 16 img) ≡ 11) × (byte (with_a 16 img) 8192 ≡ 0xe0)
      × (size (with_a 16 img) 1 ≡ 780)
  -- "Then resize it to 4,097: blocks 5 and 6, unused 9, map byte 80."
  pub sized_4097 : (resize_answer (with_a 16 img) 4 4097 ≡ done) × (data_at (sized_a 16 4097 img) 4 0 ≡ 5) × (data_at (sized_a 16 4097 img) 4 1 ≡ 6)
      × (unused (sized_a 16 4097 img) ≡ 9) × (byte (sized_a 16 4097 img) 8192 ≡ 0x80)
  -- "Instead, from unused 11: 45,056 is done and leaves 0; 45,057 is 14."
  pub sized_45056 : (resize_answer (with_a 16 img) 4 45056 ≡ done) × (unused (sized_a 16 45056 img) ≡ 0)
      × (resize_answer (with_a 16 img) 4 45057 ≡ Err NoDeviceSpace) × (sized_a 16 45057 img ≡ with_a 16 img)
  -- "On 18 blocks, after one create (13 free), 45,057 is done and leaves 0."
  pub sized_18 : (unused (with_a 18 img) ≡ 13) × (resize_answer (with_a 18 img) 4 45057 ≡ done) × (unused (sized_a 18 45057 img) ≡ 0)
  -- "Fresh, create directory "d": number 4, block 5, root links 3, unused 10."
  pub dir_d : (create_answer 16 (fresh 16 img) 1 (100 ∷ []) 2 ≡ the_inode 4) × (data_at (created 16 (100 ∷ []) 2 img) 4 0 ≡ 5)
      × (links (created 16 (100 ∷ []) 2 img) 1 ≡ 3) × (unused (created 16 (100 ∷ []) 2 img) ≡ 10)
  -- "N at its six values above."
  pub owned_six : (owned 11 ≡ 11) × (owned 12 ≡ 13) × (owned 1035 ≡ 1036) × (owned 1036 ≡ 1039) × (owned 2059 ≡ 2062) × (owned 2060 ≡ 2064)
  -- "Length 4,294,967,295 on 16 blocks is 14; one more is 12."
  pub longest_lengths : (resize_answer (with_a 16 img) 4 4294967295 ≡ Err NoDeviceSpace) × (resize_answer (with_a 16 img) 4 4294967296 ≡ Err InvalidParam)
  -- "Read at size and past it: 0 bytes." The buffer stays.
  pub read_end : (off : ℕ) (buf : List ℕ) → 4097 ≤ off
      → (read_answer (sized_a 16 4097 img) 4 off (length buf) ≡ Ok 0) × (read_buffer 16 (sized_a 16 4097 img) 4 off buf ≡ buf)
  -- "Unlink of "..": 7." The card stays.
  pub unlink_dots : (unlink_answer (fresh 16 img) 1 dots ≡ Err IsDir) × (unlink_card 16 (fresh 16 img) 1 dots ≡ fresh 16 img)
  -- "A 255-byte name is stored; 256 is 8." It is the root's third entry.
  pub long_names : (create_answer 16 (fresh 16 img) 1 (replicate 255 97) 1 ≡ the_inode 4)
      × (name (created 16 (replicate 255 97) 1 img) 1 2 ≡ replicate 255 97)
      × (create_answer 16 (fresh 16 img) 1 (replicate 256 97) 1 ≡ Err BadName)
      × (created 16 (replicate 256 97) 1 img ≡ fresh 16 img)
