-- No program that meets the statements of the calls is one of the shams (specs/Shams): it is asked to create a file on a card that format made, to write it a
-- byte and then one in its next block; and to check no bytes. Assumes nothing.
use mathlib.Core.Path.{◌≡◌, sym, ap, ◌∙◌, subst}
use mathlib.Core.Logic.{◌≢◌}
use mathlib.Core.List.{List, [], ◌∷◌}
use Prim.Native.Nat.{ℕ, ◌+◌, ◌≤◌, ◌<◌, ◌^◌}
use native.Mathlib.Omega.{arith}
use lib.ListN.{length, replicate, length-replicate, get_or}
use Rattle.std.proofs.lemmas.Grind.{common_steps}
use Rattle.words.specs.Sums.{δ}
use Rattle.words.proofs.Sums.{sum_on_nil}
use Rattle.card_layout.specs.Sizes.{blocks_for}
use Rattle.card_layout.specs.Super.{blocks, unused}
use Rattle.card_layout.specs.Inode.{size, kind, count}
use Rattle.card_layout.specs.Slots.{owned}
use Rattle.card_rules.specs.Whole.{Reached, Whole}
use Rattle.card_rules.proofs.Bare.{one}
use Rattle.card_rules.proofs.Tree.{reached_listed}
use Rattle.card_rules.proofs.Views.{owned_few}
use Rattle.check_walk.proofs.Agree.{check_whole}
use Rattle.file_requests.specs.Requests.{longest}
use Rattle.call_said.specs.Said.{said_value, Said}
use Rattle.call_dirs.specs.DirCalls.{Created}
use Rattle.call_files.specs.FileCalls.{Written}
use Rattle.law_files.specs.Requests.{reading, writing, resizing}
use Rattle.law_files.specs.Effects.{WriteEffect}
use Rattle.law_dirs.proofs.FreshBytes.{bytes_tested}
use Rattle.law_dirs.proofs.Entry.{bytes_zeros}
use Rattle.law_dirs.proofs.CreateCard.{CreateDone, created_whole}
use Rattle.law_calls.specs.Calls.{write}
use Rattle.law_calls.specs.Made.{Asked, file, creating, linking, unlinking, moving, finding, listing}
use Rattle.law_calls.specs.Made.{describing, checking, Made, filed, create, check, scratch_of, OfBytesAll}
use Rattle.law_calls.specs.Examples.{fresh}
use Rattle.law_calls.proofs.Room.{write_goes}
use Rattle.law_calls.proofs.FileEffects.{write_done}
use Rattle.law_calls.proofs.Made.{made_frame, made_whole, made_bytes}
use Rattle.law_calls.proofs.Stays.{made_stays}
use Rattle.law_calls.proofs.TailCalls.{made_tailed}
use Rattle.law_calls.proofs.ExamplesCall.{start_16, length_16, file_said, file_done, file_unused}
use Rattle.promises.specs.Shams.{Program, Slice, Fits, Machine, Meets, NotRefusing, NotFixed, NotIdle, NotOnce, Counted}
use Rattle.refusals.specs.Refusals.{answer_no}
use Rattle.refusals.proofs.Refused.{giving_no}

-- ---- the statements, taken out of the call made

made_created : {img out : List ℕ} {p : ℕ} {x : List ℕ} {k : ℕ} {r : Said} (m : Made img out (creating p x k) r)
    → (s' : List ℕ) × Created img out (scratch_of m) s' p x k r
made_created (create s s' p x k r c) = (s', c)

made_written : {img out : List ℕ} {n off : ℕ} {src : List ℕ} {r : Said} (m : Made img out (file (writing n off src)) r)
    → (s' : List ℕ) × Written img out (scratch_of m) s' src n off r
made_written (filed (write s s' src n off r c)) = (s', c)

-- a check that says 0
made_checked : {img out : List ℕ} {r : Said} → Made img out checking r → answer_no r ≡ 0 → Whole img
made_checked (check s s' o r c i e) z = (check_whole c).0 (sym (giving_no o 0) ∙ ap answer_no (sym i) ∙ z)

-- what is handed in are bytes
fits_bytes : (q : Asked) → Fits q → OfBytesAll q
fits_bytes (file (reading n off k)) f = tt
fits_bytes (file (writing n off src)) f = f.2.bytes
fits_bytes (file (resizing n len)) f = tt
fits_bytes (creating p x k) f = f.1.bytes
fits_bytes (linking p x c) f = f.1.bytes
fits_bytes (unlinking p x) f = tt
fits_bytes (moving p old t new) f = f.3.bytes
fits_bytes (finding p x) f = tt
fits_bytes (listing p k) f = tt
fits_bytes (describing n) f = tt
fits_bytes checking f = tt

module _ (p : Program) (meets : Meets p) (img s : List ℕ) where
  meets_create : (d : ℕ) (x : List ℕ) (k : ℕ) → Machine img s (creating d x k)
      → (s' : List ℕ) × Created img (p.card img s (creating d x k)) s s' d x k (p.said img s (creating d x k))
  meets_create d x k h =
      let m = meets img s (creating d x k) h in
      let c = made_created m.0 in
      (c.0, subst (λ (y : List ℕ). Created img (p.card img s (creating d x k)) y c.0 d x k (p.said img s (creating d x k))) m.1 c.1)

  meets_write : (n off : ℕ) (src : List ℕ) → Machine img s (file (writing n off src))
      → (s' : List ℕ) × Written img (p.card img s (file (writing n off src))) s s' src n off (p.said img s (file (writing n off src)))
  meets_write n off src h =
      let q = file (writing n off src) in
      let m = meets img s q h in
      let c = made_written m.0 in
      (c.0, subst (λ (y : List ℕ). Written img (p.card img s q) y c.0 src n off (p.said img s q)) m.1 c.1)

-- ---- "One keeping an invented unused count"

pub counted : Counted
counted p meets img s q w h = (made_whole w h.image.bytes (fits_bytes q h.request) (meets img s q h).0).sound.free

-- ---- a file that grows by a byte at its end or past it

-- card c of 16 blocks has the file n, of len bytes
record Holds (c : List ℕ) (n len : ℕ) : Type 0 where
  card : Whole c
  slice : Slice c
  blocks_are : blocks c ≡ 16
  there : Reached c n
  no_dir : kind c n ≢ 2
  size_is : size c n ≡ len

abbrev letter : List ℕ
letter = 97 ∷ []

letter_slice : Slice letter
letter_slice = record { bytes = bytes_tested letter tt; short = omega arith }

-- bytes for a card of 16 blocks, as many as `examples` asks for, and scratch for it
record Ground (img s : List ℕ) : Type 0 where
  slice : Slice img
  long : 73728 ≤ length img
  enough : 64 ≤ length s
  scratch : length s < 2 ^ 64
  words : (k : ℕ) → get_or s k 0 < 2 ^ 32

module _ (p : Program) (meets : Meets p) {img s : List ℕ} (g : Ground img s) where
  given : {c : List ℕ} (q : Asked) → Slice c → Fits q → Machine c s q
  given q a f = record { image = a; scratch = g.scratch; words = g.words; request = f }

  module _ {c : List ℕ} {n len : ℕ} (f : Holds c n len) (low : n < 2 ^ 32) (off : ℕ) (behind : len ≤ off) (short : off < longest)
      (room : owned (blocks_for (off + 1)) ≤ owned (blocks_for len) + unused c) where
    abbrev append : Asked
    append = file (writing n off letter)

    machine : Machine c s append
    machine = given append f.slice (low, omega arith, letter_slice)

    m : Made c (p.card c s append) append (p.said c s append)
    m = (meets c s append machine).0

    w : (s' : List ℕ) × Written c (p.card c s append) s s' letter n off (p.said c s append)
    w = meets_write p meets c s n off letter machine

    count_is : count c n ≡ blocks_for len
    count_is = (f.card.sound.inode n (reached_listed c f.card n f.there)).shape.counted ∙ ap blocks_for f.size_is

    done : answer_no (p.said c s append) ≡ 0
    done =
        write_goes f.card f.there f.no_dir off letter (omega arith) (omega (arith, room, ap owned count_is))
        (omega (arith, f.blocks_are, g.enough)) w.1

    effect : WriteEffect c (p.card c s append) n off letter (said_value (p.said c s append))
    effect = write_done f.slice.bytes done letter_slice.bytes w.1

    size_is : size (p.card c s append) n ≡ off + 1
    size_is = omega (arith, effect.size_is, f.size_is)

    grown : Holds (p.card c s append) n (off + 1)
    grown =
        record {
          card = made_whole f.card f.slice.bytes letter_slice.bytes m;
          slice =
              record {
                bytes = made_bytes f.card f.slice.bytes letter_slice.bytes m;
                short = omega (arith, (made_tailed m).length_same, f.slice.short);
              };
          blocks_are = (made_frame f.card f.slice.bytes letter_slice.bytes m).blocks_same ∙ f.blocks_are;
          there = made_stays f.card f.slice.bytes letter_slice.bytes m n f.there (λ z. sum_on_nil (δ n));
          no_dir = λ e. f.no_dir (sym effect.changed.kind_is ∙ e);
          size_is = size_is;
        }

    -- N(new) - N(old)
    taken : unused (p.card c s append) + owned (blocks_for (off + 1)) ≡ unused c + owned (blocks_for len)
    taken = omega (arith, effect.changed.takes, ap owned (effect.count_is ∙ ap blocks_for size_is), ap owned count_is)

  -- ---- the card, as the program makes it

  abbrev c0 : List ℕ
  c0 = fresh 16 img

  abbrev ask : Asked
  ask = creating 1 letter 1

  abbrev c1 : List ℕ
  c1 = p.card c0 s ask

  c0_slice : Slice c0
  c0_slice =
      record {
        bytes = (start_16 img g.slice.bytes g.long).bytes;
        short = omega (arith, length_16 img g.slice.bytes g.long, g.slice.short);
      }

  asked : Machine c0 s ask
  asked = given ask c0_slice (omega arith, letter_slice, omega arith)

  call : (s' : List ℕ) × Created c0 c1 s s' 1 letter 1 (p.said c0 s ask)
  call = meets_create p meets c0 s 1 letter 1 asked

  creates : answer_no (p.said c0 s ask) ≡ 0
  creates = file_said img g.slice.bytes g.long g.enough call.1

  create_done : CreateDone one c0 c1 1 letter 1 4
  create_done = file_done img g.slice.bytes g.long g.enough call.1

  changes : c1 ≡ c0 → ⊥
  changes e = create_done.new (subst (λ (x : List ℕ). Reached x 4) e create_done.there)

  no_bytes : Holds c1 4 0
  no_bytes =
      record {
        card = created_whole create_done;
        slice = record { bytes = create_done.bytes; short = omega (arith, (made_tailed (meets c0 s ask asked).0).length_same, c0_slice.short) };
        blocks_are = create_done.blocks_same ∙ (start_16 img g.slice.bytes g.long).fresh.blocks_are;
        there = create_done.there;
        no_dir = λ e. omega (arith, create_done.kind_is);
        size_is = (create_done.file (λ e. omega arith)).size_is;
      }

  unused_11 : unused c1 ≡ 11
  unused_11 = file_unused img g.slice.bytes g.long g.enough call.1

  abbrev c2 : List ℕ
  c2 = p.card c1 s (file (writing 4 0 letter))

  room_1 : owned (blocks_for 1) ≤ owned (blocks_for 0) + unused c1
  room_1 = omega (arith, unused_11, owned_few 1 (omega arith))

  one_byte : Holds c2 4 1
  one_byte = grown no_bytes (omega arith) 0 (omega arith) (omega arith) room_1

  unused_10 : unused c2 ≡ 10
  unused_10 = grind (arith, common_steps, taken, no_bytes, unused_11, owned_few)

  -- the first byte of the second block
  abbrev next : Asked
  next = file (writing 4 4096 letter)

  room_2 : owned (blocks_for 4097) ≤ owned (blocks_for 1) + unused c2
  room_2 = omega (arith, unused_10, owned_few 2 (omega arith), owned_few 1 (omega arith))

  next_machine : Machine c2 s next
  next_machine = machine one_byte (omega arith) 4096 (omega arith) (omega arith) room_2

  takes_again : unused (p.card c2 s next) ≡ unused c2 → ⊥
  takes_again e =
      omega (
        arith,
        e,
        taken one_byte (omega arith) 4096 (omega arith) (omega arith) room_2,
        owned_few 2 (omega arith),
        owned_few 1 (omega arith),
      )

-- ---- the shams

abbrev blank : List ℕ
blank = replicate 73728 0

abbrev scratch : List ℕ
scratch = replicate 64 0

scratch_short : length scratch < 2 ^ 64
scratch_short = omega (arith, length-replicate {A = ℕ} 64 0)

scratch-words : (k : ℕ) → get_or scratch k 0 < 2 ^ 32
scratch-words k = omega (arith, (bytes_zeros 64).below k)

ground : Ground blank scratch
ground =
    record {
      slice = record { bytes = bytes_zeros 73728; short = omega (arith, length-replicate {A = ℕ} 73728 0) };
      long = omega (arith, length-replicate {A = ℕ} 73728 0);
      enough = omega (arith, length-replicate {A = ℕ} 64 0);
      scratch = scratch_short;
      words = scratch-words;
    }

pub not_refusing : NotRefusing
not_refusing p meets sham = sham (fresh 16 blank) scratch (creating 1 letter 1) (asked p meets ground) (creates p meets ground)

none_whole : Whole [] → ⊥
none_whole w = omega (arith, w.sound.sized.few, w.sound.sized.long)

nothing : Machine [] scratch checking
nothing =
    record {
      image = record { bytes = bytes_zeros 0; short = omega arith };
      scratch = scratch_short;
      words = scratch-words;
      request = tt;
    }

-- the check of no bytes is refused, the creation is not
pub not_fixed : NotFixed
not_fixed p k meets sham =
    none_whole
    (made_checked (meets [] scratch checking nothing).0
    (sham [] scratch checking nothing ∙ sym (sham (fresh 16 blank) scratch (creating 1 letter 1) (asked p meets ground)) ∙ creates p meets ground))

pub not_idle : NotIdle
not_idle p meets sham = changes p meets ground (sham (fresh 16 blank) scratch (creating 1 letter 1) (asked p meets ground))

pub not_once : NotOnce
not_once p meets sham =
    let e = (one_byte p meets ground).size_is in
    takes_again p meets ground (sham _ scratch 4 4096 letter (next_machine p meets ground) (omega (arith, e)) (omega (arith, e)))
