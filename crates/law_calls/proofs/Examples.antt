-- RULES' examples that are marked * hold of every slice of 18 blocks of bytes. Assumes nothing.
use mathlib.Core.Path.{◌≡◌, refl, sym, ap, ◌∙◌, subst}
use mathlib.Core.List.{List, [], ◌∷◌}
use mathlib.Core.Logic.{◌≢◌}
use Prim.Native.Nat.{ℕ, ◌+◌, ◌-◌, ◌≤◌}
use native.Mathlib.Omega.{arith}
use lib.Dec.{eqb, lit≤}
use lib.ListN.{length, replicate, length-replicate}
use Rattle.std.proofs.lemmas.Grind.{common_steps}
use Rattle.words.specs.Words.{pick, byte, Bytes}
use Rattle.card_layout.specs.Super.{unused}
use Rattle.card_layout.specs.Inode.{size, links}
use Rattle.card_layout.specs.Entry.{Name}
use Rattle.card_layout.specs.Sizes.{blocks_for}
use Rattle.card_layout.specs.Slots.{owned, owned_values}
use Rattle.card_layout.specs.declared.inode.FileType.TheVariants.{Dir}
use Rattle.card_rules.specs.View.{data_at, name}
use Rattle.card_rules.specs.Whole.{root}
use Rattle.card_rules.proofs.Views.{owned_few, owned_least}
use Rattle.check_walk.specs.Opening.{Opening, counts_at, Opened}
use Rattle.check_walk.proofs.Agree.{opened}
use Rattle.check_line.specs.Line.{line_of}
use Rattle.check_line.proofs.Line.{line_fresh, line_refused}
use Rattle.dir_entries.specs.Entries.{eqs}
use Rattle.dir_entries.specs.Names.{dot, dots}
use Rattle.dir_create.specs.Create.{create_answer, create_card}
use Rattle.dir_create.proofs.CreateLaws.{create_refused}
use Rattle.dir_unlink.specs.Unlink.{unlink_answer, unlink_card}
use Rattle.dir_unlink.proofs.UnlinkLaws.{unlink_refused}
use Rattle.dir_answers.specs.Answers.{the_inode}
use Rattle.file_grow.proofs.Taken.{nth_free}
use Rattle.law_calls.specs.Examples.{fresh, created, with_a, sized_a, fresh_line, Examples}
use Rattle.law_files.proofs.Requests.{of_kind}
use Rattle.law_dirs.proofs.FreshBytes.{bytes_tested, name_tested}
use Rattle.law_dirs.proofs.FreshCard.{format_done}
use Rattle.law_files.proofs.FreeFrom.{byte_from, nth_from}
use Rattle.law_dirs.proofs.CreateTests.{Known, create_tests_lem}
use Rattle.law_calls.proofs.ExamplesFresh.{Start, Given, start, whole, root_listed, start_free}
use Rattle.law_calls.proofs.ExamplesFresh.{creates, create_4, root_size, root_links, third_name, unused_left}
use Rattle.law_calls.proofs.ExamplesFile.{FileCard, free_at, known_file, file_card, too_long, no_room}
use Rattle.law_calls.proofs.ExamplesFile.{sized_done, sized_card, sized_data, reads_none, reads_same}
use Rattle.refusals.specs.Refusals.{answer_no}
use Rattle.refusals.specs.declared.Refusal.TheVariants.{IsDir, BadName}
use Rattle.std.specs.Prelude.{Ok, Err}

-- ---- names

head_not : (x : List ℕ) (v : ℕ) → byte x 0 ≡ v → v ≢ 46 → (x ≡ dot → ⊥) × (x ≡ dots → ⊥)
head_not x v e d = (λ q. d (sym e ∙ ap (λ (y : List ℕ). byte y 0) q), λ q. d (sym e ∙ ap (λ (y : List ℕ). byte y 0) q))

given : (x : List ℕ) (v : ℕ) → byte x 0 ≡ v → v ≢ 46 → Name x → Bytes x → Given x
given x v e d n b = record { named = n; not_dot = (head_not x v e d).0; not_dots = (head_not x v e d).1; bytes = b }

name_a : Given (97 ∷ [])
name_a = given (97 ∷ []) 97 refl (λ e. omega arith) (name_tested (97 ∷ []) (lit≤ tt) (lit≤ tt) tt) (bytes_tested (97 ∷ []) tt)

name_d : Given (100 ∷ [])
name_d = given (100 ∷ []) 100 refl (λ e. omega arith) (name_tested (100 ∷ []) (lit≤ tt) (lit≤ tt) tt) (bytes_tested (100 ∷ []) tt)

name_255 : Given (replicate 255 97)
name_255 =
    given (replicate 255 97) 97 refl (λ e. omega arith) (name_tested (replicate 255 97) (lit≤ tt) (lit≤ tt) tt) (bytes_tested (replicate 255 97) tt)

no_name_256 : Name (replicate 256 97) → ⊥
no_name_256 n = omega (arith, n.high, length-replicate {A = ℕ} 256 97)

known_dir : Known 2
known_dir = record { low = omega arith; high = omega arith }

-- ---- calls that are refused

module _ {c : List ℕ} {nb : ℕ} (s : Start c nb) where
  -- ".." is not unlinked
  dots_refused : unlink_answer c 1 dots ≡ Err IsDir
  unfolding unlink_answer eqs
  dots_refused = rw (of_kind c 1 Dir s.fresh.bare.dir).decodes

  dots_stay : unlink_card nb c 1 dots ≡ c
  dots_stay = unlink_refused c 1 dots nb (λ e. omega (arith, ap answer_no dots_refused))

  -- a name that cannot be stored
  no_such_name : (x : List ℕ) → (Name x → ⊥) → (create_answer nb c 1 x 1 ≡ Err BadName) × (create_card nb c 1 x 1 ≡ c)
  no_such_name x d = grind (arith, common_steps, create_refused, create_tests_lem, root_listed)

-- ---- creations

-- inode 4 under the name x; more is 1 for a directory, else 0
pub record First (c out : List ℕ) (nb : ℕ) (x : List ℕ) (k more : ℕ) : Type 0 where
  pub answer : create_answer nb c 1 x k ≡ the_inode 4
  pub unused_are : unused out + (1 + more) ≡ nb - 4
  pub root_bytes : size out 1 ≡ 780
  pub root_linked : links out 1 ≡ 2 + more
  pub third : name out 1 2 ≡ x
  pub block : k ≡ 2 → data_at out 4 0 ≡ 5

module _ {c : List ℕ} {nb : ℕ} (s : Start c nb) {x : List ℕ} (g : Given x) where
  first_by : (k : ℕ) → Known k → First c (create_card nb c 1 x k) nb x k (pick (eqb k 2) 1 0)
  first_by k n =
      subst (λ (b : ℕ). First c (create_card b c 1 x k) nb x k (pick (eqb k 2) 1 0)) s.fresh.blocks_are
      (record {
        answer = subst (λ (b : ℕ). create_answer b c 1 x k ≡ the_inode 4) s.fresh.blocks_are (creates s x g k n);
        unused_are = unused_left s x g k n;
        root_bytes = root_size s x g k n;
        root_linked = root_links s x g k n;
        third = third_name s x g k n;
        block = λ e.
            (create_4 s x g k n).dir_block e
            ∙ ap (λ (b : ℕ). nth_free b c 1) s.fresh.blocks_are
            ∙ nth_from (start_free s) 1 (omega (arith, s.few));
      })

-- ---- the claim

module _ (img : List ℕ) (bytes : Bytes img) (long : 73728 ≤ length img) where
  s16 : Start (fresh 16 img) 16
  s16 = start img bytes 16 (omega arith) (omega arith) (omega arith)

  s18 : Start (fresh 18 img) 18
  s18 = start img bytes 18 (omega arith) (omega arith) (omega arith)

  a16 : FileCard (with_a 16 img) 16 0
  a16 = file_card s16 (97 ∷ []) name_a

  a18 : FileCard (with_a 18 img) 18 0
  a18 = file_card s18 (97 ∷ []) name_a

  d16 : First (fresh 16 img) (created 16 (100 ∷ []) 2 img) 16 (100 ∷ []) 2 1
  d16 = first_by s16 name_d 2 known_dir

  f16 : First (fresh 16 img) (with_a 16 img) 16 (97 ∷ []) 1 0
  f16 = first_by s16 name_a 1 known_file

  f18 : First (fresh 18 img) (with_a 18 img) 18 (97 ∷ []) 1 0
  f18 = first_by s18 name_a 1 known_file

  l16 : First (fresh 16 img) (created 16 (replicate 255 97) 1 img) 16 (replicate 255 97) 1 0
  l16 = first_by s16 name_255 1 known_file

  -- the check of the formatted card
  counts_16 : counts_at (fresh 16 img) ≡ record { blocks = 16; unused = 12 }
  counts_16 = rw (s16.fresh.blocks_are, s16.fresh.unused_are)

  checked_16 : (s s' : List ℕ) (o : Opened) → Opening (fresh 16 img) s s' 1 1 o → 64 ≤ length s
      → (o ≡ Ok (record { blocks = 16; unused = 12 })) × (line_of o ≡ fresh_line)
  checked_16 s s' o z enough =
      let e : o ≡ Ok (record { blocks = 16; unused = 12 }) =
      ((opened z).1 (omega (arith, s16.fresh.blocks_are)) (whole s16) root root).0 ∙ ap Ok counts_16 in
      (e, ap line_of e ∙ line_fresh)

  -- the lengths, by the blocks that they take
  two_blocks : owned (blocks_for 4097) ≡ 2
  two_blocks = owned_few 2 (omega arith)

  short_4097 : FileCard (sized_a 16 4097 img) 16 4097
  short_4097 = sized_card a16 4097 (omega arith) (omega arith) (omega (arith, two_blocks)) (omega arith)

  short_45056 : FileCard (sized_a 16 45056 img) 16 45056
  short_45056 = sized_card a16 45056 (omega arith) (omega arith) (omega (arith, owned_values.0)) (omega arith)

  long_45057 : FileCard (sized_a 18 45057 img) 18 45057
  long_45057 = sized_card a18 45057 (omega arith) (omega arith) (omega (arith, owned_values.1)) (omega arith)

  pub examples : Examples img
  examples =
      record {
        formatted = (
          format_done (length img) 65536 (record { few = omega arith; many = omega arith; long = omega arith }),
          s16.fresh.blocks_are,
          s16.fresh.unused_are,
          byte_from (start_free s16) s16.bytes 0 0xf0 (omega arith) (omega arith) tt,
          byte_from (start_free s16) s16.bytes 1 0xff (omega arith) (omega arith) tt,
          s16.fresh.bare.bytes,
          s16.fresh.bare.linked,
          s16.fresh.bare.slot,
        );
        checked = checked_16;
        refused_line = line_refused;
        file_a = (
          f16.answer,
          omega (arith, f16.unused_are),
          byte_from (free_at a16 0 (owned_few 0 (omega arith))) a16.bytes 0 0xe0 (omega arith) (omega arith) tt,
          f16.root_bytes,
        );
        sized_4097 = (
          sized_done a16 4097 (omega arith) (omega arith) (omega (arith, two_blocks)) (omega arith),
          sized_data a16 4097 (omega arith) (omega arith) (omega (arith, two_blocks)) (omega arith) (omega arith) 0 (omega arith),
          sized_data a16 4097 (omega arith) (omega arith) (omega (arith, two_blocks)) (omega arith) (omega arith) 1 (omega arith),
          omega (arith, short_4097.unused_are, two_blocks),
          byte_from (free_at short_4097 2 two_blocks) short_4097.bytes 0 0x80 (omega arith) (omega arith) tt,
        );
        sized_45056 = (
          sized_done a16 45056 (omega arith) (omega arith) (omega (arith, owned_values.0)) (omega arith),
          omega (arith, short_45056.unused_are, owned_values.0),
          (no_room a16 45057 (omega arith) (omega (arith, owned_values.1))).0,
          (no_room a16 45057 (omega arith) (omega (arith, owned_values.1))).1,
        );
        sized_18 = (
          omega (arith, f18.unused_are),
          sized_done a18 45057 (omega arith) (omega arith) (omega (arith, owned_values.1)) (omega arith),
          omega (arith, long_45057.unused_are, owned_values.1),
        );
        dir_d = (d16.answer, d16.block refl, d16.root_linked, omega (arith, d16.unused_are));
        owned_six = owned_values;
        longest_lengths = (
          (no_room a16 4294967295 (omega arith) (omega (arith, owned_least 1048576))).0,
          too_long a16 4294967296 (omega arith),
        );
        read_end = λ off buf h. (reads_none short_4097 off h (length buf), reads_same short_4097 off h buf);
        unlink_dots = (dots_refused s16, dots_stay s16);
        long_names = (
          l16.answer,
          l16.third,
          (no_such_name s16 (replicate 256 97) no_name_256).0,
          (no_such_name s16 (replicate 256 97) no_name_256).1,
        );
      }
