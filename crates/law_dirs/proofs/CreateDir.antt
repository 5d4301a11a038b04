-- The middle step of a directory's creation: its new record becomes a directory of two entries, "." with its own number and ".." with its parent's. `mid` is
-- the card with the new record, `out` the card after. Assumes nothing.
use mathlib.Core.Path.{◌≡◌, refl, ap, ◌∙◌, subst}
use mathlib.Core.List.{List, ◌∷◌}
use Prim.Native.Nat.{ℕ, ◌≤◌, ◌<◌, ◌^◌}
use native.Mathlib.Omega.{arith}
use Rattle.std.proofs.lemmas.Grind.{common_steps}
use Rattle.words.specs.Words.{Bytes}
use Rattle.words.specs.Sums.{cnt}
use Rattle.card_layout.specs.Super.{blocks, unused}
use Rattle.card_layout.specs.Inode.{size, kind, links, count, direct, with_links}
use Rattle.card_layout.specs.Entry.{Name, entry_of}
use Rattle.card_layout.specs.Slots.{seconds, owned}
use Rattle.card_layout.specs.declared.inode.FileType.TheVariants.{Dir}
use Rattle.card_layout.specs.declared.inode.DiskINode.{DiskINode}
use Rattle.card_rules.specs.View.{data_at, entry, name}
use Rattle.card_rules.specs.Whole.{Sound, Dir as DirRules}
use Rattle.card_rules.specs.Places.{at_data}
use Rattle.card_rules.proofs.Views.{owned_few}
use Rattle.card_rules.proofs.Frames.{data_is}
use Rattle.card_rules.proofs.Isolation.{data_slots}
use Rattle.file_grow.proofs.Taken.{nth_free}
use Rattle.file_requests.specs.Resizing.{fitted}
use Rattle.dir_entries.specs.Entries.{entry_put}
use Rattle.dir_entries.specs.Names.{dot, dots, no_nul}
use Rattle.dir_entries.proofs.Given.{storable_name}
use Rattle.dir_create.specs.Create.{bare_dir}
use Rattle.law_files.proofs.Plan.{planned}
use Rattle.law_files.proofs.Placed.{Placed, fit_placed}
use Rattle.law_files.proofs.Edits.{Edited, edited_trans, edited_sound}
use Rattle.law_dirs.proofs.Links.{ResizedWith, links_change, resized_edited}
use Rattle.law_dirs.proofs.Entry.{EntryPut, entry_put_lem, put_beside, entry_of-length, entry_of_bytes, entry_of_number, entry_of-name}
use Rattle.law_dirs.specs.Entries.{entry_in, NewRecord}
use Rattle.law_dirs.proofs.NewInode.{Fresh}
use Rattle.law_dirs.proofs.FreshRecord.{fresh_record, record_after, direct_kept}
use Rattle.law_dirs.proofs.Creating.{listed_here}

-- ---- the two names

pub dot-name : Name dot
unfolding no_nul
dot-name = storable_name dot refl

pub dots-name : Name dots
unfolding no_nul
dots-name = storable_name dots refl

dot_bytes : Bytes dot
dot_bytes = grind (arith, common_steps)

dots_bytes : Bytes dots
dots_bytes = grind (arith, common_steps)

-- ---- an empty directory

pub record EmptyDir (out : List ℕ) (i p : ℕ) : Type 0 where
  pub kind_is : kind out i ≡ 2
  pub size_is : size out i ≡ 520
  pub links_is : links out i ≡ 2
  -- "." with its own number, "..", and the other rules on its entries
  pub dir : DirRules out i
  pub up : entry out i 1 ≡ p
  -- byte by byte
  pub first_bytes : entry_in out i 0 ≡ entry_of i dot
  pub second_bytes : entry_in out i 1 ≡ entry_of p dots
  pub new_record : NewRecord out i 2 520 2 1

module _ {l img mid : List ℕ} {i : ℕ} (f : Fresh l img mid i Dir 2) (p : ℕ) (p-fits : p < 2 ^ 32) (room : 1 ≤ unused mid) where
  abbrev long : List ℕ
  long = fitted (blocks img) i bare_dir 520 mid

  abbrev first : List ℕ
  first = entry_put (blocks img) i 0 (entry_of i dot) long

  abbrev out : List ℕ
  out = entry_put (blocks img) i 1 (entry_of p dots) first

  abbrev here : 0 < cnt i (i ∷ l)
  here = listed_here i l

  -- its block
  grown : ResizedWith mid long i 520 2
  grown =
      subst (λ (b : ℕ). ResizedWith mid (fitted b i bare_dir 520 mid) i 520 2) f.blocks_is
      (subst (λ (d : DiskINode). ResizedWith mid (fitted (blocks mid) i (with_links d 2) 520 mid) i 520 2) f.record_is
      (links_change mid (i ∷ l) f.sound f.bytes i here 2 (omega arith) Dir f.kind_is 520 (omega arith)
      (omega (arith, room, ap owned f.count_is, owned_few 1 (omega arith), owned_few 0 (omega arith)))))

  long_sound : Sound long (i ∷ l)
  long_sound = edited_sound f.sound here (resized_edited grown)

  long-blocks : blocks long ≡ blocks img
  long-blocks = grown.balanced.steady.blocks_same ∙ f.blocks_is

  -- its two entries
  one : EntryPut (i ∷ l) long first i 0 (entry_of i dot)
  one =
      subst (λ (b : ℕ). EntryPut (i ∷ l) long (entry_put b i 0 (entry_of i dot) long) i 0 (entry_of i dot)) long-blocks
      (entry_put_lem long (i ∷ l) long_sound grown.bytes i here 0 (entry_of i dot) (entry_of-length i dot dot-name) (entry_of_bytes i dot dot_bytes)
      (omega (arith, grown.size_is)))

  two : EntryPut (i ∷ l) first out i 1 (entry_of p dots)
  two =
      subst (λ (b : ℕ). EntryPut (i ∷ l) first (entry_put b i 1 (entry_of p dots) first) i 1 (entry_of p dots))
      (one.edited.balanced.steady.blocks_same ∙ long-blocks)
      (entry_put_lem first (i ∷ l) one.sound one.edited.bytes i here 1 (entry_of p dots) (entry_of-length p dots dots-name)
      (entry_of_bytes p dots dots_bytes) (omega (arith, one.size_is, grown.size_is)))

  size_out : size out i ≡ 520
  size_out = two.size_is ∙ one.size_is ∙ grown.size_is

  name_0 : name out i 0 ≡ dot
  name_0 = two.name_kept 0 (λ e. omega arith) (omega (arith, one.size_is, grown.size_is)) ∙ one.name_new ∙ entry_of-name i dot dot-name

  name_1 : name out i 1 ≡ dots
  name_1 = two.name_new ∙ entry_of-name p dots dots-name

  entry_0 : entry out i 0 ≡ i
  entry_0 = grind (arith, common_steps, two, one, grown, entry_of_number)

  dir_out : DirRules out i
  dir_out = grind (arith, common_steps, size_out, name_0, entry_0, name_1)

  -- its block is the lowest free one
  placed : Placed mid long i 520
  placed =
      subst (λ (b : ℕ). Placed mid (fitted b i bare_dir 520 mid) i 520) f.blocks_is
      (subst (λ (d : DiskINode). Placed mid (fitted (blocks mid) i d 520 mid) i 520) f.record_is
      (fit_placed mid (i ∷ l) f.sound f.bytes i here Dir f.kind_is 520 (omega arith)
      (omega (arith, room, ap owned f.count_is, owned_few 1 (omega arith), owned_few 0 (omega arith)))
      (omega (arith, f.count_is))))

  first-planned : planned mid i 1 (at_data 0) ≡ nth_free (blocks mid) mid 0
  unfolding seconds
  first-planned = rw f.count_is

  one-long : count long i ≡ 1
  one-long = omega (arith, grown.balanced.inode.shape.counted, grown.size_is)

  pub empty_block : data_at out i 0 ≡ nth_free (blocks mid) mid 0
  empty_block =
      data_is (data_slots one.sound here two.within_data) 0 (omega (arith, one.count_is, one-long))
      ∙ data_is (data_slots long_sound here one.within_data) 0 (omega (arith, one-long))
      ∙ placed.places (at_data 0) (omega arith)
      ∙ first-planned

  -- its record: the slots after the first are those of the new one
  long-direct : (j : ℕ) → 1 ≤ j → j < 12 → direct long i j ≡ direct mid i j
  long-direct j a b =
      subst (λ (n : ℕ). direct (fitted n i bare_dir 520 mid) i j ≡ direct mid i j) f.blocks_is
      (subst (λ (d : DiskINode). direct (fitted (blocks mid) i d 520 mid) i j ≡ direct mid i j) f.record_is
      (direct_kept mid (i ∷ l) f.sound f.bytes i here Dir f.kind_is 520 (omega arith)
      (omega (arith, room, ap owned f.count_is, owned_few 1 (omega arith), owned_few 0 (omega arith))) f.count_is refl j a b))

  long_record : NewRecord long i 2 520 2 1
  long_record =
      let r = fresh_record f in
      let shape = grown.balanced.inode.shape in
      record {
        size_is = grown.size_is;
        kind_is = grown.kind_is ∙ f.kind_is;
        links_is = grown.links_is;
        count_is = one-long;
        directs = λ j a b. long-direct j a b ∙ r.directs j (omega arith) b;
        indirect_is = shape.single.to (omega (arith, one-long));
        double_is = shape.twofold.to (omega (arith, one-long));
        padding_is = grown.tail.padding_same ∙ r.padding_is;
        device_is = grown.tail.device_same ∙ r.device_is;
      }

  pub empty_edited : Edited mid out i
  empty_edited = edited_trans (resized_edited grown) (edited_trans one.edited two.edited)

  pub empty_dir_lem : EmptyDir out i p
  empty_dir_lem =
      record {
        kind_is = empty_edited.kind_is ∙ f.kind_is;
        size_is = size_out;
        links_is = two.links_is ∙ one.links_is ∙ grown.links_is;
        dir = dir_out;
        up = two.entry_new ∙ entry_of_number p dots dots-name p-fits;
        first_bytes =
            put_beside two (omega (arith, one.count_is, one-long, one.size_is, grown.size_is)) 0 (λ e. omega arith)
            (omega (arith, one.size_is, grown.size_is))
            ∙ one.bytes_new;
        second_bytes = two.bytes_new;
        new_record = record_after (record_after long_record one.rec) two.rec;
      }
