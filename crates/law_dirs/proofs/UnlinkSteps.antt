-- The steps of unlink: an entry goes, then an inode has other links; what stays of both and of the rest. Assumes nothing.
use mathlib.Core.Path.{◌≡◌, sym, ap, ◌∙◌}
use mathlib.Core.Logic.{◌≢◌}
use mathlib.Core.List.{List}
use Prim.Native.Nat.{ℕ, ◌+◌, ◌*◌, ◌≤◌, ◌<◌}
use native.Mathlib.Omega.{arith}
use Rattle.std.proofs.lemmas.Grind.{common_steps}
use Rattle.words.specs.Sums.{cnt}
use Rattle.card_layout.specs.Super.{unused}
use Rattle.card_layout.specs.Inode.{size, kind, links, count}
use Rattle.card_layout.specs.Slots.{owned}
use Rattle.card_rules.specs.View.{file_byte}
use Rattle.card_rules.specs.Whole.{Sound}
use Rattle.card_rules.specs.Places.{Place, held, InUse}
use Rattle.card_rules.specs.Same.{SameFile}
use Rattle.card_rules.proofs.Frames.{size_is, kind_is, links_is, count_is, file_byte_is, file_trans}
use Rattle.card_rules.proofs.Kept.{slots_few}
use Rattle.card_rules.proofs.Isolation.{others_same}
use Rattle.law_files.proofs.Files.{takes_exactly}
use Rattle.law_files.proofs.Resized.{held_is, in_use_is}
use Rattle.law_files.proofs.Edits.{edited_sound}
use Rattle.law_dirs.specs.Entries.{Relinked as ButLinks}
use Rattle.law_dirs.proofs.Links.{Relinked}
use Rattle.law_dirs.proofs.Remove.{Removed}
use Rattle.law_dirs.proofs.EntryBytes.{relinked_record, relinked_trans}
use Rattle.law_dirs.proofs.EntryCounts.{EntryLess, less_by, less_after}

-- ---- the steps: entry j of p is gone, then inode c has other links, then nothing changes in what is listed

pub record Cut (l img mid less : List ℕ) (p c v u j : ℕ) : Type 0 where
  pub sound : Sound img l
  pub p_in : 0 < cnt p l
  pub c_in : 0 < cnt c l
  pub apart : p ≢ c
  pub removes : Removed img mid p v j
  pub relinks : Relinked l mid less c u

module _ {img mid less out l : List ℕ} {p c v u j : ℕ} (z : Cut l img mid less p c v u j)
    (same : (m : ℕ) → 0 < cnt m l → SameFile less out m) where
  pub mid_sound : Sound mid l
  mid_sound = edited_sound z.sound z.p_in z.removes.edited

  pub first : (m : ℕ) → 0 < cnt m l → m ≢ p → SameFile img mid m
  first = others_same z.sound z.p_in z.removes.edited.within

  pub then : (m : ℕ) → 0 < cnt m l → m ≢ c → SameFile mid out m
  then m h d = file_trans (slots_few mid_sound m h) (z.relinks.others m h d) (same m h)

  pub beside : (m : ℕ) → 0 < cnt m l → m ≢ p → m ≢ c → SameFile img out m
  beside m h d e = file_trans (slots_few z.sound m h) (first m h d) (then m h e)

  pub own : SameFile img mid c
  own = first c z.c_in (λ q. z.apart (sym q))

  pub parent_entries : EntryLess img out p j
  parent_entries = less_after (slots_few mid_sound p z.p_in) (less_by z.removes) (then p z.p_in z.apart) (mid_sound.inode p z.p_in)

  pub parent_links : links out p ≡ v
  parent_links = links_is (then p z.p_in z.apart).slots.rec ∙ z.removes.links_is

  pub parent_shrinks : count out p ≤ count img p
  parent_shrinks = grind (arith, common_steps, count_is)

  pub own_size : size out c ≡ size img c
  own_size = size_is (same c z.c_in).slots.rec ∙ z.relinks.size_is ∙ size_is own.slots.rec

  pub own_kind : kind out c ≡ kind img c
  own_kind = kind_is (same c z.c_in).slots.rec ∙ z.relinks.kind_is ∙ kind_is own.slots.rec

  pub own_links : links out c ≡ u
  own_links = links_is (same c z.c_in).slots.rec ∙ z.relinks.links_is

  pub less_count : count less c ≡ count img c
  less_count = z.relinks.count_is ∙ count_is own.slots.rec

  pub own_count : count out c ≡ count img c
  own_count = count_is (same c z.c_in).slots.rec ∙ less_count

  -- its places on the card with other links
  pub less_held : (q : Place) → InUse img c q → held less c q ≡ held img c q
  less_held q i =
      z.relinks.places q (in_use_is mid img c (sym (count_is own.slots.rec)) q i) ∙ held_is own.slots (slots_few z.sound c z.c_in) q i

  pub less_use : (q : Place) → InUse img c q → InUse less c q
  less_use q i = in_use_is less img c (sym less_count) q i

  pub own_held : (q : Place) → InUse img c q → held out c q ≡ held img c q
  own_held q i = held_is (same c z.c_in).slots (slots_few z.relinks.sound c z.c_in) q (less_use q i) ∙ less_held q i

  pub own_byte : (o : ℕ) → o < 4096 * count img c → file_byte out c o ≡ file_byte img c o
  own_byte o q =
      file_byte_is (same c z.c_in) o (omega (arith, less_count))
      ∙ z.relinks.kept o (omega (arith, count_is own.slots.rec))
      ∙ file_byte_is own o q

  -- every byte of its record but those of its links
  pub own_record : ButLinks img out c
  own_record =
      relinked_trans (relinked_record own.slots.rec) (relinked_trans z.relinks.rest (relinked_record (same c z.c_in).slots.rec))

  -- what p gave up is free
  pub less_unused : unused less + owned (count out p) ≡ unused img + owned (count img p)
  less_unused =
      omega (
        arith,
        takes_exactly z.sound mid_sound z.p_in z.removes.edited.balanced,
        takes_exactly mid_sound z.relinks.sound z.c_in z.relinks.balanced,
        ap owned z.relinks.count_is,
        ap owned (count_is (then p z.p_in z.apart).slots.rec),
      )
