-- The acts of a move between two directories on a sound card: an entry comes to t, then one goes from p. No tree is asked for: after the first of them c has
-- two names. `img` is the card before, `out` the card after. Assumes nothing.
use mathlib.Core.Path.{◌≡◌, sym, ap, ◌∙◌, subst}
use mathlib.Core.List.{List}
use mathlib.Core.Logic.{◌≢◌}
use Prim.Native.Nat.{ℕ, ◌+◌, ◌%◌, ◌≤◌, ◌<◌, ◌^◌}
use native.Mathlib.Omega.{arith}
use Rattle.words.specs.Words.{Bytes}
use Rattle.words.specs.Sums.{cnt}
use Rattle.card_layout.specs.Super.{blocks, unused}
use Rattle.card_layout.specs.Inode.{size, kind, links, count, with_links}
use Rattle.card_layout.specs.Entry.{Name, entry_of}
use Rattle.card_layout.specs.declared.inode.FileType.TheVariants.{Dir}
use Rattle.card_layout.specs.declared.inode.DiskINode.{DiskINode}
use Rattle.card_layout.proofs.InodeLaws.{inode_at}
use Rattle.card_rules.specs.View.{entries}
use Rattle.card_rules.specs.Whole.{Sound}
use Rattle.card_rules.proofs.Counting.{count_below}
use Rattle.card_rules.proofs.Kept.{Steady, slots_few}
use Rattle.card_rules.specs.Same.{SameFile}
use Rattle.card_rules.proofs.Frames.{size_is, kind_is, links_is, file_trans, inode_room}
use Rattle.card_rules.proofs.Isolation.{others_same}
use Rattle.file_requests.specs.Requests.{needs}
use Rattle.dir_entries.specs.Entries.{appended, removed}
use Rattle.dir_move.specs.Move.{moved_file}
use Rattle.law_files.proofs.Edits.{steady_trans, edited_sound}
use Rattle.law_dirs.proofs.Entry.{entry_of-length, entry_of_bytes}
use Rattle.law_dirs.proofs.Append.{Appended, append_entry}
use Rattle.law_dirs.proofs.Remove.{Removed, remove_entry, inode_at_same}
use Rattle.law_dirs.proofs.EntryCounts.{EntryMore, EntryLess, more_by, more_after, less_by, less_before}

-- the card on which c is named x in t, and entry j of p is gone; v and u are their links then
abbrev pub carried_out : List ℕ → ℕ → ℕ → ℕ → ℕ → ℕ → ℕ → List ℕ → List ℕ
carried_out img p v j t u c x = moved_file (blocks img) p (with_links (inode_at img p Dir) v) j c t (with_links (inode_at img t Dir) u) x img

-- number c comes to t under the name x, and entry j goes from p
pub record Carried (l img out : List ℕ) (p v j t u c : ℕ) (x : List ℕ) : Type 0 where
  pub sound : Sound out l
  pub bytes : Bytes out
  pub steady : Steady img out
  pub others : (m : ℕ) → 0 < cnt m l → m ≢ p → m ≢ t → SameFile img out m
  pub less : EntryLess img out p j
  pub more : EntryMore img out t c x
  pub from-links : links out p ≡ v
  pub to_links : links out t ≡ u

module _ (img l : List ℕ) (s : Sound img l) (bytes : Bytes img) (p t : ℕ) (p_in : 0 < cnt p l) (t_in : 0 < cnt t l) (p_not_t : p ≢ t)
    (p_dir : kind img p ≡ 2) (t_dir : kind img t ≡ 2) (p-even : size img p % 260 ≡ 0) (t-even : size img t % 260 ≡ 0) (v u : ℕ) (v_low : v < 65536)
    (u-low : u < 65536) (j : ℕ) (there : j < entries img p) (c : ℕ) (c-low : c < 2 ^ 32) (x : List ℕ) (g : Name x) (src : Bytes x)
    (room : needs (count img t) (size img t + 260) ≤ unused img) where
  -- with the entry in t
  both : List ℕ
  both = appended (blocks img) t (with_links (inode_at img t Dir) u) (entry_of c x) img

  to_step : Appended img both t u (entry_of c x)
  unfolding both
  to_step =
      append_entry img l s bytes t t_in Dir t_dir t-even u u-low (entry_of c x) (entry_of-length c x g) (entry_of_bytes c x src)
      (omega (arith, inode_room (s.inode t t_in), count_below img l s t t_in, s.sized.many)) room

  both_sound : Sound both l
  both_sound = edited_sound s t_in to_step.edited

  both_others : (m : ℕ) → 0 < cnt m l → m ≢ t → SameFile img both m
  both_others = others_same s t_in to_step.edited.within

  p_same : SameFile img both p
  p_same = both_others p p_in p_not_t

  both_there : j < entries both p
  both_there = rw (size_is p_same.slots.rec) there

  gone : List ℕ
  gone = removed (blocks img) p (with_links (inode_at img p Dir) v) j both

  from_step : Removed both gone p v j
  unfolding gone
  from_step =
      subst (λ (b : ℕ). Removed both (removed b p (with_links (inode_at img p Dir) v) j both) p v j) to_step.edited.balanced.steady.blocks_same
      (subst (λ (d : DiskINode). Removed both (removed (blocks both) p (with_links d v) j both) p v j) (inode_at_same p_same.slots.rec Dir)
      (remove_entry both l both_sound to_step.edited.bytes p p_in Dir (kind_is p_same.slots.rec ∙ p_dir)
      (ap (λ (z : ℕ). z % 260) (size_is p_same.slots.rec) ∙ p-even) v v_low j both_there))

  gone_others : (m : ℕ) → 0 < cnt m l → m ≢ p → SameFile both gone m
  gone_others = others_same both_sound p_in from_step.edited.within

  t_same : SameFile both gone t
  t_same = gone_others t t_in (λ e. p_not_t (sym e))

  pub carry : Carried l img (carried_out img p v j t u c x) p v j t u c x
  unfolding moved_file both gone
  carry =
      record {
        sound = edited_sound both_sound p_in from_step.edited;
        bytes = from_step.edited.bytes;
        steady = steady_trans to_step.edited.balanced.steady from_step.edited.balanced.steady;
        others = λ m h d e. file_trans (slots_few s m h) (both_others m h e) (gone_others m h d);
        less = less_before (slots_few s p p_in) p_same (s.inode p p_in) (less_by from_step);
        more = more_after (slots_few both_sound t t_in) (more_by to_step g c-low) t_same (both_sound.inode t t_in);
        from-links = from_step.links_is;
        to_links = links_is t_same.slots.rec ∙ to_step.links_is;
      }
