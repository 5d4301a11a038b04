-- What move leaves of a whole card, in RULES' words. Assumes nothing.
use mathlib.Core.Path.{◌≡◌, sym, subst}
use mathlib.Core.Logic.{◌≢◌, ◌⊎◌, ⊎_elim}
use mathlib.Core.List.{List}
use Prim.Native.Nat.{ℕ, ◌+◌, ◌*◌, ◌≤◌, ◌<◌}
use native.Mathlib.Omega.{arith}
use native.Mathlib.Decide.{ℕ_discrete}
use borrow.Author.Tests.{eq-eqb, ne_eqb}
use lib.Dec.{eqb}
use Rattle.std.proofs.lemmas.Grind.{common_steps}
use Rattle.words.specs.Words.{pick, Bytes}
use Rattle.words.specs.Sums.{cnt}
use Rattle.card_layout.specs.Super.{blocks}
use Rattle.card_layout.specs.Inode.{kind, links}
use Rattle.card_rules.specs.Whole.{Reached, Whole}
use Rattle.card_rules.proofs.Kept.{slots_few}
use Rattle.card_rules.proofs.Tree.{reached_listed}
use Rattle.dir_entries.specs.Entries.{where_is}
use Rattle.dir_answers.specs.Answers.{named_by}
use Rattle.dir_move.specs.Move.{move_answer, move_card}
use Rattle.law_files.proofs.Resized.{held_is}
use Rattle.law_dirs.specs.Effects.{RenameEffect, AcrossEffect, MoveEffect}
use Rattle.law_dirs.proofs.EntryBytes.{relinked_record}
use Rattle.law_dirs.proofs.CreateEffect.{needs-more}
use Rattle.law_dirs.proofs.MoveCard.{MoveDone, MovedAcross, move_done}
use Rattle.law_dirs.proofs.MoveTakes.{move_takes, rename_takes}
use Rattle.std.specs.Prelude.{Ok}

-- outside a run of bytes
outside : (a b o : ℕ) → (o < a) ⊎ (b ≤ o) → a ≤ o → o < b → ⊥
outside a b o d p q = ⊎_elim (λ (x : o < a). omega arith) (λ (x : b ≤ o). omega arith) d

module _ {img out : List ℕ} (w : Whole img) {p : ℕ} {old : List ℕ} {t : ℕ} {new : List ℕ} (rp : Reached img p) (rt : Reached img t)
    (d : MoveDone w.inodes img out p old (where_is img p old) t (named_by img p old) new) where
  abbrev l : List ℕ
  l = w.inodes

  abbrev j : ℕ
  j = where_is img p old

  abbrev c : ℕ
  c = named_by img p old

  p_in : 0 < cnt p l
  p_in = reached_listed img w p rp

  t_in : 0 < cnt t l
  t_in = reached_listed img w t rt

  here : p ≡ t → RenameEffect img out p j c new
  here e =
      let x = d.here e in
      record {
        renamed = x.0.bytes_new;
        kept = λ o b q. x.0.bytes_kept o b (outside (260 * j) (260 * j + 260) o q);
        record_kept = relinked_record x.0.slots.rec;
        links_same = x.0.links_same;
        places = held_is x.0.slots (slots_few w.sound p p_in);
        unused_same = rename_takes w.sound (subst (λ (n : ℕ). MoveDone l img out p old j n c new) (sym e) d);
        own = x.1;
      }

  module _ (apart : p ≢ t) where
    x : MovedAcross img out p old j t c new
    x = d.across apart

    parents : Dec (kind img c ≡ 2)
        → (links out p + pick (eqb (kind img c) 2) 1 0 ≡ links img p) × (links out t ≡ links img t + pick (eqb (kind img c) 2) 1 0)
    parents (yes k) = rw (eq-eqb (kind img c) 2 k) ((x.dir k).from-links, (x.dir k).to_links)
    parents (no k) = rw (ne_eqb (kind img c) 2 k) (omega (arith, (x.file k).from-links), omega (arith, (x.file k).to_links))

    across : AcrossEffect img out p j t c new
    across =
        record {
          to = x.more.listing;
          from = x.less.listing;
          target = x.more.parent;
          parent = x.less.parent;
          from-links = (parents (ℕ_discrete (kind img c) 2)).0;
          to_links = (parents (ℕ_discrete (kind img c) 2)).1;
          takes =
              omega (
                arith,
                move_takes w.sound w.tree p_in t_in d apart,
                needs-more t w.sound t_in d.sound t_in x.more.size_is,
              );
          file = d.file;
          dir_record = λ k. (relinked_record (x.dir k).turned.slots.rec, (x.dir k).turned.links_same);
          dir_places = λ k. (x.dir k).turned.places;
          dir_up = λ k. (x.dir k).turned.up;
          dir_kept = λ k o b q. (x.dir k).turned.kept o b (outside 260 264 o q);
        }

  pub move_by : MoveEffect img out p old t new
  move_by = grind (arith, common_steps, here, across)

module _ {img : List ℕ} (w : Whole img) (bytes : Bytes img) {new : List ℕ} (src : Bytes new) {p t : ℕ} {old : List ℕ} (rp : Reached img p)
    (rt : Reached img t) (done : move_answer (blocks img) img p old t new ≡ Ok tt) where
  pub move_effect : MoveEffect img (move_card (blocks img) img p old t new) p old t new
  move_effect = move_by w rp rt (move_done w bytes p t old new src rp rt done)
