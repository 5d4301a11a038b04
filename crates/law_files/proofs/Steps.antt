-- One request on a sound card: what it leaves of the card, done or refused. Assumes nothing.
use mathlib.Core.Path.{◌≡◌, refl, sym, ap, ◌∙◌, subst}
use mathlib.Core.Logic.{◌≢◌}
use mathlib.Core.List.{List}
use Prim.Native.Nat.{ℕ, ◌<◌}
use native.Mathlib.Omega.{arith}
use native.Mathlib.Decide.{dec_lt, ℕ_discrete}
use Rattle.std.proofs.lemmas.Grind.{common_steps}
use Rattle.words.specs.Words.{Bytes}
use Rattle.words.specs.Sums.{cnt}
use Rattle.card_layout.specs.Super.{blocks, unused, maps}
use Rattle.card_layout.specs.Inode.{size, kind, count}
use Rattle.card_layout.specs.declared.inode.FileType.{FileType}
use Rattle.card_layout.specs.declared.inode.FileType.TheVariants.{File, Dir, SymLink}
use Rattle.card_rules.specs.View.{file_byte}
use Rattle.card_rules.specs.Whole.{Sound, Tree}
use Rattle.card_rules.specs.Places.{Place, held, InUse}
use Rattle.card_rules.specs.Same.{SameFile}
use Rattle.card_rules.proofs.Frames.{kind_is, file_byte_is, inode_room}
use Rattle.card_rules.proofs.Kept.{slots_few}
use Rattle.file_requests.specs.Requests.{longest, needs, resize_card}
use Rattle.law_files.specs.Requests.{Request, resizing, named}
use Rattle.law_files.specs.Inner.{written}
use Rattle.law_files.proofs.Resized.{held_is}
use Rattle.law_files.proofs.Lengths.{length_change}
use Rattle.law_files.proofs.Only.{Only, only_resized}
use Rattle.law_files.proofs.Requests.{OfKind, kinds, Filelike, filelike_not, resize_dir_card, resize_done, resize_long, resize_full}

-- what a request leaves of a card
pub record Step (l img out : List ℕ) (r : Request) : Type 0 where
  pub sound : Sound out l
  pub tree : Tree out l
  pub bytes : Bytes out
  pub blocks_same : blocks out ≡ blocks img
  pub maps_same : maps out ≡ maps img
  pub kinds_same : (m : ℕ) → 0 < cnt m l → kind out m ≡ kind img m
  -- an inode that is not named, and every directory, has its record, its blocks and its bytes
  pub others_same : (m : ℕ) → 0 < cnt m l → m ≢ named r → SameFile img out m
  pub dirs_same : (m : ℕ) → 0 < cnt m l → kind img m ≡ 2 → SameFile img out m
  -- places in use before and after hold the same blocks
  pub places : (m : ℕ) (p : Place) → 0 < cnt m l → InUse img m p → InUse out m p → held out m p ≡ held img m p
  -- bytes below the length before and after are as they were or as written
  pub byte_is : (m o : ℕ) → 0 < cnt m l → o < size img m → o < size out m → file_byte out m o ≡ written l img r m o (file_byte img m o)

-- ---- nothing changed, and one file did

module _ {l img : List ℕ} (s : Sound img l) (t : Tree img l) (b : Bytes img) where
  pub step_none : (r : Request) → ((m o v : ℕ) → written l img r m o v ≡ v) → Step l img img r
  step_none r w = grind (arith, common_steps)

  pub step_only : {out : List ℕ} (r : Request) (n : ℕ) → named r ≡ n → kind img n ≢ 2 → Only l img out n → ((m o v : ℕ) → m ≢ n → written l img r m o v ≡ v)
      → ((o : ℕ) → o < size img n → o < size out n → file_byte out n o ≡ written l img r n o (file_byte img n o)) → Step l img out r
  step_only {out} r n i k x other w =
      record {
        sound = x.sound;
        tree = x.tree;
        bytes = x.bytes;
        blocks_same = x.blocks_same;
        maps_same = x.maps_same;
        kinds_same = λ m c. same_kind m c (ℕ_discrete m n);
        others_same = λ m c d. x.others m c (λ e. d (e ∙ sym i));
        dirs_same = λ m c e. x.others m c (λ q. k (ap (kind img) (sym q) ∙ e));
        places = λ m p c. same_place m p c (ℕ_discrete m n);
        byte_is = λ m o c. same_byte m o c (ℕ_discrete m n);
      }
    where
      same_kind : (m : ℕ) → 0 < cnt m l → Dec (m ≡ n) → kind out m ≡ kind img m
      same_kind m c (yes e) = subst (λ (i : ℕ). kind out i ≡ kind img i) (sym e) x.kind_same
      same_kind m c (no d) = kind_is (x.others m c d).slots.rec

      same_place : (m : ℕ) (p : Place) → 0 < cnt m l → Dec (m ≡ n) → InUse img m p → InUse out m p → held out m p ≡ held img m p
      same_place m p c (yes e) = subst (λ (i : ℕ). InUse img i p → InUse out i p → held out i p ≡ held img i p) (sym e) (x.places p)
      same_place m p c (no d) = λ u v. held_is (x.others m c d).slots (slots_few s m c) p u

      same_byte : (m o : ℕ) → 0 < cnt m l → Dec (m ≡ n) → o < size img m → o < size out m → file_byte out m o ≡ written l img r m o (file_byte img m o)
      same_byte m o c (yes e) =
          subst (λ (i : ℕ). o < size img i → o < size out i → file_byte out i o ≡ written l img r i o (file_byte img i o)) (sym e) (w o)
      same_byte m o c (no d) = λ a _.
          file_byte_is (x.others m c d) o (omega (arith, inode_room (s.inode m c))) ∙ sym (other m o (file_byte img m o) d)

-- ---- a length change

module _ {l img : List ℕ} (s : Sound img l) (t : Tree img l) (b : Bytes img) (n : ℕ) (h : 0 < cnt n l) where
  resize_file : (len : ℕ) (k : FileType) (o : OfKind img n k) → Filelike k → Dec (longest < len) → Dec (unused img < needs (count img n) len)
      → Step l img (resize_card (blocks img) img n len) (resizing n len)
  resize_file len k o f (yes a) d = rw (resize_long o f (blocks img) len a) (step_none s t b (resizing n len) (λ m p v. refl))
  resize_file len k o f (no a) (yes c) =
      rw (resize_full o f (blocks img) len (omega arith) c) (step_none s t b (resizing n len) (λ m p v. refl))
  resize_file len k o f (no a) (no c) =
      let r = length_change img l s b n h k o.number len (omega arith) (omega arith) in
      let d : kind img n ≢ 2 = λ e. filelike_not k f (sym o.number ∙ e) in
      rw (resize_done o f (blocks img) len (omega arith) (omega arith))
      (step_only s t b (resizing n len) n refl d (only_resized s t b h d r) (λ m p v _. refl) (λ p a c. r.kept p a (rw r.size_is at c)))

  pub step_resize : (len : ℕ) → Step l img (resize_card (blocks img) img n len) (resizing n len)
  step_resize len = go (kinds img n (s.inode n h))
    where
      tests : (k : FileType) → OfKind img n k → Filelike k → Step l img (resize_card (blocks img) img n len) (resizing n len)
      tests k o f = resize_file len k o f (dec_lt longest len) (dec_lt (unused img) (needs (count img n) len))

      go : (k : FileType) × OfKind img n k → Step l img (resize_card (blocks img) img n len) (resizing n len)
      go (Dir, o) = rw (resize_dir_card o (blocks img) len) (step_none s t b (resizing n len) (λ m p v. refl))
      go (File, o) = tests File o tt
      go (SymLink, o) = tests SymLink o tt
