-- Every call that is done leaves a Frame (specs/Inner): create, link, unlink and move by what each promises, a call on a file by its step. Assumes nothing.
use mathlib.Core.Path.{◌≡◌, refl, sym, ap, ◌∙◌, subst}
use mathlib.Core.Logic.{◌≢◌}
use mathlib.Core.List.{List, [], ◌∷◌}
use Prim.Native.Nat.{ℕ, ◌≤◌, ◌<◌}
use native.Mathlib.Omega.{arith}
use native.Mathlib.Decide.{dec_lt, ℕ_discrete}
use Rattle.std.proofs.lemmas.Grind.{common_steps}
use Rattle.words.specs.Words.{Bytes}
use Rattle.words.specs.Sums.{δ, cnt, without}
use Rattle.words.proofs.Sums.{δ_same, sum_on_cons}
use Rattle.card_layout.specs.Inode.{kind, links}
use Rattle.card_rules.specs.Whole.{Reached, Sound, Tree, Whole}
use Rattle.card_rules.proofs.Tree.{named_some, reached_listed}
use Rattle.card_rules.proofs.Kept.{slots_few}
use Rattle.card_rules.specs.Same.{SameFile}
use Rattle.card_rules.proofs.Frames.{size_is, kind_is, count_is, file_byte_is, file_refl}
use Rattle.dir_answers.specs.Answers.{named_by}
use Rattle.law_files.specs.Requests.{Request, named}
use Rattle.law_calls.specs.SameData.{SameData}
use Rattle.law_calls.specs.Inner.{Relisted, same, more, less, Frame}
use Rattle.law_files.proofs.Resized.{held_is}
use Rattle.law_files.proofs.Steps.{Step}
use Rattle.law_dirs.proofs.CreateCard.{CreateDone}
use Rattle.law_dirs.proofs.LinkCard.{LinkDone}
use Rattle.law_dirs.proofs.UnlinkCard.{UnlinkDone}
use Rattle.law_dirs.proofs.MoveCard.{MoveDone}

-- ---- the same data

pub same_data_refl : (img : List ℕ) (m : ℕ) → SameData img img m
same_data_refl img m =
    record { kind_is = refl; size_is = refl; count_is = refl; places = λ q _. refl; kept = λ o _. refl }

pub same_data_trans : {img mid out : List ℕ} {m : ℕ} → SameData img mid m → SameData mid out m → SameData img out m
same_data_trans {img} {mid} {out} {m} a b = grind (arith, common_steps)

-- who is the same has the same data
pub file_data : {l img out : List ℕ} → Sound img l → (m : ℕ) → 0 < cnt m l → SameFile img out m → SameData img out m
file_data s m h x = grind (arith, common_steps, kind_is, size_is, count_is, held_is, slots_few, file_byte_is)

-- ---- in none of a list

pub not_first : (m a : ℕ) (l : List ℕ) → cnt m (a ∷ l) ≡ 0 → m ≢ a
not_first m a l z e = omega (arith, sum_on_cons (δ m) a l, δ_same m a e)

pub not_rest : (m a : ℕ) (l : List ℕ) → cnt m (a ∷ l) ≡ 0 → cnt m l ≡ 0
not_rest m a l z = omega (arith, sum_on_cons (δ m) a l)

-- ---- nothing has changed

pub frame_same : {l img named written : List ℕ} → Sound img l → Tree img l → Bytes img → Frame l img img named written
frame_same {l} {img} s t b =
    record {
      inodes = l;
      listing = same;
      sound = s;
      tree = t;
      bytes = b;
      blocks_same = refl;
      others = λ m _ _. file_refl img m;
      files = λ m _ _ _. same_data_refl img m;
    }

-- ---- a call on a file

pub step_frame : {l img out : List ℕ} {q : Request} → Sound img l → Step l img out q → Frame l img out (named q ∷ []) (named q ∷ [])
step_frame {l} {img} {out} {q} s x =
    record {
      inodes = l;
      listing = same;
      sound = x.sound;
      tree = x.tree;
      bytes = x.bytes;
      blocks_same = x.blocks_same;
      others = λ m h z. x.others_same m h (not_first m (named q) [] z);
      files = λ m h _ z. file_data s m h (x.others_same m h (not_first m (named q) [] z));
    }

-- ---- create and link

-- a file is no directory
not_dir : (img : List ℕ) (m p : ℕ) → kind img m ≢ 2 → kind img p ≡ 2 → m ≢ p
not_dir img m p d k e = d (ap (kind img) e ∙ k)

module _ {img out : List ℕ} (w : Whole img) {p : ℕ} {x : List ℕ} (dir : kind img p ≡ 2) where
  pub create_frame : {k i : ℕ} → CreateDone w.inodes img out p x k i → Frame w.inodes img out (p ∷ []) []
  create_frame {k} {i} c =
      record {
        inodes = i ∷ w.inodes;
        listing = more i (fresh (dec_lt 0 (cnt i w.inodes)));
        sound = c.sound;
        tree = c.tree;
        bytes = c.bytes;
        blocks_same = c.blocks_same;
        others = λ m h z. c.others m (w.tree.only m h) (not_first m p [] z);
        files = λ m h d _. file_data w.sound m h (c.others m (w.tree.only m h) (not_dir img m p d dir));
      }
    where
      fresh : Dec (0 < cnt i w.inodes) → cnt i w.inodes ≡ 0
      fresh (yes h) = absurd (c.new (w.tree.only i h))
      fresh (no h) = omega arith

  pub link_frame : {c : ℕ} → LinkDone w.inodes img out p x c → Frame w.inodes img out (p ∷ c ∷ []) []
  link_frame {c} y =
      record {
        inodes = w.inodes;
        listing = same;
        sound = y.sound;
        tree = y.tree;
        bytes = y.bytes;
        blocks_same = y.blocks_same;
        others = λ m h z. y.others m (w.tree.only m h) (not_first m p (c ∷ []) z) (not_first m c [] (not_rest m p (c ∷ []) z));
        files = λ m h d _. file m h d (ℕ_discrete m c);
      }
    where
      -- the inode that is named has but one link more
      own : 0 < cnt c w.inodes → SameData img out c
      own h =
          record {
            kind_is = y.kind_is;
            size_is = y.size_is;
            count_is = y.count_is;
            places = y.places;
            kept = y.kept;
          }

      file : (m : ℕ) → 0 < cnt m w.inodes → kind img m ≢ 2 → Dec (m ≡ c) → SameData img out m
      file m h d (yes e) = subst (SameData img out) (sym e) (own (subst (λ (n : ℕ). 0 < cnt n w.inodes) e h))
      file m h d (no n) = file_data w.sound m h (y.others m (w.tree.only m h) (not_dir img m p d dir) n)

-- ---- unlink

-- a file that is reached has a name
some_links : {img : List ℕ} (w : Whole img) (c : ℕ) → Reached img c → kind img c ≢ 2 → 1 ≤ links img c
some_links {img} w c r d = grind (arith, common_steps, named_some)

module _ {img out : List ℕ} (w : Whole img) {p : ℕ} {x : List ℕ} (dir : kind img p ≡ 2) (r : Reached img (named_by img p x))
    (u : UnlinkDone w.inodes img out p x) where
  abbrev c : ℕ
  c = named_by img p x

  c_in : 0 < cnt c w.inodes
  c_in = reached_listed img w c r

  -- the inode that was named, dead or not
  own : SameData img out c
  own = grind (arith, common_steps)

  file_kept : (m : ℕ) → 0 < cnt m w.inodes → kind img m ≢ 2 → Dec (m ≡ c) → SameData img out m
  file_kept m h d (yes e) = subst (SameData img out) (sym e) own
  file_kept m h d (no n) = file_data w.sound m h (u.others m (w.tree.only m h) (not_dir img m p d dir) n)

  frame_by : (l : List ℕ) → Relisted w.inodes l → Sound out l → Tree out l → Frame w.inodes img out (p ∷ c ∷ []) []
  frame_by l i s t =
      record {
        inodes = l;
        listing = i;
        sound = s;
        tree = t;
        bytes = u.bytes;
        blocks_same = u.steady.blocks_same;
        others = λ m h z. u.others m (w.tree.only m h) (not_first m p (c ∷ []) z) (not_first m c [] (not_rest m p (c ∷ []) z));
        files = λ m h d _. file_kept m h d (ℕ_discrete m c);
      }

  -- with links left it stays listed; with none it does not
  pub unlink_frame : Frame w.inodes img out (p ∷ named_by img p x ∷ []) []
  unlink_frame = go (ℕ_discrete (kind img c) 2) (dec_lt (links img c) 2)
    where
      gone : (kind img c ≢ 2 → links img c ≡ 1) → Frame w.inodes img out (p ∷ c ∷ []) []
      gone d = let y = u.dead d in frame_by (without c w.inodes) (less c c_in) y.sound y.tree

      go : Dec (kind img c ≡ 2) → Dec (links img c < 2) → Frame w.inodes img out (p ∷ c ∷ []) []
      go (yes e) _ = gone (λ d. absurd (d e))
      go (no d) (yes h) = gone (λ _. omega (arith, some_links w c r d))
      go (no d) (no h) = let y = u.still d (omega arith) in frame_by w.inodes same y.sound y.tree

-- ---- move

pub move_frame : {l img out : List ℕ} {p t c j : ℕ} {old new : List ℕ} → Sound img l → kind img p ≡ 2 → kind img t ≡ 2
    → MoveDone l img out p old j t c new → Frame l img out (p ∷ t ∷ c ∷ []) []
move_frame {l} {img} {out} {p} {t} {c} s pd td y =
    record {
      inodes = l;
      listing = same;
      sound = y.sound;
      tree = y.tree;
      bytes = y.bytes;
      blocks_same = y.steady.blocks_same;
      others = λ m h z.
          let a = not_rest m p (t ∷ c ∷ []) z in
          y.others m h (not_first m p (t ∷ c ∷ []) z) (not_first m t (c ∷ []) a) (not_first m c [] (not_rest m t (c ∷ []) a));
      files = λ m h d _. file_data s m h (file m h d (ℕ_discrete m c));
    }
  where
    file : (m : ℕ) → 0 < cnt m l → kind img m ≢ 2 → Dec (m ≡ c) → SameFile img out m
    file m h d (yes e) = subst (SameFile img out) (sym e) (y.file (λ k. d (ap (kind img) e ∙ k)))
    file m h d (no n) = y.others m h (not_dir img m p d pd) (not_dir img m t d td) n
