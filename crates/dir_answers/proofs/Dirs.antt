-- What the head of a directory says of it on a whole card, and of what its entries name. Assumes nothing.
use mathlib.Core.Path.{◌≡◌, refl, sym, ap, ◌∙◌, subst}
use mathlib.Core.Bool.{Bool, true, false}
use mathlib.Core.List.{List}
use Prim.Native.Nat.{ℕ, ◌+◌, ◌*◌, ◌≤◌, ◌<◌}
use native.Mathlib.Omega.{arith}
use Rattle.words.specs.Words.{pick}
use Rattle.card_layout.specs.Inode.{kind, count, kind_no, decoded}
use Rattle.card_layout.specs.declared.inode.FileType.{FileType}
use Rattle.card_layout.specs.declared.inode.FileType.TheVariants.{File, Dir, SymLink}
use Rattle.card_layout.specs.declared.inode.Head.{Head}
use Rattle.card_rules.specs.View.{entries, entry}
use Rattle.card_rules.specs.Whole.{Reached, Whole}
use Rattle.dir_entries.specs.Entries.{where_is}
use Rattle.dir_answers.specs.Answers.{is_dir, named_by}
use Rattle.check_names.specs.InnerReading.{EntryIn}
use Rattle.dir_answers.proofs.Ready.{readable_ready, size_ready, entries_inside, dir_ready, entry_reached}
use Rattle.dir_answers.proofs.Heads.{head_is}
use Rattle.std.specs.Prelude.{Some}

no_true : false ≡ true → ⊥
no_true e = let z : ◌≡◌ {A = ℕ} 0 1 = ap (λ (b : Bool). pick b 1 0) e in omega arith

dir_no : (t : FileType) → is_dir t ≡ true → kind_no t ≡ 2
dir_no File e = absurd (no_true e)
dir_no Dir e = refl
dir_no SymLink e = absurd (no_true e)

pub dir_is : (t : FileType) → kind_no t ≡ 2 → is_dir t ≡ true
dir_is File e = absurd (omega (arith, e))
dir_is Dir e = refl
dir_is SymLink e = absurd (omega (arith, e))

pub dir_kind : (img : List ℕ) (n : ℕ) (h : Head) → decoded img n ≡ Some h → is_dir h.type_ ≡ true → kind img n ≡ 2
dir_kind img n h q d = sym (head_is img n h q).kind_is ∙ dir_no h.type_ d

module _ (img : List ℕ) (w : Whole img) (n : ℕ) (r : Reached img n) where
  pub dir_least : (h : Head) → decoded img n ≡ Some h → kind img n ≡ 2 → 260 ≤ h.size
  dir_least h q d = omega (arith, (head_is img n h q).size_is, (dir_ready img w n r d).least)

  -- entry k, one of its entries
  module _ (k : ℕ) (l : k < entries img n) where
    pub entry_small : 260 * k + 260 ≤ 4294967295
    entry_small = omega (arith, size_ready img w n r)

    pub entry_inside : 260 * k + 260 ≤ 4096 * count img n
    entry_inside = omega (arith, entries_inside img w n r)

    -- it can be read
    pub entry_ready : EntryIn img n k
    entry_ready = (readable_ready img w n r, omega (arith, entry_inside))

    pub named_reached : kind img n ≡ 2 → (c : ℕ) → c ≡ entry img n k → Reached img c
    named_reached d c e = subst (Reached img) (sym e) (entry_reached img w n r d k l)

-- the inode that entry k names, where k is that of x
pub named_is : (img : List ℕ) (p : ℕ) (x : List ℕ) (k c : ℕ) → k ≡ where_is img p x → c ≡ entry img p k → c ≡ named_by img p x
named_is img p x k c i j = j ∙ ap (entry img p) i
