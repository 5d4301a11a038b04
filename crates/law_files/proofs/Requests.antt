-- What the definitions of the calls on files come to on a sound card, by the kind of the inode and by RULES' tests. Assumes nothing.
use mathlib.Core.Path.{◌≡◌, ap, ◌∙◌}
use mathlib.Core.Logic.{◌≢◌}
use mathlib.Core.Bool.{false}
use mathlib.Core.List.{List}
use Prim.Native.Nat.{ℕ, ◌+◌, ◌-◌, ◌≤◌, ◌<◌, min}
use native.Mathlib.Omega.{arith}
use native.Mathlib.Decide.{ℕ_discrete}
use borrow.Author.Tests.{lt-ltb, le-ltb}
use lib.ListN.{length}
use Rattle.std.proofs.lemmas.Grind.{common_steps}
use Rattle.card_layout.specs.Super.{unused}
use Rattle.card_layout.specs.Inode.{size, kind, count, kind_no, head_at, head_by, decoded}
use Rattle.card_layout.specs.declared.inode.FileType.{FileType}
use Rattle.card_layout.specs.declared.inode.FileType.TheVariants.{File, Dir, SymLink}
use Rattle.card_layout.proofs.InodeLaws.{inode_at, head_by-kind}
use Rattle.card_rules.specs.Whole.{Inode}
use Rattle.file_blocks.specs.Bytes.{filled, read_into}
use Rattle.file_requests.proofs.Answers.{judged-long, judged-full, judged-fits, write-past}
use Rattle.file_requests.specs.Resizing.{fitted, new_zero, resized}
use Rattle.file_requests.specs.Requests.{longest, by_kind, needs, judged, resize_answer, resize_card, end_of}
use Rattle.file_requests.specs.Requests.{write_judged, reaching, write_answer, write_card, read_answer, read_buffer}
use Rattle.refusals.specs.Refusals.{giving, done}
use Rattle.refusals.specs.declared.Refusal.TheVariants.{NotFile, InvalidParam, NoDeviceSpace}
use Rattle.std.specs.Prelude.{Some, Ok, Err}

-- ---- kinds

-- the kind that the record of n has
pub record OfKind (img : List ℕ) (n : ℕ) (k : FileType) : Type 0 where
  pub number : kind img n ≡ kind_no k
  pub decodes : decoded img n ≡ Some (head_at img n k)

pub of_kind : (img : List ℕ) (n : ℕ) (k : FileType) → kind img n ≡ kind_no k → OfKind img n k
of_kind img n k e = record { number = e; decodes = ap (λ (x : ℕ). head_by x img n) e ∙ head_by-kind k img n }

pub kinds : (img : List ℕ) (n : ℕ) → Inode img n → (k : FileType) × OfKind img n k
kinds img n i = go (ℕ_discrete (kind img n) 1) (ℕ_discrete (kind img n) 2)
  where
    go : Dec (kind img n ≡ 1) → Dec (kind img n ≡ 2) → (k : FileType) × OfKind img n k
    go (yes e) d = (File, of_kind img n File e)
    go (no d) (yes e) = (Dir, of_kind img n Dir e)
    go (no d) (no e) = (SymLink, of_kind img n SymLink (omega (arith, i.kind_low, i.kind_high)))

-- a file or a symbolic link
abbrev pub Filelike : FileType → Type 0
Filelike File = Unit
Filelike Dir = ⊥
Filelike SymLink = Unit

pub filelike : (k : FileType) → kind_no k ≢ 2 → Filelike k
filelike t₁ d = grind (arith, common_steps)

pub filelike_not : (k : FileType) → Filelike k → kind_no k ≢ 2
filelike_not t₁ f e = grind (arith, common_steps)

by_file_lem : {A : Type 0} (k : FileType) → Filelike k → (r x : A) → by_kind k r x ≡ x
by_file_lem t₁ f r x = grind (arith, common_steps)

-- ---- a directory: 5

module _ {img : List ℕ} {n : ℕ} (o : OfKind img n Dir) where
  pub resize_dir : (len : ℕ) → resize_answer img n len ≡ Err NotFile
  unfolding resize_answer
  resize_dir len = rw o.decodes

  pub resize_dir_card : (nb len : ℕ) → resize_card nb img n len ≡ img
  unfolding resize_card
  resize_dir_card nb len = rw o.decodes

  pub write_dir : (off : ℕ) (src : List ℕ) → write_answer img n off src ≡ Err NotFile
  unfolding write_answer
  write_dir off src = rw o.decodes

  pub write_dir_card : (nb off : ℕ) (src : List ℕ) → write_card nb img n off src ≡ img
  unfolding write_card
  write_dir_card nb off src = rw o.decodes

  pub read_dir : (off k : ℕ) → read_answer img n off k ≡ Err NotFile
  unfolding read_answer
  read_dir off k = rw o.decodes

-- ---- the tests of the length that a write past the end reaches: 12, then 14

module _ (img : List ℕ) (n : ℕ) (k : FileType) (end : ℕ) (past : size img n < end) where
  reaches : write_judged (unused img) (head_at img n k) end ≡ judged (unused img) (head_at img n k) end
  reaches = write-past (unused img) (head_at img n k) end past

  pub past_long : longest < end → write_judged (unused img) (head_at img n k) end ≡ Err InvalidParam
  past_long a = reaches ∙ judged-long (unused img) (head_at img n k) end a

  pub past_full : end ≤ longest → unused img < needs (count img n) end → write_judged (unused img) (head_at img n k) end ≡ Err NoDeviceSpace
  past_full a b = reaches ∙ judged-full (unused img) (head_at img n k) end a (omega arith)

  pub past_fits : end ≤ longest → needs (count img n) end ≤ unused img → write_judged (unused img) (head_at img n k) end ≡ done
  past_fits a b = reaches ∙ judged-fits (unused img) (head_at img n k) end a (omega arith)

-- ---- a file or a symbolic link

module _ {img : List ℕ} {n : ℕ} {k : FileType} (o : OfKind img n k) (f : Filelike k) where
  pub resize_file : (len : ℕ) → resize_answer img n len ≡ judged (unused img) (head_at img n k) len
  unfolding resize_answer
  resize_file len = rw o.decodes (by_file_lem k f _ _)

  pub resize_done : (nb len : ℕ) → len ≤ longest → needs (count img n) len ≤ unused img → resize_card nb img n len ≡ resized nb n (inode_at img n k) len img
  unfolding resize_card
  resize_done nb len a b = rw (o.decodes, judged-fits (unused img) (head_at img n k) len a (omega arith)) (by_file_lem k f _ _)

  pub resize_long : (nb len : ℕ) → longest < len → resize_card nb img n len ≡ img
  unfolding resize_card
  resize_long nb len a = rw (o.decodes, judged-long (unused img) (head_at img n k) len a) (by_file_lem k f _ _)

  pub resize_full : (nb len : ℕ) → len ≤ longest → unused img < needs (count img n) len → resize_card nb img n len ≡ img
  unfolding resize_card
  resize_full nb len a b = rw (o.decodes, judged-full (unused img) (head_at img n k) len a (omega arith)) (by_file_lem k f _ _)

  module _ (off : ℕ) (src : List ℕ) where
    pub write_answer_lem : write_answer img n off src
        ≡ giving (write_judged (unused img) (head_at img n k) (end_of off src)) (length src)
    unfolding write_answer
    write_answer_lem = rw o.decodes (by_file_lem k f _ _)

    pub write_file : write_judged (unused img) (head_at img n k) (end_of off src) ≡ done → write_answer img n off src ≡ Ok (length src)
    unfolding write_answer
    write_file e = rw (o.decodes, e) (by_file_lem k f _ _)

    pub write_done : (nb : ℕ) → write_judged (unused img) (head_at img n k) (end_of off src) ≡ done
        → write_card nb img n off src ≡ filled false src nb n off (end_of off src) (reaching nb n (inode_at img n k) off (end_of off src) img)
    unfolding write_card
    write_done nb e = rw (o.decodes, e) (by_file_lem k f _ _)

    pub write_long_lem : (nb : ℕ) → longest < end_of off src → size img n < end_of off src → write_card nb img n off src ≡ img
    unfolding write_card
    write_long_lem nb a b = rw (o.decodes, past_long img n k (end_of off src) b a) (by_file_lem k f _ _)

    pub write_full_lem : (nb : ℕ) → end_of off src ≤ longest → size img n < end_of off src → unused img < needs (count img n) (end_of off src)
        → write_card nb img n off src ≡ img
    unfolding write_card
    write_full_lem nb a b c = rw (o.decodes, past_full img n k (end_of off src) b a c) (by_file_lem k f _ _)

  module _ (nb : ℕ) (len : ℕ) where
    pub reaching_no : (off : ℕ) → len ≤ size img n → reaching nb n (inode_at img n k) off len img ≡ img
    unfolding reaching
    reaching_no off a = rw (le-ltb (size img n) len a)

    pub reaching_yes : (off : ℕ) → size img n < len
        → reaching nb n (inode_at img n k) off len img ≡ new_zero nb n (inode_at img n k) off (fitted nb n (inode_at img n k) len img)
    unfolding reaching
    reaching_yes off a = rw (lt-ltb (size img n) len a)

  pub read_file : (off j : ℕ) → read_answer img n off j ≡ Ok (min (size img n) (off + j) - min (size img n) off)
  unfolding read_answer
  read_file off j = rw o.decodes (by_file_lem k f _ _)

  pub read_buffer_lem : (nb off : ℕ) (buf : List ℕ)
      → read_buffer nb img n off buf ≡ read_into img nb n (min (size img n) off) (min (size img n) (off + length buf)) buf
  unfolding read_buffer
  read_buffer_lem nb off buf = rw o.decodes (by_file_lem k f _ _)
