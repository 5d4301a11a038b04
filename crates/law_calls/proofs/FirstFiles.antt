-- Read, write, resize, metadata and the check say the number of the first test whose cause holds, on any image and with any scratch. Assumes nothing.
use mathlib.Core.Path.{◌≡◌, refl, sym, ap, ◌∙◌, subst}
use mathlib.Core.Logic.{◌≢◌, ◌⊎◌}
use mathlib.Core.List.{List}
use Prim.Native.Nat.{ℕ, ◌+◌, ◌≤◌, ◌<◌, max}
use native.Mathlib.Omega.{arith}
use native.Mathlib.Decide.{dec_lt}
use lib.ListN.{length}
use Rattle.std.proofs.lemmas.Grind.{common_steps}
use Rattle.card_layout.specs.Super.{unused}
use Rattle.card_layout.specs.Inode.{size, kind, count, head_at}
use Rattle.card_layout.specs.declared.inode.FileType.{FileType}
use Rattle.card_layout.specs.declared.inode.FileType.TheVariants.{File, Dir, SymLink}
use Rattle.card_rules.specs.Whole.{Reached, Inode, Whole}
use Rattle.card_rules.proofs.Counting.{count_below}
use Rattle.card_rules.proofs.Frames.{inode_room}
use Rattle.card_rules.proofs.Tree.{reached_listed}
use Rattle.check_walk.specs.Opening.{Opening, Opened}
use Rattle.file_requests.proofs.Answers.{judged-long, judged-full, judged-fits, write-inside, write-past}
use Rattle.file_requests.specs.Requests.{longest, needs, judged, end_of, write_judged, read_answer, write_answer, resize_answer}
use Rattle.call_said.specs.Said.{Said}
use Rattle.call_files.specs.FileCalls.{Read, Written, Resized}
use Rattle.call_looks.specs.LookCalls.{Described}
use Rattle.law_files.proofs.Requests.{OfKind, kinds, Filelike, filelike_not, read_dir, resize_dir}
use Rattle.law_files.proofs.Requests.{write_dir, resize_file, write_answer_lem, write_file, read_file}
use Rattle.law_dirs.proofs.Tests.{whole_inode}
use Rattle.law_calls.specs.Tests.{Tests, fine, test, First, TooFull, read_tests, write_tests, resize_tests, look_tests}
use Rattle.law_calls.proofs.Calls.{open_said}
use Rattle.law_calls.proofs.FirstOpen.{first_open, first_said}
use Rattle.refusals.specs.Refusals.{answer_no}
use Rattle.std.specs.Prelude.{Ok}
use Rattle.refusals.proofs.Refused.{giving_no}

-- ---- the tests of each call's own

abbrev pub read_own : List ℕ → ℕ → Tests
read_own img n = test 5 (kind img n ≡ 2) fine

abbrev pub length_own : List ℕ → ℕ → ℕ → ℕ → Tests
length_own img n end len = test 12 (longest < end) (test 14 (TooFull img n len) fine)

abbrev pub resize_own : List ℕ → ℕ → ℕ → Tests
resize_own img n len = test 5 (kind img n ≡ 2) (length_own img n len len)

abbrev pub write_own : List ℕ → ℕ → ℕ → List ℕ → Tests
write_own img n off src = test 5 (kind img n ≡ 2) (length_own img n (off + length src) (max (size img n) (off + length src)))

-- ---- a new length

judged_first : (img : List ℕ) (n : ℕ) (k : FileType) (len : ℕ) → First (length_own img n len len) (answer_no (judged (unused img) (head_at img n k) len))
judged_first img n k len = grind (arith, common_steps, judged-long, judged-full, judged-fits)

module _ {img : List ℕ} (w : Whole img) {n : ℕ} (r : Reached img n) where
  inode : Inode img n
  inode = whole_inode w n r

  -- no file is as long as a length can be
  size_small : size img n ≤ longest
  size_small =
      omega (arith, inode_room inode, count_below img w.inodes w.sound n (reached_listed img w n r), w.sound.sized.many)

  -- its own size takes no block
  own_size : needs (count img n) (size img n) ≡ 0
  own_size = rw inode.shape.counted (omega arith)

  module _ {k : FileType} (o : OfKind img n k) (f : Filelike k) where
    no_dir : kind img n ≢ 2
    no_dir e = filelike_not k f (sym o.number ∙ e)

    resize_filelike : (len : ℕ) → First (resize_own img n len) (answer_no (resize_answer img n len))
    resize_filelike len = ◌⊎◌.inr (no_dir, rw (resize_file o f len) (judged_first img n k len))

    module _ (off : ℕ) (src : List ℕ) where
      within : end_of off src ≤ size img n → First (write_own img n off src) (answer_no (write_answer img n off src))
      within l =
          let e : max (size img n) (off + length src) ≡ size img n = omega arith in
          ◌⊎◌.inr (
            no_dir,
            ◌⊎◌.inr (
              λ q. omega (arith, size_small),
              ◌⊎◌.inr (
                λ q. omega (arith, own_size, (rw e at q)),
                ap answer_no (write_file o f off src (write-inside (unused img) (head_at img n k) (end_of off src) l)),
              ),
            ),
          )

      past : size img n < end_of off src → First (write_own img n off src) (answer_no (write_answer img n off src))
      past l =
          let e : max (size img n) (off + length src) ≡ off + length src = omega arith in
          let q : answer_no (write_answer img n off src) ≡ answer_no (judged (unused img) (head_at img n k) (end_of off src)) =
          ap answer_no (write_answer_lem o f off src)
          ∙ giving_no (write_judged (unused img) (head_at img n k) (end_of off src)) (length src)
          ∙ ap answer_no (write-past (unused img) (head_at img n k) (end_of off src) l) in
          ◌⊎◌.inr (no_dir, rw (q, e) (judged_first img n k (off + length src)))

      write_filelike : Dec (size img n < end_of off src) → First (write_own img n off src) (answer_no (write_answer img n off src))
      write_filelike (yes l) = past l
      write_filelike (no l) = within (omega arith)

    read_filelike : (off j : ℕ) → First (read_own img n) (answer_no (read_answer img n off j))
    read_filelike off j = ◌⊎◌.inr (no_dir, ap answer_no (read_file o f off j))

  pub read_own_lem : (off j : ℕ) → First (read_own img n) (answer_no (read_answer img n off j))
  read_own_lem off j = grind (arith, common_steps, kinds, read_filelike, read_dir)

  pub resize_own_lem : (len : ℕ) → First (resize_own img n len) (answer_no (resize_answer img n len))
  resize_own_lem len = grind (arith, common_steps, kinds, resize_filelike, resize_dir)

  pub write_own_lem : (off : ℕ) (src : List ℕ) → First (write_own img n off src) (answer_no (write_answer img n off src))
  write_own_lem off src = let x = kinds img n inode in go x.0 x.1
    where
      go : (k : FileType) → OfKind img n k → First (write_own img n off src) (answer_no (write_answer img n off src))
      go File o = write_filelike o tt off src (dec_lt (size img n) (end_of off src))
      go Dir o = ◌⊎◌.inl (o.number, ap answer_no (write_dir o off src))
      go SymLink o = write_filelike o tt off src (dec_lt (size img n) (end_of off src))

-- ---- the calls

pub read_first : {img s s' buf buf' : List ℕ} {n off : ℕ} {r : Said} → Read img s s' buf buf' n off r → First (read_tests img s n) (answer_no r)
read_first {img} {s} {s'} {buf} {buf'} {n} {off} c =
    first_said (read_own img n) c.opening (read_answer img n off (length buf)) refl c.said (λ w x y. read_own_lem w x off (length buf))

pub write_first : {img img' s s' src : List ℕ} {n off : ℕ} {r : Said} → Written img img' s s' src n off r → First (write_tests img s n off src) (answer_no r)
write_first {img} {img'} {s} {s'} {src} {n} {off} c =
    first_said (write_own img n off src) c.opening (write_answer img n off src) refl c.said (λ w x y. write_own_lem w x off src)

pub resize_first : {img img' s s' : List ℕ} {n len : ℕ} {r : Said} → Resized img img' s s' n len r → First (resize_tests img s n len) (answer_no r)
resize_first {img} {img'} {s} {s'} {n} {len} c = grind (arith, common_steps, giving_no, resize_own_lem)

pub describe_first : {img s s' : List ℕ} {n : ℕ} {r : Said} {k z b l : ℕ} → Described img s s' n r k z b l → First (look_tests img s n) (answer_no r)
describe_first {img} {s} {s'} {n} c = rw c.said (first_open img s n n fine (Ok 0) c.opening (λ w x y. refl))

pub check_first : {img s s' : List ℕ} {o : Opened} → Opening img s s' 1 1 o → First (look_tests img s 1) (answer_no o)
check_first {img} {s} {s'} {o} c = subst (First (look_tests img s 1)) (giving_no o 0) (first_said fine c (Ok 0) refl (open_said o) (λ w x y. refl))
