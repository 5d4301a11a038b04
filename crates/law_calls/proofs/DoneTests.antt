-- A call is done exactly where no test has its cause, on any image and with any scratch. Assumes nothing.
use mathlib.Core.Path.{◌≡◌, refl}
use mathlib.Core.List.{List}
use Prim.Native.Nat.{ℕ}
use Rattle.check_walk.specs.Opening.{Opening, Opened}
use Rattle.call_said.specs.Said.{Said}
use Rattle.call_files.specs.FileCalls.{Read, Written, Resized}
use Rattle.call_dirs.specs.DirCalls.{Created, Linked, Unlinked, Moved, Formatted}
use Rattle.call_looks.specs.LookCalls.{Found, Listed, Described}
use Rattle.law_calls.specs.Tests.{read_tests, write_tests, resize_tests, create_tests, link_tests, unlink_tests}
use Rattle.law_calls.specs.Tests.{move_tests, find_tests, entry_tests, look_tests, format_tests}
use Rattle.law_calls.proofs.First.{NoCause, numbered, done_exactly}
use Rattle.law_calls.proofs.FirstFiles.{read_first, write_first, resize_first, describe_first, check_first}
use Rattle.law_calls.proofs.FirstDirs.{create_first, link_first, unlink_first, find_first, entry_first, format_first}
use Rattle.law_calls.proofs.FirstMove.{move_first}
use Rattle.refusals.specs.Refusals.{answer_no}

pub read_done : {img s s' buf buf' : List ℕ} {n off : ℕ} {r : Said} → Read img s s' buf buf' n off r
    → (answer_no r ≡ 0 → NoCause (read_tests img s n)) × (NoCause (read_tests img s n) → answer_no r ≡ 0)
read_done {img} {s} {s'} {buf} {buf'} {n} c = done_exactly (read_tests img s n) (numbered (read_tests img s n) refl) (read_first c)

pub write_done : {img img' s s' src : List ℕ} {n off : ℕ} {r : Said} → Written img img' s s' src n off r
    → (answer_no r ≡ 0 → NoCause (write_tests img s n off src)) × (NoCause (write_tests img s n off src) → answer_no r ≡ 0)
write_done {img} {img'} {s} {s'} {src} {n} {off} c = done_exactly (write_tests img s n off src) (numbered (write_tests img s n off src) refl) (write_first c)

pub resize_done : {img img' s s' : List ℕ} {n len : ℕ} {r : Said} → Resized img img' s s' n len r
    → (answer_no r ≡ 0 → NoCause (resize_tests img s n len)) × (NoCause (resize_tests img s n len) → answer_no r ≡ 0)
resize_done {img} {img'} {s} {s'} {n} {len} c = done_exactly (resize_tests img s n len) (numbered (resize_tests img s n len) refl) (resize_first c)

pub create_done : {img img' s s' : List ℕ} {p : ℕ} {x : List ℕ} {k : ℕ} {r : Said} → Created img img' s s' p x k r
    → (answer_no r ≡ 0 → NoCause (create_tests img s p x k)) × (NoCause (create_tests img s p x k) → answer_no r ≡ 0)
create_done {img} {img'} {s} {s'} {p} {x} {k} c = done_exactly (create_tests img s p x k) (numbered (create_tests img s p x k) refl) (create_first c)

pub link_done : {img img' s s' : List ℕ} {p : ℕ} {x : List ℕ} {n : ℕ} {r : Said} → Linked img img' s s' p x n r
    → (answer_no r ≡ 0 → NoCause (link_tests img s p x n)) × (NoCause (link_tests img s p x n) → answer_no r ≡ 0)
link_done {img} {img'} {s} {s'} {p} {x} {n} c = done_exactly (link_tests img s p x n) (numbered (link_tests img s p x n) refl) (link_first c)

pub unlink_done : {img img' s s' : List ℕ} {p : ℕ} {x : List ℕ} {r : Said} → Unlinked img img' s s' p x r
    → (answer_no r ≡ 0 → NoCause (unlink_tests img s p x)) × (NoCause (unlink_tests img s p x) → answer_no r ≡ 0)
unlink_done {img} {img'} {s} {s'} {p} {x} c = done_exactly (unlink_tests img s p x) (numbered (unlink_tests img s p x) refl) (unlink_first c)

pub move_done : {img img' s s' : List ℕ} {p : ℕ} {old : List ℕ} {t : ℕ} {new : List ℕ} {r : Said} → Moved img img' s s' p old t new r
    → (answer_no r ≡ 0 → NoCause (move_tests img s p old t new)) × (NoCause (move_tests img s p old t new) → answer_no r ≡ 0)
move_done {img} {img'} {s} {s'} {p} {old} {t} {new} c =
    done_exactly (move_tests img s p old t new) (numbered (move_tests img s p old t new) refl) (move_first c)

pub find_done : {img s s' : List ℕ} {p : ℕ} {x : List ℕ} {r : Said} → Found img s s' p x r
    → (answer_no r ≡ 0 → NoCause (find_tests img s p x)) × (NoCause (find_tests img s p x) → answer_no r ≡ 0)
find_done {img} {s} {s'} {p} {x} c = done_exactly (find_tests img s p x) (numbered (find_tests img s p x) refl) (find_first c)

pub entry_done : {img s s' : List ℕ} {p k : ℕ} {r : Said} {e : List ℕ} → Listed img s s' p k r e
    → (answer_no r ≡ 0 → NoCause (entry_tests img s p k)) × (NoCause (entry_tests img s p k) → answer_no r ≡ 0)
entry_done {img} {s} {s'} {p} {k} c = done_exactly (entry_tests img s p k) (numbered (entry_tests img s p k) refl) (entry_first c)

pub describe_done : {img s s' : List ℕ} {n : ℕ} {r : Said} {k z b l : ℕ} → Described img s s' n r k z b l
    → (answer_no r ≡ 0 → NoCause (look_tests img s n)) × (NoCause (look_tests img s n) → answer_no r ≡ 0)
describe_done {img} {s} {s'} {n} c = done_exactly (look_tests img s n) (numbered (look_tests img s n) refl) (describe_first c)

pub format_done : {img img' : List ℕ} {space : ℕ} {r : Said} → Formatted img img' space r
    → (answer_no r ≡ 0 → NoCause (format_tests img space)) × (NoCause (format_tests img space) → answer_no r ≡ 0)
format_done {img} {img'} {space} c = done_exactly (format_tests img space) (numbered (format_tests img space) refl) (format_first c)

pub check_done : {img s s' : List ℕ} {o : Opened} → Opening img s s' 1 1 o
    → (answer_no o ≡ 0 → NoCause (look_tests img s 1)) × (NoCause (look_tests img s 1) → answer_no o ≡ 0)
check_done {img} {s} c = done_exactly (look_tests img s 1) (numbered (look_tests img s 1) refl) (check_first c)
