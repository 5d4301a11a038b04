-- 1 to 4 are said for their causes and for no other, by every call that is given an inode's number: all but the check and format. Assumes nothing.
use mathlib.Core.Path.{◌≡◌, refl}
use mathlib.Core.Bool.{Bool, true, false, false≢true}
use mathlib.Core.Logic.{◌⊎◌, ⊎_elim}
use mathlib.Core.List.{List}
use Prim.Native.Nat.{ℕ, ◌*◌, ◌≤◌, ◌<◌}
use native.Mathlib.Omega.{arith}
use borrow.Author.Tests.{ltb-true}
use lib.Dec.{ltb}
use lib.ListN.{length}
use Rattle.std.proofs.lemmas.Grind.{common_steps}
use Rattle.words.specs.Words.{pick}
use Rattle.card_layout.specs.Sizes.{block_size}
use Rattle.card_layout.specs.Super.{right_magic, magic, blocks}
use Rattle.card_rules.specs.Whole.{Sized, Reached, Whole}
use Rattle.check_walk.specs.Opening.{Opening, Opened}
use Rattle.check_walk.proofs.Agree.{Broken, scratch_short_cause, wrong_fs_cause, damaged_cause, no_inode_cause}
use Rattle.file_requests.specs.Requests.{read_answer, write_answer, resize_answer}
use Rattle.dir_create.specs.Create.{create_answer}
use Rattle.dir_link.specs.Link.{link_answer}
use Rattle.dir_unlink.specs.Unlink.{unlink_answer}
use Rattle.dir_move.specs.Move.{move_answer}
use Rattle.dir_look.specs.Look.{find_answer, entry_answer}
use Rattle.call_said.specs.Said.{of_opened, numbered, plain, Said}
use Rattle.call_files.specs.FileCalls.{Read, Written, Resized}
use Rattle.call_dirs.specs.DirCalls.{Created, Linked, Unlinked, Moved}
use Rattle.call_looks.specs.LookCalls.{Found, Listed, Described}
use Rattle.law_calls.specs.Tests.{Tests, fine, test, First, opens}
use Rattle.law_calls.proofs.FirstFiles.{read_own, write_own, resize_own, read_first, write_first, resize_first, describe_first}
use Rattle.law_calls.proofs.FirstDirs.{name_on, create_rest, link_rest, unlink_own, find_own, entry_own}
use Rattle.law_calls.proofs.FirstDirs.{create_first, link_first, unlink_first, find_first, entry_first}
use Rattle.law_calls.proofs.FirstMove.{move_own, move_first}
use Rattle.refusals.specs.Refusals.{answer_no, if_done}
use Rattle.std.specs.Prelude.{Ok}

-- each number exactly for its cause; a and b are the numbers given
pub record OpenCauses (img s : List ℕ) (a b : ℕ) (r : Said) : Type 0 where
  pub says_1 : (answer_no r ≡ 1 → Sized img × (length s < 4 * blocks img)) × (Sized img → length s < 4 * blocks img → answer_no r ≡ 1)
  pub says_2 : (answer_no r ≡ 2 → (block_size ≤ length img) × (magic img ≡ right_magic → ⊥))
      × (block_size ≤ length img → (magic img ≡ right_magic → ⊥) → answer_no r ≡ 2)
  pub says_3 : (answer_no r ≡ 3 → Broken img s) × (Broken img s → answer_no r ≡ 3)
  pub says_4 : (answer_no r ≡ 4 → (4 * blocks img ≤ length s) × Whole img × (Reached img a → Reached img b → ⊥))
      × (4 * blocks img ≤ length s → Whole img → (Reached img a → Reached img b → ⊥) → answer_no r ≡ 4)

-- no test has one of the numbers 1 to 4, by computing
abbrev past_4 : Tests → Bool
past_4 fine = true
past_4 (test number cause rest) = pick (ltb 4 number) (past_4 rest) false

-- so none of them is said
own_first : (ts : Tests) {k : ℕ} → past_4 ts ≡ true → First ts k → (k ≡ 0) ⊎ (4 < k)
own_first fine e f = ◌⊎◌.inl f
own_first (test number cause rest) {k} e f = go (ltb 4 number) refl e (λ q g. own_first rest q g)
  where
    go : (t : Bool) → ltb 4 number ≡ t → pick t (past_4 rest) false ≡ true → (past_4 rest ≡ true → First rest k → (k ≡ 0) ⊎ (4 < k)) → (k ≡ 0) ⊎ (4 < k)
    go true l q h = ⊎_elim (λ x. ◌⊎◌.inr (omega (arith, ltb-true 4 number l, x.1))) (λ x. h q x.1) f
    go false l q h = absurd (false≢true q)

module _ {img s : List ℕ} {a b : ℕ} (rest : Tests) (own : past_4 rest ≡ true) where
  module _ {s' : List ℕ} (f : Said) (m : ℕ) (l : 0 < m) (h : m ≤ 4) where
    -- so it says m for the opening's m
    said_status : (o : Opened) → Opening img s s' a b o → First (opens img s a b rest) (answer_no (if_done o f (of_opened o)))
        → (answer_no (if_done o f (of_opened o)) ≡ m → answer_no o ≡ m) × (answer_no o ≡ m → answer_no (if_done o f (of_opened o)) ≡ m)
    said_status t₁ i g = grind (arith, common_steps, own_first)

  pub open_causes : {s' : List ℕ} {o : Opened} {r : Said} → Opening img s s' a b o → (f : Said) → r ≡ if_done o f (of_opened o)
      → First (opens img s a b rest) (answer_no r) → OpenCauses img s a b r
  open_causes {s'} {o} {r} i f e g =
      record {
        says_1 = let k = as_opened 1 (omega arith) (omega arith) in (λ q. (scratch_short_cause i).0 (k.0 q), λ z l. k.1 ((scratch_short_cause i).1 z l));
        says_2 = let k = as_opened 2 (omega arith) (omega arith) in (λ q. (wrong_fs_cause i).0 (k.0 q), λ z l. k.1 ((wrong_fs_cause i).1 z l));
        says_3 = let k = as_opened 3 (omega arith) (omega arith) in (λ q. (damaged_cause i).0 (k.0 q), λ z. k.1 ((damaged_cause i).1 z));
        says_4 = let k = as_opened 4 (omega arith) (omega arith) in (λ q. (no_inode_cause i).0 (k.0 q), λ l z n. k.1 ((no_inode_cause i).1 l z n));
      }
    where
      as_opened : (m : ℕ) → 0 < m → m ≤ 4 → (answer_no r ≡ m → answer_no o ≡ m) × (answer_no o ≡ m → answer_no r ≡ m)
      as_opened m l h = rw e (said_status f m l h o i (rw e at g))

-- ---- the calls

module _ {img s s' : List ℕ} {r : Said} where
  pub read_causes : {buf buf' : List ℕ} {n off : ℕ} → Read img s s' buf buf' n off r → OpenCauses img s n n r
  read_causes {buf} {buf'} {n} {off} c = open_causes (read_own img n) refl c.opening (read_answer img n off (length buf)) c.said (read_first c)

  pub find_causes : {p : ℕ} {x : List ℕ} → Found img s s' p x r → OpenCauses img s p p r
  find_causes {p} {x} c = open_causes (find_own img p x) refl c.opening (numbered (find_answer img p x)) c.said (find_first c)

  pub entry_causes : {p k : ℕ} {e : List ℕ} → Listed img s s' p k r e → OpenCauses img s p p r
  entry_causes {p} {k} c = open_causes (entry_own img p k) refl c.opening (plain (entry_answer img p k)) c.said (entry_first c)

  pub describe_causes : {n k z b l : ℕ} → Described img s s' n r k z b l → OpenCauses img s n n r
  describe_causes c = open_causes fine refl c.opening (Ok 0) c.said (describe_first c)

module _ {img img' s s' : List ℕ} {r : Said} where
  pub write_causes : {src : List ℕ} {n off : ℕ} → Written img img' s s' src n off r → OpenCauses img s n n r
  write_causes {src} {n} {off} c = open_causes (write_own img n off src) refl c.opening (write_answer img n off src) c.said (write_first c)

  pub resize_causes : {n len : ℕ} → Resized img img' s s' n len r → OpenCauses img s n n r
  resize_causes {n} {len} c = open_causes (resize_own img n len) refl c.opening (plain (resize_answer img n len)) c.said (resize_first c)

  pub create_causes : {p : ℕ} {x : List ℕ} {k : ℕ} → Created img img' s s' p x k r → OpenCauses img s p p r
  create_causes {p} {x} {k} c =
      open_causes (name_on img p x (create_rest img p x k)) refl c.opening (numbered (create_answer (blocks img) img p x k)) c.said (create_first c)

  pub link_causes : {p : ℕ} {x : List ℕ} {n : ℕ} → Linked img img' s s' p x n r → OpenCauses img s p n r
  link_causes {p} {x} {n} c = open_causes (name_on img p x (link_rest img p x n)) refl c.opening (plain (link_answer img p x n)) c.said (link_first c)

  pub unlink_causes : {p : ℕ} {x : List ℕ} → Unlinked img img' s s' p x r → OpenCauses img s p p r
  unlink_causes {p} {x} c = open_causes (unlink_own img p x) refl c.opening (plain (unlink_answer img p x)) c.said (unlink_first c)

  pub move_causes : {p : ℕ} {old : List ℕ} {t : ℕ} {new : List ℕ} → Moved img img' s s' p old t new r → OpenCauses img s p t r
  move_causes {p} {old} {t} {new} c =
      open_causes (move_own img p old t new) refl c.opening (plain (move_answer (blocks img) img p old t new)) c.said (move_first c)
