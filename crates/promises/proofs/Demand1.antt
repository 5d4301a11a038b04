-- Demand 1 (specs/Demand1) holds. Assumes nothing.
use mathlib.Core.Path.{◌≡◌, refl}
use mathlib.Core.Logic.{◌≢◌}
use Prim.Native.Nat.{ℕ}
use Rattle.card_layout.specs.Inode.{size, kind, links, count}
use Rattle.check_walk.specs.Opening.{blocks_of, unused_of, Opened}
use Rattle.check_walk.proofs.Agree.{agree}
use Rattle.call_said.specs.Said.{said_value, of_opened, Said}
use Rattle.sfs.proofs.Agree.{read_agrees, write_agrees, resize_agrees}
use Rattle.sfs.proofs.AgreeDirs.{create_agrees, link_agrees, unlink_agrees, move_agrees, format_agrees, find_agrees, entry_agrees, metadata_agrees}
use Rattle.law_calls.proofs.Refusals.{refused_same, format_refused, read_refused, listed_refused}
use Rattle.law_calls.proofs.ScratchAfter.{made_scratch}
use Rattle.law_calls.proofs.FirstFiles.{read_first, write_first, resize_first, describe_first, check_first}
use Rattle.law_calls.proofs.FirstDirs.{create_first, link_first, unlink_first, find_first, entry_first, format_first}
use Rattle.law_calls.proofs.FirstMove.{move_first}
use Rattle.promises.specs.Demand1.{Causes, Untouched, Scratch, OneAnswer}
use Rattle.refusals.specs.Refusals.{answer_no, if_done}
use Rattle.std.specs.Prelude.{Ok, Err}

pub causes : Causes
causes =
    record {
      read = λ img s s' buf buf' n off r c. read_first c;
      write = λ img img' s s' src n off r c. write_first c;
      resize = λ img img' s s' n len r c. resize_first c;
      create = λ img img' s s' p x k r c. create_first c;
      link = λ img img' s s' p x n r c. link_first c;
      unlink = λ img img' s s' p x r c. unlink_first c;
      move = λ img img' s s' p old t new r c. move_first c;
      find = λ img s s' p x r c. find_first c;
      entry = λ img s s' p k r e c. entry_first c;
      metadata = λ img s s' n r k v b l c. describe_first c;
      check = λ img s s' o c. check_first c;
      format = λ img img' space r c. format_first c;
    }

-- "A refusal's other results are 0"
no_value : (r : Said) → answer_no r ≢ 0 → said_value r ≡ 0
no_value (Ok v) d = absurd (d refl)
no_value (Err e) d = refl

-- what metadata gives of a card that is not open
shut : (o : Opened) (x v : ℕ) (r : Said) → r ≡ if_done o (Ok 0) (of_opened o) → answer_no r ≢ 0 → v ≡ if_done o x 0 → v ≡ 0
shut (Ok c) x v r e d i = absurd (rw e at d refl)
shut (Err e) x v r q d i = i

no_counts : (o : Opened) → answer_no o ≢ 0 → (blocks_of o ≡ 0) × (unused_of o ≡ 0)
no_counts (Ok c) d = absurd (d refl)
no_counts (Err e) d = (refl, refl)

pub untouched : Untouched
untouched =
    record {
      image = λ img img' q r m d. refused_same m d;
      format = λ img img' space r c d. format_refused c d;
      buffer = λ img s s' buf buf' n off r c d. read_refused c d;
      value = no_value;
      entry = λ img s s' p k r e c d. listed_refused c d;
      check = no_counts;
      metadata = λ img s s' n r k v b l c d. (
        shut c.opened (kind img n) k r c.said d c.kind_is,
        shut c.opened (size img n) v r c.said d c.size_is,
        shut c.opened (count img n) b r c.said d c.blocks_is,
        shut c.opened (links img n) l r c.said d c.links_is,
      );
    }

pub scratch : Scratch
scratch img img' q r m = made_scratch m

pub one_answer : OneAnswer
one_answer =
    record {
      read = λ img s s₁ s₂ buf x₁ x₂ n off r₁ r₂ a b. let e = read_agrees a b in (e.said, e.changed, e.scratch);
      write = λ img s s₁ s₂ src x₁ x₂ n off r₁ r₂ a b. let e = write_agrees a b in (e.said, e.changed, e.scratch);
      resize = λ img s s₁ s₂ x₁ x₂ n len r₁ r₂ a b. let e = resize_agrees a b in (e.said, e.changed, e.scratch);
      create = λ img s s₁ s₂ x₁ x₂ p x k r₁ r₂ a b. let e = create_agrees a b in (e.said, e.changed, e.scratch);
      link = λ img s s₁ s₂ x₁ x₂ p x c r₁ r₂ a b. let e = link_agrees a b in (e.said, e.changed, e.scratch);
      unlink = λ img s s₁ s₂ x₁ x₂ p x r₁ r₂ a b. let e = unlink_agrees a b in (e.said, e.changed, e.scratch);
      move = λ img s s₁ s₂ x₁ x₂ p old t new r₁ r₂ a b. let e = move_agrees a b in (e.said, e.changed, e.scratch);
      find = λ img s s₁ s₂ p x r₁ r₂ a b. let e = find_agrees a b in (e.said, e.scratch);
      entry = λ img s s₁ s₂ p k r₁ r₂ e₁ e₂ a b. let e = entry_agrees a b in (e.said, e.changed, e.scratch);
      metadata = λ img s s₁ s₂ n r₁ r₂ k₁ z₁ b₁ l₁ k₂ z₂ b₂ l₂ a b.
          let e = metadata_agrees a b in (e.0, e.1.kind, e.1.size, e.1.blocks, e.1.links, e.1.scratch);
      check = λ img s s₁ s₂ o₁ o₂ a b. agree a b;
      format = λ img x₁ x₂ space r₁ r₂ a b. format_agrees a b;
    }
