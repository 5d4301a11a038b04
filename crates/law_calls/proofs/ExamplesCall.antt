-- RULES' example "create file "a"" by the public call, on any 18 blocks of bytes formatted to 16. Assumes nothing.
use mathlib.Core.Path.{◌≡◌, ap, ◌∙◌, subst}
use mathlib.Core.List.{List, [], ◌∷◌}
use Prim.Native.Nat.{ℕ, ◌*◌, ◌≤◌}
use native.Mathlib.Omega.{arith}
use lib.ListN.{length}
use Rattle.words.specs.Words.{Bytes}
use Rattle.card_layout.specs.Super.{blocks, unused}
use Rattle.card_rules.specs.Whole.{root, Whole}
use Rattle.card_rules.proofs.Bare.{one}
use Rattle.dir_answers.specs.Answers.{the_inode}
use Rattle.dir_create.specs.Create.{create_answer, create_card}
use Rattle.call_said.specs.Said.{said_value, numbered, Said}
use Rattle.call_dirs.specs.DirCalls.{Created}
use Rattle.law_calls.specs.Examples.{fresh}
use Rattle.law_dirs.proofs.FreshBytes.{bytes_tested}
use Rattle.law_dirs.proofs.CreateCard.{CreateDone}
use Rattle.law_calls.proofs.Says.{create_inode}
use Rattle.law_calls.proofs.Room.{create_leaves}
use Rattle.law_calls.proofs.DoneCalls.{created_done}
use Rattle.law_calls.proofs.ExamplesFresh.{Start, start, start_length}
use Rattle.law_calls.proofs.Examples.{examples}
use Rattle.refusals.specs.Refusals.{answer_no}

module _ (img : List ℕ) (bytes : Bytes img) (long : 73728 ≤ length img) where
  pub start_16 : Start (fresh 16 img) 16
  start_16 = start img bytes 16 (omega arith) (omega arith) (omega arith)

  pub length_16 : length (fresh 16 img) ≡ length img
  length_16 = start_length img 16 (omega arith) (omega arith) (omega arith)

  abbrev whole_16 : Whole (fresh 16 img)
  whole_16 = record { inodes = one; sound = start_16.sound; tree = start_16.tree }

  module _ {out s s' : List ℕ} {r : Said} (enough : 64 ≤ length s) (c : Created (fresh 16 img) out s s' 1 (97 ∷ []) 1 r) where
    scratch : 4 * blocks (fresh 16 img) ≤ length s
    scratch = omega (arith, start_16.fresh.blocks_are)

    -- "number 4"
    said_4 : r ≡ numbered (the_inode 4)
    said_4 =
        create_inode whole_16 scratch root c
        ∙ ap (λ (nb : ℕ). numbered (create_answer nb (fresh 16 img) 1 (97 ∷ []) 1)) start_16.fresh.blocks_are
        ∙ ap numbered (examples img bytes long).file_a.0

    pub file_said : answer_no r ≡ 0
    file_said = ap answer_no said_4

    pub file_done : CreateDone one (fresh 16 img) out 1 (97 ∷ []) 1 4
    file_done =
        subst (CreateDone one (fresh 16 img) out 1 (97 ∷ []) 1) (ap said_value said_4)
        (created_done whole_16 start_16.bytes (bytes_tested (97 ∷ []) tt) c file_said)

    -- "unused 11"
    pub file_unused : unused out ≡ 11
    file_unused =
        ap unused (create_leaves whole_16 scratch root c)
        ∙ ap (λ (nb : ℕ). unused (create_card nb (fresh 16 img) 1 (97 ∷ []) 1)) start_16.fresh.blocks_are
        ∙ (examples img bytes long).file_a.1
