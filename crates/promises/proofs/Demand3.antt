-- Demand 3 (specs/Demand3) holds. Assumes nothing.
use mathlib.Core.Path.{◌≡◌, ◌∙◌}
use mathlib.Core.Logic.{◌≢◌, ◌⊎◌, ⊎_elim}
use mathlib.Core.List.{List}
use Prim.Native.Nat.{ℕ, ◌+◌, ◌≤◌, ◌<◌}
use native.Mathlib.Omega.{arith}
use native.Mathlib.Decide.{dec_lt}
use Rattle.words.specs.Words.{Bytes}
use Rattle.card_layout.specs.Sizes.{blocks_for}
use Rattle.card_layout.specs.Super.{unused}
use Rattle.card_layout.specs.Inode.{count}
use Rattle.card_layout.specs.Slots.{owned}
use Rattle.card_rules.specs.Whole.{Whole}
use Rattle.card_rules.proofs.Tree.{reached_listed}
use Rattle.file_requests.specs.Requests.{longest}
use Rattle.law_calls.specs.Runs.{Call}
use Rattle.law_calls.specs.Days.{Day}
use Rattle.law_calls.proofs.Runs.{run_part}
use Rattle.law_calls.proofs.Days.{day_end, day_return, day_bytes}
use Rattle.law_calls.proofs.Calls.{resize_refused_exactly}
use Rattle.law_calls.proofs.FileEffects.{read_gives}
use Rattle.promises.specs.Demand3.{ReturnToStart, ReadsAs, AllAlong, RefusedExactly}
use Rattle.refusals.specs.Refusals.{answer_no}

pub return_to_start : ReturnToStart
return_to_start start out cs w b day ends = day_return w b day ends

reads_as : (start mid : List ℕ) (before : List Call) → Whole start → Bytes start → Day start mid before → ReadsAs start mid before
reads_as start mid before w b day =
    let z = day_end w b day in
    record {
      there = λ n h. z.tree.only n (reached_listed start w n h);
      byte_is = day_bytes w b day;
      read_is = λ n o h l s s' buf buf' off r c d lo hi.
          read_gives z.bytes d c o lo hi (omega (arith, z.sizes n (reached_listed start w n h))) ∙ day_bytes w b day n o h l;
    }

pub all_along : AllAlong
all_along start out before behind w b day =
    let x = run_part before behind day in
    (x.0, x.1, x.2, reads_as start x.0 before w b x.1)

pub refused_exactly : RefusedExactly
refused_exactly img img' s s' n len r w enough h d c = (
  λ e. cause e (dec_lt longest len) (dec_lt (owned (count img n) + unused img) (owned (blocks_for len))),
  λ e z. ⊎_elim (λ a. omega (arith, (x.0 z).0)) (λ a. omega (arith, (x.0 z).1)) e,
)
  where
    x : (answer_no r ≡ 0 → (len ≤ longest) × (owned (blocks_for len) ≤ owned (count img n) + unused img))
        × (len ≤ longest → owned (blocks_for len) ≤ owned (count img n) + unused img → answer_no r ≡ 0)
    x = resize_refused_exactly w n h d len enough c

    cause : answer_no r ≢ 0 → Dec (longest < len) → Dec (owned (count img n) + unused img < owned (blocks_for len))
        → (longest < len) ⊎ (owned (count img n) + unused img < owned (blocks_for len))
    cause e (yes a) q = ◌⊎◌.inl a
    cause e (no a) (yes q) = ◌⊎◌.inr q
    cause e (no a) (no q) = absurd (e (x.1 (omega arith) (omega arith)))
