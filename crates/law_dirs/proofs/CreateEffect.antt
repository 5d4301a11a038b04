-- What create leaves of a whole card, in RULES' words. Assumes nothing.
use mathlib.Core.Path.{◌≡◌, sym, ap}
use mathlib.Core.Logic.{◌⊎◌}
use mathlib.Core.List.{List}
use Prim.Native.Nat.{ℕ, ◌+◌, ◌<◌}
use native.Mathlib.Omega.{arith}
use Rattle.std.proofs.lemmas.Grind.{common_steps}
use Rattle.words.specs.Words.{Bytes}
use Rattle.words.specs.Sums.{cnt}
use Rattle.words.proofs.Sums.{δ_cases, sum_on_cons}
use Rattle.card_layout.specs.Super.{blocks}
use Rattle.card_layout.specs.Inode.{size, count}
use Rattle.card_layout.specs.Slots.{owned}
use Rattle.card_map.specs.Free.{lowest}
use Rattle.card_rules.specs.Whole.{Reached, Sound, Whole}
use Rattle.card_rules.proofs.Views.{owned_mono}
use Rattle.file_requests.specs.Requests.{needs}
use Rattle.file_grow.proofs.Taken.{nth_free}
use Rattle.dir_answers.specs.Answers.{the_inode}
use Rattle.dir_create.specs.Create.{create_answer, create_card}
use Rattle.law_dirs.specs.Effects.{CreateEffect}
use Rattle.law_dirs.proofs.Creating.{listed_more}
use Rattle.law_dirs.proofs.CreateCard.{CreateDone, create}

-- a directory of one entry more has so many blocks more
pub needs-more : {img out l k : List ℕ} (p : ℕ) → Sound img l → 0 < cnt p l → Sound out k → 0 < cnt p k → size out p ≡ size img p + 260
    → needs (count img p) (size img p + 260) + owned (count img p) ≡ owned (count out p)
needs-more {img} {out} {l} {k} p s h t g e = grind (arith, common_steps, owned_mono)

-- the block after the lowest free one
next_lowest : (nb : ℕ) (img : List ℕ) (i : ℕ) → i ≡ lowest img 0 nb → nth_free nb img 1 ≡ lowest img (i + 1) nb
unfolding nth_free
next_lowest nb img i e = ap (λ (b : ℕ). lowest img (b + 1) nb) (sym e)

module _ {img out : List ℕ} (w : Whole img) {p : ℕ} {x : List ℕ} {k i : ℕ} (r : Reached img p) (d : CreateDone w.inodes img out p x k i) where
  abbrev l : List ℕ
  l = w.inodes

  who : (m : ℕ) → Reached out m → (m ≡ i) ⊎ Reached img m
  who m q = grind (arith, common_steps, sum_on_cons, δ_cases)

  pub create_by : CreateEffect img out p x k i
  create_by = grind (arith, common_steps, next_lowest, needs-more, listed_more, who)

module _ {img : List ℕ} (w : Whole img) (bytes : Bytes img) {p : ℕ} (r : Reached img p) {x : List ℕ} (src : Bytes x) {k i : ℕ}
    (done : create_answer (blocks img) img p x k ≡ the_inode i) where
  pub create_effect : CreateEffect img (create_card (blocks img) img p x k) p x k i
  create_effect = create_by w r (create w bytes p r x src k i done)
