-- The blocks of a move: from one directory to another those of N for the append, and what the shorter directory gives back. Assumes nothing.
use mathlib.Core.Path.{◌≡◌, sym, ap, ◌∙◌}
use mathlib.Core.List.{List}
use mathlib.Core.Logic.{◌≢◌}
use Prim.Native.Nat.{ℕ, ◌+◌, ◌≤◌, ◌<◌}
use native.Mathlib.Omega.{arith}
use Rattle.std.proofs.lemmas.Grind.{common_steps}
use Rattle.words.specs.Sums.{δ, cnt, sum_on, without}
use Rattle.words.proofs.Sums.{δ_same, δ_other, sum_on-without, sum_on_cong}
use Rattle.card_layout.specs.Sizes.{blocks_for}
use Rattle.card_layout.specs.Super.{unused}
use Rattle.card_layout.specs.Inode.{size, count}
use Rattle.card_layout.specs.Slots.{owned}
use Rattle.card_rules.specs.Whole.{Sound, Tree}
use Rattle.card_rules.proofs.Counting.{set_and_owned}
use Rattle.card_rules.proofs.Views.{owned_mono}
use Rattle.card_rules.proofs.Frames.{count_is}
use Rattle.file_requests.specs.Requests.{needs}
use Rattle.law_tree.proofs.Counts.{tree_to}
use Rattle.law_dirs.proofs.MoveCard.{MoveDone}

-- a sum over a listing in which two inodes changed
module _ (f g : ℕ → ℕ) (l : List ℕ) (p t : ℕ) (apart : p ≢ t) (hp : 0 < cnt p l) (ht : 0 < cnt t l) (once : (n : ℕ) → cnt n l ≤ 1)
    (same : (n : ℕ) → 0 < cnt n l → n ≢ p → n ≢ t → g n ≡ f n) where
  abbrev rest : List ℕ
  rest = without t (without p l)

  t_left : 0 < cnt t (without p l)
  t_left = omega (arith, sum_on-without (δ t) p l hp, δ_other t p (λ e. apart (sym e)))

  left : (n : ℕ) → cnt n l ≡ δ n p + (δ n t + cnt n rest)
  left n = omega (arith, sum_on-without (δ n) p l hp, sum_on-without (δ n) t (without p l) t_left)

  others : (n : ℕ) → 0 < cnt n rest → g n ≡ f n
  others n h =
      same n (omega (arith, left n)) (λ e. omega (arith, left n, once n, δ_same n p e)) (λ e. omega (arith, left n, once n, δ_same n t e))

  two_changed : sum_on g l + (f p + f t) ≡ sum_on f l + (g p + g t)
  two_changed =
      omega (
        arith,
        sum_on-without f p l hp,
        sum_on-without g p l hp,
        sum_on-without f t (without p l) t_left,
        sum_on-without g t (without p l) t_left,
        sum_on_cong g f rest others,
      )

module _ {l img out : List ℕ} (s : Sound img l) (w : Tree img l) {p j t c : ℕ} {old new : List ℕ} (hp : 0 < cnt p l) (ht : 0 < cnt t l)
    (d : MoveDone l img out p old j t c new) (apart : p ≢ t) where
  count_same : (n : ℕ) → 0 < cnt n l → n ≢ p → n ≢ t → count out n ≡ count img n
  count_same n h a b = grind (arith, common_steps, count_is)

  pub move_takes : unused out + needs (count img t) (size img t + 260) + owned (count out p) ≡ unused img + owned (count img p)
  move_takes =
      let sum = two_changed (λ n. 1 + owned (count img n)) (λ n. 1 + owned (count out n)) l p t apart hp ht (tree_to w).once
      (λ n h a b. ap (λ (x : ℕ). 1 + owned x) (count_same n h a b)) in
      let now : owned (count out t) ≡ owned (blocks_for (size img t + 260)) =
      ap owned ((d.sound.inode t ht).shape.counted ∙ ap blocks_for (d.across apart).more.size_is) in
      let more : owned (count img t) ≤ owned (blocks_for (size img t + 260)) =
      owned_mono (count img t) (blocks_for (size img t + 260)) (omega (arith, (s.inode t ht).shape.counted)) in
      omega (arith, set_and_owned img l s, set_and_owned out l d.sound, d.steady.blocks_same, d.steady.maps_same, sum, now, more)

-- a new name in one directory takes none
module _ {l img out : List ℕ} (s : Sound img l) {p j c : ℕ} {old new : List ℕ} (d : MoveDone l img out p old j p c new) where
  here_same : (n : ℕ) → 0 < cnt n l → count out n ≡ count img n
  here_same n h = grind (arith, common_steps, count_is)

  pub rename_takes : unused out ≡ unused img
  rename_takes =
      let sum = sum_on_cong (λ n. 1 + owned (count out n)) (λ n. 1 + owned (count img n)) l (λ n h. ap (λ (x : ℕ). 1 + owned x) (here_same n h)) in
      omega (arith, set_and_owned img l s, set_and_owned out l d.sound, d.steady.blocks_same, d.steady.maps_same, sum)
