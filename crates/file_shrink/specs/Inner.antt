-- Inner: what freeing asks, and what it leaves of a freer.
use Rattle.std.specs.Prelude.{ℕ, ◌-◌, List}
use Rattle.file_blocks.specs.Inner.{Sizes}
use Rattle.file_blocks.specs.Taking.{free_run}
use Rattle.file_shrink.specs.declared.Freer.{Freer}

abbrev pub Sized : Freer → Type 0
Sized f = Sizes f.image.now f.nb

-- the freer with another card
abbrev pub with_card : Freer → List ℕ → Freer
with_card f img = record f { image = record f.image { now = img } }

-- that has gone over slots i up to e, which stand from byte `at` on
abbrev pub over : ℕ → ℕ → ℕ → Freer → Freer
over at i e f = with_card f (free_run f.nb at (e - i) f.image.now)
