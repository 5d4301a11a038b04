-- Inner: what each call that is done is shown to leave, from which the promises follow; no part of what a call promises.
use Rattle.std.specs.Prelude.{ℕ, ◌<◌, ◌≡◌, ◌≢◌, List, ◌∷◌}
use Rattle.words.specs.Words.{Bytes}
use Rattle.words.specs.Sums.{cnt, without}
use Rattle.card_layout.specs.Super.{blocks}
use Rattle.card_layout.specs.Inode.{kind}
use Rattle.card_rules.specs.Whole.{Sound, Tree}
use Rattle.card_rules.specs.Same.{SameFile}
use Rattle.law_calls.specs.SameData.{SameData}

-- the listing of inodes after a call, from the one before
pub data Relisted (l : List ℕ) : List ℕ → Type 0 where
  same : Relisted l l
  more : (i : ℕ) → cnt i l ≡ 0 → Relisted l (i ∷ l)
  less : (c : ℕ) → 0 < cnt c l → Relisted l (without c l)

-- l lists the inodes before; `named` are those that the call names, `written` those whose bytes it may change
pub record Frame (l img out named written : List ℕ) : Type 0 where
  pub inodes : List ℕ
  pub listing : Relisted l inodes
  pub sound : Sound out inodes
  pub tree : Tree out inodes
  pub bytes : Bytes out
  pub blocks_same : blocks out ≡ blocks img
  -- isolation: record, block list and bytes of every inode that is not named, file or directory
  pub others : (m : ℕ) → 0 < cnt m l → cnt m named ≡ 0 → SameFile img out m
  -- and of every file or symbolic link, named or not, all but its links
  pub files : (m : ℕ) → 0 < cnt m l → kind img m ≢ 2 → cnt m written ≡ 0 → SameData img out m
