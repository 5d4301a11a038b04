-- Inner: what the functions of this crate ask of each other; no part of what a call promises.
use Rattle.std.specs.Prelude.{◌≡◌, ℕ, ◌≤◌, ◌<◌, List, length, Result}
use Rattle.card_layout.specs.declared.inode.DiskINode.{DiskINode}
use Rattle.card_map.specs.Free.{lowest}
use Rattle.file_blocks.specs.Inner.{Sizes}
use Rattle.dir_entries.specs.Inner.{CanAppend}
use Rattle.dir_create.specs.Create.{create_answer, create_card}
use Rattle.card_layout.specs.declared.INodeId.{INodeId}
use Rattle.refusals.specs.declared.Refusal.{Refusal}

-- a search from there finds the same block: none below is free
pub record NoneBelow (nb : ℕ) (img : List ℕ) (from : ℕ) : Type 0 where
  pub within : from ≤ nb
  pub same : lowest img from nb ≡ lowest img 0 nb

-- what the act asks: the inode's block is the first free one from `from` on, and p, with record d, may have an entry more, named x
abbrev pub MakeReady : ℕ → List ℕ → ℕ → ℕ → DiskINode → List ℕ → Type 0
MakeReady nb img from p d x = Sizes img nb × NoneBelow nb img from × (p < nb) × CanAppend d.head × (length x ≤ 255)

-- what create answers, and what it leaves of the card
abbrev pub Creates : ℕ → List ℕ → List ℕ → ℕ → List ℕ → ℕ → Result INodeId Refusal → Type 0
Creates nb img img' p x k r = (r ≡ create_answer nb img p x k) × (img' ≡ create_card nb img p x k)
