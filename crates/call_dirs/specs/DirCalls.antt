-- The statements of create, link, unlink, move and format: for every image, scratch, numbers and names one answer, and the image and scratch
-- afterwards (s and s' are the scratch before and after).
use Rattle.std.specs.Prelude.{ℕ, ◌≡◌, List, length}
use Rattle.card_layout.specs.Super.{blocks}
use Rattle.check_walk.specs.Opening.{Opening, Opened}
use Rattle.dir_create.specs.Create.{create_answer, create_card}
use Rattle.dir_link.specs.Link.{link_answer, link_card}
use Rattle.dir_unlink.specs.Unlink.{unlink_answer, unlink_card}
use Rattle.dir_move.specs.Move.{move_answer, move_card}
use Rattle.dir_format.specs.Format.{format_answer, format_card}
use Rattle.call_said.specs.Said.{of_opened, numbered, plain, Said}
use Rattle.refusals.specs.Refusals.{if_done}

-- a new inode of kind k under the name x in directory p: its number is the answer's value
pub record Created (img img' s s' : List ℕ) (p : ℕ) (x : List ℕ) (k : ℕ) (r : Said) : Type 0 where
  pub opened : Opened
  pub opening : Opening img s s' p p opened
  pub said : r ≡ if_done opened (numbered (create_answer (blocks img) img p x k)) (of_opened opened)
  pub image : img' ≡ if_done opened (create_card (blocks img) img p x k) img

-- inode c also under the name x in directory p
pub record Linked (img img' s s' : List ℕ) (p : ℕ) (x : List ℕ) (c : ℕ) (r : Said) : Type 0 where
  pub opened : Opened
  pub opening : Opening img s s' p c opened
  pub said : r ≡ if_done opened (plain (link_answer img p x c)) (of_opened opened)
  pub image : img' ≡ if_done opened (link_card (blocks img) img p x c) img

pub record Unlinked (img img' s s' : List ℕ) (p : ℕ) (x : List ℕ) (r : Said) : Type 0 where
  pub opened : Opened
  pub opening : Opening img s s' p p opened
  pub said : r ≡ if_done opened (plain (unlink_answer img p x)) (of_opened opened)
  pub image : img' ≡ if_done opened (unlink_card (blocks img) img p x) img

-- what p has under the name `old` stands in directory t under the name `new`
pub record Moved (img img' s s' : List ℕ) (p : ℕ) (old : List ℕ) (t : ℕ) (new : List ℕ) (r : Said) : Type 0 where
  pub opened : Opened
  pub opening : Opening img s s' p t opened
  pub said : r ≡ if_done opened (plain (move_answer (blocks img) img p old t new)) (of_opened opened)
  pub image : img' ≡ if_done opened (move_card (blocks img) img p old t new) img

-- any bytes made a card of `space` bytes
pub record Formatted (img img' : List ℕ) (space : ℕ) (r : Said) : Type 0 where
  pub said : r ≡ plain (format_answer (length img) space)
  pub image : img' ≡ format_card img space
