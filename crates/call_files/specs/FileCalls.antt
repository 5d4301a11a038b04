-- The statements of read, write and resize: for every image, scratch, buffer and numbers one answer, and the image, buffer and scratch afterwards (s and
-- s' are the scratch before and after).
use Rattle.std.specs.Prelude.{ℕ, ◌≡◌, List, length}
use Rattle.card_layout.specs.Super.{blocks}
use Rattle.check_walk.specs.Opening.{Opening, Opened}
use Rattle.file_requests.specs.Requests.{resize_answer, resize_card, write_answer, write_card, read_answer, read_buffer}
use Rattle.call_said.specs.Said.{of_opened, plain, Said}
use Rattle.refusals.specs.Refusals.{if_done}

-- buf' is the buffer after a read of as many bytes as it has, from off on
pub record Read (img s s' buf buf' : List ℕ) (n off : ℕ) (r : Said) : Type 0 where
  pub opened : Opened
  pub opening : Opening img s s' n n opened
  pub said : r ≡ if_done opened (read_answer img n off (length buf)) (of_opened opened)
  pub buffer : buf' ≡ if_done opened (read_buffer (blocks img) img n off buf) buf

-- img' is the image after the bytes of src have been written from off on
pub record Written (img img' s s' src : List ℕ) (n off : ℕ) (r : Said) : Type 0 where
  pub opened : Opened
  pub opening : Opening img s s' n n opened
  pub said : r ≡ if_done opened (write_answer img n off src) (of_opened opened)
  pub image : img' ≡ if_done opened (write_card (blocks img) img n off src) img

pub record Resized (img img' s s' : List ℕ) (n len : ℕ) (r : Said) : Type 0 where
  pub opened : Opened
  pub opening : Opening img s s' n n opened
  pub said : r ≡ if_done opened (plain (resize_answer img n len)) (of_opened opened)
  pub image : img' ≡ if_done opened (resize_card (blocks img) img n len) img
