-- Inner: a request on a card whose inodes are listed in l, over the definitions of the calls (file_requests/specs/Requests); no part of what a call promises.
use Rattle.std.specs.Prelude.{ℕ, ◌+◌, ◌-◌, List, eqb, ltb, length}
use Rattle.words.specs.Words.{pick, byte}
use Rattle.words.specs.Sums.{cnt}
use Rattle.card_layout.specs.Super.{blocks}
use Rattle.file_requests.specs.Requests.{resize_answer, resize_card, write_answer, write_card, read_answer}
use Rattle.law_files.specs.Requests.{Request, reading, writing, resizing}
use Rattle.refusals.specs.Refusals.{answer_no}

-- 4 where n is no inode of this card, else what is asked
abbrev pub if_listed : {A : Type 0} → List ℕ → ℕ → A → A → A
if_listed l n r x = pick (eqb (cnt n l) 0) r x

-- RULES' number for a request
abbrev pub answered : List ℕ → List ℕ → Request → ℕ
answered l img (reading n off k) = if_listed l n 4 (answer_no (read_answer img n off k))
answered l img (writing n off src) = if_listed l n 4 (answer_no (write_answer img n off src))
answered l img (resizing n len) = if_listed l n 4 (answer_no (resize_answer img n len))

-- the card after it
abbrev pub after : List ℕ → List ℕ → Request → List ℕ
after l img (reading n off k) = img
after l img (writing n off src) = if_listed l n img (write_card (blocks img) img n off src)
after l img (resizing n len) = if_listed l n img (resize_card (blocks img) img n len)

-- byte o of file n, which was v, once a request has been dealt with: of a write that was done to n the byte written there, else v
abbrev pub written : List ℕ → List ℕ → Request → ℕ → ℕ → ℕ → ℕ
written l img (reading m off k) n o v = v
written l img (writing m off src) n o v =
    pick (eqb (answered l img (writing m off src)) 0)
    (pick (eqb m n) (pick (ltb o off) v (pick (ltb o (off + length src)) (byte src (o - off)) v)) v)
    v
written l img (resizing m len) n o v = v
