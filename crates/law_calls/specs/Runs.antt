-- Public calls one after the other, each with a scratch of its own, refused ones included.
use Rattle.std.specs.Prelude.{ℕ, ◌+◌, ◌-◌, ◌≡◌, List, [], ◌∷◌, eqb, ltb, length}
use Rattle.words.specs.Words.{pick, byte}
use Rattle.words.specs.Sums.{cnt}
use Rattle.law_files.specs.Requests.{reading, writing, resizing}
use Rattle.law_calls.specs.Made.{Asked, file, creating, linking, unlinking, moving, finding, listing}
use Rattle.law_calls.specs.Made.{describing, checking, Made, OfBytesAll, names_of, writes_of, removes_of, Asks}
use Rattle.call_said.specs.Said.{Said}
use Rattle.refusals.specs.Refusals.{answer_no}

-- what was asked, and what was said to it
pub record Call : Type 0 where
  pub asked : Asked
  pub said : Said

abbrev pub Done : Call → Type 0
Done c = answer_no c.said ≡ 0

-- calls from card img to card out, each such that P holds of the card before it, the card after it, and the call
pub data Run (P : List ℕ → List ℕ → Call → Type 0) : List ℕ → List ℕ → List Call → Type 0 where
  none : {img : List ℕ} → Run P img img []
  next : {img mid out : List ℕ} {c : Call} {cs : List Call} → OfBytesAll c.asked → Made img mid c.asked c.said → P img mid c → Run P mid out cs
      → Run P img out (c ∷ cs)

-- byte o of file n, which was v, after a call: of a write to n that was done the byte written there, else v
abbrev pub put : Asked → Said → ℕ → ℕ → ℕ → ℕ
put (file (reading m off k)) r n o v = v
put (file (writing m off src)) r n o v =
    pick (eqb (answer_no r) 0) (pick (eqb m n) (pick (ltb o off) v (pick (ltb o (off + length src)) (byte src (o - off)) v)) v) v
put (file (resizing m len)) r n o v = v
put (creating p x k) r n o v = v
put (linking p x c) r n o v = v
put (unlinking p x) r n o v = v
put (moving p old t new) r n o v = v
put (finding p x) r n o v = v
put (listing p k) r n o v = v
put (describing m) r n o v = v
put checking r n o v = v

-- and after all calls of a list: the last byte written there, or v
unfoldable pub last_put : List Call → ℕ → ℕ → ℕ → ℕ
last_put [] n o v = v
last_put (c ∷ cs) n o v = last_put cs n o (put c.asked c.said n o v)

-- ---- what a call leaves alone, as far as it is done

-- it neither writes file m nor changes its length
abbrev pub Unwritten : ℕ → Call → Type 0
Unwritten m c = Done c → cnt m (writes_of c.asked) ≡ 0

-- it does not remove inode m of card img
abbrev pub Unremoved : ℕ → List ℕ → Call → Type 0
Unremoved m img c = Done c → cnt m (removes_of img c.asked) ≡ 0

-- it does not name inode m
abbrev pub Unnamed : ℕ → List ℕ → Call → Type 0
Unnamed m img c = Done c → cnt m (names_of img c.asked) ≡ 0

-- it does not ask about the name x in directory d
abbrev pub Unasked : ℕ → List ℕ → List ℕ → Call → Type 0
Unasked d x img c = Done c → Asks img c.asked d x → ⊥

-- ---- what a file shows

-- byte o of file n as a read shows it, which was v, after a call: of a write to n that was done the byte written there; 0 once the length is o or less; else v
abbrev pub shown : Asked → Said → ℕ → ℕ → ℕ → ℕ
shown (file (reading m off k)) r n o v = v
shown (file (writing m off src)) r n o v = put (file (writing m off src)) r n o v
shown (file (resizing m len)) r n o v = pick (eqb (answer_no r) 0) (pick (eqb m n) (pick (ltb o len) v 0) v) v
shown (creating p x k) r n o v = v
shown (linking p x c) r n o v = v
shown (unlinking p x) r n o v = v
shown (moving p old t new) r n o v = v
shown (finding p x) r n o v = v
shown (listing p k) r n o v = v
shown (describing m) r n o v = v
shown checking r n o v = v

-- and after all calls of a list: the last byte written there since the length last rose over it, or 0 where it rose since, or v
unfoldable pub last_shown : List Call → ℕ → ℕ → ℕ → ℕ
last_shown [] n o v = v
last_shown (c ∷ cs) n o v = last_shown cs n o (shown c.asked c.said n o v)
