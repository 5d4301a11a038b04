-- Any public call on a card, and what it is about: the inodes and names that it is given, and what it may change, whatever it says (call_files/specs,
-- call_dirs/specs, call_looks/specs).
use Rattle.std.specs.Prelude.{ℕ, ◌≡◌, List, [], ◌∷◌, ◌≢◌, ◌⊎◌, eqb, ltb}
use Rattle.words.specs.Words.{pick, Bytes}
use Rattle.card_layout.specs.Inode.{kind, links}
use Rattle.check_walk.specs.Opening.{Opening, Opened}
use Rattle.dir_entries.specs.Names.{dots}
use Rattle.dir_answers.specs.Answers.{named_by}
use Rattle.call_dirs.specs.DirCalls.{Created, Linked, Unlinked, Moved}
use Rattle.call_looks.specs.LookCalls.{Found, Listed, Described}
use Rattle.call_said.specs.Said.{of_opened, Said}
use Rattle.law_files.specs.Requests.{Request, reading, writing, resizing, OfBytes}
use Rattle.law_calls.specs.Calls.{Called, read, write, resize}

pub data Asked : Type 0 where
  -- read, write, resize
  file : Request → Asked
  creating : (p : ℕ) (x : List ℕ) (k : ℕ) → Asked
  linking : (p : ℕ) (x : List ℕ) (c : ℕ) → Asked
  unlinking : (p : ℕ) (x : List ℕ) → Asked
  moving : (p : ℕ) (old : List ℕ) (t : ℕ) (new : List ℕ) → Asked
  finding : (p : ℕ) (x : List ℕ) → Asked
  listing : (p k : ℕ) → Asked
  describing : (n : ℕ) → Asked
  checking : Asked

-- the public call of a request on card img says r and leaves the card img'
pub data Made (img img' : List ℕ) : Asked → Said → Type 0 where
  filed : {q : Request} {r : Said} → Called img img' q r → Made img img' (file q) r
  create : (s s' : List ℕ) (p : ℕ) (x : List ℕ) (k : ℕ) (r : Said) → Created img img' s s' p x k r → Made img img' (creating p x k) r
  link : (s s' : List ℕ) (p : ℕ) (x : List ℕ) (c : ℕ) (r : Said) → Linked img img' s s' p x c r → Made img img' (linking p x c) r
  unlink : (s s' : List ℕ) (p : ℕ) (x : List ℕ) (r : Said) → Unlinked img img' s s' p x r → Made img img' (unlinking p x) r
  move : (s s' : List ℕ) (p : ℕ) (old : List ℕ) (t : ℕ) (new : List ℕ) (r : Said) → Moved img img' s s' p old t new r
      → Made img img' (moving p old t new) r
  find : (s s' : List ℕ) (p : ℕ) (x : List ℕ) (r : Said) → Found img s s' p x r → img' ≡ img → Made img img' (finding p x) r
  list : (s s' : List ℕ) (p k : ℕ) (r : Said) (e : List ℕ) → Listed img s s' p k r e → img' ≡ img → Made img img' (listing p k) r
  describe : (s s' : List ℕ) (n : ℕ) (r : Said) (kind' size' blocks' links' : ℕ) → Described img s s' n r kind' size' blocks' links' → img' ≡ img
      → Made img img' (describing n) r
  check : (s s' : List ℕ) (o : Opened) (r : Said) → Opening img s s' 1 1 o → r ≡ of_opened o → img' ≡ img → Made img img' checking r

-- the scratch that it is given, and the scratch that it leaves
abbrev pub scratch_in : {img img' : List ℕ} {q : Request} {r : Said} → Called img img' q r → List ℕ
scratch_in (read s s' buf buf' n off r c e) = s
scratch_in (write s s' src n off r c) = s
scratch_in (resize s s' n len r c) = s

abbrev pub scratch_of : {img img' : List ℕ} {q : Asked} {r : Said} → Made img img' q r → List ℕ
scratch_of (filed c) = scratch_in c
scratch_of (create s s' p x k r c) = s
scratch_of (link s s' p x n r c) = s
scratch_of (unlink s s' p x r c) = s
scratch_of (move s s' p old t new r c) = s
scratch_of (find s s' p x r c e) = s
scratch_of (list s s' p k r x c e) = s
scratch_of (describe s s' n r k l m v c e) = s
scratch_of (check s s' o r c i e) = s

abbrev pub scratch_out : {img img' : List ℕ} {q : Request} {r : Said} → Called img img' q r → List ℕ
scratch_out (read s s' buf buf' n off r c e) = s'
scratch_out (write s s' src n off r c) = s'
scratch_out (resize s s' n len r c) = s'

abbrev pub scratch_after : {img img' : List ℕ} {q : Asked} {r : Said} → Made img img' q r → List ℕ
scratch_after (filed c) = scratch_out c
scratch_after (create s s' p x k r c) = s'
scratch_after (link s s' p x n r c) = s'
scratch_after (unlink s s' p x r c) = s'
scratch_after (move s s' p old t new r c) = s'
scratch_after (find s s' p x r c e) = s'
scratch_after (list s s' p k r x c e) = s'
scratch_after (describe s s' n r k l m v c e) = s'
scratch_after (check s s' o r c i e) = s'

-- names and bytes handed in are bytes
abbrev pub OfBytesAll : Asked → Type 0
OfBytesAll (file q) = OfBytes q
OfBytesAll (creating p x k) = Bytes x
OfBytesAll (linking p x c) = Bytes x
OfBytesAll (unlinking p x) = Unit
OfBytesAll (moving p old t new) = Bytes new
OfBytesAll (finding p x) = Unit
OfBytesAll (listing p k) = Unit
OfBytesAll (describing n) = Unit
OfBytesAll checking = Unit

-- ---- what a call that is done may change

-- the inodes that it names and may change: of no other does anything change
abbrev pub names_of : List ℕ → Asked → List ℕ
names_of img (file (reading n off k)) = []
names_of img (file (writing n off src)) = n ∷ []
names_of img (file (resizing n len)) = n ∷ []
names_of img (creating p x k) = p ∷ []
names_of img (linking p x c) = p ∷ c ∷ []
names_of img (unlinking p x) = p ∷ named_by img p x ∷ []
names_of img (moving p old t new) = p ∷ t ∷ named_by img p old ∷ []
names_of img (finding p x) = []
names_of img (listing p k) = []
names_of img (describing n) = []
names_of img checking = []

-- the files whose length or bytes it may change
abbrev pub writes_of : Asked → List ℕ
writes_of (file (reading n off k)) = []
writes_of (file (writing n off src)) = n ∷ []
writes_of (file (resizing n len)) = n ∷ []
writes_of (creating p x k) = []
writes_of (linking p x c) = []
writes_of (unlinking p x) = []
writes_of (moving p old t new) = []
writes_of (finding p x) = []
writes_of (listing p k) = []
writes_of (describing n) = []
writes_of checking = []

-- c, where it is a directory or has no other name
abbrev pub if_last : List ℕ → ℕ → List ℕ
if_last img c = pick (eqb (kind img c) 2) (c ∷ []) (pick (ltb 1 (links img c)) [] (c ∷ []))

-- the inodes that it removes: what an unlink names, by its last name
abbrev pub removes_of : List ℕ → Asked → List ℕ
removes_of img (file q) = []
removes_of img (creating p x k) = []
removes_of img (linking p x c) = []
removes_of img (unlinking p x) = if_last img (named_by img p x)
removes_of img (moving p old t new) = []
removes_of img (finding p x) = []
removes_of img (listing p k) = []
removes_of img (describing n) = []
removes_of img checking = []

-- it asks about the name x in directory d: to make, to take away, to move from or to; and a move to another directory about the ".." of what it moves
abbrev pub Asks : List ℕ → Asked → ℕ → List ℕ → Type 0
Asks img (file q) d x = ⊥
Asks img (creating p y k) d x = (d ≡ p) × (x ≡ y)
Asks img (linking p y c) d x = (d ≡ p) × (x ≡ y)
Asks img (unlinking p y) d x = (d ≡ p) × (x ≡ y)
Asks img (moving p old t new) d x = ((d ≡ p) × (x ≡ old)) ⊎ (((d ≡ t) × (x ≡ new)) ⊎ ((p ≢ t) × (d ≡ named_by img p old) × (x ≡ dots)))
Asks img (finding p y) d x = ⊥
Asks img (listing p k) d x = ⊥
Asks img (describing n) d x = ⊥
Asks img checking d x = ⊥
