-- Laws of reading a file's blocks and a directory's entries: the slot that a block falls in, bytes of a file by their blocks, an entry by the
-- at most two runs that it stands in. Assumes nothing.
use mathlib.Core.Path.{◌≡◌, refl, sym, ap, ◌∙◌, subst}
use mathlib.Core.List.{List, [], ◌∷◌}
use Prim.Native.Nat.{ℕ, zero, suc, ◌+◌, ◌-◌, ◌*◌, ◌/◌, ◌%◌, ◌≤◌, ◌<◌}
use native.Mathlib.Omega.{arith}
use native.Mathlib.Decide.{dec_lt}
use borrow.Author.Tests.{lt-ltb, le-ltb}
use lib.ListN.{length, get_or, take, drop, length-drop}
use lib.Seq.{ext_get_or, get_or-take, get_or-drop, take_all, length-take-le}
use Rattle.words.proofs.Numbers.{num_moved}
use Rattle.words.specs.Words.{byte, word}
use Rattle.words.specs.Runs.{copied}
use Rattle.words.proofs.Runs.{length-copied, byte-copied_in, byte-copied_off}
use Rattle.card_layout.specs.Inode.{count}
use Rattle.card_layout.specs.Slots.{slot_of}
use Rattle.card_layout.specs.Entry.{upto_nul}
use Rattle.card_layout.specs.declared.slot.Slot.{Slot}
use Rattle.card_layout.specs.declared.slot.Slot.TheVariants.{Direct, Indirect, Double, Past}
use Rattle.card_rules.specs.View.{data_at, file_byte, file_bytes, entry, name}
use Rattle.card_rules.proofs.Views.{data_past, file_byte_at, entry_at, name_at, length-file_bytes, get_or-file_bytes}
use Rattle.check_names.specs.InnerReading.{Readable}

-- ---- the slot that block i falls in

abbrev pub Falls : Slot → ℕ → Type 0
Falls (Direct k) i = (i < 12) × (k ≡ i)
Falls (Indirect k) i = (12 ≤ i) × (i < 1036) × (k ≡ i - 12)
Falls (Double j k) i = (1036 ≤ i) × (i < 1049612) × (j ≡ (i - 1036) / 1024) × (k ≡ (i - 1036) % 1024)
Falls Past i = 1049612 ≤ i

pub falls : (i : ℕ) → Falls (slot_of i) i
unfolding slot_of
falls i = go (dec_lt i 12) (dec_lt i 1036) (dec_lt i 1049612)
  where
    go : Dec (i < 12) → Dec (i < 1036) → Dec (i < 1049612) → Falls (slot_of i) i
    go (yes l) q r = rw (lt-ltb i 12 l) (l, refl)
    go (no l) (yes m) r = rw (le-ltb i 12 (omega arith), lt-ltb i 1036 m) (omega arith, m, refl)
    go (no l) (no m) (yes p) = rw (le-ltb i 12 (omega arith), le-ltb i 1036 (omega arith), lt-ltb i 1049612 p) (omega arith, p, refl, refl)
    go (no l) (no m) (no p) = rw (le-ltb i 12 (omega arith), le-ltb i 1036 (omega arith), le-ltb i 1049612 (omega arith)) (omega arith)

-- ---- places

-- each byte of a file of which all blocks are on the card is on the card
pub readable_place : (img : List ℕ) (n o : ℕ) → Readable img n → o < 4096 * count img n → 4096 * data_at img n (o / 4096) + o % 4096 < length img
readable_place img n o r l = omega (arith, r.data_in (o / 4096) (omega arith))

-- an entry's number never crosses a block: 260 k is a multiple of 4
pub number_inside : (k : ℕ) → 260 * k % 4096 + 4 ≤ 4096
number_inside k = omega arith

-- ---- bytes of a file by their blocks

module _ (img : List ℕ) (n o : ℕ) where
  -- in the block that o stands in
  pub byte_here : (i : ℕ) → o % 4096 + i < 4096 → file_byte img n (o + i) ≡ byte img (4096 * data_at img n (o / 4096) + o % 4096 + i)
  byte_here i l =
      let b : (o + i) / 4096 ≡ o / 4096 = omega arith in
      let r : (o + i) % 4096 ≡ o % 4096 + i = omega arith in
      let e : 4096 * data_at img n (o / 4096) + (o % 4096 + i) ≡ 4096 * data_at img n (o / 4096) + o % 4096 + i = omega arith in
      file_byte_at img n (o + i) ∙ rw (b, r, e)

  -- in the block after it, which begins x bytes on
  pub byte_next : (x i : ℕ) → o % 4096 + x ≡ 4096 → i < 4096 → file_byte img n (o + (x + i)) ≡ byte img (4096 * data_at img n (o / 4096 + 1) + i)
  byte_next x i m l =
      let b : (o + (x + i)) / 4096 ≡ o / 4096 + 1 = omega arith in
      let r : (o + (x + i)) % 4096 ≡ i = omega arith in
      file_byte_at img n (o + (x + i)) ∙ rw (b, r)

  -- m bytes in one block, copied over all of e
  pub run_alone : (e : List ℕ) (m : ℕ) → length e ≡ m → o % 4096 + m ≤ 4096
      → copied e 0 img (4096 * data_at img n (o / 4096) + o % 4096) m ≡ file_bytes img n o m
  run_alone e m len fit =
      let p = 4096 * data_at img n (o / 4096) + o % 4096 in
      let l₁ = length-copied e 0 img p m in
      let l₂ = length-file_bytes img n o m in
      ext_get_or 0 (copied e 0 img p m) (file_bytes img n o m) (omega arith)
      (λ i l.
      let z : 0 + i ≡ i = omega arith in
      rw z at (byte-copied_in e 0 img p m i (omega arith) (omega arith))
      ∙ sym (byte_here i (omega arith))
      ∙ sym (get_or-file_bytes img n o m i (omega arith)))

  -- m bytes of which the first x end their block
  pub run_pair : (e : List ℕ) (m x : ℕ) → length e ≡ m → o % 4096 + x ≡ 4096 → x ≤ m → m ≤ 4096
      → copied (copied e 0 img (4096 * data_at img n (o / 4096) + o % 4096) x) x img (4096 * data_at img n (o / 4096 + 1)) (m - x) ≡ file_bytes img n o m
  run_pair e m x len ends part fit =
      ext_get_or 0 (copied d x img q (m - x)) (file_bytes img n o m) (omega (arith, long, length-file_bytes img n o m))
      (λ i l. at i (omega (arith, long)) (dec_lt i x))
    where
      p : ℕ
      p = 4096 * data_at img n (o / 4096) + o % 4096

      q : ℕ
      q = 4096 * data_at img n (o / 4096 + 1)

      d : List ℕ
      d = copied e 0 img p x

      long : length (copied d x img q (m - x)) ≡ m
      long = length-copied d x img q (m - x) ∙ length-copied e 0 img p x ∙ len

      at : (i : ℕ) → i < m → Dec (i < x) → get_or (copied d x img q (m - x)) i 0 ≡ get_or (file_bytes img n o m) i 0
      at i l (yes h) =
          let z : 0 + i ≡ i = omega arith in
          byte-copied_off d x img q (m - x) i (λ a b. omega arith)
          ∙ rw z at (byte-copied_in e 0 img p x i (omega arith) h)
          ∙ sym (byte_here i (omega arith))
          ∙ sym (get_or-file_bytes img n o m i l)
      at i l (no h) =
          let z : x + (i - x) ≡ i = omega arith in
          let s : o + (x + (i - x)) ≡ o + i = omega arith in
          rw z at (byte-copied_in d x img q (m - x) (i - x) (omega (arith, length-copied e 0 img p x)) (omega arith))
          ∙ sym (byte_next x (i - x) ends (omega arith))
          ∙ ap (file_byte img n) s
          ∙ sym (get_or-file_bytes img n o m i l)

-- ---- entries

module _ (img : List ℕ) (n k : ℕ) where
  -- the number by its place on the card
  pub entry_word : entry img n k ≡ word img (4096 * data_at img n (260 * k / 4096) + 260 * k % 4096)
  entry_word =
      entry_at img n k
      ∙ num_moved 4 (file_bytes img n (260 * k) 4) img 0 (4096 * data_at img n (260 * k / 4096) + 260 * k % 4096)
      (λ i l.
      let z : 0 + i ≡ i = omega arith in
      rw z (get_or-file_bytes img n (260 * k) 4 i l ∙ byte_here img n (260 * k) i (omega arith)))

  -- number and name in the entry's 260 bytes
  pub length_loaded : length (file_bytes img n (260 * k) 260) ≡ 260
  length_loaded = length-file_bytes img n (260 * k) 260

  pub number_loaded : entry img n k ≡ word (file_bytes img n (260 * k) 260) 0
  number_loaded =
      entry_at img n k
      ∙ num_moved 4 (file_bytes img n (260 * k) 4) (file_bytes img n (260 * k) 260) 0 0
      (λ i l.
      let z : 0 + i ≡ i = omega arith in
      rw z (get_or-file_bytes img n (260 * k) 4 i l ∙ sym (get_or-file_bytes img n (260 * k) 260 i (omega arith))))

  pub name_part : drop 4 (file_bytes img n (260 * k) 260) ≡ file_bytes img n (260 * k + 4) 256
  name_part =
      ext_get_or 0 (drop 4 (file_bytes img n (260 * k) 260)) (file_bytes img n (260 * k + 4) 256)
      (omega (arith, long, length-file_bytes img n (260 * k + 4) 256))
      (λ i l.
      let b : i < 256 = omega (arith, long) in
      let s : 260 * k + (4 + i) ≡ 260 * k + 4 + i = omega arith in
      get_or-drop 4 (file_bytes img n (260 * k) 260) i 0
      ∙ get_or-file_bytes img n (260 * k) 260 (4 + i) (omega arith)
      ∙ ap (file_byte img n) s
      ∙ sym (get_or-file_bytes img n (260 * k + 4) 256 i b))
    where
      long : length (drop 4 (file_bytes img n (260 * k) 260)) ≡ 256
      long = omega (arith, length-drop 4 (file_bytes img n (260 * k) 260), length_loaded)

  pub name_loaded : name img n k ≡ upto_nul (drop 4 (file_bytes img n (260 * k) 260))
  name_loaded = name_at img n k ∙ ap upto_nul (sym name_part)

  -- the name's m = 256 bytes as a part of what was loaded, and as a part of the card where the entry stands in one block
  pub name_cut : (f : List ℕ) (m : ℕ) → f ≡ file_bytes img n (260 * k) 260 → 256 ≤ m → name img n k ≡ upto_nul (take m (drop 4 f))
  name_cut f m e l =
      name_loaded
      ∙ ap (λ (x : List ℕ). upto_nul (drop 4 x)) (sym e)
      ∙ ap upto_nul (sym (take_all m (drop 4 f) (omega (arith, length-drop 4 f, ap length e, length_loaded))))

-- the place before any entry is block 0 of no slot
pub nowhere_block : (img : List ℕ) (n i b : ℕ) → i ≡ 1049612 → b ≡ 0 → b ≡ data_at img n i
nowhere_block img n i b e z = z ∙ sym (ap (data_at img n) e ∙ data_past img n 1049612 (omega arith))

-- a NUL found in a part that begins where the list does ends the whole
pub upto_prefix : (xs : List ℕ) (m : ℕ) → length (upto_nul (take m xs)) < m → m ≤ length xs → upto_nul xs ≡ upto_nul (take m xs)
unfolding upto_nul
upto_prefix xs zero h l = absurd (omega arith)
upto_prefix [] (suc m) h l = absurd (omega arith)
upto_prefix (zero ∷ xs) (suc m) h l = refl
upto_prefix (suc x ∷ xs) (suc m) h l = ap (λ (t : List ℕ). suc x ∷ t) (upto_prefix xs m (omega arith) (omega arith))

-- the name by the part of it that stands in the entry's first block, if that has its NUL
pub name_near : (img : List ℕ) (n k b a m : ℕ) → b ≡ data_at img n (260 * k / 4096)
    → a ≡ 4096 * b + 260 * k % 4096 + 4 → m ≤ 256 → 260 * k % 4096 + m ≤ 4092 → a + m ≤ length img
    → length (upto_nul (take m (drop a img))) < m → name img n k ≡ upto_nul (take m (drop a img))
name_near img n k b a m eb ea em fit l h =
    let f : List ℕ = file_bytes img n (260 * k + 4) 256 in
    let long : length f ≡ 256 = length-file_bytes img n (260 * k + 4) 256 in
    let tl : length (take m f) ≡ m = length-take-le m f (omega arith) in
    let dl : length (take m (drop a img)) ≡ m = length-take-le m (drop a img) (omega (arith, length-drop a img)) in
    let e : take m (drop a img) ≡ take m f =
    ext_get_or 0 (take m (drop a img)) (take m f) (dl ∙ sym tl)
    (λ i q.
    let p : i < m = omega arith in
    let s : 260 * k + 4 + i ≡ 260 * k + (4 + i) = omega arith in
    let t : a + i ≡ 4096 * data_at img n (260 * k / 4096) + 260 * k % 4096 + (4 + i) = omega arith in
    get_or-take m (drop a img) i 0 p
    ∙ get_or-drop a img i 0
    ∙ ap (byte img) t
    ∙ sym (byte_here img n (260 * k) (4 + i) (omega arith))
    ∙ ap (file_byte img n) (sym s)
    ∙ sym (get_or-file_bytes img n (260 * k + 4) 256 i (omega arith))
    ∙ sym (get_or-take m f i 0 p)) in
    name_at img n k ∙ upto_prefix f m (subst (λ (x : List ℕ). length (upto_nul x) < m) e h) (omega arith) ∙ ap upto_nul (sym e)
