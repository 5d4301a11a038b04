-- What a write leaves of a sound card: refused it leaves it alone; done, the file first reaches far enough, and then has the bytes. Assumes nothing.
use mathlib.Core.Path.{◌≡◌, refl, sym, ap, ◌∙◌, subst}
use mathlib.Core.Logic.{◌≢◌}
use mathlib.Core.Bool.{Bool, true, false}
use mathlib.Core.List.{List}
use Prim.Native.Nat.{ℕ, ◌+◌, ◌-◌, ◌*◌, ◌/◌, ◌%◌, ◌≤◌, ◌<◌, max}
use native.Mathlib.Omega.{arith}
use native.Mathlib.Decide.{dec_lt, ℕ_discrete}
use borrow.Author.Tests.{eq-eqb, ne_eqb, lt-ltb, le-ltb}
use lib.Dec.{eqb}
use lib.ListN.{length}
use Rattle.std.proofs.lemmas.Grind.{common_steps}
use Rattle.words.specs.Words.{pick, byte, Bytes}
use Rattle.words.specs.Sums.{cnt}
use Rattle.card_layout.specs.Super.{blocks, unused}
use Rattle.card_layout.specs.Inode.{size, kind, count, head_at}
use Rattle.card_layout.specs.declared.inode.FileType.{FileType}
use Rattle.card_layout.specs.declared.inode.FileType.TheVariants.{File, Dir, SymLink}
use Rattle.card_rules.specs.View.{file_byte}
use Rattle.card_rules.proofs.Views.{file_byte_at}
use Rattle.card_rules.specs.Whole.{Sound, Tree}
use Rattle.card_rules.proofs.Frames.{size_is, count_is, data_is, inode_room}
use Rattle.card_rules.proofs.Isolation.{WithinData, data_slots}
use Rattle.file_blocks.specs.Bytes.{filled}
use Rattle.file_blocks.proofs.Lengths.{length-filled}
use Rattle.card_layout.proofs.InodeLaws.{inode_at}
use Rattle.file_requests.specs.Resizing.{fitted, new_zero}
use Rattle.file_requests.proofs.Answers.{write-inside}
use Rattle.file_requests.specs.Requests.{longest, needs, end_of, write_answer, write_card}
use Rattle.law_files.specs.Requests.{Request, reading, writing, resizing, OfBytes}
use Rattle.law_files.specs.Inner.{answered, after, written}
use Rattle.law_files.proofs.Filling.{bytes_filled, filled_within, filled-comes, filled_stays}
use Rattle.law_files.proofs.Lengths.{zeroed_change}
use Rattle.law_files.proofs.TailShown.{change_shows}
use Rattle.law_files.proofs.Lowest.{data_lowest, change_lowest}
use Rattle.law_files.specs.Effects.{Stood, Lowest}
use Rattle.law_files.proofs.Only.{Only, only_refl, only_resized, only_data}
use Rattle.law_files.proofs.Requests.{OfKind, kinds, Filelike, filelike_not, write_dir, write_dir_card, write_answer_lem}
use Rattle.law_files.proofs.Requests.{write_done, write_file, past_long, past_full, past_fits, write_long_lem, write_full_lem, reaching_no, reaching_yes}
use Rattle.law_files.proofs.Steps.{Step, step_none, step_only, step_resize}
use Rattle.refusals.specs.Refusals.{answer_no}
use Rattle.std.specs.Prelude.{Ok}

-- ---- refused, or done on a card `mid` on which the file reaches far enough

pub data Wrote (l img : List ℕ) (n off : ℕ) (src : List ℕ) : Type 0 where
  refused : answer_no (write_answer img n off src) ≢ 0 → write_card (blocks img) img n off src ≡ img → Wrote l img n off src
  reached : (mid : List ℕ) → kind img n ≢ 2 → Only l img mid n → size mid n ≡ max (size img n) (end_of off src)
      → ((o : ℕ) → o < size img n → file_byte mid n o ≡ file_byte img n o)
      → Lowest img mid n → ((o : ℕ) → size img n ≤ o → o < off → file_byte mid n o ≡ 0)
      → ((o : ℕ) → size mid n ≤ o → o < 4096 * count mid n → Stood img mid n o)
      → write_answer img n off src ≡ Ok (length src)
      → write_card (blocks img) img n off src ≡ filled false src (blocks mid) n off (end_of off src) mid → Wrote l img n off src

module _ {l img : List ℕ} (s : Sound img l) (t : Tree img l) (b : Bytes img) (n : ℕ) (h : 0 < cnt n l) (off : ℕ) (src : List ℕ) where
  module _ (k : FileType) (o : OfKind img n k) (f : Filelike k) where
    not_dir : kind img n ≢ 2
    not_dir e = filelike_not k f (sym o.number ∙ e)

    -- within the size: no length changes
    write_in : end_of off src ≤ size img n → Wrote l img n off src
    write_in e =
        let j = write-inside (unused img) (head_at img n k) (end_of off src) e in
        reached img not_dir (only_refl s t b n) (omega arith) (λ p a. refl) (λ p u new. absurd (new u)) (λ p a l. absurd (omega arith))
        (λ p a l. file_byte_at img n p) (write_file o f off src j)
        (write_done o f off src (blocks img) j
        ∙ ap (filled false src (blocks img) n off (end_of off src)) (reaching_no o f (blocks img) (end_of off src) off e))

    -- past it: the length changes first, where 12 and 14 allow
    write_out : size img n < end_of off src → Dec (longest < end_of off src) → Dec (unused img < needs (count img n) (end_of off src)) → Wrote l img n off src
    write_out e (yes a) d =
        refused (rw (write_answer_lem o f off src, past_long img n k (end_of off src) e a) (λ q. omega arith)) (write_long_lem o f off src (blocks img) a e)
    write_out e (no a) (yes d) =
        refused (rw (write_answer_lem o f off src, past_full img n k (end_of off src) e (omega arith) d) (λ q. omega arith))
        (write_full_lem o f off src (blocks img) (omega arith) e d)
    write_out e (no a) (no d) =
        let j = past_fits img n k (end_of off src) e (omega arith) (omega arith) in
        let r = zeroed_change img l s b n h k o.number (end_of off src) (omega arith) (omega arith) off (omega arith) in
        let x = only_resized s t b h not_dir r in
        reached _ not_dir x (omega (arith, r.size_is)) (λ p a. r.kept p a (omega arith))
        (change_lowest img l s b n h k o.number (end_of off src) (omega arith) (omega arith) off (omega arith))
        (λ p a l. r.zeros p a l)
        (λ p i q.
        change_shows img l s b n h k o.number (end_of off src) (omega arith) (omega arith) off (omega arith) p
        (omega (arith, r.balanced.inode.shape.counted, r.size_is)) (λ u v. omega (arith, r.size_is)))
        (write_file o f off src j)
        (write_done o f off src (blocks img) j
        ∙ ap (filled false src (blocks img) n off (end_of off src)) (reaching_yes o f (blocks img) (end_of off src) off e)
        ∙ ap
        (λ (nb : ℕ).
        filled false src nb n off (end_of off src)
        (new_zero (blocks img) n (inode_at img n k) off (fitted (blocks img) n (inode_at img n k) (end_of off src) img)))
        (sym x.blocks_same))

    write_tests_lem : Dec (size img n < end_of off src) → Wrote l img n off src
    write_tests_lem (yes e) = write_out e (dec_lt longest (end_of off src)) (dec_lt (unused img) (needs (count img n) (end_of off src)))
    write_tests_lem (no e) = write_in (omega arith)

  pub wrote : Wrote l img n off src
  wrote = go (kinds img n (s.inode n h))
    where
      go : (k : FileType) × OfKind img n k → Wrote l img n off src
      go (Dir, o) = refused (rw (write_dir o off src) (λ q. omega arith)) (write_dir_card o (blocks img) off src)
      go (File, o) = write_tests_lem File o tt (dec_lt (size img n) (end_of off src))
      go (SymLink, o) = write_tests_lem SymLink o tt (dec_lt (size img n) (end_of off src))

-- ---- what `written` says

pub pick_same : {A : Type 0} (b : Bool) (v : A) → pick b v v ≡ v
pick_same true v = refl
pick_same false v = refl

module _ (l img : List ℕ) (n off : ℕ) (src : List ℕ) where
  -- refused, or done to another file, or elsewhere in it, it leaves a byte; else it is there
  written_unlisted : cnt n l ≡ 0 → (m o v : ℕ) → written l img (writing n off src) m o v ≡ v
  written_unlisted e m o v = rw (eq-eqb (cnt n l) 0 e)

  written_not : answer_no (write_answer img n off src) ≢ 0 → (m o v : ℕ) → written l img (writing n off src) m o v ≡ v
  written_not d m o v = grind (arith, common_steps)

  written_other : (m o v : ℕ) → m ≢ n → written l img (writing n off src) m o v ≡ v
  written_other m o v d = rw (ne_eqb n m (λ e. d (sym e))) (pick_same (eqb (answered l img (writing n off src)) 0) v)

  module _ (h : 0 < cnt n l) (done : write_answer img n off src ≡ Ok (length src)) (o v : ℕ) where
    written_in : off ≤ o → o < off + length src → written l img (writing n off src) n o v ≡ byte src (o - off)
    written_in a b =
        rw (ne_eqb (cnt n l) 0 (λ e. omega arith), done, eq-eqb n n refl, le-ltb o off a, lt-ltb o (off + length src) b)

    written_out : (off ≤ o → o < off + length src → ⊥) → written l img (writing n off src) n o v ≡ v
    written_out d = grind (arith, common_steps)

-- ---- the bytes, and the step

module _ {l img mid : List ℕ} (b : Bytes img) (n : ℕ) (h : 0 < cnt n l) (off : ℕ) (src : List ℕ) (x : Only l img mid n)
    (e : size mid n ≡ max (size img n) (end_of off src)) where
  abbrev out : List ℕ
  out = filled false src (blocks mid) n off (end_of off src) mid

  inside : end_of off src ≤ 4096 * count mid n
  inside = omega (arith, inode_room (x.sound.inode n h))

  fills : WithinData mid out n
  fills = filled_within x.sound x.bytes n h false src off (end_of off src) (omega arith) inside

  pub size_wrote : size out n ≡ max (size img n) (end_of off src)
  size_wrote = size_is (data_slots x.sound h fills).rec ∙ e

  pub count_wrote : count (filled false src (blocks mid) n off (end_of off src) mid) n ≡ count mid n
  count_wrote = count_is (data_slots x.sound h fills).rec

  pub there : (k : ℕ) → k < length src → file_byte out n (off + k) ≡ byte src k
  there k l = filled-comes x.sound x.bytes n h false src off (end_of off src) (omega arith) inside k (omega arith)

  pub elsewhere : (o : ℕ) → o < size mid n → (off ≤ o → o < end_of off src → ⊥) → file_byte out n o ≡ file_byte mid n o
  elsewhere o a d = grind (arith, common_steps, filled_stays)

  -- past the end the blocks hold what they held
  pub stood_wrote : (o : ℕ) → max (size img n) (end_of off src) ≤ o → o < 4096 * count mid n → Stood img mid n o
      → Stood img (filled false src (blocks mid) n off (end_of off src) mid) n o
  stood_wrote o a b q =
      filled_stays x.sound x.bytes n h false src off (end_of off src) (omega arith) inside o b (λ u v. omega arith)
      ∙ q
      ∙ ap (λ (y : ℕ). byte img (4096 * y + o % 4096)) (sym (data_is (data_slots x.sound h fills) (o / 4096) (omega arith)))

  pub lowest_wrote : Lowest img mid n → Lowest img (filled false src (blocks mid) n off (end_of off src) mid) n
  lowest_wrote = data_lowest _ x.sound h x.blocks_same fills

  module _ (s : Sound img l) (t : Tree img l) (c : Bytes src) (k : kind img n ≢ 2) where
    pub only_wrote : Only l img out n
    only_wrote =
        only_data s t b h k x fills (length-filled false src (blocks mid) off (end_of off src) n mid)
        (bytes_filled false src (blocks mid) n off (end_of off src) mid c x.bytes)

    module _ (g : (o : ℕ) → o < size img n → file_byte mid n o ≡ file_byte img n o) (done : write_answer img n off src ≡ Ok (length src)) where
      step_reached : Step l img out (writing n off src)
      step_reached =
          step_only s t b (writing n off src) n refl k only_wrote
          (λ i o v. written_other l img n off src i o v)
          (λ o a _. at_byte o a (dec_lt o off) (dec_lt o (off + length src)))
        where
          kept : (o : ℕ) → o < size img n → (off ≤ o → o < end_of off src → ⊥) → file_byte out n o ≡ written l img (writing n off src) n o (file_byte img n o)
          kept o a d = elsewhere o (omega (arith, e)) d ∙ g o a ∙ sym (written_out l img n off src h done o (file_byte img n o) d)

          at_byte : (o : ℕ) → o < size img n → Dec (o < off) → Dec (o < off + length src)
              → file_byte out n o ≡ written l img (writing n off src) n o (file_byte img n o)
          at_byte o a (yes p) q = kept o a (λ u v. omega arith)
          at_byte o a (no p) (no q) = kept o a (λ u v. omega arith)
          at_byte o a (no p) (yes q) =
              let y : off + (o - off) ≡ o = omega arith in
              subst (λ (z : ℕ). file_byte out n z ≡ byte src (o - off)) y (there (o - off) (omega arith))
              ∙ sym (written_in l img n off src h done o (file_byte img n o) (omega arith) q)

module _ {l img : List ℕ} (s : Sound img l) (t : Tree img l) (b : Bytes img) (n : ℕ) (h : 0 < cnt n l) (off : ℕ) (src : List ℕ)
    (c : Bytes src) where
  pub step_write : Step l img (write_card (blocks img) img n off src) (writing n off src)
  step_write = go (wrote s t b n h off src)
    where
      go : Wrote l img n off src → Step l img (write_card (blocks img) img n off src) (writing n off src)
      go (refused d e) = rw e (step_none s t b (writing n off src) (written_not l img n off src d))
      go (reached mid k x z g _ _ _ done e) = rw e (step_reached b n h off src x z s t c k g done)

-- ---- any request

pub step : {l img : List ℕ} → Sound img l → Tree img l → Bytes img → (r : Request) → OfBytes r → Step l img (after l img r) r
step {l} {img} s t b (reading n off k) c = step_none s t b (reading n off k) (λ m o v. refl)
step {l} {img} s t b (writing n off src) c = go (ℕ_discrete (cnt n l) 0)
  where
    go : Dec (cnt n l ≡ 0) → Step l img (after l img (writing n off src)) (writing n off src)
    go (yes e) = rw (eq-eqb (cnt n l) 0 e) (step_none s t b (writing n off src) (written_unlisted l img n off src e))
    go (no d) = rw (ne_eqb (cnt n l) 0 d) (step_write s t b n (omega arith) off src c)
step {l} {img} s t b (resizing n len) c = go (ℕ_discrete (cnt n l) 0)
  where
    go : Dec (cnt n l ≡ 0) → Step l img (after l img (resizing n len)) (resizing n len)
    go (yes e) = rw (eq-eqb (cnt n l) 0 e) (step_none s t b (resizing n len) (λ m o v. refl))
    go (no d) = rw (ne_eqb (cnt n l) 0 d) (step_resize s t b n (omega arith) len)
