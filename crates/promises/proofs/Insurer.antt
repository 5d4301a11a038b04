-- The insurer's answer (specs/Insurer) holds. Assumes nothing.
use mathlib.Core.Path.{◌≡◌, refl, ap, sym, ◌∙◌, subst}
use Prim.Native.Nat.{ℕ, ◌+◌, ◌-◌, ◌<◌}
use native.Mathlib.Omega.{arith}
use mathlib.Core.List.{List}
use mathlib.Core.Logic.{◌≢◌}
use Rattle.words.specs.Words.{byte, Bytes}
use Rattle.words.specs.Sums.{δ}
use Rattle.words.proofs.Sums.{sum_on_nil}
use Rattle.card_layout.specs.Super.{blocks}
use Rattle.card_layout.specs.Inode.{size, kind}
use Rattle.card_rules.specs.View.{file_byte}
use Rattle.card_rules.specs.Whole.{Reached, Whole}
use Rattle.call_said.specs.Said.{said_value, numbered, plain}
use Rattle.file_requests.specs.Requests.{resize_answer, resize_card}
use Rattle.law_files.specs.Requests.{writing, resizing}
use Rattle.law_files.specs.Effects.{WriteEffect, ResizeEffect}
use Rattle.law_dirs.specs.Effects.{CreateEffect}
use Rattle.law_calls.specs.Calls.{write, resize}
use Rattle.law_calls.specs.Made.{file, creating, Made, filed, create, Asks}
use Rattle.law_calls.specs.Runs.{Call, Done, Run, none, next, last_put}
use Rattle.law_calls.specs.Paths.{OnWay}
use Rattle.law_calls.proofs.Made.{made_whole, made_bytes}
use Rattle.law_calls.proofs.Stays.{made_stays, unnamed_unremoved}
use Rattle.law_calls.proofs.Runs.{run_whole, run_bytes, run_stays, run_data, run_file, run_byte}
use Rattle.law_calls.proofs.Finds.{run_finds}
use Rattle.law_calls.proofs.Paths.{run_path, run_path_data, run_name_data}
use Rattle.law_calls.proofs.Says.{find_inode}
use Rattle.law_calls.proofs.Acts.{Acts, acts, created_card}
use Rattle.law_calls.proofs.Shown.{run_shown}
use Rattle.law_calls.proofs.Effects.{created_effect}
use Rattle.law_calls.proofs.FileEffects.{read_gives, write_done, write_of_lem, resize_done}
use Rattle.promises.specs.Insurer.{Answer, Survives, AnswerUnnamed, StaysWhole, SameName, UnderName, OffPath}
use Rattle.promises.specs.Insurer.{SamePath, Lasts, Gives, WrittenIsRead, StoredIsRead, ShowsOwn, ShortenedIsGone}

pub answer : Answer
answer img out cs m w b h d r = run_data m (λ i j c p. p.unremoved) (λ i j c p. p.unwritten) w b h d r

pub survives : Survives
survives img out cs m w b h r = run_stays m (λ i j c p. p) w b h r

pub answer_unnamed : AnswerUnnamed
answer_unnamed img out cs m w b h r = run_file m (λ i j c p z. unnamed_unremoved i m c.asked (p z)) (λ i j c p. p) w b h r

pub stays_whole : StaysWhole
stays_whole img out cs w b r = (run_whole w b r, run_bytes w b r)

pub same_name : SameName
same_name img out cs d x w b h k r =
    let y = run_finds d x (λ i j c p. p.unremoved) (λ i j c p. p.unasked) w b h k r in
    (y.0, y.1, y.2, λ s s' a enough f. find_inode (run_whole w b r) enough y.0 f ∙ ap numbered y.2)

pub under_name : UnderName
under_name img out cs d x m w b h k plain f n r =
    run_name_data d x m (λ i j c p. p.quiet.unremoved) (λ i j c p. p.quiet.unasked) (λ i j c p. p.unwritten) plain w b h k f n r

pub same_path : SamePath
same_path img out cs xs m w b h r = (
  run_path m xs off w b h r,
  λ d. (run_path_data m xs off (λ i j c p. p.unwritten) w b h d r).1,
)
  where
    off : (i j : List ℕ) (c : Call) → OffPath xs m i j c → Done c → (d : ℕ) (x : List ℕ) → OnWay i 1 xs d x → Asks i c.asked d x → ⊥
    off i j c p z d x o = p.unasked d x o z

-- the file is long enough still
still : (m o : ℕ) {img out : List ℕ} {cs : List Call} → o < size img m → Run (Lasts m o) img out cs → o < size out m
still m o l none = l
still m o l (next a c p r) = still m o p.long r

pub written_is_read : WrittenIsRead
written_is_read img out cs m o w b h d l r = (
  (run_stays m (λ i j c p. p.unremoved) w b h r).0,
  e,
  λ s s' buf buf' off a c z lo hi. read_gives (run_bytes w b r) z c o lo hi (still m o l r) ∙ e,
)
  where
    e : file_byte out m o ≡ last_put cs m o (file_byte img m o)
    e = run_byte m (λ i j c p. p.unremoved) o (λ i j c p. p.long) w b h d l r

pub stored_is_read : StoredIsRead
stored_is_read img mid out s s' src cs m off o r b g c z lo hi run =
    subst (λ (v : ℕ). Gives out m o (last_put cs m o v)) v
    (written_is_read mid out cs m o (made_whole y.0 b g a) (made_bytes y.0 b g a) (made_stays y.0 b g a m y.1 (λ _. sum_on_nil (δ m)))
    (λ k. y.2 (sym x.changed.kind_is ∙ k)) (omega (arith, x.size_is)) run)
  where
    x : WriteEffect img mid m off src (said_value r)
    x = write_done b z g c

    y : Whole img × Reached img m × (kind img m ≢ 2)
    y = write_of_lem b z c

    a : Made img mid (file (writing m off src)) r
    a = filed (write s s' src m off r c)

    v : file_byte mid m o ≡ byte src (o - off)
    v = let e : off + (o - off) ≡ o = omega arith in ap (file_byte mid m) (sym e) ∙ x.written (o - off) (omega arith)

-- what m shows, a read gives
gives : {out : List ℕ} {m o v : ℕ} → Bytes out → Reached out m → o < size out m → file_byte out m o ≡ v → Gives out m o v
gives {out} {m} {o} b h l e = (h, e, λ s s' buf buf' off a c z lo hi. read_gives b z c o lo hi l ∙ e)

pub shows_own : ShowsOwn
shows_own img mid out s s' p x k r cs o b g d c z run l =
    gives (run_bytes now bytes run) (run_stays m (λ i j a q. q) now bytes e.there run).0 l
    ((run_shown m (λ i j a q. q) (λ i. 0) now bytes e.there (λ q. d (sym (e.file d).kind_is ∙ q))
    (record { below = λ i a. absurd (omega (arith, (e.file d).size_is)); behind = λ i a. refl }) run
    ).below o l)
  where
    m : ℕ
    m = said_value r

    a : Made img mid (creating p x k) r
    a = create s s' p x k r c

    before : Whole img
    before = created_card z c

    now : Whole mid
    now = made_whole before b g a

    bytes : Bytes mid
    bytes = made_bytes before b g a

    e : CreateEffect img mid p x k (said_value r)
    e = created_effect before b g c z

pub shortened_is_gone : ShortenedIsGone
shortened_is_gone img mid out s s' t t' n a b r q o bytes c z c' z' lo hi =
    gives (made_bytes now mid_bytes tt (filed (resize t t' n b q c')))
    (made_stays now mid_bytes tt (filed (resize t t' n b q c')) n there (λ _. sum_on_nil (δ n)))
    (omega (arith, y.size_is)) (y.zeros o (omega (arith, x.size_is)) hi)
  where
    before : Acts img n n (plain (resize_answer img n a)) r (resize_card (blocks img) img n a) mid
    before = acts (plain (resize_answer img n a)) (resize_card (blocks img) img n a) img mid c.opened c.opening c.said c.image z

    first : Made img mid (file (resizing n a)) r
    first = filed (resize s s' n a r c)

    now : Whole mid
    now = made_whole before.card bytes tt first

    mid_bytes : Bytes mid
    mid_bytes = made_bytes before.card bytes tt first

    there : Reached mid n
    there = made_stays before.card bytes tt first n before.first (λ _. sum_on_nil (δ n))

    x : ResizeEffect img mid n a
    x = resize_done bytes z c

    y : ResizeEffect mid out n b
    y = resize_done mid_bytes z' c'
