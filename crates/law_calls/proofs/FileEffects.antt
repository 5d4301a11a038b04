-- Read, write and resize over the public calls: where they answer 0 they have their effects (law_files/specs/Effects). Assumes nothing.
use mathlib.Core.Path.{◌≡◌, sym, ap, ◌∙◌}
use mathlib.Core.Logic.{◌≢◌}
use mathlib.Core.List.{List}
use Prim.Native.Nat.{ℕ, ◌+◌, ◌-◌, ◌≤◌, ◌<◌, min}
use native.Mathlib.Omega.{arith}
use lib.ListN.{length}
use Rattle.words.specs.Words.{byte, Bytes}
use Rattle.card_layout.specs.Super.{blocks}
use Rattle.card_layout.specs.Inode.{size, kind}
use Rattle.card_layout.specs.declared.inode.FileType.TheVariants.{Dir}
use Rattle.card_rules.specs.View.{file_byte}
use Rattle.card_rules.specs.Whole.{Reached, Whole}
use Rattle.file_requests.specs.Requests.{write_answer, write_card, read_answer, read_buffer, resize_answer, resize_card}
use Rattle.call_said.specs.Said.{said_value, plain, Said}
use Rattle.call_files.specs.FileCalls.{Read, Written, Resized}
use Rattle.law_files.specs.Effects.{ReadEffect, ResizeEffect, WriteEffect}
use Rattle.law_files.proofs.Requests.{of_kind, read_dir, write_dir}
use Rattle.law_files.proofs.Files.{read_answer_lem, write_count}
use Rattle.law_files.proofs.Effects.{read_effect, resize_effect, write_effect}
use Rattle.law_calls.proofs.Acts.{acts}
use Rattle.refusals.specs.Refusals.{answer_no}
use Rattle.refusals.proofs.Refused.{giving_no}

module _ {img s s' : List ℕ} (b : Bytes img) {n : ℕ} {r : Said} (z : answer_no r ≡ 0) where
  pub read_done : {buf buf' : List ℕ} {off : ℕ} → Read img s s' buf buf' n off r → ReadEffect img n off buf buf' (said_value r)
  read_done {buf} {buf'} {off} c =
      let a = acts (read_answer img n off (length buf)) (read_buffer (blocks img) img n off buf) buf buf' c.opened c.opening c.said c.buffer z in
      let d : kind img n ≢ 2 = λ e. omega (arith, sym a.done ∙ ap answer_no (read_dir (of_kind img n Dir e) off (length buf))) in
      let v : said_value r ≡ min (size img n) (off + length buf) - min (size img n) off =
      ap said_value (a.said_is ∙ read_answer_lem a.card b n a.first d off buf) in
      rw (a.left_is, v) (read_effect a.card b n a.first d off buf)

  pub resize_done : {img' : List ℕ} {len : ℕ} → Resized img img' s s' n len r → ResizeEffect img img' n len
  resize_done {img'} {len} c =
      let a = acts (plain (resize_answer img n len)) (resize_card (blocks img) img n len) img img' c.opened c.opening c.said c.image z in
      rw a.left_is (resize_effect a.card b n a.first len (sym (giving_no (resize_answer img n len) 0) ∙ a.done))

  pub write_done : {img' src : List ℕ} {off : ℕ} → Bytes src → Written img img' s s' src n off r → WriteEffect img img' n off src (said_value r)
  write_done {img'} {src} {off} g c =
      let a = acts (write_answer img n off src) (write_card (blocks img) img n off src) img img' c.opened c.opening c.said c.image z in
      let v : said_value r ≡ length src = ap said_value (a.said_is ∙ write_count a.card b n a.first off src g a.done) in
      rw (a.left_is, v) (write_effect a.card b n a.first off src g a.done)

  -- it is a file of a whole card that was written
  pub write_of_lem : {img' src : List ℕ} {off : ℕ} → Written img img' s s' src n off r → Whole img × Reached img n × (kind img n ≢ 2)
  write_of_lem {img'} {src} {off} c =
      let a = acts (write_answer img n off src) (write_card (blocks img) img n off src) img img' c.opened c.opening c.said c.image z in (
        a.card,
        a.first,
        λ e. omega (arith, sym a.done ∙ ap answer_no (write_dir (of_kind img n Dir e) off src)),
      )

-- a byte below the length, where the buffer reaches it
pub read_gives : {img s s' buf buf' : List ℕ} {n off : ℕ} {r : Said} → Bytes img → answer_no r ≡ 0 → Read img s s' buf buf' n off r → (o : ℕ) → off ≤ o
    → o < off + length buf → o < size img n → byte buf' (o - off) ≡ file_byte img n o
read_gives {img} {n = n} {off = off} b z c o lo hi l =
    let x = read_done b z c in
    let e : off + (o - off) ≡ o = omega arith in
    x.bytes (o - off) (omega (arith, x.count_is)) ∙ ap (file_byte img n) e
