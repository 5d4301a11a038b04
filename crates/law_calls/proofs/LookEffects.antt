-- Find, the entry at an index, metadata and format where they answer 0 have their effects (specs/LookEffects). Assumes nothing.
use mathlib.Core.Path.{◌≡◌, sym, ap, ◌∙◌, subst}
use mathlib.Core.Logic.{⊎_elim}
use mathlib.Core.List.{List}
use Prim.Native.Nat.{ℕ, ◌+◌, ◌/◌, ◌≤◌}
use native.Mathlib.Omega.{arith}
use lib.ListN.{length}
use Rattle.std.proofs.lemmas.Grind.{common_steps}
use Rattle.card_layout.specs.Sizes.{blocks_for, maps_for, first_after_map}
use Rattle.card_rules.specs.Whole.{Whole}
use Rattle.card_rules.proofs.Views.{data_direct}
use Rattle.card_rules.proofs.Bare.{bare_reached}
use Rattle.dir_look.specs.Look.{entry_bytes}
use Rattle.dir_format.specs.Format.{format_answer, formatted}
use Rattle.call_said.specs.Said.{said_value, Said}
use Rattle.call_looks.specs.LookCalls.{Found, Listed, Described}
use Rattle.call_dirs.specs.DirCalls.{Formatted}
use Rattle.law_dirs.proofs.LookTests.{find_tests_lem, entry_tests_lem}
use Rattle.law_dirs.proofs.FreshCard.{format_fits, format_card_lem, format_whole, fresh_views, fresh_length, fresh_rest}
use Rattle.law_calls.specs.LookEffects.{FindEffect, EntryEffect, MetadataEffect, FormatEffect}
use Rattle.refusals.specs.Refusals.{answer_no}
use Rattle.refusals.proofs.Refused.{giving_no}

module _ {img s s' : List ℕ} {p : ℕ} {r : Said} (z : answer_no r ≡ 0) where
  pub found_effect : {x : List ℕ} → Found img s s' p x r → FindEffect img p x (said_value r)
  found_effect {x} c = grind (arith, common_steps, find_tests_lem)

  pub listed_effect : {k : ℕ} {e : List ℕ} → Listed img s s' p k r e → EntryEffect img p k e
  unfolding entry_bytes
  listed_effect {k} {e} c = grind (arith, common_steps, entry_tests_lem)

  pub described_effect : {k v b l : ℕ} → Described img s s' p r k v b l → MetadataEffect img p k v b l
  described_effect {k} {v} {b} {l} c = grind (arith, common_steps)

-- ---- format

-- on a card of at most 32,768 blocks the map is one block
after_map : (nb : ℕ) → 16 ≤ nb → nb ≤ 32768 → first_after_map nb ≡ 3
unfolding first_after_map maps_for
after_map nb few many = let e : (nb + 32767) / 32768 ≡ 1 = omega arith in rw e

pub formatted_effect : {img img' : List ℕ} {space : ℕ} {r : Said} → Formatted img img' space r → answer_no r ≡ 0 → FormatEffect img img' space
formatted_effect {img} {img'} {space} c z =
    let d : answer_no (format_answer (length img) space) ≡ 0 = sym (giving_no (format_answer (length img) space) 0) ∙ ap answer_no (sym c.said) ∙ z in
    let f = format_fits (length img) space d in
    let v = fresh_views img (blocks_for space) f.few f.many f.long in
    let e = after_map (blocks_for space) f.few f.many in
    subst (λ (x : List ℕ). FormatEffect img x space) (sym (c.image ∙ format_card_lem img space f))
    (record {
      length_same = fresh_length img (blocks_for space) f.few f.many f.long;
      whole = subst Whole (format_card_lem img space f) (format_whole img space d);
      blocks_is = v.blocks_are;
      unused_is = omega (arith, v.unused_are, e, f.few);
      root_block = data_direct (formatted (blocks_for space) img) 1 0 (omega arith) ∙ v.bare.slot ∙ sym e;
      root_size = v.bare.bytes;
      text = v.text;
      record_is = v.record_is;
      self = v.self;
      up = v.up;
      alone = bare_reached (formatted (blocks_for space) img) v.bare;
      rest = λ k o.
          fresh_rest img (blocks_for space) f.few f.many f.long k o.super
          (λ i j. ⊎_elim (λ q. omega arith) (λ q. omega arith) o.root)
          (λ i j. ⊎_elim (λ q. omega arith) (λ q. omega (arith, e)) o.map)
          (λ i j. ⊎_elim (λ q. omega (arith, e)) (λ q. omega (arith, e)) o.entries);
    })
