-- `call_looks::metadata` meets its contract. An inode of an open card has one of the three kinds, and a decoded head is that of its record. Assumes
-- nothing.
use mathlib.Core.Path.{refl, sym, ◌∙◌}
use Rattle.dir_answers.proofs.Heads.{head_is}
use Rattle.call_said.proofs.Opened.{ready, record_in, reached_kind, on_open}
use Rattle.call_looks.proofs.metadata.Goals as goal

pub decode-requires : goal.decode-requires
decode-requires c =
    let r = ready _ c.open_card.ensures c.in_ok-open_card.was in
    record_in r.card r.first

pub returns-in_default : goal.returns-in_default
returns-in_default c =
    let r = ready _ c.open_card.ensures c.in_ok-open_card.was in
    absurd (reached_kind r.card r.first (sym c.decode.ensures ∙ c.in_default.is))

pub returns : goal.returns
returns c =
    let o = c.open_card in
    let e = c.in_ok-open_card.was in
    let i = head_is _ _ _ (sym c.decode.ensures ∙ c.in-Some.is) in
    record {
      opened = o.result;
      opening = o.ensures;
      said = on_open _ _ _ e refl;
      kind_is = on_open _ _ _ e i.kind_is;
      size_is = on_open _ _ _ e i.size_is;
      blocks_is = on_open _ _ _ e i.blocks_is;
      links_is = on_open _ _ _ e i.links_is;
    }
