-- `dir_entries::finding::find_entry` meets its contract. The invariant: b is block c, and the entries before k have other names. Assumes nothing.
use native.Mathlib.Omega.{arith}
use mathlib.Core.Path.{sym, ◌∙◌}
use Rattle.check_names.proofs.Entries.{nowhere_block}
use Rattle.dir_entries.proofs.Comparing.{eqs_same, eqs_apart}
use Rattle.dir_entries.proofs.Lookup.{unmet_none, unmet_more, there_at, there_none}
use Rattle.dir_entries.proofs.finding.find_entry.Goals as goal

pub loop-k-init : goal.loop-k-init
loop-k-init c =
    let a = c.args in
    let p = c.nowhere-p.ensures in
    (nowhere_block a.image.now a.n.0 _ _ p.0 p.1, unmet_none a.image.now a.n.0 a.x.now)

pub returns-then-named : goal.returns-then-named
returns-then-named c =
    let a = c.args in
    let l = c.loop-k in
    let hit = eqs_same _ a.x.now (sym c.named.ensures ∙ c.if-named.true) in
    sym (there_at a.image.now a.n.0 a.x.now l.k (omega arith) hit l.invariant.1.none)

pub loop-k-preserved : goal.loop-k-preserved
loop-k-preserved c =
    let a = c.args in
    let l = c.loop-k in
    let miss = eqs_apart _ a.x.now (sym c.named.ensures ∙ c.if-named.false) in
    (c.get_near-b.ensures, unmet_more a.image.now a.n.0 a.x.now l.k l.invariant.1 miss)

pub returns : goal.returns
returns c =
    let a = c.args in
    let l = c.loop-k in
    sym (there_none a.image.now a.n.0 a.x.now (λ k q. l.invariant.1.none k (omega arith)))
