-- `check_names::directory::window` meets its contract. The invariant: the entries from lo to j, at most m, stand in the chains, the window holds up to
-- entry j, and b is block c. Assumes nothing.
use native.Mathlib.Omega.{arith}
use mathlib.Core.Path.{◌≡◌, refl, ap, sym, ◌∙◌, subst}
use Prim.Native.Nat.{ℕ, ◌+◌, ◌-◌, min}
use Rattle.card_rules.specs.View.{name}
use Rattle.check_names.specs.InnerNames.{hash, Chains}
use Rattle.check_names.proofs.Entries.{nowhere_block}
use Rattle.check_names.proofs.Scanning.{name_fits}
use Rattle.check_names.proofs.Chaining.{chains_none, chains_put, window_none, window_more}
use Rattle.check_names.proofs.directory.window.Goals as goal
use Rattle.check_names.proofs.directory.window.Goals.{then-k-m, else-k-m}

pub loop-j-init : goal.loop-j-init
loop-j-init c =
    let a = c.args in
    let z : 0 ≡ min (a.lo - a.lo) a.m = omega arith in
    let none = chains_none a.image.now a.n.0 a.w.now _ a.h a.lo (omega arith) c.zero.ensures in (
      refl,
      subst (λ (x : ℕ). Chains a.image.now a.n.0 c.zero.new.w a.h a.lo x) z none,
      window_none a.image.now a.n.0 a.lo a.m,
      nowhere_block _ _ _ _ c.nowhere-p.ensures.0 c.nowhere-p.ensures.1,
    )

pub alone-requires : goal.alone-requires
alone-requires c =
    let a = c.args in
    let p = c.requires in
    let l = c.loop-j in
    let s = c.in-Some.ensures in (
      p.0,
      omega (arith, l.invariant.0),
      omega arith,
      subst (λ (x : ℕ). Chains a.image.now a.n.0 l.w a.h a.lo x) (sym c.min-k.ensures) l.invariant.1,
      omega arith,
      omega arith,
      p.7,
      s.1,
      name_fits a.image.now a.n.0 l.j (omega (arith, s.0)) (omega (arith, s.0, s.2)),
    )

pub loop-j-preserved : goal.loop-j-preserved
loop-j-preserved c =
    let l = c.loop-j in
    let a = c.args in
    let p = c.requires in
    let img = a.image.now in
    let n = a.n.0 in
    let s = c.in-Some.ensures in
    let k : ℕ = c.min-k.result in
    let fits = name_fits img n l.j (omega (arith, s.0)) (omega (arith, s.0, s.2)) in
    let more = window_more img n a.lo a.m k l.j (omega arith) c.min-k.ensures l.invariant.2 fits c.if-not-alone.ensures in
    let was = subst (λ (x : ℕ). Chains img n l.w a.h a.lo x) (sym c.min-k.ensures) l.invariant.1 in
    let chains : Chains img n c.if-k-m.w a.h a.lo (min (l.j + 1 - a.lo) a.m) =
    elim c.if-k-m.branch [
      | then-k-m w ↦ (let t : a.lo + k ≡ l.j = omega (arith, w.if-k-m.true) in
          let v : c.in-Some.s.hash ≡ hash (name img n (a.lo + k)) = s.1 ∙ ap (λ (x : ℕ). hash (name img n x)) (sym t) in
          let e : min (l.j + 1 - a.lo) a.m ≡ k + 1 = omega (arith, w.if-k-m.true) in
          rw (e, w.w-is) (chains_put img n l.w _ a.h a.lo k _ was p.0 (omega (arith, w.if-k-m.true))
          (omega (arith, w.if-k-m.true, l.invariant.0, c.zero.auto.w)) v w.put.ensures))
      | else-k-m w ↦ (let e : min (l.j + 1 - a.lo) a.m ≡ k = omega (arith, w.if-k-m.false) in rw (e, w.w-is) was)
    ] in
    (omega (arith, l.invariant.0, c.if-k-m.auto.w), chains, more, c.entry_after-p.ensures.0)
