use Rattle.std.proofs.Common.{◌≡◌, ◌∙◌, ℕ, Option, None, true, false, get_or, sym, ap, arith}
use Rattle.std.specs.Option.{option_map_or}
use Rattle.br_model.specs.declared.tree.TreePort.{TreePort}
use Rattle.port_sets.specs.Numbers.{has_number}
use Rattle.stp_core.proofs.PlaceLaws.{passes_at, found-none, found-other, found-more, found-all}
use Rattle.stp_core.proofs.places.ports_where.Goals as goal
use Rattle.stp_core.proofs.places.ports_where.Goals.{in-Some+then-passes, in-Some+else-passes, in_default}

pub loop-p-init : goal.loop-p-init
loop-p-init g c = found-none (g.T.Test.holds c.args.test.now) c.args.places.now c.empty-ports.result c.empty-ports.ensures

pub loop-p-preserved : goal.loop-p-preserved
loop-p-preserved g c =
    let t = g.T.Test.holds c.args.test.now in
    let ps = c.args.places.now in
    let p = c.loop-p.p in
    let here = ap (λ (n : ℕ). get_or ps n None) (sym c.from.ensures) in
    elim c.match-places-from.branch [
      | in-Some+then-passes w ↦
          let passes : passes_at t ps p ≡ true = ap (λ (o : Option TreePort). option_map_or (λ x. t (p, x)) o false) (here ∙ w.in-Some.is) ∙ sym w.passes.ensures ∙ w.if-passes.true in
          found-more t ps c.loop-p.ports c.match-places-from.ports p c.loop-p.invariant passes (w.ports-is ∙ w.with-ports.ensures)
      | in-Some+else-passes w ↦
          let fails : passes_at t ps p ≡ false = ap (λ (o : Option TreePort). option_map_or (λ x. t (p, x)) o false) (here ∙ w.in-Some.is) ∙ sym w.passes.ensures ∙ w.if-passes.false in
          λ k below. ap (λ l. has_number l k) w.ports-is ∙ found-other t ps c.loop-p.ports p c.loop-p.invariant fails k below
      | in_default w ↦
          let fails : passes_at t ps p ≡ false = ap (λ (o : Option TreePort). option_map_or (λ x. t (p, x)) o false) (here ∙ w.in_default.is) in
          λ k below. ap (λ l. has_number l k) w.ports-is ∙ found-other t ps c.loop-p.ports p c.loop-p.invariant fails k below
    ]

pub returns : goal.returns
returns g c =
    found-all (g.T.Test.holds c.args.test.now) c.args.places.now c.loop-p.ports c.args.used c.loop-p.p (omega (arith, c.loop-p-test.false)) c.told-places c.requires
    c.members_ascend.ensures.ordered c.loop-p.invariant
