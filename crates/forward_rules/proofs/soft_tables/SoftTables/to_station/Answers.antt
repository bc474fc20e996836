use Rattle.std.proofs.Common.{◌≡◌, ◌&&◌, ◌||◌, ap, sym, ◌∙◌}
use Rattle.br_model.specs.Forward.Class.{is_snooped}
use Rattle.br_model.specs.Forward.Eligible.{may, untagged}
use Rattle.br_model.specs.Table.Table.{Table}
use Rattle.forward_rules.proofs.OnePort.{class-one, one-out, one-untagged}
use Rattle.forward_rules.proofs.soft_tables.SoftTables.to_station.Goals as goal
use Rattle.forward_rules.proofs.soft_tables.SoftTables.to_station.Goals.{then-takes, else-takes}

pub returns-clause-ports : goal.returns-clause-ports
returns-clause-ports c =
    one-out c.args.self.now c.args.p c.args.vid c.args.h.now c.args.m.now c.args.goal c.may_take-takes.result c.empty.result c.placed.result c.requires.other c.requires.admitted c.requires.known
    c.empty.ensures (c.may_take-takes.ensures ∙ ap (λ (t : Table). may t c.args.p c.args.goal c.args.vid) c.self.view_is) c.placed.ensures

pub returns-clause-untagged : goal.returns-clause-untagged
returns-clause-untagged c =
    let t : Table = c.args.self.now in
    let plain : c.if-takes.untagged ≡ (c.may_take-takes.result && untagged t c.args.goal c.args.vid) =
    elim c.if-takes.branch [
      | then-takes w ↦
          w.untagged-is
          ∙ w.is_untagged-untagged.ensures
          ∙ ap (λ (x : Table). untagged x c.args.goal c.args.vid) c.self.view_is
          ∙ ap (λ b. b && untagged t c.args.goal c.args.vid) (sym w.if-takes.true)
      | else-takes w ↦ w.untagged-is ∙ w.if-takes.false ∙ ap (λ b. b && untagged t c.args.goal c.args.vid) (sym w.if-takes.false)
    ] in
    one-untagged t c.args.p c.args.vid c.args.goal c.may_take-takes.result c.if-takes.untagged c.empty.result c.empty-2.result c.placed.result c.placed-2.result c.empty.ensures c.empty-2.ensures
    (c.may_take-takes.ensures ∙ ap (λ (x : Table). may x c.args.p c.args.goal c.args.vid) c.self.view_is) c.placed.ensures plain c.placed-2.ensures

pub returns-clause-class : goal.returns-clause-class
returns-clause-class c =
    let t : Table = c.args.self.now in
    class-one c.args.d.now t c.args.p c.args.vid c.args.h.now c.args.m.now c.args.goal c.may_take-takes.result c.snoops_or_crosses-is_trapped.result c.empty.result c.placed.result
    c.class_to_one.result c.number-number.ensures.below c.requires.other c.requires.admitted c.requires.known c.empty.ensures
    (c.may_take-takes.ensures ∙ ap (λ (x : Table). may x c.args.p c.args.goal c.args.vid) c.self.view_is) c.placed.ensures
    (c.snoops_or_crosses-is_trapped.ensures ∙ ap (λ b. (t.snoop && is_snooped c.args.m.now) || (b && c.may_take-takes.result)) c.is_foreign.ensures) c.class_to_one.ensures
