use Rattle.std.proofs.Common.{ap, sym, ◌∙◌}
use Rattle.br_model.specs.Table.Table.{Table}
use Rattle.br_model.specs.Forward.Admission.{admit}
use Rattle.br_model.specs.Forward.Targets.{to_tree}
use Rattle.forward_rules.specs.declared.soft_tables.Verdict.{Verdict}
use Rattle.forward_rules.proofs.Deciding.{tree-out, none-out, none-class}
use Rattle.forward_rules.proofs.soft_tables.SoftTables.decide.Goals as goal

pub returns-then-is_for_tree-clause-ports : goal.returns-then-is_for_tree-clause-ports
returns-then-is_for_tree-clause-ports c =
    ap (λ (v : Verdict). v.ports) c.nowhere.ensures
    ∙ tree-out c.args.self.now c.args.p c.args.h.now c.args.m.now (sym (ap (λ (t : Table). to_tree t c.args.p c.args.h.now) c.self.view_is) ∙ sym c.is_for_tree.ensures ∙ c.if-is_for_tree.true)

pub returns-in-None-clause-class : goal.returns-in-None-clause-class
returns-in-None-clause-class c =
    ap (λ (v : Verdict). v.class) c.nowhere-in-None.ensures
    ∙ none-class c.args.d.now c.args.self.now c.args.p c.args.h.now c.args.m.now
    (sym (ap (λ (t : Table). to_tree t c.args.p c.args.h.now) c.self.view_is) ∙ sym c.is_for_tree.ensures ∙ c.if-is_for_tree.false)
    (sym (ap (λ (t : Table). admit t c.args.p c.args.h.now) c.self.view_is) ∙ sym c.admit-vid.ensures ∙ c.in-None.is)

pub returns-in-None-clause-ports : goal.returns-in-None-clause-ports
returns-in-None-clause-ports c =
    ap (λ (v : Verdict). v.ports) c.nowhere-in-None.ensures
    ∙ none-out c.args.self.now c.args.p c.args.h.now c.args.m.now
    (sym (ap (λ (t : Table). to_tree t c.args.p c.args.h.now) c.self.view_is) ∙ sym c.is_for_tree.ensures ∙ c.if-is_for_tree.false)
    (sym (ap (λ (t : Table). admit t c.args.p c.args.h.now) c.self.view_is) ∙ sym c.admit-vid.ensures ∙ c.in-None.is)
