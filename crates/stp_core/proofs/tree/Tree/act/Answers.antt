use Rattle.std.proofs.Common.{◌≤◌, ◌∙◌, subst, sym}
use Rattle.std.specs.List.{All}
use Rattle.br_model.specs.Table.Domains.{last_port}
use Rattle.br_model.specs.Tree.Step.{tree_step}
use Rattle.br_model.specs.Tree.Tree.{Tree, numbers}
use Rattle.stp_core.specs.declared.tree.TreeOut.{TreeOut}
use Rattle.stp_core.proofs.Reading.{moved-ports, sent-ports}
use Rattle.stp_core.proofs.tree.Tree.act.Goals as goal

pub returns-clause-moved : goal.returns-clause-moved
returns-clause-moved c =
    let after = (tree_step c.args.self.now c.args.now c.args.event.now).tree in
    let ports : All (λ n. n ≤ last_port) (numbers after.ports) =
    subst (λ (t : Tree). All (λ n. n ≤ last_port) (numbers t.ports)) (c.self.view_is ∙ c.take_event-out.ensures.tree) c.numbers_are_of_ports.ensures in
    subst (λ (out : TreeOut). All (λ n. n ≤ last_port) out.moved) (sym c.take_event-out.ensures.out) (moved-ports (λ n. n ≤ last_port) c.args.self.now after ports)

pub returns-clause-config : goal.returns-clause-config
returns-clause-config c =
    let step = tree_step c.args.self.now c.args.now c.args.event.now in
    let ports : All (λ n. n ≤ last_port) (numbers step.tree.ports) =
    subst (λ (t : Tree). All (λ n. n ≤ last_port) (numbers t.ports)) (c.self.view_is ∙ c.take_event-out.ensures.tree) c.numbers_are_of_ports.ensures in
    subst (λ (out : TreeOut). All (λ n. n ≤ last_port) out.config) (sym c.take_event-out.ensures.out)
    (sent-ports (λ n. n ≤ last_port) step.tree step.config ports (c.messages_went_out.ensures c.args.self.now c.args.now c.args.event.now))
