use Rattle.std.proofs.Common.{◌∙◌, sym}
use Rattle.br_model.specs.Table.Domains.{foreign}
use Rattle.forward_rules.proofs.ForeignPorts.{not-own}
use Rattle.forward_rules.proofs.SetLaws.{any-filter}
use Rattle.forward_rules.proofs.foreign.has_foreign.Goals as goal

pub returns-in-Some : goal.returns-in-Some
returns-in-Some c =
    let others = not-own c.args.domains.now c.args.port c.in-Some.own c.args.ports c.ports_of.result c.minus.result c.members_ascend.ensures.ordered (sym c.of.ensures.value
    ∙ c.in-Some.is) c.ports_of.ensures c.minus.ensures in
    any-filter (foreign c.args.domains.now c.args.port) c.args.ports c.is_empty.result
    (λ is. sym others ∙ c.is_empty.ensures.0 is)
    (λ none. c.is_empty.ensures.1 (others ∙ none))
