use Rattle.std.proofs.Common.{ap, sym, ◌∙◌}
use Rattle.forward_rules.specs.PortSets.{set_of}
use Rattle.forward_rules.proofs.Deciding.{nobody-targets}
use Rattle.forward_rules.proofs.SetLaws.{set_of-none}
use Rattle.forward_rules.proofs.port_tables.PortTables.group_targets.Goals as goal

pub returns-then-is_for_nobody : goal.returns-then-is_for_nobody
returns-then-is_for_nobody c =
    c.empty.ensures
    ∙ set_of-none
    ∙ ap set_of (sym (nobody-targets c.args.self.now c.args.vid c.args.head.now c.args.msg.now (sym c.is_for_nobody.ensures ∙ c.if-is_for_nobody.true)))
