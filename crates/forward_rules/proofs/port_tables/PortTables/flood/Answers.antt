use Rattle.std.proofs.Common.{ap, ◌∙◌}
use Rattle.br_model.specs.Table.Table.{Table}
use Rattle.br_model.specs.Forward.Targets.{with_flag, flood}
use Rattle.forward_rules.specs.PortSets.{set_of}
use Rattle.forward_rules.proofs.SetLaws.{set_of-flagged}
use Rattle.forward_rules.proofs.port_tables.PortTables.flood.Goals as goal

pub returns : goal.returns
returns c =
    set_of-flagged c.self.inside.up c.self.inside.flags flood c.flood.result c.and.result c.flood.ensures c.and.ensures
    ∙ ap (λ (t : Table). set_of (with_flag t flood)) c.self.view_is
