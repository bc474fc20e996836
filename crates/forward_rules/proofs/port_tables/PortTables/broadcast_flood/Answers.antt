use Rattle.std.proofs.Common.{◌∷◌, ap, ◌∙◌}
use Rattle.br_model.specs.Table.Table.{Table}
use Rattle.br_model.specs.Forward.Targets.{with_flag, bcast_flood}
use Rattle.forward_rules.specs.PortSets.{set_of}
use Rattle.forward_rules.proofs.SetLaws.{set_of-flagged, set_of-with}
use Rattle.forward_rules.proofs.port_tables.PortTables.broadcast_flood.Goals as goal

pub returns : goal.returns
returns c =
    set_of-with c.number.result (with_flag c.args.self.now bcast_flood) c.and.result c.with.result
    (set_of-flagged c.self.inside.up c.self.inside.flags bcast_flood c.bcast_flood.result c.and.result c.bcast_flood.ensures c.and.ensures
    ∙ ap (λ (t : Table). set_of (with_flag t bcast_flood)) c.self.view_is)
    c.with.ensures
    ∙ ap (λ n. set_of (n ∷ with_flag c.args.self.now bcast_flood)) c.number.ensures.value
