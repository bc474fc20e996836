use Rattle.std.proofs.Common.{ap, ◌∙◌}
use Rattle.br_model.specs.Table.Table.{Table, apply, with_addresses}
use Rattle.br_model.specs.Table.Limits.{fits}
use Rattle.br_model.specs.declared.change.Change.TheVariants.{AddrPut}
use Rattle.fdb_core.specs.Stations.{Whereabouts}
use Rattle.forward_rules.proofs.Deciding.{room-left}
use Rattle.forward_rules.proofs.soft_tables.SoftTables.put_address.Goals as goal

pub put-requires : goal.put-requires
put-requires c =
    room-left c.self.inside.fdb.entries (c.args.vid, c.args.mac) c.self.inside.fdb.room c.self.invariant
    (ap (λ (t : Table). fits t (AddrPut c.args.vid c.args.mac c.args.port c.args.kind)) c.self.view_is ∙ c.requires)

pub returns : goal.returns
returns c =
    ap (with_addresses c.self.inside.ports) (ap (λ (s : Whereabouts). s.entries) c.put.ensures)
    ∙ ap (λ (t : Table). apply t (AddrPut c.args.vid c.args.mac c.args.port c.args.kind)) c.self.view_is
