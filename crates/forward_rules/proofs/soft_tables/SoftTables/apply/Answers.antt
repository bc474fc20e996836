use Rattle.std.proofs.Common.{ap, sym, ◌∙◌}
use Rattle.br_model.specs.Table.Table.{Table, apply, with_addresses}
use Rattle.br_model.specs.declared.change.Change.TheVariants.{AddrDel}
use Rattle.fdb_core.specs.Stations.{Whereabouts}
use Rattle.forward_rules.proofs.soft_tables.SoftTables.apply.Goals as goal

pub returns-in-AddrDel : goal.returns-in-AddrDel
returns-in-AddrDel c =
    ap (with_addresses c.self.inside.ports) (ap (λ (s : Whereabouts). s.entries) c.take.ensures)
    ∙ ap (λ (t : Table). apply t (AddrDel c.in-AddrDel.vid c.in-AddrDel.mac)) c.self.view_is
    ∙ ap (apply c.args.self.now) (sym c.in-AddrDel.is)
