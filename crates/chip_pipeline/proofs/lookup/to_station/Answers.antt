use Rattle.std.proofs.Common.{sym, ◌∙◌}
use Rattle.chip_pipeline.proofs.Leading.{known-way, unknown-way}
use Rattle.chip_pipeline.proofs.lookup.to_station.Goals as goal

pub returns-in-Some : goal.returns-in-Some
returns-in-Some c d dom t port m at =
    known-way d dom t port c.args.vid c.port_of.result c.args.head.now m c.in-Some.entry c.requires.station (sym c.in-Some.is
    ∙ c.address_row.ensures d dom t at.stands) c.port_of.ensures.value c.port_of.ensures.below

pub returns-in-None : goal.returns-in-None
returns-in-None c d dom t port m at =
    unknown-way d dom c.args.tables.now t port c.args.vid c.args.head.now m c.flood.result at.stands c.requires.range c.requires.station (sym c.in-None.is
    ∙ c.address_row.ensures d dom t at.stands) c.flood.ensures
