use Rattle.std.proofs.Common.{◌≡◌, ◌&&◌}
use Rattle.port_sets.specs.Numbers.{has_number, numbers_below}
use Rattle.br_model.specs.Table.Domains.{port_places}
use Rattle.chip_tables.specs.Rows.{port_at}
use Rattle.chip_pipeline.specs.PortRows.{row_lets}
use Rattle.chip_pipeline.proofs.egress.reached.Given as goal

abbrev pub invariant-loop-number : goal.invariant-loop-number
invariant-loop-number l = l.ports ≡ numbers_below port_places (λ m. has_number l.yielded m && row_lets l.alone (port_at l.tables m))
