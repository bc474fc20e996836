use Rattle.std.proofs.Common.{◌≡◌, ℕ, filter_map, take}
use Rattle.br_model.specs.Table.Domains.{Domains}
use Rattle.br_model.specs.Table.Table.{Table}
use Rattle.chip_tables.specs.Rows.{extern_at}
use Rattle.chip_tables.specs.Stands.{PortsStand}
use Rattle.hwdom_chips.specs.Sweep.{unseen}
use Rattle.hwdom_chips.proofs.sweep.unhit.Given as goal

abbrev pub invariant-loop-i : goal.invariant-loop-i
invariant-loop-i l =
    (domains : Domains) (dom : ℕ) (t : Table) → PortsStand domains dom l.tables t
    → l.stations.items ≡ filter_map (λ place. unseen domains dom l.reports.hits (extern_at l.tables place)) (take l.i l.tables.places)
