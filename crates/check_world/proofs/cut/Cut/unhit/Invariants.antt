use Rattle.std.proofs.Common.{◌≡◌, ◌++◌, ◌&&◌, not, map}
use Rattle.std.specs.List.{filter}
use Rattle.br_model.specs.Control.Learning.{is_extern}
use Rattle.br_model.specs.Data.Maps.{has, pair_cmp}
use Rattle.br_model.specs.Plane.Chip.{unhit}
use Rattle.br_model.specs.Table.DomainPorts.{is_in_domain}
use Rattle.check_world.proofs.cut.Cut.unhit.Given as goal

abbrev pub invariant-loop-vid : goal.invariant-loop-vid
invariant-loop-vid l =
    l.stations.items
    ++ map (λ e. (e.0.0, e.0.1, e.1.0)) (filter (λ e. is_extern e.1.1 && (is_in_domain l.domains l.self.chip.dom e.1.0 && not (has pair_cmp l.self.chip.hits e.0))) l.vid-iterator)
    ≡ unhit l.domains l.self.table l.self.chip
