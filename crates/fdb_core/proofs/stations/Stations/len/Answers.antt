use Rattle.std.proofs.Common.{length, sym, ap, ◌∙◌}
use Rattle.fdb_core.specs.Stations.{Whereabouts}
use Rattle.open_addressing.proofs.Pairs.{length-by_pair}
use Rattle.fdb_core.proofs.stations.Stations.len.Goals as goal

pub returns : goal.returns
returns c = c.len.ensures.value ∙ sym (length-by_pair c.self.inside.places.entries) ∙ ap (λ (s : Whereabouts). length s.entries) c.self.view_is
