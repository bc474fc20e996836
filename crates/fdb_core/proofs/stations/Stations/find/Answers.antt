use Rattle.std.proofs.Common.{ap, sym, ◌∙◌}
use Rattle.std.specs.Ordering.{nat_cmp}
use Rattle.std.specs.FinMap.Entries.{find}
use Rattle.br_model.specs.Data.Maps.{pair_cmp, get}
use Rattle.fdb_core.specs.Stations.{Whereabouts}
use Rattle.open_addressing.proofs.Pairs.{get-by_pair}
use Rattle.fdb_core.proofs.stations.Stations.find.Goals as goal

pub returns : goal.returns
returns c =
    let es = c.self.inside.places.entries in
    c.get.ensures ∙ ap (λ q. find nat_cmp q es) c.pack.ensures.value ∙ sym (get-by_pair (c.args.vid, c.args.mac) c.pack.ensures.below es)
    ∙ ap (λ (s : Whereabouts). get pair_cmp s.entries (c.args.vid, c.args.mac)) c.self.view_is
